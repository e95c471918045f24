use Rattle.std.proofs.Common.{inr, subst}
use Rattle.history.specs.Opening.{Recorded}
use Rattle.library.specs.Scripts.{EndsFrom}
use Rattle.library.proofs.output.lines_output.Goals as goal

pub returns-in-Some : goal.returns-in-Some
returns-in-Some g c = inr (inr (subst (λ (h : Recorded _). EndsFrom c.args.manner h c.args.lines.now c.core_output.result.end c.core_output.result.text.items) c.in-Some.ensures c.core_output.ensures))
