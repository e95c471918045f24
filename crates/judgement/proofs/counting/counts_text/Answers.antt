use Rattle.value.proofs.Basics.{IfOk_then}
use Rattle.judgement.proofs.counting.counts_text.Goals as goal

pub returns : goal.returns
returns g c = IfOk_then c.line_of.result c.line_of.ensures (λ t e. (c.in_ok-counts.counts, c.in_ok-counts.ensures, e))
