use Rattle.std.proofs.Common.{◌≡◌, ◌∙◌, ap, List, ℕ, [], length, sum, arith, subst}
use Rattle.explore.specs.Sampling.{Sampled, draws, drawn}
use Rattle.explore.proofs.Drawn.{all_drawn, length-draws}
use Rattle.explore.proofs.tally.sample.laws.draws_have_all_turns.Goals as goal

pub returns-clause-turns : goal.returns-clause-turns
returns-clause-turns c = all_drawn

pub returns-clause-count : goal.returns-clause-count
returns-clause-count c = length-draws
