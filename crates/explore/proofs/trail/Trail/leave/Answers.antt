use Rattle.std.proofs.Common.{rules, of_calls}
use Rattle.std.specs.Prelude.{nat_le}
use Rattle.std.proofs.lemmas.Fn.{filter_same}
use Rattle.explore.proofs.trail.Trail.leave.Goals as goal

pub returns-clause-saved : goal.returns-clause-saved
returns-clause-saved g c = filter_same _ (λ s. nat_le s.turns c.args.turns) _ (λ x b f k. search (rules, of_calls)) _ _ c.retain.ensures.filtered
