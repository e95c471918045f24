use Rattle.std.proofs.Common.{refl, ◌+◌, length}
use Rattle.explore.proofs.Joined.{stretches}
use Rattle.explore.proofs.tally.laws.stretches_join.Goals as goal

pub returns : goal.returns
returns c = λ n texts later. stretches n (n + length texts) texts later refl
