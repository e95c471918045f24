use Rattle.std.proofs.Common.{refl}
use Rattle.explore.proofs.Shares.{one_of_none}
use Rattle.explore.proofs.tally.interleave.steps.number_of.Goals as goal

pub loop-own-init : goal.loop-own-init
loop-own-init c = (refl, one_of_none)
