use Rattle.std.proofs.Common.{◌≡◌, sum, take}
use Rattle.explore.proofs.tally.interleave.interleavings.sum_of.Given as goal

abbrev pub invariant-loop-own : goal.invariant-loop-own
invariant-loop-own l = l.all ≡ sum (take l.own-index l.lines)
