use Rattle.std.proofs.Common.{◌≡◌, sum, take}
use Rattle.explore.specs.Numbers.{IsNumber}
use Rattle.explore.proofs.tally.interleave.steps.number_of.Given as goal

abbrev pub invariant-loop-own : goal.invariant-loop-own
invariant-loop-own l = (l.earlier ≡ sum (take l.own-index l.lines)) × IsNumber l.number (take l.own-index l.lines)
