use Rattle.std.proofs.Common.{◌≡◌, take}
use Rattle.explore.specs.Listing.{runs_with}
use Rattle.explore.proofs.tally.listing.counting.Which.runs_in.Given as goal

-- the runs so far
abbrev pub invariant-loop-ranked : goal.invariant-loop-ranked
invariant-loop-ranked g l = l.runs ≡ runs_with l.self (take l.ranked-index l.all)
