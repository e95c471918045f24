use Rattle.std.proofs.Common.{◌≡◌, fold, take}
use Rattle.conflict.specs.Tracked.{lesser}
use Rattle.conflict.proofs.parties.oldest.Given as goal

-- the least of those so far
abbrev pub invariant-loop-party : goal.invariant-loop-party
invariant-loop-party g l = l.oldest ≡ fold lesser l.number (take l.party-index l.parties)
