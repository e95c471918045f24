use Rattle.std.proofs.Common.{◌≡◌, take}
use Rattle.transcript.specs.Reading.{kinds_named}
use Rattle.transcript.proofs.reader.kinds_named.Given as goal

-- the kinds so far
abbrev pub invariant-loop-place : goal.invariant-loop-place
invariant-loop-place g l = l.kinds.items ≡ kinds_named l.columns (take l.place-index l.named)
