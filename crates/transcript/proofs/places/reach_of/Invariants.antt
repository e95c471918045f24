use Rattle.std.proofs.Common.{◌≡◌, drop}
use Rattle.std.specs.List.{fold}
use Rattle.transcript.specs.Places.{after}
use Rattle.transcript.specs.declared.places.Reach.TheVariants.{Start}
use Rattle.transcript.proofs.places.reach_of.Given as goal

-- the bytes that are left are read after those so far
abbrev pub invariant-loop-byte : goal.invariant-loop-byte
invariant-loop-byte l = fold after l.reach (drop l.byte-index l.text) ≡ fold after Start l.text
