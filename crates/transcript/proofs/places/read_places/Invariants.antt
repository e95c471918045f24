use Rattle.std.proofs.Common.{◌≡◌, ◌+◌, ◌==◌, ◌≤◌, length}
use Rattle.std.specs.List.{slice_split}
use Rattle.transcript.specs.Places.{start, with_lines}
use Rattle.transcript.proofs.places.read_places.Given as goal

-- the lines that are left are read after those so far
abbrev pub invariant-loop-line : goal.invariant-loop-line
invariant-loop-line g l =
    (l.number + length l.rest ≤ 1 + length l.text) × (with_lines l.marks l.number (slice_split (λ b. b == 10) l.rest) ≡ with_lines start 1 (slice_split (λ b. b == 10) l.text))

abbrev pub decreases-loop-line : goal.decreases-loop-line
decreases-loop-line g l = length l.rest
