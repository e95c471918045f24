use Rattle.std.proofs.Common.{◌≡◌, ◌≤◌, ◌++◌, drop, map, slice_range}
use Rattle.explore.specs.Refusals.{lines, lines_from}
use Rattle.explore.proofs.tally.listing.refusals.lines_of.Given as goal

-- the lines so far, and those of what is left, of which the first has begun
abbrev pub invariant-loop-place : goal.invariant-loop-place
invariant-loop-place g l = (l.start ≤ l.place) × (map (λ x. x.now) l.found.items ++ lines_from (slice_range l.text l.start l.place) (drop l.place l.text) ≡ lines l.text)
