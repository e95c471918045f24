use Rattle.std.proofs.Common.{◌≡◌, ◌≤◌, ℕ, drop, length}
use Rattle.explore.specs.Explored as spec
use Rattle.explore.proofs.running.next_line.Given as goal

-- none of the session stood in between
abbrev pub invariant-loop-at : goal.invariant-loop-at
invariant-loop-at g l =
    (l.at ≤ length l.lines) × ((k : ℕ) → spec.own_line l.place k (drop l.at l.lines) ≡ spec.own_line l.place k (drop l.from l.lines))
