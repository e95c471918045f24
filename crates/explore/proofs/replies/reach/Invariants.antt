use Rattle.std.proofs.Common.{◌≡◌, ◌≤◌, ◌+◌, ◌-◌, ℕ, [], get_or, length}
use Rattle.explore.specs.Explored.{sessions}
use Rattle.explore.proofs.replies.reach.Given as goal

-- so many texts, and what was there
abbrev pub invariant-loop-alloc : goal.invariant-loop-alloc
invariant-loop-alloc g l = (length l.texts.items ≤ sessions) × ((p : ℕ) → get_or l.texts.items p [] ≡ get_or l.fn.texts.items p [])

abbrev pub decreases-loop-alloc : goal.decreases-loop-alloc
decreases-loop-alloc g l = l.place + 1 - length l.texts.items
