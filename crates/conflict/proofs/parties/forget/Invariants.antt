use Rattle.std.proofs.Common.{◌≡◌, ◌+◌, length}
use Rattle.conflict.specs.Tracked.{is_needed}
use Rattle.conflict.specs.Undo.{AreSound}
use Rattle.conflict.proofs.Forgetting.{looked_at}
use Rattle.conflict.proofs.parties.forget.Given as goal

-- of those from the place on the needed ones are left
abbrev pub invariant-loop : goal.invariant-loop
invariant-loop g l =
    (l.parties.items ≡ looked_at (is_needed l.oldest l.initial.parties.items) l.place l.initial.parties.items)
    × AreSound l.parties.items
    × (l.place + l.counter ≡ l.count)
    × (l.count ≡ length l.initial.parties.items)
