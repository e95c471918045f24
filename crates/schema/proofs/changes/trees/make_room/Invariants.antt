use Rattle.std.proofs.Common.{◌≡◌, ◌≤◌, ◌<◌, ◌^◌, ◌+◌, ◌-◌, vec_len}
use Rattle.schema.specs.Changing.{changes_from}
use Rattle.schema.proofs.changes.trees.make_room.Given as goal

-- nothing more is said, and no room past the place is made
abbrev pub invariant-room : goal.invariant-room
invariant-room g l = (changes_from 0 l.tables.items ≡ changes_from 0 l.initial.tables.items) × (l.place < 2 ^ 32 → vec_len l.initial.tables ≤ 2 ^ 32 → vec_len l.tables ≤ 2 ^ 32)

abbrev pub decreases-room : goal.decreases-room
decreases-room g l = l.place + 1 - vec_len l.tables
