use Rattle.std.proofs.Common.{◌≡◌, length}
use Rattle.schema.specs.Plain.{put_all}
use Rattle.orders.specs.Undone.{AreOrdered, put_back}
use Rattle.orders.proofs.undo.put_changes.Given as goal

-- those left are still to be put in, and what takes the others back is kept
abbrev pub invariant-loop-left : goal.invariant-loop-left
invariant-loop-left g l =
    (put_all l.left l.tables ≡ put_all l.changes l.initial.tables)
    × (put_back l.back.items l.tables ≡ put_back l.initial.back.items l.initial.tables)
    × AreOrdered l.tables

abbrev pub decreases-loop-left : goal.decreases-loop-left
decreases-loop-left g l = length l.left
