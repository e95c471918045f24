use Rattle.std.proofs.Common.{◌≡◌, length}
use Rattle.orders.specs.Undone.{put_back}
use Rattle.orders.proofs.undo.take_back.Given as goal

-- those that are left are still to be put in
abbrev pub invariant-loop-left : goal.invariant-loop-left
invariant-loop-left g l = put_back l.left l.tables ≡ put_back l.back l.initial.tables

abbrev pub decreases-loop-left : goal.decreases-loop-left
decreases-loop-left g l = length l.left
