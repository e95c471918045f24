use Rattle.std.proofs.Common.{◌≡◌, drop}
use Rattle.mvrows.specs.Settling.{settled}
use Rattle.mvrows.specs.Fresh.{AreFresh}
use Rattle.mvrows.specs.HeldRows.{rows_held}
use Rattle.mvrows.proofs.rows.settle_all.Given as goal

-- with the rest settled it is all; and each key is still fresh
abbrev pub invariant-loop-change : goal.invariant-loop-change
invariant-loop-change g l = (settled (record { oldest = l.oldest; snapshots = l.snapshots }) (drop l.change-index l.changes) (rows_held l.tables.items) ≡ settled (record { oldest = l.oldest; snapshots = l.snapshots }) l.changes (rows_held l.initial.tables.items)) × AreFresh l.changes l.tables.items
