use Rattle.std.proofs.Common.{arith}
use Rattle.mvrows.specs.Settling.{settled}
use Rattle.mvrows.specs.HeldRows.{rows_held}
use Rattle.mvrows.proofs.SettledTablesLemmas.{fresh-item, settled-step}
use Rattle.mvrows.proofs.rows.settle_all.Goals as goal

pub settle_change-requires : goal.settle_change-requires
settle_change-requires g c = fresh-item c.args.changes.now c.loop-change.change-index c.change-item.result c.loop-change.tables.items (omega arith) c.change-item.is c.loop-change.invariant.1

pub loop-change-preserved : goal.loop-change-preserved
loop-change-preserved g c = (
  settled-step (record { oldest = c.args.oldest; snapshots = c.args.snapshots.now }) c.args.changes.now c.loop-change.change-index c.change-item.result c.loop-change.tables.items c.settle_change.new.tables.items (settled (record { oldest = c.args.oldest; snapshots = c.args.snapshots.now }) c.args.changes.now (rows_held c.args.tables.now.items)) (omega arith) c.change-item.is c.settle_change.ensures.rows c.loop-change.invariant.0,
  c.settle_change.ensures.fresh c.args.changes.now c.loop-change.invariant.1,
)
