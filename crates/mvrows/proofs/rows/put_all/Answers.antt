use Rattle.std.proofs.Common.{sym, subst, arith, take}
use Rattle.value.proofs.Basics.{take_next}
use Rattle.mvrows.proofs.HeldLemmas.{UnderWay, under_way-more}
use Rattle.mvrows.proofs.rows.put_all.Goals as goal

pub loop-change-preserved : goal.loop-change-preserved
loop-change-preserved g c =
    subst (λ xs. UnderWay c.args.commit xs c.args.tables.now.items c.put_change.new.tables.items) (sym (take_next c.args.changes.now c.loop-change.change-index c.change-item.result (omega arith) c.change-item.is))
    (under_way-more c.args.commit (take c.loop-change.change-index c.args.changes.now) c.change-item.result c.args.tables.now.items c.loop-change.tables.items c.put_change.new.tables.items c.in_ok-put_change.ensures.ok c.put_change.ensures.undo c.put_change.ensures.undoable c.put_change.ensures.versioned c.loop-change.invariant)
