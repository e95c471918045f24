use Rattle.std.proofs.Common.{sym, subst}
use Rattle.mvrows.specs.Fresh.{IsFresh}
use Rattle.mvrows.specs.HeldRows.{rows_in, AreUndoable}
use Rattle.mvrows.proofs.SettlingLemmas.{settle-fresh}
use Rattle.mvrows.proofs.table.Table.settle.Goals as goal

pub returns-then-not-is_empty-clause-undoable : goal.returns-then-not-is_empty-clause-undoable
returns-then-not-is_empty-clause-undoable g c = λ commit undoable. c.settle.ensures.undoable commit (subst (AreUndoable commit) (sym c.self.view_is) undoable)

pub returns-then-not-is_empty-clause-fresh : goal.returns-then-not-is_empty-clause-fresh
returns-then-not-is_empty-clause-fresh g c = λ commit k fresh.
    subst (IsFresh commit k) (sym c.settle.ensures.rows)
    (settle-fresh (record { oldest = c.args.oldest; snapshots = c.args.snapshots.now }) commit c.args.key.now k (rows_in c.self.inside.leaves.items) c.self.invariant.0 (subst (λ ls. IsFresh commit k (rows_in ls)) (sym c.self.view_is) fresh))
