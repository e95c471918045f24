use Rattle.std.proofs.Common.{ap, sym, subst, ◌∙◌}
use Rattle.std.proofs.lemmas.Result.{on_ok_weaker, on_err_weaker}
use Rattle.mvrows.specs.Installing.{put_version}
use Rattle.mvrows.specs.HeldRows.{rows_in, undone_in, AreUndoable, AllVersioned}
use Rattle.mvrows.proofs.SharedLemmas.{held-rows, taken-undo, taken-undoable}
use Rattle.mvrows.proofs.shared.SharedTable.put.Goals as goal

pub returns-clause-ok : goal.returns-clause-ok
returns-clause-ok g c =
    let same = c.in_ok-table.ensures.rows ∙ sym (held-rows c.self.inside.table) ∙ ap rows_in c.self.view_is in
    on_ok_weaker c.put-put.result (λ made. made ∙ ap (put_version c.args.change.now.key (record { number = c.args.commit; fields = c.args.change.now.fields })) same) c.put-put.ensures.ok

pub returns-clause-err : goal.returns-clause-err
returns-clause-err g c =
    let same = c.in_ok-table.ensures.rows ∙ sym (held-rows c.self.inside.table) ∙ ap rows_in c.self.view_is in
    on_err_weaker c.put-put.result (λ put. put ∙ same) c.put-put.ensures.err

pub returns-clause-undo : goal.returns-clause-undo
returns-clause-undo g c = λ versioned undoable.
    let same = c.in_ok-table.ensures.rows ∙ sym (held-rows c.self.inside.table) ∙ ap rows_in c.self.view_is in
    let before = subst (AreUndoable c.args.commit) (sym c.self.view_is) undoable in
    c.put-put.ensures.undo (subst AllVersioned (sym same) versioned) (taken-undoable c.args.commit c.self.inside.table c.in_ok-table.table c.in_ok-table.ensures.own c.in_ok-table.ensures.rows before)
    ∙ taken-undo c.args.commit c.self.inside.table c.in_ok-table.table c.in_ok-table.ensures.own c.in_ok-table.ensures.rows (subst (λ table. AllVersioned (rows_in table)) (sym c.self.view_is) versioned) before
    ∙ ap (undone_in c.args.commit) c.self.view_is

pub returns-clause-undoable : goal.returns-clause-undoable
returns-clause-undoable g c = λ undoable.
    c.put-put.ensures.undoable (taken-undoable c.args.commit c.self.inside.table c.in_ok-table.table c.in_ok-table.ensures.own c.in_ok-table.ensures.rows (subst (AreUndoable c.args.commit) (sym c.self.view_is) undoable))
