use Rattle.std.proofs.Common.{ap, sym, subst, length, ◌<◌, ◌∙◌}
use Rattle.schema.proofs.PagedLemmas.{same-in, same-laid_out, cut-joined, cut-laid_out}
use Rattle.mvrows.specs.HeldRows.{chain_key, rows_in, AreLaidOut, undone_in, AreUndoable, AllVersioned}
use Rattle.mvrows.proofs.LeavesLemmas.{taken-page, taken-undo, cut-undo, cut-undoable}
use Rattle.mvrows.proofs.table.cut.Goals as goal

pub returns-in_err-upper-clause-rows : goal.returns-in_err-upper-clause-rows
returns-in_err-upper-clause-rows g c =
    same-in chain_key (λ h. h.rows) c.reserve.new.self.items c.args.place c.index_mut-leaf.result.now c.cut.new.self (subst (λ hs. c.args.place < length hs) (sym c.reserve.ensures.items) c.requires.range) c.index_mut-leaf.ensures.value (taken-page c.index_mut-leaf.result.now c.cut.new.self c.in_err-upper.ensures.err)
    ∙ ap rows_in c.reserve.ensures.items

pub returns-in_err-upper-clause-laid_out : goal.returns-in_err-upper-clause-laid_out
returns-in_err-upper-clause-laid_out g c =
    same-laid_out chain_key (λ h. h.rows) c.reserve.new.self.items c.args.place c.index_mut-leaf.result.now c.cut.new.self (subst (λ hs. c.args.place < length hs) (sym c.reserve.ensures.items) c.requires.range) c.index_mut-leaf.ensures.value (taken-page c.index_mut-leaf.result.now c.cut.new.self c.in_err-upper.ensures.err)
    (subst AreLaidOut (sym c.reserve.ensures.items) c.requires.laid_out)

pub returns-in_err-upper-clause-undo : goal.returns-in_err-upper-clause-undo
returns-in_err-upper-clause-undo g c = λ commit versioned undoable.
    taken-undo commit c.reserve.new.self.items c.args.place c.index_mut-leaf.result.now c.cut.new.self (subst (λ hs. c.args.place < length hs) (sym c.reserve.ensures.items) c.requires.range) c.index_mut-leaf.ensures.value c.in_err-upper.ensures.err
    (subst (λ hs. AllVersioned (rows_in hs)) (sym c.reserve.ensures.items) versioned) (subst (AreUndoable commit) (sym c.reserve.ensures.items) undoable)
    ∙ ap (undone_in commit) c.reserve.ensures.items

pub returns-clause-rows : goal.returns-clause-rows
returns-clause-rows g c =
    cut-joined chain_key (λ h. h.rows) c.reserve.new.self.items c.insert.new.self.items c.args.place c.index_mut-leaf.result.now c.cut.new.self c.in_ok-upper.upper (subst (λ hs. c.args.place < length hs) (sym c.reserve.ensures.items) c.requires.range) c.index_mut-leaf.ensures.value c.in_ok-upper.ensures.parts c.in_ok-insert.ensures.items
    ∙ ap rows_in c.reserve.ensures.items

pub returns-clause-laid_out : goal.returns-clause-laid_out
returns-clause-laid_out g c =
    cut-laid_out chain_key (λ h. h.rows) c.reserve.new.self.items c.insert.new.self.items c.args.place c.index_mut-leaf.result.now c.cut.new.self c.in_ok-upper.upper (subst (λ hs. c.args.place < length hs) (sym c.reserve.ensures.items) c.requires.range) c.index_mut-leaf.ensures.value c.in_ok-upper.ensures.parts c.in_ok-upper.ensures.keys.0 c.in_ok-upper.ensures.keys.1 c.in_ok-insert.ensures.items
    (subst AreLaidOut (sym c.reserve.ensures.items) c.requires.laid_out)

pub returns-clause-undo : goal.returns-clause-undo
returns-clause-undo g c = λ commit versioned undoable.
    cut-undo commit c.reserve.new.self.items c.insert.new.self.items c.args.place c.index_mut-leaf.result.now c.cut.new.self c.in_ok-upper.upper (subst (λ hs. c.args.place < length hs) (sym c.reserve.ensures.items) c.requires.range) c.index_mut-leaf.ensures.value c.in_ok-upper.ensures.parts c.in_ok-upper.ensures.own.0 c.in_ok-upper.ensures.own.1 c.in_ok-insert.ensures.items
    (subst (λ hs. AllVersioned (rows_in hs)) (sym c.reserve.ensures.items) versioned) (subst (AreUndoable commit) (sym c.reserve.ensures.items) undoable)
    ∙ ap (undone_in commit) c.reserve.ensures.items

pub returns-clause-undoable : goal.returns-clause-undoable
returns-clause-undoable g c = λ commit undoable.
    cut-undoable commit c.reserve.new.self.items c.insert.new.self.items c.args.place c.cut.new.self c.in_ok-upper.upper (subst (λ hs. c.args.place < length hs) (sym c.reserve.ensures.items) c.requires.range) c.in_ok-upper.ensures.own.0 c.in_ok-upper.ensures.own.1 c.in_ok-insert.ensures.items
    (subst (AreUndoable commit) (sym c.reserve.ensures.items) undoable)
