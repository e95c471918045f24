use Rattle.std.proofs.Common.{ap, sym, subst, ◌∙◌}
use Rattle.std.proofs.lemmas.Result.{on_ok_weaker, on_err_weaker}
use Rattle.mvrows.specs.Installing.{put_version}
use Rattle.mvrows.specs.HeldRows.{AllVersioned, AreLaidOut}
use Rattle.mvrows.proofs.table.put_more.Goals as goal

pub place_near-place-requires-clause-laid_out : goal.place_near-place-requires-clause-laid_out
place_near-place-requires-clause-laid_out g c = subst AreLaidOut (sym c.as_slice.ensures.value) c.requires.laid_out

pub returns-clause-ok : goal.returns-clause-ok
returns-clause-ok g c =
    on_ok_weaker c.put.result (λ made. made ∙ ap (put_version c.args.change.now.key (record { number = c.args.commit; fields = c.args.change.now.fields })) c.make_room.ensures.rows) c.put.ensures.ok

pub returns-clause-err : goal.returns-clause-err
returns-clause-err g c = on_err_weaker c.put.result (λ same. same ∙ c.make_room.ensures.rows) c.put.ensures.err

pub returns-clause-undo : goal.returns-clause-undo
returns-clause-undo g c = λ versioned undoable.
    c.put.ensures.undo (subst AllVersioned (sym c.make_room.ensures.rows) versioned) (c.make_room.ensures.undoable c.args.commit undoable)
    ∙ c.make_room.ensures.undo c.args.commit versioned undoable

pub returns-clause-undoable : goal.returns-clause-undoable
returns-clause-undoable g c = λ undoable. c.put.ensures.undoable (c.make_room.ensures.undoable c.args.commit undoable)

pub returns-in_err-make_room-clause-undoable : goal.returns-in_err-make_room-clause-undoable
returns-in_err-make_room-clause-undoable g c = λ undoable. c.make_room.ensures.undoable c.args.commit undoable
