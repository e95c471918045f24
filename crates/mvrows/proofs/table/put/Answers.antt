use Rattle.std.proofs.Common.{sym, subst, length, ◌<◌, ◌∙◌}
use Rattle.value.proofs.Basics.{all-get, all-set}
use Rattle.schema.proofs.PagedLemmas.{placed, same-in, answered-ok, answered-err, answered-laid_out}
use Rattle.mvrows.specs.HeldRows.{chain_key, undone, AreLaidOut, IsUndoable}
use Rattle.mvrows.proofs.JoinedLemmas.{put-local, put-has_keys}
use Rattle.mvrows.proofs.LeavesLemmas.{versioned-page}
use Rattle.mvrows.proofs.table.put.Goals as goal

pub place_near-place-requires-clause-laid_out : goal.place_near-place-requires-clause-laid_out
place_near-place-requires-clause-laid_out g c = subst AreLaidOut (sym c.as_slice.ensures.value) c.requires.laid_out

pub returns-clause-ok : goal.returns-clause-ok
returns-clause-ok g c =
    let p = placed chain_key (λ h. h.rows) c.args.change.now.key c.value.result.now c.args.leaves.now.items c.as_slice.result.now c.place_near-place.result c.as_slice.ensures.value (c.value.ensures.value ∙ c.key.ensures) c.place_near-place.ensures.placed in
    let range = subst (λ hs. c.place_near-place.result < length hs) c.as_slice.ensures.value c.place_near-place.ensures.range in
    answered-ok chain_key (λ h. h.rows) c.put.result c.args.change.now.key _ c.args.leaves.now.items c.place_near-place.result c.index_mut-leaf.result.now c.put.new.self (put-local c.args.change.now.key (record { number = c.args.commit; fields = c.args.change.now.fields })) p range c.index_mut-leaf.ensures.value c.put.ensures.ok

pub returns-clause-err : goal.returns-clause-err
returns-clause-err g c =
    let range = subst (λ hs. c.place_near-place.result < length hs) c.as_slice.ensures.value c.place_near-place.ensures.range in
    answered-err chain_key (λ h. h.rows) c.put.result c.args.leaves.now.items c.place_near-place.result c.index_mut-leaf.result.now c.put.new.self range c.index_mut-leaf.ensures.value c.put.ensures.err

pub returns-clause-laid_out : goal.returns-clause-laid_out
returns-clause-laid_out g c =
    let p = placed chain_key (λ h. h.rows) c.args.change.now.key c.value.result.now c.args.leaves.now.items c.as_slice.result.now c.place_near-place.result c.as_slice.ensures.value (c.value.ensures.value ∙ c.key.ensures) c.place_near-place.ensures.placed in
    let range = subst (λ hs. c.place_near-place.result < length hs) c.as_slice.ensures.value c.place_near-place.ensures.range in
    answered-laid_out chain_key (λ h. h.rows) c.put.result c.args.change.now.key _ c.args.leaves.now.items c.place_near-place.result c.index_mut-leaf.result.now c.put.new.self (put-local c.args.change.now.key (record { number = c.args.commit; fields = c.args.change.now.fields })) (put-has_keys c.args.change.now.key (record { number = c.args.commit; fields = c.args.change.now.fields })) p range c.index_mut-leaf.ensures.value c.put.ensures.ok c.put.ensures.err c.requires.laid_out

pub returns-clause-undo : goal.returns-clause-undo
returns-clause-undo g c = λ versioned undoable.
    let range = subst (λ hs. c.place_near-place.result < length hs) c.as_slice.ensures.value c.place_near-place.ensures.range in
    same-in chain_key (undone c.args.commit) c.args.leaves.now.items c.place_near-place.result c.index_mut-leaf.result.now c.put.new.self range c.index_mut-leaf.ensures.value
    (c.put.ensures.undo (versioned-page c.args.leaves.now.items c.place_near-place.result c.index_mut-leaf.result.now range c.index_mut-leaf.ensures.value versioned) (all-get (IsUndoable c.args.commit) c.args.leaves.now.items c.place_near-place.result c.index_mut-leaf.result.now range c.index_mut-leaf.ensures.value undoable))

pub returns-clause-undoable : goal.returns-clause-undoable
returns-clause-undoable g c = λ undoable.
    let range = subst (λ hs. c.place_near-place.result < length hs) c.as_slice.ensures.value c.place_near-place.ensures.range in
    all-set (IsUndoable c.args.commit) c.args.leaves.now.items c.place_near-place.result c.put.new.self
    (c.put.ensures.undoable (all-get (IsUndoable c.args.commit) c.args.leaves.now.items c.place_near-place.result c.index_mut-leaf.result.now range c.index_mut-leaf.ensures.value undoable)) undoable
