use Rattle.std.proofs.Common.{sym, subst, length, ◌<◌, ◌∙◌}
use Rattle.value.proofs.Basics.{all-get, all-set}
use Rattle.schema.proofs.PagedLemmas.{placed, changed-in, changed-laid_out, gone-in, gone-laid_out}
use Rattle.mvrows.specs.Settling.{settle_key}
use Rattle.mvrows.specs.HeldRows.{chain_key, IsUndoable}
use Rattle.mvrows.proofs.SettledPageLemmas.{own-key, settle-local, settled-undoable}
use Rattle.mvrows.proofs.table.settle.Goals as goal

pub settle-requires : goal.settle-requires
settle-requires g c =
    let p = placed chain_key (λ h. h.rows) c.args.key.now c.value.result.now c.args.leaves.now.items c.as_slice.result.now c.place_near-place.result c.as_slice.ensures.value c.value.ensures.value c.place_near-place.ensures.placed in
    let range = subst (λ hs. c.place_near-place.result < length hs) c.as_slice.ensures.value c.place_near-place.ensures.range in
    own-key c.args.key.now c.args.leaves.now.items c.place_near-place.result c.index_mut-leaf.result.now range c.index_mut-leaf.ensures.value p c.requires.fresh

pub returns-then-not-has_keys-clause-rows : goal.returns-then-not-has_keys-clause-rows
returns-then-not-has_keys-clause-rows g c =
    let p = placed chain_key (λ h. h.rows) c.args.key.now c.value.result.now c.args.leaves.now.items c.as_slice.result.now c.place_near-place.result c.as_slice.ensures.value c.value.ensures.value c.place_near-place.ensures.placed in
    let range = subst (λ hs. c.place_near-place.result < length hs) c.as_slice.ensures.value c.place_near-place.ensures.range in
    gone-in chain_key (λ h. h.rows) c.args.key.now (settle_key (record { oldest = c.args.oldest; snapshots = c.args.snapshots.now }) c.args.key.now) c.args.leaves.now.items c.remove.new.self.items c.place_near-place.result c.index_mut-leaf.result.now c.settle.new.self (settle-local (record { oldest = c.args.oldest; snapshots = c.args.snapshots.now }) c.args.key.now) p range c.index_mut-leaf.ensures.value c.settle.ensures.rows (sym c.has_keys.ensures ∙ c.if-not-has_keys.true) c.remove.ensures.items

pub returns-then-not-has_keys-clause-laid_out : goal.returns-then-not-has_keys-clause-laid_out
returns-then-not-has_keys-clause-laid_out g c =
    let p = placed chain_key (λ h. h.rows) c.args.key.now c.value.result.now c.args.leaves.now.items c.as_slice.result.now c.place_near-place.result c.as_slice.ensures.value c.value.ensures.value c.place_near-place.ensures.placed in
    let range = subst (λ hs. c.place_near-place.result < length hs) c.as_slice.ensures.value c.place_near-place.ensures.range in
    gone-laid_out chain_key (λ h. h.rows) c.args.key.now (settle_key (record { oldest = c.args.oldest; snapshots = c.args.snapshots.now }) c.args.key.now) c.args.leaves.now.items c.remove.new.self.items c.place_near-place.result c.index_mut-leaf.result.now c.settle.new.self (settle-local (record { oldest = c.args.oldest; snapshots = c.args.snapshots.now }) c.args.key.now) p range c.index_mut-leaf.ensures.value c.settle.ensures.rows (sym c.has_keys.ensures ∙ c.if-not-has_keys.true) c.remove.ensures.items c.requires.laid_out

pub returns-else-not-has_keys-clause-rows : goal.returns-else-not-has_keys-clause-rows
returns-else-not-has_keys-clause-rows g c =
    let p = placed chain_key (λ h. h.rows) c.args.key.now c.value.result.now c.args.leaves.now.items c.as_slice.result.now c.place_near-place.result c.as_slice.ensures.value c.value.ensures.value c.place_near-place.ensures.placed in
    let range = subst (λ hs. c.place_near-place.result < length hs) c.as_slice.ensures.value c.place_near-place.ensures.range in
    changed-in chain_key (λ h. h.rows) c.args.key.now (settle_key (record { oldest = c.args.oldest; snapshots = c.args.snapshots.now }) c.args.key.now) c.args.leaves.now.items c.place_near-place.result c.index_mut-leaf.result.now c.settle.new.self (settle-local (record { oldest = c.args.oldest; snapshots = c.args.snapshots.now }) c.args.key.now) p range c.index_mut-leaf.ensures.value c.settle.ensures.rows

pub returns-else-not-has_keys-clause-laid_out : goal.returns-else-not-has_keys-clause-laid_out
returns-else-not-has_keys-clause-laid_out g c =
    let p = placed chain_key (λ h. h.rows) c.args.key.now c.value.result.now c.args.leaves.now.items c.as_slice.result.now c.place_near-place.result c.as_slice.ensures.value c.value.ensures.value c.place_near-place.ensures.placed in
    let range = subst (λ hs. c.place_near-place.result < length hs) c.as_slice.ensures.value c.place_near-place.ensures.range in
    changed-laid_out chain_key (λ h. h.rows) c.args.key.now (settle_key (record { oldest = c.args.oldest; snapshots = c.args.snapshots.now }) c.args.key.now) c.args.leaves.now.items c.place_near-place.result c.index_mut-leaf.result.now c.settle.new.self (settle-local (record { oldest = c.args.oldest; snapshots = c.args.snapshots.now }) c.args.key.now) p range c.index_mut-leaf.ensures.value c.settle.ensures.rows (sym c.has_keys.ensures ∙ c.if-not-has_keys.false) c.requires.laid_out

pub returns-else-not-has_keys-clause-undoable : goal.returns-else-not-has_keys-clause-undoable
returns-else-not-has_keys-clause-undoable g c = λ commit undoable.
    let p = placed chain_key (λ h. h.rows) c.args.key.now c.value.result.now c.args.leaves.now.items c.as_slice.result.now c.place_near-place.result c.as_slice.ensures.value c.value.ensures.value c.place_near-place.ensures.placed in
    let range = subst (λ hs. c.place_near-place.result < length hs) c.as_slice.ensures.value c.place_near-place.ensures.range in
    let mine = own-key c.args.key.now c.args.leaves.now.items c.place_near-place.result c.index_mut-leaf.result.now range c.index_mut-leaf.ensures.value p c.requires.fresh in
    all-set (IsUndoable commit) c.args.leaves.now.items c.place_near-place.result c.settle.new.self
    (settled-undoable (record { oldest = c.args.oldest; snapshots = c.args.snapshots.now }) commit c.args.key.now c.index_mut-leaf.result.now c.settle.new.self c.settle.ensures.own c.settle.ensures.rows mine (all-get (IsUndoable commit) c.args.leaves.now.items c.place_near-place.result c.index_mut-leaf.result.now range c.index_mut-leaf.ensures.value undoable))
    undoable
