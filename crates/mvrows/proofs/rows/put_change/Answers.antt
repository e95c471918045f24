use Rattle.std.proofs.Common.{arith, ◌<◌, length, ◌∙◌}
use Rattle.std.proofs.lemmas.Result.{on_ok_weaker}
use Rattle.value.proofs.Basics.{all-get}
use Rattle.mvrows.specs.HeldRows.{AreUndoable, undone_in, AllVersioned}
use Rattle.mvrows.proofs.HeldLemmas.{held-set, same-set, rows-at, versioned-set}
use Rattle.mvrows.proofs.rows.put_change.Goals as goal

pub returns-then-place-len-clause-ok : goal.returns-then-place-len-clause-ok
returns-then-place-len-clause-ok g c =
    let lt : c.place-place.result < length c.args.tables.now.items = omega (arith, c.if-place-len.true, c.len.ensures, c.args.tables.now.ok) in
    on_ok_weaker c.put.result
    (λ made. held-set c.args.tables.now.items c.place-place.result c.put.new.self c.args.commit c.args.change.now c.index_mut-table.result.now (c.place-place.ensures ∙ c.table.ensures) lt c.index_mut-table.ensures.value made)
    c.put.ensures.ok

pub returns-then-place-len-clause-undo : goal.returns-then-place-len-clause-undo
returns-then-place-len-clause-undo g c =
    let lt : c.place-place.result < length c.args.tables.now.items = omega (arith, c.if-place-len.true, c.len.ensures, c.args.tables.now.ok) in
    same-set (undone_in c.args.commit) c.args.tables.now.items c.place-place.result c.put.new.self c.index_mut-table.result.now c.index_mut-table.ensures.value
    (c.put.ensures.undo
    (rows-at AllVersioned c.args.tables.now.items c.place-place.result c.index_mut-table.result.now lt c.index_mut-table.ensures.value c.requires.versioned)
    (all-get (AreUndoable c.args.commit) c.args.tables.now.items c.place-place.result c.index_mut-table.result.now lt c.index_mut-table.ensures.value c.requires.undoable))

pub returns-then-place-len-clause-versioned : goal.returns-then-place-len-clause-versioned
returns-then-place-len-clause-versioned g c =
    let lt : c.place-place.result < length c.args.tables.now.items = omega (arith, c.if-place-len.true, c.len.ensures, c.args.tables.now.ok) in
    versioned-set c.put.result c.args.change.now.key (record { number = c.args.commit; fields = c.args.change.now.fields }) c.args.tables.now.items c.place-place.result c.put.new.self c.index_mut-table.result.now lt c.index_mut-table.ensures.value c.put.ensures.ok c.put.ensures.err c.requires.versioned
