use Rattle.std.proofs.Common.{arith, ◌<◌, length, ◌∙◌}
use Rattle.mvrows.proofs.SettledTablesLemmas.{settled-held, fresh-set}
use Rattle.mvrows.proofs.rows.settle_change.Goals as goal

pub returns-then-place-len-clause-rows : goal.returns-then-place-len-clause-rows
returns-then-place-len-clause-rows g c =
    let lt : c.place-place.result < length c.args.tables.now.items = omega (arith, c.if-place-len.true, c.len.ensures, c.args.tables.now.ok) in
    settled-held (record { oldest = c.args.oldest; snapshots = c.args.snapshots.now }) c.args.change.now c.args.tables.now.items c.place-place.result c.index_mut-table.result.now c.settle.new.self c.key.result.now (c.place-place.ensures ∙ c.table.ensures) c.key.ensures lt c.index_mut-table.ensures.value c.settle.ensures.rows

pub returns-then-place-len-clause-fresh : goal.returns-then-place-len-clause-fresh
returns-then-place-len-clause-fresh g c = λ xs fresh.
    let lt : c.place-place.result < length c.args.tables.now.items = omega (arith, c.if-place-len.true, c.len.ensures, c.args.tables.now.ok) in
    fresh-set xs c.args.tables.now.items c.place-place.result c.index_mut-table.result.now c.settle.new.self lt c.index_mut-table.ensures.value c.settle.ensures.undoable c.settle.ensures.fresh fresh
