use Rattle.std.proofs.Common.{ap, sym, arith, ◌∙◌}
use Rattle.mvrows.specs.HeldRows.{rows_in, undone_in}
use Rattle.mvrows.proofs.HeldLemmas.{so_far-more}
use Rattle.mvrows.proofs.rows.take_all_back.Goals as goal

pub loop-table-preserved : goal.loop-table-preserved
loop-table-preserved g c =
    so_far-more rows_in (undone_in c.args.commit) c.loop-table.table-items c.deref_mut-table-items.result.now c.loop-table.table-index c.table-item.result c.take_back.new.self (omega arith) c.table-item.is (c.take_back.ensures ∙ ap (undone_in c.args.commit) (sym c.table-item.is)) c.loop-table.invariant
