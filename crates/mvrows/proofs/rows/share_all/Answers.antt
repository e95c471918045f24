use Rattle.std.proofs.Common.{ap, sym, arith, ◌∙◌}
use Rattle.mvrows.specs.HeldRows.{rows_in}
use Rattle.mvrows.proofs.HeldLemmas.{so_far-more}
use Rattle.mvrows.proofs.rows.share_all.Goals as goal

pub loop-table-preserved : goal.loop-table-preserved
loop-table-preserved g c =
    so_far-more rows_in rows_in c.loop-table.table-items c.deref_mut-table-items.result.now c.loop-table.table-index c.table-item.result c.share.new.self (omega arith) c.table-item.is (c.share.ensures ∙ c.share_pages.ensures ∙ ap rows_in (sym c.table-item.is)) c.loop-table.invariant
