use Rattle.mvrows.specs.HeldRows.{rows_in}
use Rattle.mvrows.proofs.HeldLemmas.{same-set}
use Rattle.mvrows.proofs.rows.share_changed.Goals as goal

pub returns : goal.returns
returns g c = same-set rows_in c.args.tables.now.items c.place-place.result c.share_page.new.self c.index_mut-table.result.now c.index_mut-table.ensures.value c.share_page.ensures
