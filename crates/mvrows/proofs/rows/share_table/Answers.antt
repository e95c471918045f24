use Rattle.mvrows.specs.HeldRows.{rows_in}
use Rattle.mvrows.proofs.HeldLemmas.{same-set}
use Rattle.mvrows.proofs.rows.share_table.Goals as goal

pub returns-then-place-len : goal.returns-then-place-len
returns-then-place-len g c = same-set rows_in c.args.tables.now.items c.place-place.result c.share.new.self c.index_mut-table.result.now c.index_mut-table.ensures.value c.share.ensures
