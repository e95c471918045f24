use Rattle.std.proofs.Common.{arith}
use Rattle.schema.proofs.BatchLemmas.{page_pushed}
use Rattle.schema.proofs.table.push_rows_in.Goals as goal

pub loop-page-preserved : goal.loop-page-preserved
loop-page-preserved g c = page_pushed c.loop-page.page-index c.args.most c.args.bound c.args.pages.now c.page-item.result c.loop-page.rows.items c.push_rows.new.rows.items _ (omega arith) c.page-item.is c.in_ok-push_rows.ensures.ok c.loop-page.invariant.0
