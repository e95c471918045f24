use Rattle.schema.proofs.ChangingLemmas.{shown_order}
use Rattle.schema.proofs.changes.table.ChangedTable.in_key_order.Goals as goal

pub returns : goal.returns
returns g c = shown_order c.self.inside.rows.entries c.args.self.now c.self.view_is c.len-count.ensures.ordered
