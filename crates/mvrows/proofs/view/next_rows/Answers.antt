use Rattle.mvrows.specs.HeldRows.{rows_in}
use Rattle.mvrows.proofs.ViewLemmas.{shown-in_order}
use Rattle.mvrows.proofs.view.next_rows.Goals as goal

pub returns-clause-ordered : goal.returns-clause-ordered
returns-clause-ordered g c = shown-in_order c.args.snapshot (rows_in c.args.table.now) c.in_order.ensures
