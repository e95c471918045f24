use Rattle.std.proofs.Common.{◌≡◌, IfOk, subst}
use Rattle.schema.specs.Rows.{Rows}
use Rattle.schema.proofs.RowsInOrder.{rows_within-start}
use Rattle.schema.proofs.walk.Walk.over.Goals as goal

pub returns-clause-rows : goal.returns-clause-rows
returns-clause-rows g c = subst (λ (rows : Rows g.row.A.Denot). IfOk c.within.result (λ walk. walk ≡ rows)) (rows_within-start _) c.within.ensures.rows
