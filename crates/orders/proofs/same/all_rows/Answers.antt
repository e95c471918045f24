use Rattle.std.proofs.Common.{◌∙◌}
use Rattle.value.proofs.Basics.{IfOk_then}
use Rattle.schema.specs.Plain.{rows_of}
use Rattle.orders.proofs.SeenLemmas.{all-taken}
use Rattle.orders.proofs.same.all_rows.Goals as goal

pub returns-clause-ok : goal.returns-clause-ok
returns-clause-ok g c = IfOk_then c.next_rows.result c.next_rows.ensures.rows (λ rows e. e ∙ all-taken (rows_of c.args.tables.now c.args.table) c.len.result c.len.ensures)
