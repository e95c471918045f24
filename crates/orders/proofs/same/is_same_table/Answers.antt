use Rattle.std.proofs.Common.{◌∙◌, sym, ap}
use Rattle.value.proofs.Basics.{IfOk_then}
use Rattle.schema.specs.Walking.{lent}
use Rattle.orders.proofs.same.is_same_table.Goals as goal

pub returns-clause-ok : goal.returns-clause-ok
returns-clause-ok g c = IfOk_then c.has_rows.result c.has_rows.ensures.ok (λ b e h. sym (ap lent c.as_slice.ensures.value ∙ c.in_ok-rows.ensures.ok) ∙ e h)
