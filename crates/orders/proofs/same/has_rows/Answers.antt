use Rattle.std.proofs.Common.{◌∙◌, ap}
use Rattle.schema.specs.Walking.{lent}
use Rattle.orders.proofs.same.has_rows.Goals as goal

pub returns-clause-ok : goal.returns-clause-ok
returns-clause-ok g c = λ h. c.are_rows_same.ensures h ∙ ap lent c.as_slice.ensures.value ∙ c.in_ok-others.ensures.ok
