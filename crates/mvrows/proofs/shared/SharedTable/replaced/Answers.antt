use Rattle.std.proofs.Common.{subst}
use Rattle.mvrows.specs.Versions.{IsInOrder}
use Rattle.mvrows.proofs.shared.SharedTable.replaced.Goals as goal

pub returns-in-Some-clause-order : goal.returns-in-Some-clause-order
returns-in-Some-clause-order g c = subst IsInOrder c.table-table.ensures c.in_order.ensures
