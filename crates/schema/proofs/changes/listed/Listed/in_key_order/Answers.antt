use Rattle.std.proofs.Common.{subst}
use Rattle.schema.specs.Changing.{IsByKey}
use Rattle.schema.proofs.ListedLemmas.{by_key-listed}
use Rattle.schema.proofs.changes.listed.Listed.in_key_order.Goals as goal

pub returns : goal.returns
returns g c = subst (λ xs. IsByKey xs c.args.table) c.self.view_is (by_key-listed c.self.inside.table c.args.table c.self.inside.list.items c.self.invariant)
