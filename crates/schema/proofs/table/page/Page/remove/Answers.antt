use Rattle.std.proofs.Common.{sym, subst}
use Rattle.schema.specs.Rows.{IsInKeyOrder}
use Rattle.schema.proofs.PutLemmas.{gone-in_order}
use Rattle.schema.proofs.table.page.Page.remove.Goals as goal

pub invariant_of-self : goal.invariant_of-self
invariant_of-self g c = subst IsInKeyOrder (sym c.remove.ensures) (gone-in_order c.args.key.now c.self.inside.rows.items c.self.invariant)
