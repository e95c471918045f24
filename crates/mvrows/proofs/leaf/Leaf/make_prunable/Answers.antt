use Rattle.std.proofs.Common.{sym, subst}
use Rattle.mvrows.specs.Whole.{IsWhole}
use Rattle.mvrows.proofs.leaf.Leaf.make_prunable.Goals as goal

pub invariant_of-self : goal.invariant_of-self
invariant_of-self g c = subst (IsWhole c.self.inside.whole) (sym c.own.ensures.rows) c.self.invariant
