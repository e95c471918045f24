use Rattle.std.proofs.Common.{sym, subst}
use Rattle.mvrows.specs.Whole.{IsWhole}
use Rattle.mvrows.proofs.leaf.Leaf.lend.Goals as goal

pub invariant_of-result : goal.invariant_of-result
invariant_of-result g c = subst (IsWhole c.self.inside.whole) (sym c.in_ok-page.ensures.ok) c.self.invariant
