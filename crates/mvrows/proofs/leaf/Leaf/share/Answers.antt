use Rattle.std.proofs.Common.{sym, subst}
use Rattle.mvrows.specs.Whole.{IsWhole}
use Rattle.mvrows.proofs.leaf.Leaf.share.Goals as goal

pub invariant_of-self : goal.invariant_of-self
invariant_of-self g c = subst (IsWhole c.known_or_seen-self-inside.result) (sym c.share.ensures) (c.known_or_seen-self-inside.ensures c.self.invariant)
