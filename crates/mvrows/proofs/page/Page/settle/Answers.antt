use Rattle.std.proofs.Common.{sym, subst, ◌≡◌, true, false, take, drop}
use Rattle.std.specs.List.{AllByRecursion}
use Rattle.std.specs.Ordering.{is_le}
use Rattle.value.specs.Order.{value_cmp}
use Rattle.mvrows.specs.Versions.{KeyVersions, IsInOrder}
use Rattle.mvrows.proofs.SettlingLemmas.{settle-in_order}
use Rattle.mvrows.proofs.page.Page.settle.Goals as goal

pub settle-requires-clause-before : goal.settle-requires-clause-before
settle-requires-clause-before g c = subst (λ ks. AllByRecursion (λ (k : KeyVersions _). is_le (value_cmp c.args.key.now k.key) ≡ false) (take c.place-place.result ks)) (sym c.self.view_is) c.place-place.ensures.before

pub settle-requires-clause-within : goal.settle-requires-clause-within
settle-requires-clause-within g c = subst (λ ks. AllByRecursion (λ (k : KeyVersions _). is_le (value_cmp c.args.key.now k.key) ≡ true) (drop c.place-place.result ks)) (sym c.self.view_is) c.place-place.ensures.within

pub invariant_of-self : goal.invariant_of-self
invariant_of-self g c = subst IsInOrder (sym c.settle.ensures) (settle-in_order (record { oldest = c.args.oldest; snapshots = c.args.snapshots.now }) c.args.key.now c.self.inside.chains.items c.self.invariant)
