use Rattle.std.proofs.Common.{map, subst, sym, ◌≤◌, ◌∙◌}
use Rattle.std.specs.Prelude.{vec_capacity}
use Rattle.transactions.specs.Keys.{keyed}
use Rattle.session.specs.Core.{HoldsKeys, HoldsRows, IsKept}
use Rattle.session.specs.Unspoilt.{AreUnspoilt}
use Rattle.session.proofs.sessions.Core.copy.Goals as goal

pub invariant_of-result : goal.invariant_of-result
invariant_of-result g c =
    let h = c.in_ok-history.ensures.ok in
    let w = c.in_ok-world.ensures.ok in
    let ks = c.in_ok-keys.ensures.ok ∙ c.as_slice.ensures.value in
    let i = c.self.inside in
    let k = c.self.invariant in (
      subst (λ x. IsKept x c.in_ok-world.world) (sym h) (subst (IsKept i.history) (sym w) k.0),
      subst (λ x. HoldsKeys x c.in_ok-keys.keys.items (vec_capacity c.in_ok-keys.keys)) (sym h) (subst (λ xs. HoldsKeys i.history xs (vec_capacity c.in_ok-keys.keys)) (sym ks) (record { keys = k.1.keys; few = k.1.few; room = subst (λ n. n ≤ vec_capacity c.in_ok-keys.keys) c.max_events.ensures c.in_ok-keys.ensures.room })),
      subst (λ x. HoldsRows x c.in_ok-world.world c.in_ok-rows.rows) (sym h) (subst (λ y. HoldsRows i.history y c.in_ok-rows.rows) (sym w) (subst (HoldsRows i.history i.world) (sym c.in_ok-rows.ensures.ok) k.2)),
      subst (λ xs. AreUnspoilt (map keyed xs) c.copy-unspoilt.result) (sym ks) (subst (AreUnspoilt (map keyed i.keys.items)) (sym c.copy-unspoilt.ensures) k.3),
    )

pub returns-clause-ok : goal.returns-clause-ok
returns-clause-ok g c = c.in_ok-history.ensures.ok ∙ c.self.view_is
