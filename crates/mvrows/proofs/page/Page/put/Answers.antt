use Rattle.std.proofs.Common.{sym, subst, ◌≡◌, true, false, take, drop}
use Rattle.std.specs.List.{AllByRecursion}
use Rattle.std.specs.Ordering.{is_le}
use Rattle.value.specs.Order.{value_cmp}
use Rattle.mvrows.specs.Versions.{KeyVersions}
use Rattle.schema.proofs.PagedLemmas.{local-keeps}
use Rattle.mvrows.specs.HeldRows.{chain_key}
use Rattle.mvrows.proofs.JoinedLemmas.{put-local}
use Rattle.mvrows.proofs.page.Page.put.Goals as goal

pub put-requires-clause-before : goal.put-requires-clause-before
put-requires-clause-before g c =
    subst (λ rs. AllByRecursion (λ (k : KeyVersions _). is_le (value_cmp c.args.change.now.key k.key) ≡ false) (take c.place-place.result rs)) (sym c.self.view_is)
    (subst (λ x. AllByRecursion (λ (k : KeyVersions _). is_le (value_cmp x k.key) ≡ false) (take c.place-place.result c.args.self.now)) c.key.ensures c.place-place.ensures.before)

pub put-requires-clause-within : goal.put-requires-clause-within
put-requires-clause-within g c =
    subst (λ rs. AllByRecursion (λ (k : KeyVersions _). is_le (value_cmp c.args.change.now.key k.key) ≡ true) (drop c.place-place.result rs)) (sym c.self.view_is)
    (subst (λ x. AllByRecursion (λ (k : KeyVersions _). is_le (value_cmp x k.key) ≡ true) (drop c.place-place.result c.args.self.now)) c.key.ensures c.place-place.ensures.within)

pub invariant_of-self : goal.invariant_of-self
invariant_of-self g c =
    local-keeps chain_key c.put.result c.args.change.now.key _ c.self.inside.chains.items c.put.new.chains.items (put-local c.args.change.now.key (record { number = c.args.number; fields = c.args.change.now.fields })) c.put.ensures.ok c.put.ensures.err c.self.invariant
