use Rattle.std.proofs.Common.{◌≡◌, true, false, sym, subst, take, drop, ◌∙◌}
use Rattle.std.specs.Prelude.{slice_get}
use Rattle.std.specs.List.{AllByRecursion}
use Rattle.std.specs.Option.{option_map_or}
use Rattle.std.specs.Ordering.{is_le}
use Rattle.value.specs.Order.{value_cmp}
use Rattle.schema.specs.Plain.{same}
use Rattle.mvrows.specs.Versions.{KeyVersions}
use Rattle.mvrows.proofs.NearLemmas.{stands_before, stands_behind}
use Rattle.mvrows.proofs.page.place_from.Goals as goal

pub returns-then-is_at-clause-before : goal.returns-then-is_at-clause-before
returns-then-is_at-clause-before g c =
    let at = subst (λ v. option_map_or (λ (k : KeyVersions _). same v k.key) (slice_get c.args.chains.now c.args.place) false ≡ true) c.value.ensures.value (sym c.is_at.ensures ∙ c.if-is_at.true) in
    stands_before c.args.key.now c.args.chains.now c.args.place c.requires at

pub returns-then-is_at-clause-within : goal.returns-then-is_at-clause-within
returns-then-is_at-clause-within g c =
    let at = subst (λ v. option_map_or (λ (k : KeyVersions _). same v k.key) (slice_get c.args.chains.now c.args.place) false ≡ true) c.value.ensures.value (sym c.is_at.ensures ∙ c.if-is_at.true) in
    stands_behind c.args.key.now c.args.chains.now c.args.place c.requires at

pub returns-else-is_at-clause-before : goal.returns-else-is_at-clause-before
returns-else-is_at-clause-before g c = subst (λ x. AllByRecursion (λ (k : KeyVersions _). is_le (value_cmp x k.key) ≡ false) (take c.start.result c.args.chains.now)) c.value-else-is_at.ensures.value c.start.ensures.before

pub returns-else-is_at-clause-within : goal.returns-else-is_at-clause-within
returns-else-is_at-clause-within g c = subst (λ x. AllByRecursion (λ (k : KeyVersions _). is_le (value_cmp x k.key) ≡ true) (drop c.start.result c.args.chains.now)) c.value-else-is_at.ensures.value c.start.ensures.within
