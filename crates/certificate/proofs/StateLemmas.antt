-- What a way does to a column beside the key of a row that was there.
use Rattle.std.proofs.Common.{◌≡◌, refl, ap, ◌∙◌, ℕ, zero, suc, ◌-◌, Bool, false, List, slice_get, arith}
use Rattle.value.specs.declared.value.Value.{Value}
use Rattle.orders.specs.declared.ways.way.Field.{Field}
use Rattle.orders.specs.declared.ways.way.After.TheVariants as comes
use Rattle.orders.specs.Ways.{effect_from, effect_on_field}

module _ {A : Type 0} where
  pub row-effect : (k : Value A) (fs : List (Field A)) (n : ℕ) (absent : Bool) → (n ≡ 0 → ⊥) → absent ≡ false → effect_from k absent (comes.Row fs) n ≡ effect_on_field (slice_get fs (n - 1))
  row-effect k fs zero absent d e = absurd (d refl)
  row-effect k fs (suc n) absent d e = ap (λ a. effect_from k a (comes.Row fs) (suc n)) e ∙ ap (λ m. effect_on_field (slice_get fs m)) (let p : n ≡ suc n - 1 = omega arith in p)
