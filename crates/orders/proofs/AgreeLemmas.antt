-- Rows that are the same one by one are the same rows.
use Rattle.std.proofs.Common.{◌≡◌, refl, sym, ap, ◌∙◌, true, ◌&&◌, List, [], ◌∷◌, length, zip, eqb}
use Rattle.std.proofs.lemmas.Bool.{eq-eqb, eqb-true, and_parts}
use Rattle.std.specs.List.{list_all}
use Rattle.value.specs.declared.value.Value.{Value}
use Rattle.value.proofs.Basics.{zip_same}
use Rattle.schema.specs.Plain.{same}
use Rattle.schema.proofs.PlainLemmas.{same_value}
use Rattle.orders.specs.Explains.{same_bag, same_values, times}

module _ {A : Type 0} where
  same_values-true : (vs ws : List (Value A)) → same_values vs ws ≡ true → vs ≡ ws
  same_values-true vs ws e = let p = and_parts (eqb (length vs) (length ws)) (list_all (λ p. same p.0 p.1) (zip vs ws)) e in zip_same same same_value vs ws (eqb-true (length vs) (length ws) p.0) p.1

  as-often : (rows all : List (List (Value A))) → list_all (λ row. eqb (times row all) (times row all)) rows ≡ true
  as-often [] all = refl
  as-often (row ∷ rows) all = ap (λ b. b && list_all (λ r. eqb (times r all) (times r all)) rows) (eq-eqb (times row all) (times row all) refl) ∙ as-often rows all

  -- rows that match one by one
  pub matched-bag : (vs ws : List (List (Value A))) → length vs ≡ length ws → list_all (λ p. same_values p.0 p.1) (zip vs ws) ≡ true → same_bag vs ws ≡ true
  matched-bag vs ws n h =
      let e : vs ≡ ws = zip_same same_values same_values-true vs ws n h in
      ap (same_bag vs) (sym e) ∙ ap (λ b. b && list_all (λ row. eqb (times row vs) (times row vs)) vs) (eq-eqb (length vs) (length vs) refl) ∙ as-often vs vs
