-- A row that was kept without a list, in a list after a newer version.
use Rattle.std.proofs.Common.{◌≡◌, sym, ap, ◌∙◌, true, true≢false, List, [], ◌∷◌, ◌++◌, map, Some}
use Rattle.value.specs.declared.value.Value.{Value}
use Rattle.mvrows.specs.declared.chain.Kept.{Kept}
use Rattle.mvrows.specs.declared.chain.Kept.TheVariants.{One, Listed}
use Rattle.mvrows.specs.declared.version_list.Stored.{Stored}
use Rattle.mvrows.specs.Versions.{Version, KeyVersions}
use Rattle.mvrows.specs.Installing.{newer}
use Rattle.mvrows.specs.Stored.{told, stored}
use Rattle.mvrows.specs.Kept.{kept_versions, kept_alone, is_alone}
use Rattle.mvrows.proofs.ChainLemmas.{told-stored}

module _ {A : Type 0} where
  abbrev keyed : Value A → List (Version A) → KeyVersions A
  keyed k vs = record { key = k; versions = vs }

  two-stored : (k : Value A) (v w : Version A) (items : List (Stored A)) → items ≡ stored k v ∷ stored k w ∷ [] → items ≡ map (stored k) (map told items)
  two-stored k v w items is =
      is
      ∙ ap (λ u. stored k u ∷ stored k w ∷ []) (sym (told-stored k v))
      ∙ ap (λ u. stored k (told (stored k v)) ∷ stored k u ∷ []) (sym (told-stored k w))
      ∙ ap (λ xs. map (stored k) (map told xs)) (sym is)

  pair-stored : (old : Kept A) (k : Value A) (v : Version A) (items : List (Stored A)) → is_alone old ≡ true → k ≡ (kept_versions old).key → items ≡ stored k v ∷ kept_alone old → items ≡ map (stored k) (map told items)
  pair-stored (One n row) k v items alone is e =
      let w : Version A = record { number = n; fields = Some row.1 } in
      two-stored k v w items (e ∙ ap (λ x. stored k v ∷ stored x w ∷ []) (sym is))
  pair-stored (Listed list) k v items alone is e = absurd (true≢false (sym alone))

  pair-told : (old : Kept A) (k : Value A) (v : Version A) (items : List (Stored A)) → is_alone old ≡ true → k ≡ (kept_versions old).key → items ≡ stored k v ∷ kept_alone old → keyed k (map told items) ≡ newer v (kept_versions old)
  pair-told (One n row) k v items alone is e =
      let w : Version A = record { number = n; fields = Some row.1 } in
      ap (λ xs. keyed k (map told xs)) e
      ∙ ap (λ u. keyed k (u ∷ told (stored row.0 w) ∷ [])) (told-stored k v)
      ∙ ap (λ u. keyed k (v ∷ u ∷ [])) (told-stored row.0 w)
      ∙ ap (λ x. keyed x (v ∷ w ∷ [])) is
  pair-told (Listed list) k v items alone is e = absurd (true≢false (sym alone))

  behind : (old older : Kept A) (k : Value A) (v : Version A) (front items : List (Stored A)) → front ≡ stored k v ∷ [] → older ≡ old → items ≡ front ++ kept_alone older → items ≡ stored k v ∷ kept_alone old
  behind old older k v front items made took pushed = pushed ∙ ap (λ xs. xs ++ kept_alone older) made ∙ ap (λ h. stored k v ∷ kept_alone h) took

  key_of_list : (new : Kept A) (list : KeyVersions A) (k : Value A) → new ≡ Listed list → list ≡ keyed k [] → (kept_versions new).key ≡ k
  key_of_list new list k put empty = ap (λ h. (kept_versions h).key) put ∙ ap (λ (l : KeyVersions A). l.key) empty

  -- each row stands with its own key
  pub second-stored : (old older new : Kept A) (list : KeyVersions A) (k : Value A) (v : Version A) (front items : List (Stored A)) → is_alone old ≡ true → k ≡ (kept_versions old).key → front ≡ stored k v ∷ [] → older ≡ old → new ≡ Listed list → list ≡ record { key = k; versions = [] } → items ≡ front ++ kept_alone older → items ≡ map (stored (kept_versions new).key) (map told items)
  second-stored old older new list k v front items alone is made took put empty pushed =
      pair-stored old k v items alone is (behind old older k v front items made took pushed)
      ∙ ap (λ x. map (stored x) (map told items)) (sym (key_of_list new list k put empty))

  -- the newer version stands before the other
  pub second-told : (old older new filled : Kept A) (list : KeyVersions A) (k : Value A) (v : Version A) (front items : List (Stored A)) → is_alone old ≡ true → k ≡ (kept_versions old).key → front ≡ stored k v ∷ [] → older ≡ old → new ≡ Listed list → list ≡ record { key = k; versions = [] } → items ≡ front ++ kept_alone older → kept_versions filled ≡ record (kept_versions new) { versions = map told items } → kept_versions filled ≡ newer v (kept_versions old)
  second-told old older new filled list k v front items alone is made took put empty pushed fills =
      fills ∙ ap (λ x. keyed x (map told items)) (key_of_list new list k put empty)
      ∙ pair-told old k v items alone is (behind old older k v front items made took pushed)
