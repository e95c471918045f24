-- A key's versions thinned out, place by place.
use Rattle.std.proofs.Common.{◌≡◌, refl, sym, ap, ◌∙◌, ℕ, zero, suc, ◌+◌, ◌<◌, true, false, true≢false, cond, List, [], ◌∷◌, ◌++◌, take, drop, length, map, Option, Some, None, arith, add-one}
use Rattle.std.specs.Prelude.{slice_get, is_some, OnSome}
use Rattle.std.specs.List.{remove}
use Rattle.std.specs.Option.{option_map}
use Rattle.value.specs.declared.value.Value.{Value}
use Rattle.mvrows.specs.declared.version_list.Stored.{Stored}
use Rattle.mvrows.specs.Stored.{told, stored}
use Rattle.mvrows.specs.Versions.{Version, KeyVersions, newest_version}
use Rattle.mvrows.specs.Settling.{is_shown_to, shown_versions, read_versions}

pub on_some : {T : Type 0} (P : Type 0) (o : Option T) → is_some o ≡ true → OnSome o P → P
on_some P None some p = absurd (true≢false (sym some))
on_some P (Some x) some p = p

map-remove : {X Y : Type 0} (f : X → Y) (xs : List X) (i : ℕ) → map f (remove xs i) ≡ remove (map f xs) i
map-remove f [] zero = refl
map-remove f [] (suc i) = refl
map-remove f (x ∷ xs) zero = refl
map-remove f (x ∷ xs) (suc i) = ap (λ ys. f x ∷ ys) (map-remove f xs i)

module _ {A : Type 0} where
  -- ---- one version goes

  pub stored-removed : (k : Value A) (items left : List (Stored A)) (i : ℕ) → left ≡ remove items i → items ≡ map (stored k) (map told items) → left ≡ map (stored k) (map told left)
  stored-removed k items left i cut own =
      cut ∙ ap (λ xs. remove xs i) own ∙ sym (map-remove (stored k) (map told items) i) ∙ ap (map (stored k)) (sym (map-remove told items i)) ∙ ap (λ xs. map (stored k) (map told xs)) (sym cut)

  pub removed-shown : (k : Value A) (items left : List (Stored A)) (shown : KeyVersions A) (i : ℕ) → record { key = k; versions = map told items } ≡ shown → left ≡ remove items i → record { key = k; versions = map told left } ≡ record shown { versions = remove shown.versions i }
  removed-shown k items left shown i is cut =
      let e : map told left ≡ remove shown.versions i = ap (map told) cut ∙ map-remove told items i ∙ ap (λ x. remove x.versions i) is in
      λ j. record { key = (is j).key; versions = e j }

  -- ---- a version after the other

  -- the number of the version at a place
  abbrev NumberAt : List (Version A) → ℕ → Option ℕ
  NumberAt vs i = option_map (λ v. v.number) (slice_get vs i)

  keep : (ss : List ℕ) (next number : ℕ) (vs : List (Version A)) (i : ℕ) → NumberAt vs i ≡ Some number → is_shown_to ss number next ≡ true → take (suc i) vs ++ shown_versions ss number (drop (suc i) vs) ≡ take i vs ++ shown_versions ss next (drop i vs)
  keep ss next number [] i at is = cc
  keep ss next number (v ∷ vs) zero at is =
      let e : v.number ≡ number = cc in
      ap (λ n. v ∷ shown_versions ss n vs) (sym e) ∙ sym (ap (λ b. cond b (v ∷ shown_versions ss v.number vs) (shown_versions ss next vs)) (ap (λ n. is_shown_to ss n next) e ∙ is))
  keep ss next number (v ∷ vs) (suc i) at is = ap (λ ws. v ∷ ws) (keep ss next number vs i at is)

  cut : (ss : List ℕ) (next number : ℕ) (vs : List (Version A)) (i : ℕ) → NumberAt vs i ≡ Some number → is_shown_to ss number next ≡ false → take i (remove vs i) ++ shown_versions ss next (drop i (remove vs i)) ≡ take i vs ++ shown_versions ss next (drop i vs)
  cut ss next number [] i at is = cc
  cut ss next number (v ∷ vs) zero at is =
      let e : v.number ≡ number = cc in
      sym (ap (λ b. cond b (v ∷ shown_versions ss v.number vs) (shown_versions ss next vs)) (ap (λ n. is_shown_to ss n next) e ∙ is))
  cut ss next number (v ∷ vs) (suc i) at is = ap (λ ws. v ∷ ws) (cut ss next number vs i at is)

  whole : (ss : List ℕ) (next : ℕ) (vs : List (Version A)) (i : ℕ) → NumberAt vs i ≡ None → take i vs ++ shown_versions ss next (drop i vs) ≡ vs
  whole ss next [] zero at = refl
  whole ss next [] (suc i) at = refl
  whole ss next (v ∷ vs) zero at = cc
  whole ss next (v ∷ vs) (suc i) at = ap (λ ws. v ∷ ws) (whole ss next vs i at)

  pub at-below : (vs : List (Version A)) (i number : ℕ) → NumberAt vs i ≡ Some number → i < length vs
  at-below [] i number at = cc
  at-below (v ∷ vs) zero number at = omega arith
  at-below (v ∷ vs) (suc i) number at = let h = at-below vs i number at in omega arith

  pub removed-shorter : (vs : List (Version A)) (i : ℕ) → i < length vs → length (remove vs i) + 1 ≡ length vs
  removed-shorter [] i lt = absurd (omega arith)
  removed-shorter (v ∷ vs) zero lt = omega arith
  removed-shorter (v ∷ vs) (suc i) lt = let h = removed-shorter vs i (omega arith) in omega arith

  -- ---- the same of a key

  -- the versions before a place, and of the others those that are shown
  abbrev pub thinned_from : List ℕ → ℕ → ℕ → KeyVersions A → KeyVersions A
  thinned_from ss next i k = record k { versions = take i k.versions ++ shown_versions ss next (drop i k.versions) }

  abbrev pub thinned : List ℕ → KeyVersions A → KeyVersions A
  thinned ss k = record k { versions = read_versions ss k.versions }

  with_versions : (k : KeyVersions A) (vs ws : List (Version A)) → vs ≡ ws → record k { versions = vs } ≡ record k { versions = ws }
  with_versions k vs ws e = ap (λ us. record { key = k.key; versions = us }) e

  pub thinning-begins : (ss : List ℕ) (n : ℕ) (k : KeyVersions A) → Some n ≡ newest_version k → thinned_from ss n 1 k ≡ thinned ss k
  thinning-begins ss n k is = with_versions k _ _ (go k.versions is)
    where
      go : (vs : List (Version A)) → Some n ≡ option_map (λ v. v.number) (slice_get vs 0) → take 1 vs ++ shown_versions ss n (drop 1 vs) ≡ read_versions ss vs
      go [] e = cc
      go (v ∷ vs) e = let same : n ≡ v.number = cc in ap (λ m. v ∷ shown_versions ss m vs) same

  pub version-kept : (ss : List ℕ) (next number i : ℕ) (k : KeyVersions A) → Some number ≡ NumberAt k.versions i → is_shown_to ss number next ≡ true → thinned_from ss number (i + 1) k ≡ thinned_from ss next i k
  version-kept ss next number i k at is = rw add-one (with_versions k _ _ (keep ss next number k.versions i (sym at) is))

  pub version-cut : (ss : List ℕ) (next number i : ℕ) (k : KeyVersions A) → Some number ≡ NumberAt k.versions i → is_shown_to ss number next ≡ false → thinned_from ss next i (record k { versions = remove k.versions i }) ≡ thinned_from ss next i k
  version-cut ss next number i k at is = with_versions k _ _ (cut ss next number k.versions i (sym at) is)

  pub thinning-ends : (ss : List ℕ) (next i : ℕ) (k : KeyVersions A) → None ≡ NumberAt k.versions i → k ≡ thinned_from ss next i k
  thinning-ends ss next i k none = sym (with_versions k _ _ (whole ss next k.versions i (sym none)))
