-- A key's versions as they are stored.
use Rattle.std.proofs.Common.{suc, zero, ◌||◌, ◌≡◌, refl, sym, ap, ◌∙◌, ℕ, ◌+◌, ◌<◌, ◌≤◌, Bool, true, false, cond, List, [], ◌∷◌, ◌++◌, take, drop, map, length, Option, Some, None, is_some, get_or, arith, append_assoc, ◌⊎◌, inl, inr}
use Rattle.std.specs.Prelude.{nat_le, nat_lt, filter, find, slice_get}
use Rattle.std.specs.List.{insert, remove, list_any}
use Rattle.std.specs.Option.{option_map, option_map_or, option_and_then}
use Rattle.std.proofs.lemmas.Bool.{leb-false, le-leb, lt-leb}
use Rattle.std.proofs.lemmas.List.{length-map, append-nil, drop_more, take_more, drop_all, take-map, drop-map, map-append}
use Rattle.value.specs.declared.value.Value.{Value}
use Rattle.schema.specs.declared.row.Row.{Row}
use Rattle.mvrows.specs.declared.version_list.Stored.{Stored}
use Rattle.mvrows.specs.Versions.{Version, KeyVersions, VersionedRows, shown_fields, shown_row, newest_version}
use Rattle.mvrows.specs.Installing.{newer}
use Rattle.mvrows.specs.Pruning.{are_some, has_version, if_row, pruned_versions, pruned_key}
use Rattle.mvrows.specs.Stored.{told, stored, stored_row}
use Rattle.mvrows.specs.TakenBack.{versions_before, key_before, rows_before, was_there, taken_back}

-- what isn't below a number is not below it
pub not_below : (i n : ℕ) → (i < n → ⊥) → n ≤ i
not_below i n never = go (two i n)
  where
    two : (a b : ℕ) → (a < b) ⊎ (b ≤ a)
    two a b = grind arith

    go : (i < n) ⊎ (n ≤ i) → n ≤ i
    go (inl lt) = absurd (never lt)
    go (inr le) = le

module _ {A : Type 0} where
  found-stored : (n : ℕ) (k : Value A) (vs : List (Version A)) → stored_row n (map (stored k) vs) ≡ option_map (λ f. (k, f)) (shown_fields n vs)
  found-stored n k [] = refl
  found-stored n k (v ∷ vs) = by_test (nat_le v.number n) (found-stored n k vs)
    where
      by_test : (b : Bool) → stored_row n (map (stored k) vs) ≡ option_map (λ f. (k, f)) (shown_fields n vs)
          → option_and_then (λ s. s.row) (cond b (Some (stored k v)) (find (λ s. nat_le s.number n) (map (stored k) vs))) ≡ option_map (λ f. (k, f)) (option_and_then (λ w. w.fields) (cond b (Some v) (find (λ w. nat_le w.number n) vs)))
      by_test true rest = refl
      by_test false rest = rest

  -- what is found is what is shown
  pub found-shown : (n : ℕ) (k : Value A) (items : List (Stored A)) (shown : KeyVersions A) → items ≡ map (stored k) (map told items) → record { key = k; versions = map told items } ≡ shown → stored_row n items ≡ shown_row n shown
  found-shown n k items shown own is = ap (stored_row n) own ∙ found-stored n k (map told items) ∙ ap (shown_row n) is

  -- ---- one version of the list

  pub item-below : (items : List (Stored A)) (i : ℕ) (x : Stored A) → Some x ≡ slice_get items i → i < length items
  item-below [] i x at = cc
  item-below (s ∷ ss) zero x at = omega arith
  item-below (s ∷ ss) (suc i) x at = let h = item-below ss i x at in omega arith

  pub item-is : (items : List (Stored A)) (i : ℕ) (x : Stored A) → Some x ≡ slice_get items i → x ≡ get_or items i x
  item-is [] i x at = cc
  item-is (s ∷ ss) zero x at = cc
  item-is (s ∷ ss) (suc i) x at = item-is ss i x at

  pub item-past : (items : List (Stored A)) (i : ℕ) → None ≡ slice_get items i → length items ≤ i
  item-past [] i at = omega arith
  item-past (s ∷ ss) zero at = cc
  item-past (s ∷ ss) (suc i) at = let h = item-past ss i at in omega arith

  pub drop-told : (items : List (Stored A)) (i : ℕ) (x : Stored A) → i < length items → x ≡ get_or items i x → drop i items ≡ x ∷ drop (i + 1) items
  drop-told items i x lt is = drop_more items i x lt ∙ ap (λ y. y ∷ drop (i + 1) items) (sym is)

  pub take-told : (items : List (Stored A)) (i : ℕ) (x : Stored A) → i < length items → x ≡ get_or items i x → take (i + 1) items ≡ take i items ++ x ∷ []
  take-told items i x lt is = take_more items i x lt ∙ ap (λ y. take i items ++ y ∷ []) (sym is)

  pub found-here : (n : ℕ) (items : List (Stored A)) (i : ℕ) (x : Stored A) → i < length items → x ≡ get_or items i x → x.number ≤ n → stored_row n items ≡ stored_row n (drop i items) → stored_row n items ≡ x.row
  found-here n items i x lt is le so_far = so_far ∙ ap (stored_row n) (drop-told items i x lt is) ∙ rw (le-leb x.number n le) refl

  pub found-later : (n : ℕ) (items : List (Stored A)) (i : ℕ) (x : Stored A) → i < length items → x ≡ get_or items i x → n < x.number → stored_row n items ≡ stored_row n (drop i items) → stored_row n items ≡ stored_row n (drop (i + 1) items)
  found-later n items i x lt is above so_far = so_far ∙ ap (stored_row n) (drop-told items i x lt is) ∙ rw (lt-leb x.number n above) refl

  pub found-none : (n : ℕ) (items : List (Stored A)) (i : ℕ) → length items ≤ i → stored_row n items ≡ stored_row n (drop i items) → stored_row n items ≡ None
  found-none n items i past so_far = so_far ∙ ap (stored_row n) (drop_all i items past)

  -- ---- how many are kept

  abbrev pub KeptSoFar : ℕ → List (Version A) → ℕ → Type 0
  KeptSoFar oldest vs i = pruned_versions oldest vs ≡ take i vs ++ pruned_versions oldest (drop i vs)

  drop-version : (items : List (Stored A)) (i : ℕ) (x : Stored A) → i < length items → x ≡ get_or items i x → drop i (map told items) ≡ told x ∷ drop (i + 1) (map told items)
  drop-version items i x lt is = drop-map told i items ∙ ap (map told) (drop-told items i x lt is) ∙ ap (λ rest. told x ∷ rest) (sym (drop-map told (i + 1) items))

  take-version : (items : List (Stored A)) (i : ℕ) (x : Stored A) → i < length items → x ≡ get_or items i x → take (i + 1) (map told items) ≡ take i (map told items) ++ told x ∷ []
  take-version items i x lt is = take-map told (i + 1) items ∙ ap (map told) (take-told items i x lt is) ∙ map-append told (take i items) (x ∷ []) ∙ ap (λ front. front ++ told x ∷ []) (sym (take-map told i items))

  is_some-told : (row : Option (Row A)) → is_some (option_map (λ r. r.1) row) ≡ is_some row
  is_some-told None = refl
  is_some-told (Some r) = refl

  pub kept-more : (oldest : ℕ) (items : List (Stored A)) (i : ℕ) (x : Stored A) → i < length items → x ≡ get_or items i x → oldest < x.number → KeptSoFar oldest (map told items) i → KeptSoFar oldest (map told items) (i + 1)
  kept-more oldest items i x lt is above so_far =
      let vs : List (Version A) = map told items in
      so_far
      ∙ ap (λ rest. take i vs ++ pruned_versions oldest rest) (drop-version items i x lt is)
      ∙ ap (λ b. take i vs ++ cond b (if_row (told x)) (told x ∷ pruned_versions oldest (drop (i + 1) vs))) (lt-leb x.number oldest above)
      ∙ sym (append_assoc (take i vs) (told x ∷ []) (pruned_versions oldest (drop (i + 1) vs)))
      ∙ ap (λ front. front ++ pruned_versions oldest (drop (i + 1) vs)) (sym (take-version items i x lt is))

  kept-last : (oldest : ℕ) (items : List (Stored A)) (i : ℕ) (x : Stored A) → i < length items → x ≡ get_or items i x → x.number ≤ oldest → KeptSoFar oldest (map told items) i → pruned_versions oldest (map told items) ≡ take i (map told items) ++ if_row (told x)
  kept-last oldest items i x lt is older so_far =
      let vs : List (Version A) = map told items in
      so_far
      ∙ ap (λ rest. take i vs ++ pruned_versions oldest rest) (drop-version items i x lt is)
      ∙ ap (λ b. take i vs ++ cond b (if_row (told x)) (told x ∷ pruned_versions oldest (drop (i + 1) vs))) (le-leb x.number oldest older)

  pub kept-row : (oldest : ℕ) (items : List (Stored A)) (i : ℕ) (x : Stored A) → i < length items → x ≡ get_or items i x → x.number ≤ oldest → is_some x.row ≡ true → KeptSoFar oldest (map told items) i → take (i + 1) (map told items) ≡ pruned_versions oldest (map told items)
  kept-row oldest items i x lt is older some so_far =
      take-version items i x lt is
      ∙ sym (kept-last oldest items i x lt is older so_far ∙ ap (λ b. take i (map told items) ++ cond b (told x ∷ []) []) (is_some-told x.row ∙ some))

  pub kept-absence : (oldest : ℕ) (items : List (Stored A)) (i : ℕ) (x : Stored A) → i < length items → x ≡ get_or items i x → x.number ≤ oldest → is_some x.row ≡ false → KeptSoFar oldest (map told items) i → take i (map told items) ≡ pruned_versions oldest (map told items)
  kept-absence oldest items i x lt is older none so_far =
      sym (kept-last oldest items i x lt is older so_far ∙ ap (λ b. take i (map told items) ++ cond b (told x ∷ []) []) (is_some-told x.row ∙ none) ∙ append-nil _)

  -- a pruned list
  pub pruned-shown : (oldest : ℕ) (k : Value A) (items left : List (Stored A)) (shown : KeyVersions A) (n : ℕ) → record { key = k; versions = map told items } ≡ shown → left ≡ take n items → take n (map told items) ≡ pruned_versions oldest (map told items) → record { key = k; versions = map told left } ≡ pruned_key oldest shown
  pruned-shown oldest k items left shown n is cut kept =
      let e : map told left ≡ pruned_versions oldest shown.versions = ap (map told) cut ∙ sym (take-map told n items) ∙ kept ∙ ap (λ x. pruned_versions oldest x.versions) is in
      λ i. record { key = (is i).key; versions = e i }

  pub length-told : (k : Value A) (items : List (Stored A)) (shown : KeyVersions A) → record { key = k; versions = map told items } ≡ shown → length shown.versions ≡ length items
  length-told k items shown is = sym (ap (λ x. length x.versions) is) ∙ length-map items told

  -- ---- what stays stored

  -- a front part of what is stored
  pub stored-take : (k : Value A) (items left : List (Stored A)) (n : ℕ) → left ≡ take n items → items ≡ map (stored k) (map told items) → left ≡ map (stored k) (map told left)
  stored-take k items left n cut own =
      cut ∙ ap (take n) own ∙ take-map (stored k) n (map told items) ∙ ap (map (stored k)) (take-map told n items) ∙ ap (λ xs. map (stored k) (map told xs)) (sym cut)

  -- ---- taking back

  pub before-end : (commit : ℕ) (k : KeyVersions A) → option_map_or (λ n. nat_le commit n) (newest_version k) false ≡ false → key_before commit k ≡ k
  before-end commit k none = ap (λ vs. record { key = k.key; versions = vs }) (go k.versions none)
    where
      go : (vs : List (Version A)) → option_map_or (λ n. nat_le commit n) (option_map (λ v. v.number) (slice_get vs 0)) false ≡ false → versions_before commit vs ≡ vs
      go [] e = refl
      go (v ∷ vs) e = rw (le-leb (suc v.number) commit (omega (arith, leb-false commit v.number e))) refl

  -- whether a version is from before a commit
  pub any-before : (commit : ℕ) (items : List (Stored A)) → list_any (λ s. nat_lt s.number commit) items ≡ are_some (versions_before commit (map told items))
  any-before commit [] = refl
  any-before commit (s ∷ ss) = by_test (nat_lt s.number commit) (any-before commit ss)
    where
      by_test : (b : Bool) → list_any (λ t. nat_lt t.number commit) ss ≡ are_some (versions_before commit (map told ss)) → (b || list_any (λ t. nat_lt t.number commit) ss) ≡ are_some (cond b (told s ∷ map told ss) (versions_before commit (map told ss)))
      by_test true rest = refl
      by_test false rest = rest

  -- ---- a newer version

  pub told-stored : (k : Value A) (v : Version A) → told (stored k v) ≡ v
  told-stored k v = ap (λ fields. record { number = v.number; fields = fields }) (go v.fields)
    where
      go : (fields : Option (List (Value A))) → option_map (λ (row : Row A). row.1) (option_map (λ fs. (k, fs)) fields) ≡ fields
      go None = refl
      go (Some fs) = refl

  first-inserted : (items : List (Stored A)) (x : Stored A) → insert items 0 x ≡ x ∷ items
  first-inserted [] x = refl
  first-inserted (s ∷ ss) x = refl

  pub stored-newer : (k : Value A) (v : Version A) (x : Stored A) (items left : List (Stored A)) → left ≡ insert items 0 x → x ≡ stored k v → items ≡ map (stored k) (map told items) → left ≡ map (stored k) (map told left)
  stored-newer k v x items left put is own =
      put ∙ first-inserted items x ∙ ap (λ y. y ∷ items) is ∙ ap (λ ys. stored k v ∷ ys) own
      ∙ ap (λ w. stored k w ∷ map (stored k) (map told items)) (sym (told-stored k v))
      ∙ ap (λ y. map (stored k) (map told (y ∷ items))) (sym is)
      ∙ ap (λ ys. map (stored k) (map told ys)) (sym (first-inserted items x) ∙ sym put)

  pub newer-shown : (k : Value A) (v : Version A) (x : Stored A) (items left : List (Stored A)) (shown : KeyVersions A) → record { key = k; versions = map told items } ≡ shown → left ≡ insert items 0 x → x ≡ stored k v → record { key = k; versions = map told left } ≡ newer v shown
  newer-shown k v x items left shown is put new =
      ap (λ ys. record { key = k; versions = map told ys }) (put ∙ first-inserted items x ∙ ap (λ y. y ∷ items) new)
      ∙ ap (λ w. record { key = k; versions = w ∷ map told items }) (told-stored k v)
      ∙ ap (newer v) is

  -- ---- the newest version

  pub versioned-some : (k : KeyVersions A) → has_version k ≡ true → 0 < length k.versions
  versioned-some k some = go k.versions some
    where
      go : (vs : List (Version A)) → are_some vs ≡ true → 0 < length vs
      go [] e = cc
      go (v ∷ vs) e = omega arith

  pub newest-removed : (k : KeyVersions A) → has_version k ≡ true → record k { versions = remove k.versions 0 } ≡ record k { versions = drop 1 k.versions }
  newest-removed k some = ap (λ vs. record { key = k.key; versions = vs }) (go k.versions some)
    where
      go : (vs : List (Version A)) → are_some vs ≡ true → remove vs 0 ≡ drop 1 vs
      go [] e = cc
      go (v ∷ vs) e = refl

  pub none-removed : (k : KeyVersions A) → has_version k ≡ false → k ≡ record k { versions = drop 1 k.versions }
  none-removed k none = ap (λ vs. record { key = k.key; versions = vs }) (go k.versions none)
    where
      go : (vs : List (Version A)) → are_some vs ≡ false → vs ≡ drop 1 vs
      go [] e = refl
      go (v ∷ vs) e = cc

  -- taking back where keys that are new have gone
  pub taken_back-rows : (commit : ℕ) (rows : VersionedRows A) → map (taken_back commit) (filter (was_there commit) rows) ≡ rows_before commit rows
  taken_back-rows commit [] = refl
  taken_back-rows commit (k ∷ ks) = by_test (was_there commit k) refl (taken_back-rows commit ks)
    where
      by_test : (b : Bool) → was_there commit k ≡ b → map (taken_back commit) (filter (was_there commit) ks) ≡ rows_before commit ks → map (taken_back commit) (cond b (k ∷ filter (was_there commit) ks) (filter (was_there commit) ks)) ≡ cond b (key_before commit k ∷ rows_before commit ks) (rows_before commit ks)
      by_test true is rest = ap (λ b. cond b (key_before commit k) k ∷ map (taken_back commit) (filter (was_there commit) ks)) is ∙ ap (λ xs. key_before commit k ∷ xs) rest
      by_test false is rest = rest
