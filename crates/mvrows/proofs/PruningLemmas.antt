-- What snapshots show after a pruning, and what it leaves.
use Rattle.std.proofs.Common.{◌≡◌, refl, sym, ap, subst, ◌∙◌, ℕ, ◌≤◌, Bool, true, false, cond, List, [], ◌∷◌, map, length, Option, Some, None, is_some, arith}
use Rattle.std.specs.Prelude.{nat_le, find, slice_get, filter}
use Rattle.std.specs.List.{AllByRecursion, cons_option}
use Rattle.std.specs.List.Sorted.{IsStrictlySortedBy}
use Rattle.std.specs.Option.{option_map, option_and_then}
use Rattle.std.proofs.lemmas.Bool.{le-leb, leb-true}
use Rattle.value.specs.declared.value.Value.{Value}
use Rattle.value.proofs.Basics.{all-filter}
use Rattle.schema.specs.Plain.{same}
use Rattle.schema.proofs.PlainLemmas.{same_value}
use Rattle.mvrows.specs.Versions.{Version, VersionedRows, versions_of, IsInOrder, AreInOrder, shown_fields, shown_rows, shown, newest_version, newest_in, newest, AreBelow, RowsAreBelow, TablesAreBelow}
use Rattle.mvrows.specs.Pruning.{if_row, pruned_versions, pruned_key, are_some, has_version, pruned_rows, pruned, IsPruned, ArePruned, KeepsNewest}
use Rattle.mvrows.proofs.VersionLemmas.{IsLeast, all-map, get_or-map, table_in_order}

module _ {A : Type 0} where
  -- ---- what is shown

  shown-if_row : (n : ℕ) (number : ℕ) (fields : Option (List (Value A))) → nat_le number n ≡ true → shown_fields n (if_row (record { number = number; fields = fields })) ≡ fields
  shown-if_row n number None e = refl
  shown-if_row n number (Some f) e = rw e refl

  pub shown-pruned_versions : (oldest n : ℕ) (vs : List (Version A)) → oldest ≤ n → shown_fields n (pruned_versions oldest vs) ≡ shown_fields n vs
  shown-pruned_versions oldest n [] le = refl
  shown-pruned_versions oldest n (v ∷ vs) le = by_test (nat_le v.number oldest) refl (shown-pruned_versions oldest n vs le)
    where
      shows : (b : Bool) → shown_fields n (pruned_versions oldest vs) ≡ shown_fields n vs → option_and_then (λ w. w.fields) (cond b (Some v) (find (λ w. nat_le w.number n) (pruned_versions oldest vs))) ≡ option_and_then (λ w. w.fields) (cond b (Some v) (find (λ w. nat_le w.number n) vs))
      shows true rest = refl
      shows false rest = rest

      by_test : (b : Bool) → nat_le v.number oldest ≡ b → shown_fields n (pruned_versions oldest vs) ≡ shown_fields n vs → shown_fields n (cond b (if_row v) (v ∷ pruned_versions oldest vs)) ≡ shown_fields n (v ∷ vs)
      by_test true e rest =
          let older : v.number ≤ oldest = leb-true v.number oldest e in
          let seen : nat_le v.number n ≡ true = le-leb v.number n (omega arith) in
          shown-if_row n v.number v.fields seen ∙ sym (rw seen refl)
      by_test false e rest = shows (nat_le v.number n) rest

  shown_rows-pruned : (oldest n : ℕ) (rows : VersionedRows A) → oldest ≤ n → shown_rows n (pruned_rows oldest rows) ≡ shown_rows n rows
  shown_rows-pruned oldest n [] le = refl
  shown_rows-pruned oldest n (r ∷ rs) le = go (pruned_versions oldest r.versions) (shown-pruned_versions oldest n r.versions le) (shown_rows-pruned oldest n rs le)
    where
      go : (ws : List (Version A)) → shown_fields n ws ≡ shown_fields n r.versions → shown_rows n (pruned_rows oldest rs) ≡ shown_rows n rs
          → shown_rows n (cond (are_some ws) (record { key = r.key; versions = ws } ∷ pruned_rows oldest rs) (pruned_rows oldest rs)) ≡ shown_rows n (r ∷ rs)
      go [] e rest = rest ∙ ap (λ o. cons_option (option_map (λ f. (r.key, f)) o) (shown_rows n rs)) e
      go (w ∷ ws) e rest = (λ i. cons_option (option_map (λ f. (r.key, f)) (e i)) (rest i))

  pub shown-pruned : (oldest n : ℕ) (tables : List (VersionedRows A)) → oldest ≤ n → shown n (pruned oldest tables) ≡ shown n tables
  shown-pruned oldest n [] le = refl
  shown-pruned oldest n (rows ∷ tables) le = λ i. shown_rows-pruned oldest n rows le i ∷ shown-pruned oldest n tables le i

  -- ---- what is left

  pub one_left : (oldest : ℕ) (vs : List (Version A)) → length (filter (λ v. nat_le v.number oldest) (pruned_versions oldest vs)) ≤ 1
  one_left oldest [] = omega arith
  one_left oldest (v ∷ vs) = by_test (nat_le v.number oldest) refl (one_left oldest vs)
    where
      old : Version A → Bool
      old w = nat_le w.number oldest

      at_most_one : (b : Bool) → length (cond b (v ∷ []) []) ≤ 1
      at_most_one true = omega arith
      at_most_one false = omega arith

      if_any : (b : Bool) → length (filter (λ w. nat_le w.number oldest) (cond b (v ∷ []) [])) ≤ 1
      if_any true = at_most_one (nat_le v.number oldest)
      if_any false = omega arith

      by_test : (b : Bool) → nat_le v.number oldest ≡ b → length (filter (λ w. nat_le w.number oldest) (pruned_versions oldest vs)) ≤ 1 → length (filter (λ w. nat_le w.number oldest) (cond b (if_row v) (v ∷ pruned_versions oldest vs))) ≤ 1
      by_test true e rest = if_any (is_some v.fields)
      by_test false e rest = rw e rest

  pruned_rows-pruned : (oldest : ℕ) (rows : VersionedRows A) → AllByRecursion (IsPruned oldest) (map (pruned_key oldest) rows)
  pruned_rows-pruned oldest [] = tt
  pruned_rows-pruned oldest (r ∷ rs) = (one_left oldest r.versions, pruned_rows-pruned oldest rs)

  pub pruned-pruned : (oldest : ℕ) (tables : List (VersionedRows A)) → ArePruned oldest (pruned oldest tables)
  pruned-pruned oldest [] = tt
  pruned-pruned oldest (rows ∷ tables) = (all-filter (IsPruned oldest) has_version _ (pruned_rows-pruned oldest rows), pruned-pruned oldest tables)

  -- ---- the order of keys

  pruned-least : (oldest : ℕ) (k : Value A) (rows : VersionedRows A) → IsLeast k rows → IsLeast k (pruned_rows oldest rows)
  pruned-least oldest k [] least = tt
  pruned-least oldest k (r ∷ rs) least = by_test (has_version (pruned_key oldest r)) (pruned-least oldest k rs least.1)
    where
      by_test : (b : Bool) → IsLeast k (pruned_rows oldest rs) → IsLeast k (cond b (pruned_key oldest r ∷ pruned_rows oldest rs) (pruned_rows oldest rs))
      by_test true rest = (least.0, rest)
      by_test false rest = rest

  pub pruned_rows-in_order : (oldest : ℕ) (rows : VersionedRows A) → IsInOrder rows → IsInOrder (pruned_rows oldest rows)
  unfolding IsStrictlySortedBy
  pruned_rows-in_order oldest [] sorted = tt
  pruned_rows-in_order oldest (r ∷ rs) sorted = by_test (has_version (pruned_key oldest r)) (pruned_rows-in_order oldest rs sorted.1)
    where
      by_test : (b : Bool) → IsInOrder (pruned_rows oldest rs) → IsInOrder (cond b (pruned_key oldest r ∷ pruned_rows oldest rs) (pruned_rows oldest rs))
      by_test true rest = (pruned-least oldest r.key rs sorted.0, rest)
      by_test false rest = rest

  pub pruned-in_order : (oldest : ℕ) (tables : List (VersionedRows A)) → AreInOrder tables → AreInOrder (pruned oldest tables)
  pruned-in_order oldest tables sorted = all-map IsInOrder IsInOrder (pruned_rows oldest) (pruned_rows-in_order oldest) tables sorted

  -- ---- numbers below the next

  pub pruned_versions-below : (next oldest : ℕ) (vs : List (Version A)) → AreBelow next vs → AreBelow next (pruned_versions oldest vs)
  pruned_versions-below next oldest [] below = tt
  pruned_versions-below next oldest (v ∷ vs) below = by_test (nat_le v.number oldest) (pruned_versions-below next oldest vs below.1)
    where
      if_any : (b : Bool) → AreBelow next (cond b (v ∷ []) [])
      if_any true = (below.0, tt)
      if_any false = tt

      by_test : (b : Bool) → AreBelow next (pruned_versions oldest vs) → AreBelow next (cond b (if_row v) (v ∷ pruned_versions oldest vs))
      by_test true rest = if_any (is_some v.fields)
      by_test false rest = (below.0, rest)

  pruned_rows-below : (next oldest : ℕ) (rows : VersionedRows A) → RowsAreBelow next rows → RowsAreBelow next (pruned_rows oldest rows)
  pruned_rows-below next oldest rows below =
      all-filter (λ k. AreBelow next k.versions) has_version _ (all-map (λ k. AreBelow next k.versions) (λ k. AreBelow next k.versions) (pruned_key oldest) (λ k b. pruned_versions-below next oldest k.versions b) rows below)

  pub pruned-below : (next oldest : ℕ) (tables : List (VersionedRows A)) → TablesAreBelow next tables → TablesAreBelow next (pruned oldest tables)
  pruned-below next oldest tables below = all-map (RowsAreBelow next) (RowsAreBelow next) (pruned_rows oldest) (pruned_rows-below next oldest) tables below

  -- ---- the last commit

  pub not_above : (k : Value A) (rows : VersionedRows A) → IsLeast k rows → newest_in rows k ≡ None
  not_above k [] least = refl
  not_above k (r ∷ rs) least = rw least.0 (not_above k rs least.1)

  newest-if_row : (oldest number : ℕ) (fields : Option (List (Value A))) → number ≤ oldest → (ws : List (Version A)) → ws ≡ if_row (record { number = number; fields = fields }) → KeepsNewest oldest (Some number) (option_map (λ v. v.number) (slice_get ws 0))
  newest-if_row oldest number None le ws e = rw e le
  newest-if_row oldest number (Some f) le ws e = rw e refl

  pub newest-pruned_versions : (oldest : ℕ) (vs : List (Version A)) → KeepsNewest oldest (option_map (λ v. v.number) (slice_get vs 0)) (option_map (λ v. v.number) (slice_get (pruned_versions oldest vs) 0))
  newest-pruned_versions oldest [] = tt
  newest-pruned_versions oldest (v ∷ vs) = by_test (nat_le v.number oldest) refl
    where
      by_test : (b : Bool) → nat_le v.number oldest ≡ b → KeepsNewest oldest (Some v.number) (option_map (λ w. w.number) (slice_get (cond b (if_row v) (v ∷ pruned_versions oldest vs)) 0))
      by_test true e = newest-if_row oldest v.number v.fields (leb-true v.number oldest e) (if_row v) refl
      by_test false e = refl

  newest_in-pruned : (oldest : ℕ) (rows : VersionedRows A) (k : Value A) → IsInOrder rows → KeepsNewest oldest (newest_in rows k) (newest_in (pruned_rows oldest rows) k)
  unfolding IsStrictlySortedBy
  newest_in-pruned oldest [] k sorted = tt
  newest_in-pruned oldest (r ∷ rs) k sorted = by_key (same k r.key) refl (pruned_versions oldest r.versions) (newest-pruned_versions oldest r.versions) (newest_in-pruned oldest rs k sorted.1)
    where
      by_key : (b : Bool) → same k r.key ≡ b → (ws : List (Version A)) → KeepsNewest oldest (newest_version r) (option_map (λ v. v.number) (slice_get ws 0)) → KeepsNewest oldest (newest_in rs k) (newest_in (pruned_rows oldest rs) k)
          → KeepsNewest oldest (option_and_then newest_version (cond b (Some r) (find (λ l. same k l.key) rs))) (newest_in (cond (are_some ws) (record { key = r.key; versions = ws } ∷ pruned_rows oldest rs) (pruned_rows oldest rs)) k)
      by_key true e [] here rest =
          let gone : newest_in (pruned_rows oldest rs) k ≡ None = not_above k (pruned_rows oldest rs) (pruned-least oldest k rs (subst (λ x. IsLeast x rs) (sym (same_value k r.key e)) sorted.0)) in
          rw gone here
      by_key true e (w ∷ ws) here rest = rw e here
      by_key false e [] here rest = rest
      by_key false e (w ∷ ws) here rest = rw e rest

  pub newest-pruned : (oldest : ℕ) (tables : List (VersionedRows A)) (t : ℕ) (k : Value A) → AreInOrder tables → KeepsNewest oldest (newest tables t k) (newest (pruned oldest tables) t k)
  newest-pruned oldest tables t k sorted =
      rw (get_or-map (pruned_rows oldest) tables t []) (newest_in-pruned oldest (versions_of tables t) k (table_in_order tables t sorted))
