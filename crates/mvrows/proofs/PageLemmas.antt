-- Keys in key order: where one stands, and what is changed there.
use Rattle.std.proofs.Common.{suc, zero, ◌≡◌, refl, sym, ap, subst, ◌∙◌, ℕ, ◌+◌, ◌<◌, ◌≤◌, Bool, true, false, cond, List, [], ◌∷◌, ◌++◌, take, drop, map, length, Option, Some, None, get_or, set, Bor, add-one}
use Rattle.std.proofs.lemmas.Option.{slice_get_within}
use Rattle.std.specs.Prelude.{slice_get, filter}
use Rattle.std.specs.List.{AllByRecursion, cons_option}
use Rattle.std.specs.List.Sorted.{IsStrictlySortedBy}
use Rattle.std.specs.Option.{option_map, option_map_or}
use Rattle.std.specs.Ordering.{is_le}
use Rattle.std.specs.declared.cmp.Ordering.TheVariants.{Less}
use Rattle.std.proofs.lemmas.List.{set_split, drop_all}
use Rattle.value.specs.Order.{value_cmp}
use Rattle.value.specs.declared.key.Key.{Key}
use Rattle.value.specs.declared.value.Value.{Value}
use Rattle.value.proofs.Basics.{Equal-from_eq, Less-from_le, below-passed, drop_next, slice_get-drop, slice_get-none, slice_get_item}
use Rattle.schema.specs.declared.row.Row.{Row}
use Rattle.schema.specs.declared.reader.Bound.{Bound}
use Rattle.schema.specs.Plain.{same}
use Rattle.schema.specs.Rows.{is_within, next_row}
use Rattle.schema.proofs.PagedLemmas.{local-parted}
use Rattle.mvrows.specs.Versions.{Version, KeyVersions, VersionedRows, IsInOrder, shown_fields, shown_row, shown_rows}
use Rattle.mvrows.specs.Installing.{first_version, newer, put_version}
use Rattle.mvrows.specs.Pruning.{has_version}
use Rattle.mvrows.specs.HeldRows.{chain_key}
use Rattle.mvrows.proofs.VersionLemmas.{IsLeast}
use Rattle.mvrows.proofs.JoinedLemmas.{put-local}

-- what stands at a place, and what comes after it
pub drop-at : {X : Type 0} (xs : List X) (i : ℕ) (x : X) → slice_get xs i ≡ Some x → drop i xs ≡ x ∷ drop (i + 1) xs
drop-at xs i x e = rw add-one (slice_get-drop xs i x e)

module _ {A : Type 0} where
  -- ---- the next row

  next-early : (n : ℕ) (bound : Bound (Bor (Key A))) (i : ℕ) (rows : VersionedRows A) → AllByRecursion (λ k. is_within bound k.key ≡ false) (take i rows) → next_row (shown_rows n rows) bound ≡ next_row (shown_rows n (drop i rows)) bound
  next-early n bound zero rows early = refl
  next-early n bound (suc i) [] early = refl
  next-early n bound (suc i) (r ∷ rs) early = go (shown_fields n r.versions) (next-early n bound i rs early.1)
    where
      go : (o : Option (List (Value A))) → next_row (shown_rows n rs) bound ≡ next_row (shown_rows n (drop i rs)) bound → next_row (cons_option (option_map (λ f. (r.key, f)) o) (shown_rows n rs)) bound ≡ next_row (shown_rows n (drop i rs)) bound
      go None rest = rest
      go (Some f) rest = rw early.0 rest

  next-late : (n : ℕ) (bound : Bound (Bor (Key A))) (rows : VersionedRows A) → AllByRecursion (λ k. is_within bound k.key ≡ true) rows → next_row (shown_rows n rows) bound ≡ slice_get (shown_rows n rows) 0
  next-late n bound [] late = refl
  next-late n bound (r ∷ rs) late = go (shown_fields n r.versions) (next-late n bound rs late.1)
    where
      go : (o : Option (List (Value A))) → next_row (shown_rows n rs) bound ≡ slice_get (shown_rows n rs) 0 → next_row (cons_option (option_map (λ f. (r.key, f)) o) (shown_rows n rs)) bound ≡ slice_get (cons_option (option_map (λ f. (r.key, f)) o) (shown_rows n rs)) 0
      go None rest = rest
      go (Some f) rest = rw late.0 refl

  pub next_row-from : (n : ℕ) (bound : Bound (Bor (Key A))) (i : ℕ) (rows : VersionedRows A) → AllByRecursion (λ k. is_within bound k.key ≡ false) (take i rows) → AllByRecursion (λ k. is_within bound k.key ≡ true) (drop i rows) → next_row (shown_rows n rows) bound ≡ slice_get (shown_rows n (drop i rows)) 0
  next_row-from n bound i rows early late = next-early n bound i rows early ∙ next-late n bound (drop i rows) late

  pub first-here : (n i : ℕ) (rows : VersionedRows A) (k : KeyVersions A) (row : Row A) → i < length rows → k ≡ get_or rows i k → shown_row n k ≡ Some row → slice_get (shown_rows n rows) 0 ≡ slice_get (shown_rows n (drop i rows)) 0 → slice_get (shown_rows n rows) 0 ≡ Some row
  first-here n i rows k row lt at shows so_far = so_far ∙ ap (λ ks. slice_get (shown_rows n ks) 0) (drop_next rows i k lt at) ∙ ap (λ o. slice_get (cons_option o (shown_rows n (drop (i + 1) rows))) 0) shows

  pub first-later : (n i : ℕ) (rows : VersionedRows A) (k : KeyVersions A) → i < length rows → k ≡ get_or rows i k → shown_row n k ≡ None → slice_get (shown_rows n rows) 0 ≡ slice_get (shown_rows n (drop i rows)) 0 → slice_get (shown_rows n rows) 0 ≡ slice_get (shown_rows n (drop (i + 1) rows)) 0
  first-later n i rows k lt at shows so_far = so_far ∙ ap (λ ks. slice_get (shown_rows n ks) 0) (drop_next rows i k lt at) ∙ ap (λ o. slice_get (cons_option o (shown_rows n (drop (i + 1) rows))) 0) shows

  pub first-none : (n i : ℕ) (rows : VersionedRows A) → length rows ≤ i → slice_get (shown_rows n rows) 0 ≡ slice_get (shown_rows n (drop i rows)) 0 → slice_get (shown_rows n rows) 0 ≡ None
  first-none n i rows past so_far = so_far ∙ ap (λ ks. slice_get (shown_rows n ks) 0) (drop_all i rows past)

  -- ---- a newer version

  pub put-here : (key : Value A) (v : Version A) (i : ℕ) (rows : VersionedRows A) (k : KeyVersions A) → AllByRecursion (λ r. is_le (value_cmp key r.key) ≡ false) (take i rows) → slice_get rows i ≡ Some k → same key k.key ≡ true → set rows i (newer v k) ≡ put_version key v rows
  put-here key v i rows k early at is =
      let e : put_version key v (k ∷ drop (suc i) rows) ≡ newer v k ∷ drop (suc i) rows = rw (Equal-from_eq (value_cmp key k.key) is) refl in
      set_split rows i (newer v k) (slice_get_within rows i k at)
      ∙ sym (local-parted chain_key key (put_version key v) i rows (put-local key v) early ∙ ap (λ ks. take i rows ++ put_version key v ks) (slice_get-drop rows i k at) ∙ ap (λ ks. take i rows ++ ks) e)

  pub put-new : (key : Value A) (v : Version A) (i : ℕ) (rows : VersionedRows A) → AllByRecursion (λ r. is_le (value_cmp key r.key) ≡ false) (take i rows) → AllByRecursion (λ r. is_le (value_cmp key r.key) ≡ true) (drop i rows) → option_map_or (λ k. same key k.key) (slice_get rows i) false ≡ false
      → take i rows ++ first_version key v ∷ drop i rows ≡ put_version key v rows
  put-new key v i rows early late isnt = go (slice_get rows i) refl isnt
    where
      go : (o : Option (KeyVersions A)) → slice_get rows i ≡ o → option_map_or (λ k. same key k.key) o false ≡ false → take i rows ++ first_version key v ∷ drop i rows ≡ put_version key v rows
      go None at e = ap (λ ks. take i rows ++ first_version key v ∷ ks) (slice_get-none rows i at) ∙ sym (local-parted chain_key key (put_version key v) i rows (put-local key v) early ∙ ap (λ ks. take i rows ++ put_version key v ks) (slice_get-none rows i at))
      go (Some k) at e =
          let cut = slice_get-drop rows i k at in
          let late_here = subst (AllByRecursion (λ (r : KeyVersions A). is_le (value_cmp key r.key) ≡ true)) cut late in
          let below : value_cmp key k.key ≡ Less = Less-from_le (value_cmp key k.key) late_here.0 e in
          let f : put_version key v (k ∷ drop (suc i) rows) ≡ first_version key v ∷ k ∷ drop (suc i) rows = rw below refl in
          ap (λ ks. take i rows ++ first_version key v ∷ ks) cut
          ∙ sym (local-parted chain_key key (put_version key v) i rows (put-local key v) early ∙ ap (λ ks. take i rows ++ put_version key v ks) cut ∙ ap (λ ks. take i rows ++ ks) f)

  pub put-at : (key : Value A) (v : Version A) (i : ℕ) (rows : VersionedRows A) (k more : KeyVersions A) → AllByRecursion (λ r. is_le (value_cmp key r.key) ≡ false) (take i rows) → k ≡ get_or rows i k → option_map_or (λ r. same key r.key) (slice_get rows i) false ≡ true → more ≡ newer v k → set rows i more ≡ put_version key v rows
  put-at key v i rows k more early at is put =
      let lt = below-passed (λ (r : KeyVersions A). same key r.key) rows i is in
      let here = slice_get_item rows i k lt at in
      ap (set rows i) put ∙ put-here key v i rows k early here (sym (ap (λ o. option_map_or (λ (r : KeyVersions A). same key r.key) o false) here) ∙ is)

  pub put-inserted : (key : Value A) (v : Version A) (i : ℕ) (rows more : VersionedRows A) (k : KeyVersions A) → AllByRecursion (λ r. is_le (value_cmp key r.key) ≡ false) (take i rows) → AllByRecursion (λ r. is_le (value_cmp key r.key) ≡ true) (drop i rows) → option_map_or (λ r. same key r.key) (slice_get rows i) false ≡ false
      → k ≡ first_version key v → more ≡ take i rows ++ k ∷ drop i rows → more ≡ put_version key v rows
  put-inserted key v i rows more k early late isnt made put = put ∙ ap (λ x. take i rows ++ x ∷ drop i rows) made ∙ put-new key v i rows early late isnt

  -- ---- keys that keep some versions stay in order

  abbrev pub trimmed : (List (Version A) → List (Version A)) → KeyVersions A → KeyVersions A
  trimmed f r = record r { versions = f r.versions }

  pub kept-least : (f : List (Version A) → List (Version A)) (k : Value A) (rows : VersionedRows A) → IsLeast k rows → IsLeast k (filter has_version (map (trimmed f) rows))
  kept-least f k [] least = tt
  kept-least f k (r ∷ rs) least = by_test (has_version (trimmed f r)) (kept-least f k rs least.1)
    where
      left : VersionedRows A
      left = filter has_version (map (trimmed f) rs)

      by_test : (b : Bool) → IsLeast k left → IsLeast k (cond b (trimmed f r ∷ left) left)
      by_test true rest = (least.0, rest)
      by_test false rest = rest

  pub kept-in_order : (f : List (Version A) → List (Version A)) (rows : VersionedRows A) → IsInOrder rows → IsInOrder (filter has_version (map (trimmed f) rows))
  unfolding IsStrictlySortedBy
  kept-in_order f [] sorted = tt
  kept-in_order f (r ∷ rs) sorted = by_test (has_version (trimmed f r)) (kept-in_order f rs sorted.1)
    where
      left : VersionedRows A
      left = filter has_version (map (trimmed f) rs)

      by_test : (b : Bool) → IsInOrder left → IsInOrder (cond b (trimmed f r ∷ left) left)
      by_test true rest = (kept-least f r.key rs sorted.0, rest)
      by_test false rest = rest
