-- Rows that a snapshot shows, read from pages one after another, up to a number.
use Rattle.std.proofs.Common.{◌≡◌, refl, sym, ap, ◌∙◌, ℕ, ◌+◌, ◌<◌, ◌≤◌, true, false, List, [], ◌∷◌, ◌++◌, take, drop, length, Option, Some, None, Bor, get_or, arith, append_assoc}
use Rattle.std.specs.List.{AllByRecursion, cons_option}
use Rattle.std.specs.Option.{option_map}
use Rattle.std.proofs.lemmas.List.{append-nil, drop_all, length-map, map-append, take-append-drop, take_all}
use Rattle.std.proofs.lemmas.List.Concat.{flat_map-append}
use Rattle.std.proofs.lemmas.List.Elements.{filter-append, filter_map-append}
use Rattle.value.specs.declared.key.Key.{Key}
use Rattle.value.specs.declared.value.Value.{Value}
use Rattle.value.proofs.Basics.{drop_next}
use Rattle.schema.specs.declared.row.Row.{Row}
use Rattle.schema.specs.declared.reader.Bound.{Bound}
use Rattle.schema.specs.Pages.{is_before}
use Rattle.schema.specs.Rows.{Rows, is_within, rows_within}
use Rattle.schema.specs.Walking.{lent}
use Rattle.schema.proofs.BatchLemmas.{take_taken, taken_few}
use Rattle.schema.proofs.PagedLemmas.{pages_before}
use Rattle.mvrows.specs.Versions.{KeyVersions, VersionedRows, shown_fields, shown_row, shown_rows}
use Rattle.mvrows.specs.HeldRows.{Held, chain_key, rows_in}

module _ {A : Type 0} where
  -- ---- the first n

  pub ended : (n : ℕ) (rows : List (Bor (Row A))) (more total : Rows A) → more ≡ [] → length rows ≤ n → take n (lent rows ++ more) ≡ take n total → lent rows ≡ take n total
  ended n rows more total none few so_far =
      let same : length (lent rows) ≡ length rows = length-map rows (λ row. row.now) in
      let within : length (lent rows) ≤ n = omega arith in
      sym (take_all n (lent rows) within) ∙ ap (take n) (sym (append-nil (lent rows)) ∙ ap (λ rest. lent rows ++ rest) (sym none)) ∙ so_far

  -- ---- the keys of a page

  further : (n i : ℕ) (keys : VersionedRows A) (k : KeyVersions A) (o : Option (Row A)) → i < length keys → k ≡ get_or keys i k → o ≡ shown_row n k → shown_rows n (drop i keys) ≡ cons_option o (shown_rows n (drop (i + 1) keys))
  further n i keys k o lt at shows = ap (shown_rows n) (drop_next keys i k lt at) ∙ ap (λ p. cons_option p (shown_rows n (drop (i + 1) keys))) (sym shows)

  -- a key with a row
  pub row_pushed : (n i most : ℕ) (keys : VersionedRows A) (k : KeyVersions A) (row : Bor (Row A)) (old new : List (Bor (Row A))) (total : Rows A) → i < length keys → k ≡ get_or keys i k → Some row.now ≡ shown_row n k → new ≡ old ++ row ∷ []
      → take most (lent old ++ shown_rows n (drop i keys)) ≡ total → take most (lent new ++ shown_rows n (drop (i + 1) keys)) ≡ total
  row_pushed n i most keys k row old new total lt at shows made so_far =
      let rest : Rows A = shown_rows n (drop (i + 1) keys) in
      let all : lent new ++ rest ≡ lent old ++ shown_rows n (drop i keys) =
      ap (λ rows. lent rows ++ rest) made ∙ ap (λ rows. rows ++ rest) (map-append (λ row. row.now) old (row ∷ [])) ∙ append_assoc (lent old) (row.now ∷ []) rest
      ∙ ap (λ rows. lent old ++ rows) (sym (further n i keys k (Some row.now) lt at shows)) in
      ap (take most) all ∙ so_far

  -- a key without one
  pub row_passed : (n i most : ℕ) (keys : VersionedRows A) (k : KeyVersions A) (rows : List (Bor (Row A))) (total : Rows A) → i < length keys → k ≡ get_or keys i k → None ≡ shown_row n k
      → take most (lent rows ++ shown_rows n (drop i keys)) ≡ total → take most (lent rows ++ shown_rows n (drop (i + 1) keys)) ≡ total
  row_passed n i most keys k rows total lt at shows so_far = ap (λ more. take most (lent rows ++ more)) (sym (further n i keys k None lt at shows)) ∙ so_far

  pub none_further : (n i : ℕ) (keys : VersionedRows A) → length keys ≤ i → shown_rows n (drop i keys) ≡ []
  none_further n i keys past = ap (shown_rows n) (drop_all i keys past)

  -- ---- the rows within a bound

  within_append : (n : ℕ) (bound : Bound (Bor (Key A))) (xs ys : VersionedRows A) → rows_within (shown_rows n (xs ++ ys)) bound ≡ rows_within (shown_rows n xs) bound ++ rows_within (shown_rows n ys) bound
  within_append n bound xs ys = ap (λ rows. rows_within rows bound) (filter_map-append (shown_row n) xs ys) ∙ filter-append (λ row. is_within bound row.0) (shown_rows n xs) (shown_rows n ys)

  none_within : (n : ℕ) (bound : Bound (Bor (Key A))) (keys : VersionedRows A) → AllByRecursion (λ k. is_within bound k.key ≡ false) keys → rows_within (shown_rows n keys) bound ≡ []
  none_within n bound [] early = refl
  none_within n bound (k ∷ ks) early = go (shown_fields n k.versions) (none_within n bound ks early.1)
    where
      go : (o : Option (List (Value A))) → rows_within (shown_rows n ks) bound ≡ [] → rows_within (cons_option (option_map (λ f. (k.key, f)) o) (shown_rows n ks)) bound ≡ []
      go None rest = rest
      go (Some f) rest = rw early.0 rest

  all_within : (n : ℕ) (bound : Bound (Bor (Key A))) (keys : VersionedRows A) → AllByRecursion (λ k. is_within bound k.key ≡ true) keys → rows_within (shown_rows n keys) bound ≡ shown_rows n keys
  all_within n bound [] late = refl
  all_within n bound (k ∷ ks) late = go (shown_fields n k.versions) (all_within n bound ks late.1)
    where
      go : (o : Option (List (Value A))) → rows_within (shown_rows n ks) bound ≡ shown_rows n ks → rows_within (cons_option (option_map (λ f. (k.key, f)) o) (shown_rows n ks)) bound ≡ cons_option (option_map (λ f. (k.key, f)) o) (shown_rows n ks)
      go None rest = rest
      go (Some f) rest = rw late.0 (ap (λ rows. (k.key, f) ∷ rows) rest)

  -- those of a page come after the keys that are not
  pub within_drop : (n : ℕ) (bound : Bound (Bor (Key A))) (i : ℕ) (keys : VersionedRows A) → AllByRecursion (λ k. is_within bound k.key ≡ false) (take i keys) → AllByRecursion (λ k. is_within bound k.key ≡ true) (drop i keys) → shown_rows n (drop i keys) ≡ rows_within (shown_rows n keys) bound
  within_drop n bound i keys early late = sym (
      ap (λ ks. rows_within (shown_rows n ks) bound) (sym (take-append-drop i keys)) ∙ within_append n bound (take i keys) (drop i keys)
      ∙ ap (λ rows. rows ++ rows_within (shown_rows n (drop i keys)) bound) (none_within n bound (take i keys) early) ∙ all_within n bound (drop i keys) late)

  -- ---- pages

  -- those of a table come after the pages that have none
  pub within_pages : (n : ℕ) (bound : Bound (Bor (Key A))) (leaves : List (Held A)) (i : ℕ) → AllByRecursion (λ h. is_before chain_key bound h.rows ≡ true) (take i leaves) → rows_within (shown_rows n (rows_in (drop i leaves))) bound ≡ rows_within (shown_rows n (rows_in leaves)) bound
  within_pages n bound leaves i early = sym (
      ap (λ hs. rows_within (shown_rows n (rows_in hs)) bound) (sym (take-append-drop i leaves))
      ∙ ap (λ rows. rows_within (shown_rows n rows) bound) (flat_map-append (λ (h : Held A). h.rows) (take i leaves) (drop i leaves))
      ∙ within_append n bound (rows_in (take i leaves)) (rows_in (drop i leaves))
      ∙ ap (λ rows. rows ++ rows_within (shown_rows n (rows_in (drop i leaves))) bound) (none_within n bound (rows_in (take i leaves)) (pages_before chain_key (λ h. h.rows) bound (take i leaves) early)))

  -- one page more
  pub page_pushed : (n i most : ℕ) (bound : Bound (Bor (Key A))) (leaves : List (Held A)) (h : Held A) (page : VersionedRows A) (old new : List (Bor (Row A))) (total : Rows A) → i < length leaves → h ≡ get_or leaves i h → page ≡ h.rows
      → lent new ≡ take most (lent old ++ rows_within (shown_rows n page) bound) → take most (lent old ++ rows_within (shown_rows n (rows_in (drop i leaves))) bound) ≡ total
      → (take most (lent new ++ rows_within (shown_rows n (rows_in (drop (i + 1) leaves))) bound) ≡ total) × (length new ≤ most)
  page_pushed n i most bound leaves h page old new total lt at is made so_far =
      let here : Rows A = rows_within (shown_rows n page) bound in
      let rest : Rows A = rows_within (shown_rows n (rows_in (drop (i + 1) leaves))) bound in
      let split : rows_within (shown_rows n (rows_in (drop i leaves))) bound ≡ here ++ rest =
      ap (λ ls. rows_within (shown_rows n (rows_in ls)) bound) (drop_next leaves i h lt at) ∙ within_append n bound h.rows (rows_in (drop (i + 1) leaves))
      ∙ ap (λ p. rows_within (shown_rows n p) bound ++ rest) (sym is) in
      let same : length (lent new) ≡ length new = length-map new (λ row. row.now) in
      let few : length (take most (lent old ++ here)) ≤ most = taken_few most (lent old ++ here) in
      let counted : length (lent new) ≡ length (take most (lent old ++ here)) = ap length made in (
        ap (λ rows. take most (rows ++ rest)) made ∙ take_taken most (lent old ++ here) rest ∙ ap (take most) (append_assoc (lent old) here rest ∙ ap (λ rows. lent old ++ rows) (sym split)) ∙ so_far,
        omega arith,
      )
