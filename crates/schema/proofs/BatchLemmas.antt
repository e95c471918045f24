-- Rows read from pages one after another, up to so many.
use Rattle.std.proofs.Common.{zero, suc, ◌≡◌, refl, sym, ap, ◌∙◌, ℕ, ◌+◌, ◌<◌, ◌≤◌, true, false, List, [], ◌∷◌, ◌++◌, take, drop, length, Bor, get_or, arith, append_assoc}
use Rattle.std.specs.List.{AllByRecursion}
use Rattle.std.proofs.lemmas.List.{length-map, take-append-drop}
use Rattle.std.proofs.lemmas.List.Concat.{flat_map-append}
use Rattle.std.proofs.lemmas.List.Elements.{filter-append}
use Rattle.value.specs.declared.key.Key.{Key}
use Rattle.value.proofs.Basics.{drop_next}
use Rattle.schema.specs.declared.row.Row.{Row}
use Rattle.schema.specs.declared.reader.Bound.{Bound}
use Rattle.schema.specs.Paged.{row_key, joined, is_before}
use Rattle.schema.specs.Rows.{Rows, is_within, rows_within}
use Rattle.schema.specs.Walking.{lent}
use Rattle.schema.proofs.PagedLemmas.{pages_before}

-- ---- the first so many

pub take_taken : {X : Type 0} (n : ℕ) (xs ys : List X) → take n (take n xs ++ ys) ≡ take n (xs ++ ys)
take_taken zero xs ys = refl
take_taken (suc n) [] ys = refl
take_taken (suc n) (x ∷ xs) ys = ap (λ rest. x ∷ rest) (take_taken n xs ys)

pub taken_few : {X : Type 0} (n : ℕ) (xs : List X) → length (take n xs) ≤ n
taken_few zero xs = omega arith
taken_few (suc n) [] = omega arith
taken_few (suc n) (x ∷ xs) = let rest = taken_few n xs in omega arith

module _ {A : Type 0} where
  -- ---- the rows within a bound

  within_append : (bound : Bound (Bor (Key A))) (xs ys : Rows A) → rows_within (xs ++ ys) bound ≡ rows_within xs bound ++ rows_within ys bound
  within_append bound xs ys = filter-append (λ row. is_within bound row.0) xs ys

  none_within : (bound : Bound (Bor (Key A))) (rows : Rows A) → AllByRecursion (λ row. is_within bound row.0 ≡ false) rows → rows_within rows bound ≡ []
  none_within bound [] early = refl
  none_within bound (row ∷ rows) early = rw early.0 (none_within bound rows early.1)

  all_within : (bound : Bound (Bor (Key A))) (rows : Rows A) → AllByRecursion (λ row. is_within bound row.0 ≡ true) rows → rows_within rows bound ≡ rows
  all_within bound [] late = refl
  all_within bound (row ∷ rows) late = rw late.0 (ap (λ rest. row ∷ rest) (all_within bound rows late.1))

  -- those of a page stand behind the rows that are not
  pub within_drop : (bound : Bound (Bor (Key A))) (i : ℕ) (rows : Rows A) → AllByRecursion (λ row. is_within bound row.0 ≡ false) (take i rows) → AllByRecursion (λ row. is_within bound row.0 ≡ true) (drop i rows) → drop i rows ≡ rows_within rows bound
  within_drop bound i rows early late = sym (
      ap (λ rs. rows_within rs bound) (sym (take-append-drop i rows)) ∙ within_append bound (take i rows) (drop i rows)
      ∙ ap (λ rs. rs ++ rows_within (drop i rows) bound) (none_within bound (take i rows) early) ∙ all_within bound (drop i rows) late)

  -- ---- pages

  -- those of a table stand behind the pages that have none
  pub within_pages : (bound : Bound (Bor (Key A))) (pages : List (Rows A)) (i : ℕ) → AllByRecursion (λ page. is_before bound page ≡ true) (take i pages) → rows_within (joined (drop i pages)) bound ≡ rows_within (joined pages) bound
  within_pages bound pages i early = sym (
      ap (λ ps. rows_within (joined ps) bound) (sym (take-append-drop i pages))
      ∙ ap (λ rows. rows_within rows bound) (flat_map-append (λ page. page) (take i pages) (drop i pages))
      ∙ within_append bound (joined (take i pages)) (joined (drop i pages))
      ∙ ap (λ rows. rows ++ rows_within (joined (drop i pages)) bound) (none_within bound (joined (take i pages)) (pages_before row_key (λ page. page) bound (take i pages) early)))

  -- one page more
  pub page_pushed : (i most : ℕ) (bound : Bound (Bor (Key A))) (pages : List (Rows A)) (page : Rows A) (old new : List (Bor (Row A))) (total : Rows A) → i < length pages → page ≡ get_or pages i page
      → lent new ≡ take most (lent old ++ rows_within page bound) → take most (lent old ++ rows_within (joined (drop i pages)) bound) ≡ total
      → (take most (lent new ++ rows_within (joined (drop (i + 1) pages)) bound) ≡ total) × (length new ≤ most)
  page_pushed i most bound pages page old new total lt at made so_far =
      let here : Rows A = rows_within page bound in
      let rest : Rows A = rows_within (joined (drop (i + 1) pages)) bound in
      let split : rows_within (joined (drop i pages)) bound ≡ here ++ rest =
      ap (λ ps. rows_within (joined ps) bound) (drop_next pages i page lt at) ∙ within_append bound page (joined (drop (i + 1) pages)) in
      let same : length (lent new) ≡ length new = length-map new (λ row. row.now) in
      let few : length (take most (lent old ++ here)) ≤ most = taken_few most (lent old ++ here) in
      let counted : length (lent new) ≡ length (take most (lent old ++ here)) = ap length made in (
        ap (λ rows. take most (rows ++ rest)) made ∙ take_taken most (lent old ++ here) rest ∙ ap (take most) (append_assoc (lent old) here rest ∙ ap (λ rows. lent old ++ rows) (sym split)) ∙ so_far,
        omega arith,
      )
