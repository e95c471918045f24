-- The rows that a snapshot shows, put into plain tables one after another.
use Rattle.std.proofs.Common.{suc, zero, ◌≡◌, refl, sym, ap, subst, ◌∙◌, ℕ, ◌+◌, ◌<◌, List, [], ◌∷◌, ◌++◌, take, drop, map, length, Some, None, get_or, set, arith, append_assoc}
use Rattle.std.specs.List.{AllByRecursion, cons_option}
use Rattle.std.specs.List.Sorted.{IsStrictlySortedBy}
use Rattle.std.specs.Ordering.{ordering_reverse}
use Rattle.std.specs.declared.cmp.Ordering.TheVariants.{Less, Greater}
use Rattle.std.proofs.lemmas.List.{length-map, length-take-le, map-append, append-nil, get_or-set_same, set-set}
use Rattle.value.specs.Order.{value_cmp, value_cmp-total}
use Rattle.value.specs.declared.value.Value.{Value}
use Rattle.value.proofs.Basics.{drop_next, take_next}
use Rattle.schema.specs.declared.row.Row.{Row}
use Rattle.schema.specs.declared.tables.Tables.{Tables}
use Rattle.schema.specs.Plain.{rows_of}
use Rattle.schema.specs.Rows.{Rows, IsInKeyOrder, put_row}
use Rattle.schema.proofs.PagedLemmas.{pushed}
use Rattle.mvrows.specs.Versions.{KeyVersions, VersionedRows, IsInOrder, shown_row, shown_rows, shown}
use Rattle.mvrows.specs.HeldRows.{Held, chain_key, rows_in, rows_held}
use Rattle.mvrows.specs.Copied.{put_rows, with_rows}
use Rattle.mvrows.proofs.JoinedLemmas.{shown_rows-append}
use Rattle.mvrows.proofs.ViewLemmas.{shown-in_order}

module _ {A : Type 0} where
  -- ---- one table

  put_rows-append : (rows xs ys : Rows A) → put_rows rows (xs ++ ys) ≡ put_rows (put_rows rows xs) ys
  put_rows-append rows [] ys = refl
  put_rows-append rows (x ∷ xs) ys = put_rows-append (put_row rows x) xs ys

  with_rows-append : (X : Tables A) (t : ℕ) (xs ys : Rows A) → t < length X → with_rows (with_rows X t xs) t ys ≡ with_rows X t (xs ++ ys)
  with_rows-append X t xs ys lt =
      set-set X t (put_rows (rows_of X t) xs) _
      ∙ ap (λ rows. set X t (put_rows rows ys)) (get_or-set_same X t (put_rows (rows_of X t) xs) [] lt)
      ∙ ap (set X t) (sym (put_rows-append (rows_of X t) xs ys))

  -- one more key
  pub key-shown : (n : ℕ) (rows : VersionedRows A) (i : ℕ) (k : KeyVersions A) (row : Row A) (X Y Z : Tables A) (t : ℕ) → i < length rows → k ≡ get_or rows i k → shown_row n k ≡ Some row → t < length X
      → Y ≡ with_rows X t (shown_rows n (take i rows)) → Z ≡ set Y t (put_row (rows_of Y t) row) → Z ≡ with_rows X t (shown_rows n (take (i + 1) rows))
  key-shown n rows i k row X Y Z t lt at shows has so_far put =
      put ∙ ap (λ W. with_rows W t (row ∷ [])) so_far
      ∙ with_rows-append X t (shown_rows n (take i rows)) (row ∷ []) has
      ∙ ap (with_rows X t) (sym (ap (shown_rows n) (take_next rows i k lt at) ∙ shown_rows-append n (take i rows) (k ∷ []) ∙ ap (λ o. shown_rows n (take i rows) ++ cons_option o []) shows))

  pub key-not_shown : (n : ℕ) (rows : VersionedRows A) (i : ℕ) (k : KeyVersions A) (X Y : Tables A) (t : ℕ) → i < length rows → k ≡ get_or rows i k → shown_row n k ≡ None
      → Y ≡ with_rows X t (shown_rows n (take i rows)) → Y ≡ with_rows X t (shown_rows n (take (i + 1) rows))
  key-not_shown n rows i k X Y t lt at shows so_far =
      so_far
      ∙ ap (with_rows X t) (sym (ap (shown_rows n) (take_next rows i k lt at) ∙ shown_rows-append n (take i rows) (k ∷ []) ∙ ap (λ o. shown_rows n (take i rows) ++ cons_option o []) shows ∙ append-nil (shown_rows n (take i rows))))

  -- one more page
  page-more : (leaves : List (Held A)) (i : ℕ) (h : Held A) → i < length leaves → h ≡ get_or leaves i h → rows_in (take (i + 1) leaves) ≡ rows_in (take i leaves) ++ h.rows
  page-more leaves i h lt at = pushed chain_key (λ (h : Held A). h.rows) (take i leaves) (take (i + 1) leaves) h (take_next leaves i h lt at)

  pub page-shown : (n : ℕ) (leaves : List (Held A)) (i : ℕ) (h : Held A) (page : VersionedRows A) (X Y Z : Tables A) (t : ℕ) → i < length leaves → h ≡ get_or leaves i h → page ≡ h.rows → t < length X
      → Y ≡ with_rows X t (shown_rows n (rows_in (take i leaves))) → Z ≡ with_rows Y t (shown_rows n page) → Z ≡ with_rows X t (shown_rows n (rows_in (take (i + 1) leaves)))
  page-shown n leaves i h page X Y Z t lt at is has so_far put =
      put ∙ ap (λ W. with_rows W t (shown_rows n page)) so_far
      ∙ with_rows-append X t (shown_rows n (rows_in (take i leaves))) (shown_rows n page) has
      ∙ ap (λ rows. with_rows X t (shown_rows n (rows_in (take i leaves)) ++ shown_rows n rows)) is
      ∙ ap (with_rows X t) (sym (ap (shown_rows n) (page-more leaves i h lt at) ∙ shown_rows-append n (rows_in (take i leaves)) h.rows))

  -- ---- rows in key order, put into a table without rows

  -- a key above those of a table
  abbrev IsLast : Rows A → Value A → Type 0
  IsLast rows k = AllByRecursion (λ row. value_cmp row.0 k ≡ Less) rows

  last-of : (rows : Rows A) (row : Row A) (more : Rows A) → IsInKeyOrder (rows ++ row ∷ more) → IsLast rows row.0
  unfolding IsStrictlySortedBy
  last-of [] row more sorted = tt
  last-of (first ∷ rest) row more sorted = (least rest sorted.0, last-of rest row more sorted.1)
    where
      least : (rs : Rows A) → AllByRecursion (λ l. value_cmp first.0 l ≡ Less) (map (λ r. r.0) (rs ++ row ∷ more)) → value_cmp first.0 row.0 ≡ Less
      least [] all = all.0
      least (r ∷ rs) all = least rs all.1

  put-last : (rows : Rows A) (row : Row A) → IsLast rows row.0 → put_row rows row ≡ rows ++ row ∷ []
  put-last [] row last = refl
  put-last (first ∷ rest) row last =
      let above : value_cmp row.0 first.0 ≡ Greater = value_cmp-total.antisymm row.0 first.0 ∙ ap ordering_reverse last.0 in
      rw above (ap (λ left. first ∷ left) (put-last rest row last.1))

  put-ordered : (rows more : Rows A) → IsInKeyOrder (rows ++ more) → put_rows rows more ≡ rows ++ more
  put-ordered rows [] sorted = sym (append-nil rows)
  put-ordered rows (row ∷ more) sorted =
      let moved : (rows ++ row ∷ []) ++ more ≡ rows ++ row ∷ more = append_assoc rows (row ∷ []) more in
      ap (λ left. put_rows left more) (put-last rows row (last-of rows row more sorted))
      ∙ put-ordered (rows ++ row ∷ []) more (subst IsInKeyOrder (sym moved) sorted) ∙ moved

  pub table-copied : (n : ℕ) (leaves : List (Held A)) (X Y : Tables A) (t : ℕ) → rows_of X t ≡ [] → IsInOrder (rows_in leaves) → Y ≡ with_rows X t (shown_rows n (rows_in leaves)) → Y ≡ set X t (shown_rows n (rows_in leaves))
  table-copied n leaves X Y t none sorted is =
      is ∙ ap (λ rows. set X t (put_rows rows (shown_rows n (rows_in leaves)))) none
      ∙ ap (set X t) (put-ordered [] (shown_rows n (rows_in leaves)) (shown-in_order n (rows_in leaves) sorted))

  -- ---- all tables

  abbrev pub empties : List (List (Held A)) → Tables A
  empties tables = map (λ t. []) tables

  set-empty : (done : Tables A) (rows : Rows A) (rest : Tables A) (i : ℕ) (x : Rows A) → length done ≡ i → set (done ++ rows ∷ rest) i x ≡ (done ++ x ∷ []) ++ rest
  set-empty [] rows rest zero x long = refl
  set-empty [] rows rest (suc i) x long = absurd (omega (arith, long))
  set-empty (d ∷ ds) rows rest zero x long = absurd (omega (arith, long))
  set-empty (d ∷ ds) rows rest (suc i) x long = ap (λ left. d ∷ left) (set-empty ds rows rest i x (omega (arith, long)))

  middle : (done : Tables A) (rows : Rows A) (rest : Tables A) (i : ℕ) → length done ≡ i → get_or (done ++ rows ∷ rest) i [] ≡ rows
  middle [] rows rest zero long = refl
  middle [] rows rest (suc i) long = absurd (omega (arith, long))
  middle (d ∷ ds) rows rest zero long = absurd (omega (arith, long))
  middle (d ∷ ds) rows rest (suc i) long = middle ds rows rest i (omega (arith, long))

  -- the tables so far, and as many without rows as are left
  abbrev pub so_far_copied : ℕ → ℕ → List (List (Held A)) → Tables A
  so_far_copied n i tables = shown n (rows_held (take i tables)) ++ empties (drop i tables)

  done-long : (n i : ℕ) (tables : List (List (Held A))) → i < length tables → length (shown n (rows_held (take i tables))) ≡ i
  done-long n i tables lt =
      length-map (rows_held (take i tables)) (shown_rows n) ∙ length-map (take i tables) (λ (t : List (Held A)). rows_in t) ∙ length-take-le i tables (omega (arith, lt))

  next-empty : (n i : ℕ) (tables : List (List (Held A))) (old : List (Held A)) → i < length tables → old ≡ get_or tables i old → so_far_copied n i tables ≡ shown n (rows_held (take i tables)) ++ [] ∷ empties (drop (i + 1) tables)
  next-empty n i tables old lt at = ap (λ ts. shown n (rows_held (take i tables)) ++ empties ts) (drop_next tables i old lt at)

  pub table-none : (n i : ℕ) (tables : List (List (Held A))) (old : List (Held A)) (X : Tables A) (t : ℕ) → i < length tables → old ≡ get_or tables i old → t ≡ i → X ≡ so_far_copied n i tables → rows_of X t ≡ []
  table-none n i tables old X t lt at place is =
      ap (rows_of X) place ∙ ap (λ (Y : Tables A). rows_of Y i) (is ∙ next-empty n i tables old lt at)
      ∙ middle (shown n (rows_held (take i tables))) [] (empties (drop (i + 1) tables)) i (done-long n i tables lt)

  -- one more table
  pub table-more : (n i : ℕ) (tables : List (List (Held A))) (old : List (Held A)) (X Y : Tables A) (t : ℕ) → i < length tables → old ≡ get_or tables i old → t ≡ i → X ≡ so_far_copied n i tables → Y ≡ set X t (shown_rows n (rows_in old)) → Y ≡ so_far_copied n (i + 1) tables
  table-more n i tables old X Y t lt at place so_far put =
      put ∙ (λ j. set (so_far j) (place j) (shown_rows n (rows_in old)))
      ∙ ap (λ (Z : Tables A). set Z i (shown_rows n (rows_in old))) (next-empty n i tables old lt at)
      ∙ set-empty (shown n (rows_held (take i tables))) [] (empties (drop (i + 1) tables)) i (shown_rows n (rows_in old)) (done-long n i tables lt)
      ∙ ap (λ done. done ++ empties (drop (i + 1) tables)) (sym (
      ap (λ ts. shown n (rows_held ts)) (take_next tables i old lt at)
      ∙ ap (shown n) (map-append rows_in (take i tables) (old ∷ []))
      ∙ map-append (shown_rows n) (rows_held (take i tables)) (rows_in old ∷ [])))

  -- as many empty tables
  pub as_many : {X Y : Type 0} (xs : List X) (ys : List Y) → length xs ≡ length ys → map {B = Rows A} (λ x. []) xs ≡ map (λ y. []) ys
  as_many [] [] long = refl
  as_many [] (y ∷ ys) long = absurd (omega (arith, long))
  as_many (x ∷ xs) [] long = absurd (omega (arith, long))
  as_many (x ∷ xs) (y ∷ ys) long = ap (λ rest. [] ∷ rest) (as_many xs ys (omega (arith, long)))
