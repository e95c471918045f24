-- A table's pages, of which it has some for itself, while they are changed, cut and dropped.
use Rattle.std.proofs.Common.{suc, zero, ◌≡◌, refl, sym, ap, subst, ◌∙◌, ℕ, ◌+◌, ◌<◌, ◌≤◌, Bool, true, false, true≢false, cond, List, [], ◌∷◌, ◌++◌, drop, map, length, Option, Some, None, Bor, get_or, set, arith, inl, inr, append_assoc}
use Rattle.std.specs.Prelude.{filter, ◌⊎◌}
use Rattle.std.specs.List.{AllByRecursion, flat_map}
use Rattle.std.specs.Option.{option_or}
use Rattle.std.proofs.lemmas.List.{map-append, append-nil, drop_all}
use Rattle.std.proofs.lemmas.List.Elements.{filter-append}
use Rattle.value.specs.declared.value.Value.{Value}
use Rattle.value.specs.declared.key.Key.{Key}
use Rattle.value.proofs.Basics.{all-get, all-parts, drop_next}
use Rattle.schema.specs.declared.row.Row.{Row}
use Rattle.schema.specs.declared.reader.Bound.{Bound}
use Rattle.schema.specs.Paged.{joined as all_of}
use Rattle.schema.specs.Rows.{next_row}
use Rattle.schema.proofs.PageLemmas.{one-in_order}
use Rattle.schema.proofs.PagedLemmas.{Below, least-append, least-join, in_order-cut, in_order-join, cut_pages, cut-flat, cut-all, same-in}
use Rattle.mvrows.specs.Versions.{Version, VersionedRows, IsInOrder, shown_rows}
use Rattle.mvrows.specs.Installing.{opened_row, first_version, put_version}
use Rattle.mvrows.specs.Pruning.{has_version, pruned_key, pruned_rows, pruned_versions}
use Rattle.mvrows.specs.TakenBack.{key_before, rows_before, versions_before}
use Rattle.mvrows.specs.HeldRows.{Held, chain_key, pages_of, rows_in, has_keys, AreLaidOut, undone, undone_in, IsUndoable, AreUndoable, own_pruned, AllVersioned}
use Rattle.mvrows.proofs.VersionLemmas.{IsLeast}
use Rattle.mvrows.proofs.PageLemmas.{trimmed, kept-least, kept-in_order}
use Rattle.mvrows.proofs.HeldLemmas.{before-put, front-in_order, undone-own, undone-kept, undoable-own}
use Rattle.mvrows.proofs.JoinedLemmas.{next-append}

-- ---- lists

all-of_map : {X Y : Type 0} (P : Y → Type 0) (f : X → Y) (xs : List X) → AllByRecursion (λ x. P (f x)) xs → AllByRecursion P (map f xs)
all-of_map P f [] all = tt
all-of_map P f (x ∷ xs) all = (all.0, all-of_map P f xs all.1)

all-from_map : {X Y : Type 0} (P : Y → Type 0) (f : X → Y) (xs : List X) → AllByRecursion P (map f xs) → AllByRecursion (λ x. P (f x)) xs
all-from_map P f [] all = tt
all-from_map P f (x ∷ xs) all = (all.0, all-from_map P f xs all.1)

-- a function of each element, flattened
flat-map : {X Z : Type 0} (f : X → List Z) (xs : List X) → flat_map f xs ≡ flat_map (λ z. z) (map f xs)
flat-map f [] = refl
flat-map f (x ∷ xs) = ap (λ rest. f x ++ rest) (flat-map f xs)

pub flat-same : {X Y Z : Type 0} (f : X → List Z) (g : Y → List Z) (xs : List X) (ys : List Y) → map f xs ≡ map g ys → flat_map f xs ≡ flat_map g ys
flat-same f g xs ys same = flat-map f xs ∙ ap (flat_map (λ z. z)) same ∙ sym (flat-map g ys)

module _ {A : Type 0} where
  -- ---- tables of the same pages

  pub same-rows : (leaves more : List (Held A)) → pages_of more ≡ pages_of leaves → rows_in more ≡ rows_in leaves
  same-rows leaves more same = flat-same (λ (h : Held A). h.rows) (λ h. h.rows) more leaves same

  pub same-pages_laid_out : (leaves more : List (Held A)) → pages_of more ≡ pages_of leaves → AreLaidOut leaves → AreLaidOut more
  same-pages_laid_out leaves more same laid = (
    subst IsInOrder (sym (same-rows leaves more same)) laid.0,
    all-from_map (λ (page : VersionedRows A). has_keys page ≡ true) (λ h. h.rows) more
        (subst (AllByRecursion (λ (page : VersionedRows A). has_keys page ≡ true)) (sym same) (all-of_map (λ (page : VersionedRows A). has_keys page ≡ true) (λ h. h.rows) leaves laid.1)),
  )

  -- what holds of all keys holds of a page's
  pub versioned-page : (leaves : List (Held A)) (i : ℕ) (h : Held A) → i < length leaves → h ≡ get_or leaves i h → AllVersioned (rows_in leaves) → AllVersioned h.rows
  versioned-page [] i h lt at all = absurd (omega arith)
  versioned-page (g ∷ gs) zero h lt at all = subst (λ x. AllVersioned x.rows) (sym at) (all-parts (λ k. has_version k ≡ true) g.rows (rows_in gs) all).0
  versioned-page (g ∷ gs) (suc i) h lt at all = versioned-page gs i h (omega arith) at (all-parts (λ k. has_version k ≡ true) g.rows (rows_in gs) all).1

  -- ---- a page cut in two

  before-append : (commit : ℕ) (xs ys : VersionedRows A) → rows_before commit (xs ++ ys) ≡ rows_before commit xs ++ rows_before commit ys
  before-append commit xs ys = ap (filter has_version) (map-append (key_before commit) xs ys) ∙ filter-append has_version (map (key_before commit) xs) (map (key_before commit) ys)

  cut-undone : (commit : ℕ) (old lower upper : Held A) → lower.own ≡ true → upper.own ≡ true → lower.rows ++ upper.rows ≡ old.rows → AllVersioned old.rows → IsUndoable commit old → undone commit lower ++ undone commit upper ≡ undone commit old
  cut-undone commit old lower upper low up parts versioned undoable =
      (λ i. undone-own commit lower low i ++ undone-own commit upper up i)
      ∙ sym (before-append commit lower.rows upper.rows)
      ∙ ap (rows_before commit) parts
      ∙ undone-kept commit old versioned undoable

  pub cut-undo : (commit : ℕ) (leaves more : List (Held A)) (i : ℕ) (old lower upper : Held A) → i < length leaves → old ≡ get_or leaves i old → lower.rows ++ upper.rows ≡ old.rows → lower.own ≡ true → upper.own ≡ true → more ≡ cut_pages leaves i lower upper
      → AllVersioned (rows_in leaves) → AreUndoable commit leaves → undone_in commit more ≡ undone_in commit leaves
  cut-undo commit leaves more i old lower upper lt at parts low up is versioned undoable =
      let one = cut-undone commit old lower upper low up parts (versioned-page leaves i old lt at versioned) (all-get (IsUndoable commit) leaves i old lt at undoable) in
      ap (undone_in commit) is ∙ cut-flat (undone commit) leaves i old lower upper lt at one

  pub cut-undoable : (commit : ℕ) (leaves more : List (Held A)) (i : ℕ) (lower upper : Held A) → i < length leaves → lower.own ≡ true → upper.own ≡ true → more ≡ cut_pages leaves i lower upper → AreUndoable commit leaves → AreUndoable commit more
  cut-undoable commit leaves more i lower upper lt low up is undoable =
      subst (AreUndoable commit) (sym is) (cut-all (IsUndoable commit) leaves i lower upper lt (undoable-own commit lower low) (undoable-own commit upper up) undoable)

  -- a page taken for itself, where the cut failed
  pub taken-page : (old new : Held A) → (new ≡ old) ⊎ (new ≡ record old { own = true }) → new.rows ≡ old.rows
  taken-page old new (inl e) = ap (λ h. h.rows) e
  taken-page old new (inr e) = ap (λ h. h.rows) e

  pub taken-undo : (commit : ℕ) (leaves : List (Held A)) (i : ℕ) (old new : Held A) → i < length leaves → old ≡ get_or leaves i old → (new ≡ old) ⊎ (new ≡ record old { own = true }) → AllVersioned (rows_in leaves) → AreUndoable commit leaves → undone_in commit (set leaves i new) ≡ undone_in commit leaves
  taken-undo commit leaves i old new lt at (inl e) versioned undoable = same-in chain_key (undone commit) leaves i old new lt at (ap (undone commit) e)
  taken-undo commit leaves i old new lt at (inr e) versioned undoable =
      same-in chain_key (undone commit) leaves i old new lt at (ap (undone commit) e ∙ undone-kept commit old (versioned-page leaves i old lt at versioned) (all-get (IsUndoable commit) leaves i old lt at undoable))

  -- ---- pages that keep some versions of their keys

  abbrev kept_page : (List (Version A) → List (Version A)) → Held A → VersionedRows A
  kept_page f h = cond h.own (filter has_version (map (trimmed f) h.rows)) h.rows

  keep-below : (f : List (Version A) → List (Version A)) (rows ys : VersionedRows A) → Below chain_key rows ys → Below chain_key (filter has_version (map (trimmed f) rows)) ys
  keep-below f [] ys below = tt
  keep-below f (r ∷ rs) ys below = by_test (has_version (trimmed f r)) (keep-below f rs ys below.1)
    where
      left : VersionedRows A
      left = filter has_version (map (trimmed f) rs)

      by_test : (b : Bool) → Below chain_key left ys → Below chain_key (cond b (trimmed f r ∷ left) left) ys
      by_test true rest = (below.0, rest)
      by_test false rest = rest

  page-least : (f : List (Version A) → List (Version A)) (k : Value A) (h : Held A) → IsLeast k h.rows → IsLeast k (kept_page f h)
  page-least f k h least = go h.own
    where
      go : (b : Bool) → IsLeast k (cond b (filter has_version (map (trimmed f) h.rows)) h.rows)
      go true = kept-least f k h.rows least
      go false = least

  page-in_order : (f : List (Version A) → List (Version A)) (h : Held A) → IsInOrder h.rows → IsInOrder (kept_page f h)
  page-in_order f h sorted = go h.own
    where
      go : (b : Bool) → IsInOrder (cond b (filter has_version (map (trimmed f) h.rows)) h.rows)
      go true = kept-in_order f h.rows sorted
      go false = sorted

  page-below : (f : List (Version A) → List (Version A)) (h : Held A) (ys : VersionedRows A) → Below chain_key h.rows ys → Below chain_key (kept_page f h) ys
  page-below f h ys below = go h.own
    where
      go : (b : Bool) → Below chain_key (cond b (filter has_version (map (trimmed f) h.rows)) h.rows) ys
      go true = keep-below f h.rows ys below
      go false = below

  pages-least : (f : List (Version A) → List (Version A)) (k : Value A) (leaves : List (Held A)) → IsLeast k (rows_in leaves) → IsLeast k (flat_map (kept_page f) leaves)
  pages-least f k [] least = least
  pages-least f k (h ∷ hs) least =
      let parts = least-append chain_key k h.rows (rows_in hs) least in
      least-join chain_key k (kept_page f h) (flat_map (kept_page f) hs) (page-least f k h parts.0) (pages-least f k hs parts.1)

  pages-below : (f : List (Version A) → List (Version A)) (xs : VersionedRows A) (leaves : List (Held A)) → Below chain_key xs (rows_in leaves) → Below chain_key xs (flat_map (kept_page f) leaves)
  pages-below f [] leaves below = tt
  pages-below f (x ∷ xs) leaves below = (pages-least f x.key leaves below.0, pages-below f xs leaves below.1)

  pages-in_order : (f : List (Version A) → List (Version A)) (leaves : List (Held A)) → IsInOrder (rows_in leaves) → IsInOrder (flat_map (kept_page f) leaves)
  pages-in_order f [] sorted = sorted
  pages-in_order f (h ∷ hs) sorted =
      let cut = in_order-cut chain_key h.rows (rows_in hs) sorted in
      in_order-join chain_key (kept_page f h) (flat_map (kept_page f) hs) (record {
        first = page-in_order f h cut.first;
        second = pages-in_order f hs cut.second;
        below = page-below f h (flat_map (kept_page f) hs) (pages-below f h.rows hs cut.below);
      })

  -- ---- pages without a key are dropped

  abbrev kept_leaves : List (Held A) → List (Held A)
  kept_leaves leaves = filter (λ h. has_keys h.rows) leaves

  no_keys : (rows rest : VersionedRows A) → has_keys rows ≡ false → rest ≡ rows ++ rest
  no_keys [] rest e = refl
  no_keys (r ∷ rs) rest e = absurd (true≢false e)

  pub kept-rows : (leaves : List (Held A)) → rows_in (kept_leaves leaves) ≡ rows_in leaves
  kept-rows [] = refl
  kept-rows (h ∷ hs) = go (has_keys h.rows) refl (kept-rows hs)
    where
      go : (b : Bool) → has_keys h.rows ≡ b → rows_in (kept_leaves hs) ≡ rows_in hs → rows_in (cond b (h ∷ kept_leaves hs) (kept_leaves hs)) ≡ h.rows ++ rows_in hs
      go true e rest = ap (λ left. h.rows ++ left) rest
      go false e rest = rest ∙ no_keys h.rows (rows_in hs) e

  kept-keys : (leaves : List (Held A)) → AllByRecursion (λ h. has_keys h.rows ≡ true) (kept_leaves leaves)
  kept-keys [] = tt
  kept-keys (h ∷ hs) = go (has_keys h.rows) refl (kept-keys hs)
    where
      go : (b : Bool) → has_keys h.rows ≡ b → AllByRecursion (λ h. has_keys h.rows ≡ true) (kept_leaves hs) → AllByRecursion (λ h. has_keys h.rows ≡ true) (cond b (h ∷ kept_leaves hs) (kept_leaves hs))
      go true e rest = (e, rest)
      go false e rest = rest

  -- what is left, laid out
  left-laid_out : (f : List (Version A) → List (Version A)) (leaves changed left : List (Held A)) → left ≡ kept_leaves changed → pages_of changed ≡ map (kept_page f) leaves → AreLaidOut leaves → AreLaidOut left
  left-laid_out f leaves changed left is kept laid = subst AreLaidOut (sym is) (subst IsInOrder (sym (kept-rows changed ∙ flat-same (λ (h : Held A). h.rows) (kept_page f) changed leaves kept)) (pages-in_order f leaves laid.0), kept-keys changed)

  pub undone-laid_out : (commit : ℕ) (leaves changed left : List (Held A)) → left ≡ kept_leaves changed → pages_of changed ≡ map (undone commit) leaves → AreLaidOut leaves → AreLaidOut left
  undone-laid_out commit leaves changed left is kept laid = left-laid_out (versions_before commit) leaves changed left is kept laid

  pub pruned-laid_out : (oldest : ℕ) (leaves changed left : List (Held A)) → left ≡ kept_leaves changed → pages_of changed ≡ map (own_pruned oldest) leaves → AreLaidOut leaves → AreLaidOut left
  pruned-laid_out oldest leaves changed left is kept laid = left-laid_out (pruned_versions oldest) leaves changed left is kept laid

  pub left-rows : (f : Held A → VersionedRows A) (leaves changed left : List (Held A)) → left ≡ kept_leaves changed → pages_of changed ≡ map f leaves → rows_in left ≡ flat_map f leaves
  left-rows f leaves changed left is kept = ap rows_in is ∙ kept-rows changed ∙ flat-same (λ (h : Held A). h.rows) f changed leaves kept

  -- ---- a pruning of all pages

  pruned-append : (oldest : ℕ) (xs ys : VersionedRows A) → pruned_rows oldest (xs ++ ys) ≡ pruned_rows oldest xs ++ pruned_rows oldest ys
  pruned-append oldest xs ys = ap (filter has_version) (map-append (pruned_key oldest) xs ys) ∙ filter-append has_version (map (pruned_key oldest) xs) (map (pruned_key oldest) ys)

  pub pruned-pages : (oldest : ℕ) (leaves : List (Held A)) → flat_map (λ h. pruned_rows oldest h.rows) leaves ≡ pruned_rows oldest (rows_in leaves)
  pruned-pages oldest [] = refl
  pruned-pages oldest (h ∷ hs) = ap (λ rest. pruned_rows oldest h.rows ++ rest) (pruned-pages oldest hs) ∙ sym (pruned-append oldest h.rows (rows_in hs))

  -- ---- pages of the opening

  pub no-keys_after : (rows page : VersionedRows A) → has_keys page ≡ false → rows ≡ rows ++ page
  no-keys_after rows [] e = sym (append-nil rows)
  no-keys_after rows (k ∷ ks) e = absurd (true≢false e)

  -- one more row of the opening, where a page was put at the end or not
  open-whole : (old page new next : VersionedRows A) (row : Row A) (rest left : List (Row A)) (whole : VersionedRows A)
      → new ++ next ≡ old ++ page → rest ≡ row ∷ left → old ++ (page ++ map opened_row rest) ≡ whole → new ++ (next ++ opened_row row ∷ map opened_row left) ≡ whole
  open-whole old page new next row rest left whole turned step so_far =
      sym (append_assoc new next (opened_row row ∷ map opened_row left))
      ∙ ap (λ rows. rows ++ opened_row row ∷ map opened_row left) turned
      ∙ append_assoc old page (opened_row row ∷ map opened_row left)
      ∙ ap (λ rows. old ++ (page ++ map opened_row rows)) (sym step)
      ∙ so_far

  pub open-order : (old page new next : VersionedRows A) (row : Row A) (rest left : List (Row A)) (whole : VersionedRows A)
      → new ++ next ≡ old ++ page → rest ≡ row ∷ left → old ++ (page ++ map opened_row rest) ≡ whole → IsInOrder whole → IsInOrder (next ++ opened_row row ∷ [])
  open-order old page new next row rest left whole turned step so_far sorted =
      front-in_order next (opened_row row) (map opened_row left)
      (in_order-cut chain_key new (next ++ opened_row row ∷ map opened_row left) (subst IsInOrder (sym (open-whole old page new next row rest left whole turned step so_far)) sorted)).second

  pub open-step : (old page new next more : VersionedRows A) (row : Row A) (rest left : List (Row A)) (whole : VersionedRows A)
      → new ++ next ≡ old ++ page → more ≡ next ++ opened_row row ∷ [] → rest ≡ row ∷ left → old ++ (page ++ map opened_row rest) ≡ whole → new ++ (more ++ map opened_row left) ≡ whole
  open-step old page new next more row rest left whole turned made step so_far =
      ap (λ rows. new ++ (rows ++ map opened_row left)) made
      ∙ ap (λ rows. new ++ rows) (append_assoc next (opened_row row ∷ []) (map opened_row left))
      ∙ open-whole old page new next row rest left whole turned step so_far

  pub open-end : (old page new : VersionedRows A) (rest : List (Row A)) (whole : VersionedRows A) → new ≡ old ++ page → rest ≡ [] → old ++ (page ++ map opened_row rest) ≡ whole → new ≡ whole
  open-end old page new rest whole put none so_far =
      put ∙ ap (λ rows. old ++ rows) (sym (append-nil page)) ∙ ap (λ rows. old ++ (page ++ map opened_row rows)) (sym none) ∙ so_far

  -- ---- the opening, page by page

  opened-parts : (old page : VersionedRows A) (moved more : List (Row A)) → old ++ (page ++ map opened_row (moved ++ more)) ≡ (old ++ (page ++ map opened_row moved)) ++ map opened_row more
  opened-parts old page moved more =
      ap (λ rows. old ++ (page ++ rows)) (map-append opened_row moved more)
      ∙ ap (λ rows. old ++ rows) (sym (append_assoc page (map opened_row moved) (map opened_row more)))
      ∙ sym (append_assoc old (page ++ map opened_row moved) (map opened_row more))

  pub pages-order : (old page : VersionedRows A) (moved : List (Row A)) (rest left : List (List (Row A))) (whole : VersionedRows A)
      → rest ≡ moved ∷ left → old ++ (page ++ map opened_row (all_of rest)) ≡ whole → IsInOrder whole → IsInOrder (old ++ (page ++ map opened_row moved))
  pages-order old page moved rest left whole step so_far sorted =
      (in_order-cut chain_key (old ++ (page ++ map opened_row moved)) (map opened_row (all_of left))
      (subst IsInOrder (sym so_far ∙ ap (λ pages. old ++ (page ++ map opened_row (all_of pages))) step ∙ opened-parts old page moved (all_of left)) sorted)).first

  pub pages-step : (old page new next : VersionedRows A) (moved : List (Row A)) (rest left : List (List (Row A))) (whole : VersionedRows A)
      → new ++ next ≡ old ++ (page ++ map opened_row moved) → rest ≡ moved ∷ left → old ++ (page ++ map opened_row (all_of rest)) ≡ whole → new ++ (next ++ map opened_row (all_of left)) ≡ whole
  pages-step old page new next moved rest left whole turned step so_far =
      sym (append_assoc new next (map opened_row (all_of left)))
      ∙ ap (λ rows. rows ++ map opened_row (all_of left)) turned
      ∙ sym (opened-parts old page moved (all_of left))
      ∙ ap (λ pages. old ++ (page ++ map opened_row (all_of pages))) (sym step)
      ∙ so_far

  -- ---- the first page of a table

  no_leaves : (leaves : List (Held A)) → length leaves ≡ 0 → leaves ≡ []
  no_leaves [] e = refl
  no_leaves (h ∷ hs) e = absurd (omega (arith, e))

  abbrev own_page : VersionedRows A → Held A
  own_page page = record { own = true; rows = page }

  first-leaves : (leaves more : List (Held A)) (page : VersionedRows A) → length leaves ≡ 0 → more ≡ leaves ++ own_page page ∷ [] → more ≡ own_page page ∷ []
  first-leaves leaves more page none is = is ∙ ap (λ hs. hs ++ own_page page ∷ []) (no_leaves leaves none)

  pub first-ok : (key : Value A) (v : Version A) (leaves more : List (Held A)) → length leaves ≡ 0 → more ≡ leaves ++ own_page (first_version key v ∷ []) ∷ [] → rows_in more ≡ put_version key v (rows_in leaves)
  first-ok key v leaves more none is = ap rows_in (first-leaves leaves more (first_version key v ∷ []) none is) ∙ ap (λ hs. put_version key v (rows_in hs)) (sym (no_leaves leaves none))

  pub first-laid_out : (key : Value A) (v : Version A) (leaves more : List (Held A)) → length leaves ≡ 0 → more ≡ leaves ++ own_page (first_version key v ∷ []) ∷ [] → AreLaidOut more
  first-laid_out key v leaves more none is =
      subst AreLaidOut (sym (first-leaves leaves more (first_version key v ∷ []) none is)) (one-in_order chain_key (first_version key v) (first_version key v ∷ []) refl, (refl, tt))

  pub first-undo : (commit : ℕ) (key : Value A) (fields : Option (List (Value A))) (leaves more : List (Held A)) → length leaves ≡ 0 → more ≡ leaves ++ own_page (first_version key (record { number = commit; fields = fields }) ∷ []) ∷ [] → undone_in commit more ≡ undone_in commit leaves
  first-undo commit key fields leaves more none is =
      ap (undone_in commit) (first-leaves leaves more (first_version key (record { number = commit; fields = fields }) ∷ []) none is)
      ∙ append-nil (rows_before commit (first_version key (record { number = commit; fields = fields }) ∷ []))
      ∙ before-put commit key (record { number = commit; fields = fields }) [] refl
      ∙ ap (undone_in commit) (sym (no_leaves leaves none))

  pub first-undoable : (commit : ℕ) (leaves more : List (Held A)) (page : VersionedRows A) → length leaves ≡ 0 → more ≡ leaves ++ own_page page ∷ [] → AreUndoable commit more
  first-undoable commit leaves more page none is = subst (AreUndoable commit) (sym (first-leaves leaves more page none is)) (undoable-own commit (own_page page) refl, tt)

  -- how many keys a page has
  pub long-page : (leaves : List (Held A)) (i : ℕ) (h : Held A) → i < length leaves → h ≡ get_or leaves i h → 2 ≤ length h.rows → 2 ≤ length (get_or (pages_of leaves) i [])
  long-page [] i h lt at two = absurd (omega arith)
  long-page (g ∷ gs) zero h lt at two = subst (λ x. 2 ≤ length x.rows) at two
  long-page (g ∷ gs) (suc i) h lt at two = long-page gs i h (omega arith) at two

  -- ---- the next row of pages

  pub next-here : (n : ℕ) (bound : Bound (Bor (Key A))) (leaves : List (Held A)) (i : ℕ) (h : Held A) (page : VersionedRows A) (row : Row A) → i < length leaves → h ≡ get_or leaves i h → page ≡ h.rows → Some row ≡ next_row (shown_rows n page) bound
      → next_row (shown_rows n (rows_in leaves)) bound ≡ next_row (shown_rows n (rows_in (drop i leaves))) bound → Some row ≡ next_row (shown_rows n (rows_in leaves)) bound
  next-here n bound leaves i h page row lt at is found so_far = sym (
      so_far ∙ ap (λ ls. next_row (shown_rows n (rows_in ls)) bound) (drop_next leaves i h lt at)
      ∙ next-append n bound h.rows (rows_in (drop (i + 1) leaves))
      ∙ ap (λ p. option_or (next_row (shown_rows n p) bound) (next_row (shown_rows n (rows_in (drop (i + 1) leaves))) bound)) (sym is)
      ∙ ap (λ o. option_or o (next_row (shown_rows n (rows_in (drop (i + 1) leaves))) bound)) (sym found))

  pub next-later : (n : ℕ) (bound : Bound (Bor (Key A))) (leaves : List (Held A)) (i : ℕ) (h : Held A) (page : VersionedRows A) → i < length leaves → h ≡ get_or leaves i h → page ≡ h.rows → next_row (shown_rows n page) bound ≡ None
      → next_row (shown_rows n (rows_in leaves)) bound ≡ next_row (shown_rows n (rows_in (drop i leaves))) bound → next_row (shown_rows n (rows_in leaves)) bound ≡ next_row (shown_rows n (rows_in (drop (i + 1) leaves))) bound
  next-later n bound leaves i h page lt at is found so_far =
      so_far ∙ ap (λ ls. next_row (shown_rows n (rows_in ls)) bound) (drop_next leaves i h lt at)
      ∙ next-append n bound h.rows (rows_in (drop (i + 1) leaves))
      ∙ ap (λ p. option_or (next_row (shown_rows n p) bound) (next_row (shown_rows n (rows_in (drop (i + 1) leaves))) bound)) (sym is)
      ∙ ap (λ o. option_or o (next_row (shown_rows n (rows_in (drop (i + 1) leaves))) bound)) found

  pub next-past : (n : ℕ) (bound : Bound (Bor (Key A))) (leaves : List (Held A)) (i : ℕ) → length leaves ≤ i → next_row (shown_rows n (rows_in leaves)) bound ≡ next_row (shown_rows n (rows_in (drop i leaves))) bound → None ≡ next_row (shown_rows n (rows_in leaves)) bound
  next-past n bound leaves i past so_far = sym (so_far ∙ ap (λ ls. next_row (shown_rows n (rows_in ls)) bound) (drop_all i leaves past))
