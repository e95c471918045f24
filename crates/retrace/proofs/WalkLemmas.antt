-- Walks over what was read and written.
use Rattle.std.proofs.Common.{◌≡◌, refl, sym, ap, ◌∙◌, ℕ, ◌+◌, ◌-◌, ◌<◌, ◌≤◌, Bool, true, false, cond, not, ◌&&◌, ◌||◌, List, [], ◌∷◌, length, take, drop, get_or, suc, zero, Some, None, eqb, arith}
use Rattle.std.proofs.lemmas.List.Folds.{find-append}
use Rattle.std.proofs.lemmas.List.Sums.{fold_push}
use Rattle.std.specs.Prelude.{slice_index_or}
use Rattle.std.specs.Option.{option_or}
use Rattle.std.specs.List.{find, fold, list_any}
use Rattle.value.proofs.Basics.{split_at, any-same, take_next, first_and_rest}
use Rattle.schema.specs.declared.changes.Change.{Change}
use Rattle.statement.specs.declared.reading.Extent.{Extent}
use Rattle.statement.specs.declared.reading.Extent.TheVariants.{Whole, One, Range, Referencing}
use Rattle.statement.specs.declared.reading.Reading.{Reading}
use Rattle.statement.specs.declared.outcome.Mark.{Mark}
use Rattle.statement.specs.Cover.{distinct, extents_in, keys_of, same_extent}
use Rattle.siread.specs.Reads.{CoverAlike}
use Rattle.siread.proofs.AlikeLemmas.{alike_keys, alike_references}
use Rattle.retrace.specs.Holds.{is_last_of_key, is_last_single, reads_key, single_keys}
use Rattle.retrace.specs.Items.{change_below, cover_change, cover_mark, cover_written, first_item, least_change, least_item, least_mark, lesser_change, lesser_mark, mark_below}

-- ---- lists

-- one more taken into a fold
pub fold_next : {A B : Type 0} (f : B → A → B) (o : B) (xs : List A) (i : ℕ) (x : A) (before next : B) → i < length xs → x ≡ get_or xs i x → before ≡ fold f o (take i xs) → next ≡ f before x → next ≡ fold f o (take (i + 1) xs)
fold_next f o xs i x before next lt at e n = n ∙ ap (λ b. f b x) e ∙ sym (ap (fold f o) (take_next xs i x lt at) ∙ fold_push f o (take i xs) x)

fold_same : {A B : Type 0} (f g : B → A → B) → ((b : B) (x : A) → f b x ≡ g b x) → (o : B) (xs : List A) → fold f o xs ≡ fold g o xs
fold_same f g h o [] = refl
fold_same f g h o (x ∷ xs) = ap (λ b. fold f b xs) (h o x) ∙ fold_same f g h (g o x) xs

same_at : {X : Type 0} (xs : List X) (i : ℕ) (d : X) → i < length xs → slice_index_or xs i d ≡ get_or xs i (slice_index_or xs i d)
same_at [] i d lt = absurd (omega arith)
same_at (x ∷ xs) zero d lt = refl
same_at (x ∷ xs) (suc i) d lt = same_at xs i d (omega arith)

-- the element at a place is the first that passes
pub find_here : {X : Type 0} (p : X → Bool) (xs : List X) (i : ℕ) (d : X) → i < length xs → find p (take i xs) ≡ None → p (slice_index_or xs i d) ≡ true → find p xs ≡ Some (slice_index_or xs i d)
find_here p xs i d lt none e =
    ap (find p) (split_at xs i (slice_index_or xs i d) lt (same_at xs i d lt)) ∙ find-append p (take i xs) (slice_index_or xs i d ∷ drop (suc i) xs)
    ∙ ap (λ o. option_or o (find p (slice_index_or xs i d ∷ drop (suc i) xs))) none
    ∙ ap (λ b. cond b (Some (slice_index_or xs i d)) (find p (drop (suc i) xs))) e

-- nor does this one
pub find_next : {X : Type 0} (p : X → Bool) (xs : List X) (i : ℕ) (d : X) → i < length xs → find p (take i xs) ≡ None → p (slice_index_or xs i d) ≡ false → find p (take (i + 1) xs) ≡ None
find_next p xs i d lt none e =
    ap (find p) (take_next xs i (slice_index_or xs i d) lt (same_at xs i d lt)) ∙ find-append p (take i xs) (slice_index_or xs i d ∷ [])
    ∙ ap (λ o. option_or o (find p (slice_index_or xs i d ∷ []))) none
    ∙ ap (λ b. cond b (Some (slice_index_or xs i d)) None) e

-- one or none more
abbrev pub one_if : Bool → ℕ
one_if b = cond b 1 0

module _ {A : Type 0} where
  -- ---- readings that cover alike

  pub written-alike : (hs rs : List (Reading A)) → CoverAlike hs rs → (xs : List (Change A)) (ms : List (Mark A)) → cover_written hs xs ms ≡ cover_written rs xs ms
  written-alike hs rs h xs ms =
      ap (λ b. b || list_any (cover_mark hs) ms) (any-same (cover_change hs) (cover_change rs) (λ x. alike_keys hs rs h x.table x.key) xs)
      ∙ ap (λ b. list_any (cover_change rs) xs || b) (any-same (cover_mark hs) (cover_mark rs) (λ m. alike_references hs rs h m.table m.column m.key) ms)

  pub change-alike : (hs rs : List (Reading A)) → CoverAlike hs rs → (xs : List (Change A)) → least_change hs xs ≡ least_change rs xs
  change-alike hs rs h xs = fold_same (lesser_change hs) (lesser_change rs) (λ o x. ap (λ b. cond (b && change_below x o) (Some x) o) (alike_keys hs rs h x.table x.key)) None xs

  pub mark-alike : (hs rs : List (Reading A)) → CoverAlike hs rs → (ms : List (Mark A)) → least_mark hs ms ≡ least_mark rs ms
  mark-alike hs rs h ms = fold_same (lesser_mark hs) (lesser_mark rs) (λ o m. ap (λ b. cond (b && mark_below m o) (Some m) o) (alike_references hs rs h m.table m.column m.key)) None ms

  pub item-alike : (hs rs : List (Reading A)) → CoverAlike hs rs → (xs : List (Change A)) (ms : List (Mark A)) → least_item hs xs ms ≡ least_item rs xs ms
  item-alike hs rs h xs ms = ap (λ o. first_item o (least_mark hs ms)) (change-alike hs rs h xs) ∙ ap (first_item (least_change rs xs)) (mark-alike hs rs h ms)

  -- ---- single keys

  in_table : (p : Extent A → Bool) (t : ℕ) (rs : List (Reading A)) → list_any (λ r. eqb r.table t && p r.extent) rs ≡ list_any p (extents_in t rs)
  in_table p t [] = refl
  in_table p t (r ∷ rs) = go (eqb r.table t) (in_table p t rs)
    where
      go : (b : Bool) → list_any (λ q. eqb q.table t && p q.extent) rs ≡ list_any p (extents_in t rs) → ((b && p r.extent) || list_any (λ q. eqb q.table t && p q.extent) rs) ≡ list_any p (cond b (r.extent ∷ extents_in t rs) (extents_in t rs))
      go true e = ap (λ c. p r.extent || c) e
      go false e = e

  keys-more : (t : ℕ) (rs : List (Reading A)) (e : Extent A) → length (keys_of (distinct (e ∷ extents_in t rs))) ≡ one_if (is_last_single rs t e) + length (single_keys t rs)
  keys-more t rs (One v) = go (list_any (same_extent (One v)) (extents_in t rs)) (in_table (same_extent (One v)) t rs)
    where
      go : (b : Bool) → list_any (reads_key v t) rs ≡ b → length (keys_of (cond b (distinct (extents_in t rs)) (One v ∷ distinct (extents_in t rs)))) ≡ one_if (not (list_any (reads_key v t) rs)) + length (single_keys t rs)
      go true e = omega (arith, ap (λ b. one_if (not b)) e)
      go false e = omega (arith, ap (λ b. one_if (not b)) e)
  keys-more t rs Whole = go (list_any (same_extent Whole) (extents_in t rs))
    where
      go : (b : Bool) → length (keys_of (cond b (distinct (extents_in t rs)) (Whole ∷ distinct (extents_in t rs)))) ≡ 0 + length (single_keys t rs)
      go true = omega arith
      go false = omega arith
  keys-more t rs (Range a b) = go (list_any (same_extent (Range a b)) (extents_in t rs))
    where
      go : (c : Bool) → length (keys_of (cond c (distinct (extents_in t rs)) (Range a b ∷ distinct (extents_in t rs)))) ≡ 0 + length (single_keys t rs)
      go true = omega arith
      go false = omega arith
  keys-more t rs (Referencing j k) = go (list_any (same_extent (Referencing j k)) (extents_in t rs))
    where
      go : (b : Bool) → length (keys_of (cond b (distinct (extents_in t rs)) (Referencing j k ∷ distinct (extents_in t rs)))) ≡ 0 + length (single_keys t rs)
      go true = omega arith
      go false = omega arith

  keys-first : (t : ℕ) (r : Reading A) (rs : List (Reading A)) → length (single_keys t (r ∷ rs)) ≡ one_if (is_last_of_key r t rs) + length (single_keys t rs)
  keys-first t r rs = go (eqb r.table t)
    where
      go : (b : Bool) → length (keys_of (distinct (cond b (r.extent ∷ extents_in t rs) (extents_in t rs)))) ≡ one_if (b && is_last_single rs t r.extent) + length (single_keys t rs)
      go true = keys-more t rs r.extent
      go false = omega arith

  -- a reading that is counted, and one that isn't
  pub counted : (t : ℕ) (rs : List (Reading A)) (r : Reading A) → 1 ≤ length rs → r ≡ get_or rs 0 r → is_last_of_key r t (take (length rs - 1) (drop 1 rs)) ≡ true → length (single_keys t rs) ≡ 1 + length (single_keys t (take (length rs - 1) (drop 1 rs)))
  counted t rs r long first e = ap (λ qs. length (single_keys t qs)) (first_and_rest rs r long first) ∙ keys-first t r (take (length rs - 1) (drop 1 rs)) ∙ ap (λ b. one_if b + length (single_keys t (take (length rs - 1) (drop 1 rs)))) e

  pub passed : (t : ℕ) (rs : List (Reading A)) (r : Reading A) → 1 ≤ length rs → r ≡ get_or rs 0 r → is_last_of_key r t (take (length rs - 1) (drop 1 rs)) ≡ false → length (single_keys t rs) ≡ length (single_keys t (take (length rs - 1) (drop 1 rs)))
  passed t rs r long first e = ap (λ qs. length (single_keys t qs)) (first_and_rest rs r long first) ∙ keys-first t r (take (length rs - 1) (drop 1 rs)) ∙ ap (λ b. one_if b + length (single_keys t (take (length rs - 1) (drop 1 rs)))) e ∙ omega arith

  pub none_left : (t : ℕ) (rs : List (Reading A)) → length rs < 1 → length (single_keys t rs) ≡ 0
  none_left t [] e = refl
  none_left t (r ∷ rs) e = absurd (omega arith)
