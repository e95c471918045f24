-- Pages one after another: a newer version, and what a snapshot shows.
use Rattle.std.proofs.Common.{◌≡◌, refl, sym, ap, ◌∙◌, ℕ, true, false, List, [], ◌∷◌, ◌++◌, take, drop, Option, Some, None, Bor}
use Rattle.std.specs.List.{AllByRecursion, cons_option}
use Rattle.std.specs.Option.{option_map, option_or}
use Rattle.std.specs.Ordering.{is_le, match_ordering}
use Rattle.std.specs.declared.cmp.Ordering.{Ordering}
use Rattle.std.specs.declared.cmp.Ordering.TheVariants.{Less, Equal, Greater}
use Rattle.std.proofs.lemmas.List.{take-append-drop}
use Rattle.std.proofs.lemmas.List.Concat.{flat_map-append}
use Rattle.std.proofs.lemmas.List.Elements.{filter_map-append}
use Rattle.std.proofs.lemmas.List.Folds.{find-append}
use Rattle.value.specs.Order.{value_cmp}
use Rattle.value.specs.declared.key.Key.{Key}
use Rattle.value.specs.declared.value.Value.{Value}
use Rattle.value.proofs.Basics.{Greater-from_le}
use Rattle.schema.specs.declared.reader.Bound.{Bound}
use Rattle.schema.specs.Pages.{is_before}
use Rattle.schema.specs.Rows.{is_within, next_row}
use Rattle.schema.proofs.PagedLemmas.{IsLocal, pages_before}
use Rattle.mvrows.specs.Versions.{Version, VersionedRows, shown_fields, shown_row, shown_rows}
use Rattle.mvrows.specs.Installing.{first_version, newer, put_version}
use Rattle.mvrows.specs.HeldRows.{Held, chain_key, rows_in, has_keys}
use Rattle.mvrows.proofs.VersionLemmas.{IsLeast, put_version-in_order}

module _ {A : Type 0} where
  -- ---- a newer version

  put-after_run : (key : Value A) (v : Version A) (xs ys : VersionedRows A) → AllByRecursion (λ k. is_le (value_cmp key k.key) ≡ false) xs → put_version key v (xs ++ ys) ≡ xs ++ put_version key v ys
  put-after_run key v [] ys before = refl
  put-after_run key v (x ∷ xs) ys before = rw (Greater-from_le (value_cmp key x.key) before.0) (ap (λ rest. x ∷ rest) (put-after_run key v xs ys before.1))

  put-first_of : (key : Value A) (v : Version A) (ys : VersionedRows A) → IsLeast key ys → put_version key v ys ≡ first_version key v ∷ ys
  put-first_of key v [] least = refl
  put-first_of key v (y ∷ ys) least = rw least.0 refl

  put-before_run : (key : Value A) (v : Version A) (xs ys : VersionedRows A) → IsLeast key ys → put_version key v (xs ++ ys) ≡ put_version key v xs ++ ys
  put-before_run key v [] ys least = put-first_of key v ys least
  put-before_run key v (x ∷ xs) ys least = by_order (value_cmp key x.key) (put-before_run key v xs ys least)
    where
      by_order : (o : Ordering) → put_version key v (xs ++ ys) ≡ put_version key v xs ++ ys → match_ordering o (first_version key v ∷ x ∷ (xs ++ ys)) (newer v x ∷ (xs ++ ys)) (x ∷ put_version key v (xs ++ ys)) ≡ match_ordering o (first_version key v ∷ x ∷ xs) (newer v x ∷ xs) (x ∷ put_version key v xs) ++ ys
      by_order Less rest = refl
      by_order Equal rest = refl
      by_order Greater rest = ap (λ left. x ∷ left) rest

  -- other keys have no part in it
  pub put-local : (key : Value A) (v : Version A) → IsLocal chain_key key (put_version key v)
  put-local key v = record { behind = put-after_run key v; ahead = put-before_run key v; ordered = put_version-in_order key v }

  pub put-has_keys : (key : Value A) (v : Version A) (rows : VersionedRows A) → has_keys (put_version key v rows) ≡ true
  put-has_keys key v [] = refl
  put-has_keys key v (r ∷ rs) = by_order (value_cmp key r.key)
    where
      by_order : (o : Ordering) → has_keys (match_ordering o (first_version key v ∷ r ∷ rs) (newer v r ∷ rs) (r ∷ put_version key v rs)) ≡ true
      by_order Less = refl
      by_order Equal = refl
      by_order Greater = refl

  -- ---- what a snapshot shows of pages

  pub shown_rows-append : (n : ℕ) (xs ys : VersionedRows A) → shown_rows n (xs ++ ys) ≡ shown_rows n xs ++ shown_rows n ys
  shown_rows-append n xs ys = filter_map-append (shown_row n) xs ys

  pub next-append : (n : ℕ) (bound : Bound (Bor (Key A))) (xs ys : VersionedRows A) → next_row (shown_rows n (xs ++ ys)) bound ≡ option_or (next_row (shown_rows n xs) bound) (next_row (shown_rows n ys) bound)
  next-append n bound xs ys = ap (λ rows. next_row rows bound) (shown_rows-append n xs ys) ∙ find-append (λ row. is_within bound row.0) (shown_rows n xs) (shown_rows n ys)

  next-none : (n : ℕ) (bound : Bound (Bor (Key A))) (rows : VersionedRows A) → AllByRecursion (λ k. is_within bound k.key ≡ false) rows → next_row (shown_rows n rows) bound ≡ None
  next-none n bound [] early = refl
  next-none n bound (r ∷ rs) early = go (shown_fields n r.versions) (next-none n bound rs early.1)
    where
      go : (o : Option (List (Value A))) → next_row (shown_rows n rs) bound ≡ None → next_row (cons_option (option_map (λ f. (r.key, f)) o) (shown_rows n rs)) bound ≡ None
      go None rest = rest
      go (Some f) rest = rw early.0 rest

  -- pages that are before a bound don't matter to it
  pub next-from : (n : ℕ) (bound : Bound (Bor (Key A))) (leaves : List (Held A)) (i : ℕ) → AllByRecursion (λ h. is_before chain_key bound h.rows ≡ true) (take i leaves) → next_row (shown_rows n (rows_in (drop i leaves))) bound ≡ next_row (shown_rows n (rows_in leaves)) bound
  next-from n bound leaves i early = sym (
      ap (λ hs. next_row (shown_rows n (rows_in hs)) bound) (sym (take-append-drop i leaves))
      ∙ ap (λ rows. next_row (shown_rows n rows) bound) (flat_map-append (λ (h : Held A). h.rows) (take i leaves) (drop i leaves))
      ∙ next-append n bound (rows_in (take i leaves)) (rows_in (drop i leaves))
      ∙ ap (λ o. option_or o (next_row (shown_rows n (rows_in (drop i leaves))) bound)) (next-none n bound (rows_in (take i leaves)) (pages_before chain_key (λ h. h.rows) bound (take i leaves) early)))
