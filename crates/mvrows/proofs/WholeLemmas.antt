-- Pages of which each key shows a row, and counts of rows.
use Rattle.std.proofs.Common.{◌≡◌, refl, sym, ap, subst, ◌∙◌, ℕ, suc, ◌+◌, ◌<◌, ◌≤◌, Bool, true, false, true≢false, cond, List, [], ◌∷◌, drop, length, Option, Some, None, is_some, get_or, arith}
use Rattle.std.specs.Prelude.{IfSome, OnOk, OnErr, Result, Ok, Err, nat_le, option_and_then, slice_get}
use Rattle.std.specs.List.{cons_option}
use Rattle.std.specs.Option.{option_map}
use Rattle.std.specs.Ordering.{match_ordering}
use Rattle.std.specs.declared.cmp.Ordering.{Ordering}
use Rattle.std.specs.declared.cmp.Ordering.TheVariants.{Less, Equal, Greater}
use Rattle.std.proofs.lemmas.Bool.{le-leb}
use Rattle.std.proofs.lemmas.List.{length-append, drop_all}
use Rattle.std.proofs.lemmas.List.Elements.{filter_map-append}
use Rattle.value.specs.Order.{value_cmp}
use Rattle.value.specs.declared.value.Value.{Value}
use Rattle.value.proofs.Basics.{drop_next}
use Rattle.schema.specs.declared.row.Row.{Row}
use Rattle.mvrows.specs.Versions.{Version, KeyVersions, VersionedRows, newest_version, version_at, shown_fields, shown_row, shown_rows}
use Rattle.mvrows.specs.Installing.{first_version, newer, put_version}
use Rattle.mvrows.specs.Pruning.{are_some, has_version, if_row, pruned_versions}
use Rattle.mvrows.specs.Settling.{Needed, if_version, read_versions, settled_key, settled_versions, settle_key}
use Rattle.mvrows.specs.HeldRows.{Held, rows_in}
use Rattle.mvrows.specs.Whole.{IsNewestRow, AreRowsFrom, IsWhole}

module _ {A : Type 0} where
  -- ---- of one key

  later : (n m : ℕ) (vs : List (Version A)) → n ≤ m → IsNewestRow n vs → IsNewestRow m vs
  later n m [] le is = is
  later n m (v ∷ vs) le is = (omega (arith, is.0), is.1)

  shown_head : (s : ℕ) (v : Version A) (vs : List (Version A)) → v.number ≤ s → version_at s (v ∷ vs) ≡ Some v
  shown_head s v vs le = rw (le-leb v.number s le) refl

  some_row : (key : Value A) (o : Option (List (Value A))) → is_some o ≡ true → is_some (option_map {T = List (Value A)} {U = Row A} (λ f. (key, f)) o) ≡ true
  some_row key None e = e
  some_row key (Some f) e = refl

  shows : (s n : ℕ) (k : KeyVersions A) → n ≤ s → IsNewestRow n k.versions → is_some (shown_row s k) ≡ true
  shows s n k le is = go k.versions is
    where
      go : (vs : List (Version A)) → IsNewestRow n vs → is_some (option_map {T = List (Value A)} {U = Row A} (λ f. (k.key, f)) (shown_fields s vs)) ≡ true
      go [] h = absurd h
      go (v ∷ vs) h = rw (le-leb v.number s (omega (arith, h.0, le))) (some_row k.key v.fields h.1)

  -- the newest version is a row where the snapshot of its number shows one
  pub newest_row : (n : ℕ) (k : KeyVersions A) (o : Option (Row A)) → Some n ≡ newest_version k → o ≡ shown_row n k → is_some o ≡ true → IsNewestRow n k.versions
  newest_row n k o newest shown is = go k.versions newest (sym (ap is_some shown) ∙ is)
    where
      of_fields : (f : Option (List (Value A))) → is_some (option_map {T = List (Value A)} {U = Row A} (λ fs. (k.key, fs)) f) ≡ true → is_some f ≡ true
      of_fields None e = e
      of_fields (Some fs) e = refl

      go : (vs : List (Version A)) → Some n ≡ option_map (λ (v : Version A). v.number) (slice_get vs 0) → is_some (option_map {T = List (Value A)} {U = Row A} (λ fs. (k.key, fs)) (shown_fields n vs)) ≡ true → IsNewestRow n vs
      go [] a b = cc
      go (v ∷ vs) a b =
          let number : n ≡ v.number = cc in
          let le : v.number ≤ n = omega (arith, number) in
          let at : option_and_then (λ (w : Version A). w.fields) (version_at n (v ∷ vs)) ≡ v.fields = ap (option_and_then (λ (w : Version A). w.fields)) (shown_head n v vs le) in
          (le, of_fields v.fields (ap (λ f. is_some (option_map {T = List (Value A)} {U = Row A} (λ fs. (k.key, fs)) f)) (sym at) ∙ b))

  -- ---- of all keys of a page

  are_later : (n m : ℕ) (rows : VersionedRows A) → n ≤ m → AreRowsFrom n rows → AreRowsFrom m rows
  are_later n m [] le are = tt
  are_later n m (k ∷ ks) le are = (later n m k.versions le are.0, are_later n m ks le are.1)

  -- one key more
  pub row_further : (n from new i : ℕ) (rows : VersionedRows A) (k : KeyVersions A) → i < length rows → k ≡ get_or rows i k → IsNewestRow n k.versions → from ≤ new → n ≤ new
      → ((m : ℕ) → from ≤ m → AreRowsFrom m (drop i rows) → AreRowsFrom m rows) → (m : ℕ) → new ≤ m → AreRowsFrom m (drop (i + 1) rows) → AreRowsFrom m rows
  row_further n from new i rows k lt at is le other so_far m above rest =
      so_far m (omega arith) (subst (AreRowsFrom m) (sym (drop_next rows i k lt at)) (later n m k.versions (omega arith) is, rest))

  pub row_last : (from i : ℕ) (rows : VersionedRows A) → length rows ≤ i → ((m : ℕ) → from ≤ m → AreRowsFrom m (drop i rows) → AreRowsFrom m rows) → AreRowsFrom from rows
  row_last from i rows past so_far = so_far from (omega arith) (subst (AreRowsFrom from) (sym (drop_all i rows past)) tt)

  -- all of them show rows
  all_shown : (s n : ℕ) (rows : VersionedRows A) → n ≤ s → AreRowsFrom n rows → length (shown_rows s rows) ≡ length rows
  all_shown s n [] le are = refl
  all_shown s n (k ∷ ks) le are = go (shown_row s k) (shows s n k le are.0) (all_shown s n ks le are.1)
    where
      go : (o : Option (Row A)) → is_some o ≡ true → length (shown_rows s ks) ≡ length ks → length (cons_option o (shown_rows s ks)) ≡ length (k ∷ ks)
      go None e rest = absurd (true≢false (sym e))
      go (Some row) e rest = omega (arith, rest)

  pub whole_shown : (s : ℕ) (whole : Option ℕ) (rows : VersionedRows A) → IfSome whole (λ n. n ≤ s) → is_some whole ≡ true → IsWhole whole rows → length (shown_rows s rows) ≡ length rows
  whole_shown s None rows le some are = absurd (true≢false (sym some))
  whole_shown s (Some n) rows le some are = all_shown s n rows le are

  -- ---- a change

  put_rows : (n m : ℕ) (key : Value A) (v : Version A) (rows : VersionedRows A) → n ≤ m → v.number ≤ m → is_some v.fields ≡ true → AreRowsFrom n rows → AreRowsFrom m (put_version key v rows)
  put_rows n m key v [] le new some are = ((new, some), tt)
  put_rows n m key v (k ∷ ks) le new some are = by_order (value_cmp key k.key) (put_rows n m key v ks le new some are.1)
    where
      by_order : (o : Ordering) → AreRowsFrom m (put_version key v ks) → AreRowsFrom m (match_ordering o (first_version key v ∷ k ∷ ks) (newer v k ∷ ks) (k ∷ put_version key v ks))
      by_order Less rest = ((new, some), (later n m k.versions le are.0, are_later n m ks le are.1))
      by_order Equal rest = ((new, some), are_later n m ks le are.1)
      by_order Greater rest = (later n m k.versions le are.0, rest)

  pub whole_put : (r whole : Option ℕ) (key : Value A) (v : Version A) (rows : VersionedRows A) → IfSome r (λ m. IfSome whole (λ n. n ≤ m)) → IfSome r (λ m. is_some whole ≡ true) → IfSome r (λ m. v.number ≤ m) → is_some v.fields ≡ true → IsWhole whole rows → IsWhole r (put_version key v rows)
  whole_put None whole key v rows le known new some are = tt
  whole_put (Some m) None key v rows le known new some are = absurd (true≢false (sym known))
  whole_put (Some m) (Some n) key v rows le known new some are = put_rows n m key v rows le new some are

  pub whole_later : (r whole : Option ℕ) (rows : VersionedRows A) → IfSome r (λ m. IfSome whole (λ n. n ≤ m)) → IfSome r (λ m. is_some whole ≡ true) → IsWhole whole rows → IsWhole r rows
  whole_later None whole rows le known are = tt
  whole_later (Some m) None rows le known are = absurd (true≢false (sym known))
  whole_later (Some m) (Some n) rows le known are = are_later n m rows le are

  -- where it was put in, or not
  pub whole_either : {T E : Type 0} (r : Result T E) (whole : Option ℕ) (new put old : VersionedRows A) → OnOk r (new ≡ put) → OnErr r (new ≡ old) → IsWhole whole put → IsWhole whole old → IsWhole whole new
  whole_either (Ok x) whole new put old ok err a b = subst (IsWhole whole) (sym ok) a
  whole_either (Err e) whole new put old ok err a b = subst (IsWhole whole) (sym err) b

  -- settling leaves the newest version where it is a row
  settled_newest : (needed : Needed) (n : ℕ) (vs : List (Version A)) → IsNewestRow n vs → IsNewestRow n (settled_versions needed vs)
  settled_newest needed n [] is = is
  settled_newest needed n (v ∷ vs) is = by_test (nat_le v.number needed.oldest)
    where
      by_row : (b : Bool) → b ≡ true → IsNewestRow n (read_versions needed.snapshots (cond b (v ∷ []) []))
      by_row true e = is
      by_row false e = absurd (true≢false (sym e))

      by_test : (b : Bool) → IsNewestRow n (read_versions needed.snapshots (cond b (if_row v) (v ∷ pruned_versions needed.oldest vs)))
      by_test true = by_row (is_some v.fields) is.1
      by_test false = is

  newest_there : (n : ℕ) (k : KeyVersions A) → IsNewestRow n k.versions → has_version k ≡ true
  newest_there n k is = go k.versions is
    where
      go : (vs : List (Version A)) → IsNewestRow n vs → are_some vs ≡ true
      go [] h = absurd h
      go (v ∷ vs) h = refl

  settle_rows : (needed : Needed) (n : ℕ) (key : Value A) (rows : VersionedRows A) → AreRowsFrom n rows → AreRowsFrom n (settle_key needed key rows)
  settle_rows needed n key [] are = are
  settle_rows needed n key (k ∷ ks) are = by_order (value_cmp key k.key) (settle_rows needed n key ks are.1)
    where
      by_order : (o : Ordering) → AreRowsFrom n (settle_key needed key ks) → AreRowsFrom n (match_ordering o (k ∷ ks) (if_version (settled_key needed k) ks) (k ∷ settle_key needed key ks))
      by_order Less rest = are
      by_order Equal rest =
          let is : IsNewestRow n (settled_versions needed k.versions) = settled_newest needed n k.versions are.0 in
          rw (newest_there n (settled_key needed k) is) (is, are.1)
      by_order Greater rest = (are.0, rest)

  pub whole_settled : (needed : Needed) (whole : Option ℕ) (key : Value A) (rows : VersionedRows A) → IsWhole whole rows → IsWhole whole (settle_key needed key rows)
  whole_settled needed None key rows are = tt
  whole_settled needed (Some n) key rows are = settle_rows needed n key rows are

  -- ---- counts

  pub count_further : (s i count one : ℕ) (rows : VersionedRows A) (k : KeyVersions A) → i < length rows → k ≡ get_or rows i k → one ≡ cond (is_some (shown_row s k)) 1 0
      → (count + length (shown_rows s (drop i rows)) ≡ length (shown_rows s rows)) × (count ≤ i) → ((count + one) + length (shown_rows s (drop (i + 1) rows)) ≡ length (shown_rows s rows)) × (count + one ≤ i + 1)
  count_further s i count one rows k lt at is so_far = go (shown_row s k) is (ap (λ ks. length (shown_rows s ks)) (drop_next rows i k lt at))
    where
      rest : VersionedRows A
      rest = drop (i + 1) rows

      go : (o : Option (Row A)) → one ≡ cond (is_some o) 1 0 → length (shown_rows s (drop i rows)) ≡ length (cons_option o (shown_rows s rest)) → ((count + one) + length (shown_rows s rest) ≡ length (shown_rows s rows)) × (count + one ≤ i + 1)
      go None e cut =
          let none : one ≡ 0 = e in
          let same : length (shown_rows s (drop i rows)) ≡ length (shown_rows s rest) = cut in
          (omega (arith, none, same, so_far.0), omega (arith, none, so_far.1))
      go (Some row) e cut =
          let some : one ≡ 1 = e in
          let more : length (shown_rows s (drop i rows)) ≡ suc (length (shown_rows s rest)) = cut in
          (omega (arith, some, more, so_far.0), omega (arith, some, so_far.1))

  pub count_last : (s i count : ℕ) (rows : VersionedRows A) → length rows ≤ i → (count + length (shown_rows s (drop i rows)) ≡ length (shown_rows s rows)) × (count ≤ i) → count ≡ length (shown_rows s rows)
  count_last s i count rows past so_far =
      let none : length (shown_rows s (drop i rows)) ≡ 0 = ap (λ ks. length (shown_rows s ks)) (drop_all i rows past) in
      omega (arith, none, so_far.0)

  pub page_counted : (s i count one : ℕ) (leaves : List (Held A)) (h : Held A) → i < length leaves → h ≡ get_or leaves i h → one ≡ length (shown_rows s h.rows)
      → count + length (shown_rows s (rows_in (drop i leaves))) ≡ length (shown_rows s (rows_in leaves)) → (count + one) + length (shown_rows s (rows_in (drop (i + 1) leaves))) ≡ length (shown_rows s (rows_in leaves))
  page_counted s i count one leaves h lt at is so_far =
      let rest : VersionedRows A = rows_in (drop (i + 1) leaves) in
      let cut : length (shown_rows s (rows_in (drop i leaves))) ≡ length (shown_rows s h.rows) + length (shown_rows s rest) =
      ap (λ ls. length (shown_rows s (rows_in ls))) (drop_next leaves i h lt at) ∙ ap length (filter_map-append (shown_row s) h.rows rest) ∙ length-append (shown_rows s h.rows) (shown_rows s rest) in
      omega (arith, is, cut, so_far)

  pub pages_counted : (s i count : ℕ) (leaves : List (Held A)) → length leaves ≤ i → count + length (shown_rows s (rows_in (drop i leaves))) ≡ length (shown_rows s (rows_in leaves)) → count ≡ length (shown_rows s (rows_in leaves))
  pages_counted s i count leaves past so_far =
      let none : length (shown_rows s (rows_in (drop i leaves))) ≡ 0 = ap (λ ls. length (shown_rows s (rows_in ls))) (drop_all i leaves past) in
      omega (arith, none, so_far)
