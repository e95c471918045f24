-- Rows of pages: the next one, and how many there are.
use Rattle.std.proofs.Common.{suc, ◌≡◌, refl, sym, ap, subst, ◌∙◌, ℕ, ◌+◌, Bool, true, false, true≢false, not, ◌&&◌, cond, List, [], ◌∷◌, ◌++◌, take, drop, length, Option, Some, None, is_some, arith, Bor}
use Rattle.std.specs.Prelude.{slice_get, Result, Ok, Err, IfOk}
use Rattle.std.specs.FinMap as finmap
use Rattle.std.specs.List.{AllByRecursion, flat_map, list_all}
use Rattle.std.specs.List.Sorted.{IsStrictlySortedBy}
use Rattle.std.specs.Option.{option_copied, option_map, option_or}
use Rattle.std.specs.Ordering.{is_eq, match_ordering}
use Rattle.std.specs.declared.cmp.Ordering.{Ordering}
use Rattle.std.specs.declared.cmp.Ordering.TheVariants.{Less, Equal, Greater}
use Rattle.std.proofs.lemmas.List.{take-append-drop}
use Rattle.std.proofs.lemmas.List.Concat.{flat_map-append}
use Rattle.std.proofs.lemmas.List.Folds.{find-append}
use Rattle.value.specs.Order.{value_cmp, value_cmp-exact}
use Rattle.value.specs.declared.key.Key.{Key}
use Rattle.value.specs.declared.value.Value.{Value}
use Rattle.value.proofs.Basics.{Greater-from_le, slice_get-drop, slice_get-none}
use Rattle.schema.specs.declared.row.Row.{Row}
use Rattle.schema.specs.declared.reader.Bound.{Bound}
use Rattle.schema.specs.Paged.{row_key, joined, is_before}
use Rattle.schema.specs.Pages.{IsLeast, IsBehind}
use Rattle.schema.specs.Plain.{changed}
use Rattle.schema.specs.Rows.{Rows, is_within, next_row, row_of, put_row, IsInKeyOrder}
use Rattle.schema.proofs.PageLemmas.{least-trans}
use Rattle.schema.proofs.PagedLemmas.{pages_before}
use Rattle.schema.proofs.FindLemmas.{find-none_above}
use Rattle.schema.proofs.PutLemmas.{gone-none}

pub list_all-joined : {X : Type 0} (p : X → Bool) (pages : List (List X)) → list_all (λ page. list_all p page) pages ≡ list_all p (flat_map (λ page. page) pages)
list_all-joined p [] = refl
list_all-joined {X} p (page ∷ pages) = go page (list_all-joined p pages)
  where
    go : (rows : List X) → list_all (λ page. list_all p page) pages ≡ list_all p (flat_map (λ page. page) pages) → (list_all p rows && list_all (λ page. list_all p page) pages) ≡ list_all p (rows ++ flat_map (λ page. page) pages)
    go [] rest = rest
    go (row ∷ rows) rest = by_test (p row) (go rows rest)
      where
        by_test : (b : Bool) → (list_all p rows && list_all (λ page. list_all p page) pages) ≡ list_all p (rows ++ flat_map (λ page. page) pages) → ((b && list_all p rows) && list_all (λ page. list_all p page) pages) ≡ (b && list_all p (rows ++ flat_map (λ page. page) pages))
        by_test true e = e
        by_test false e = refl

module _ {A : Type 0} where
  -- ---- the next row

  next-none : (bound : Bound (Bor (Key A))) (rows : Rows A) → AllByRecursion (λ r. is_within bound r.0 ≡ false) rows → next_row rows bound ≡ None
  next-none bound [] early = refl
  next-none bound (r ∷ rs) early = rw early.0 (next-none bound rs early.1)

  -- a page that isn't before a bound has the next row
  next-page : (bound : Bound (Bor (Key A))) (page : Rows A) (o : Option (Row A)) → is_before bound page ≡ false → option_or (next_row page bound) o ≡ next_row page bound
  next-page bound [] o late = absurd (true≢false late)
  next-page bound (r ∷ rs) o late = by_test (is_within bound r.0) late (next-page bound rs o)
    where
      by_test : (b : Bool) → (not b && is_before bound rs) ≡ false → (is_before bound rs ≡ false → option_or (next_row rs bound) o ≡ next_row rs bound) → option_or (cond b (Some r) (next_row rs bound)) o ≡ cond b (Some r) (next_row rs bound)
      by_test true e rest = refl
      by_test false e rest = rest e

  next-from : (bound : Bound (Bor (Key A))) (pages : List (Rows A)) (i : ℕ) → AllByRecursion (λ page. is_before bound page ≡ true) (take i pages) → next_row (joined pages) bound ≡ next_row (joined (drop i pages)) bound
  next-from bound pages i early =
      ap (λ ps. next_row (joined ps) bound) (sym (take-append-drop i pages))
      ∙ ap (λ rows. next_row rows bound) (flat_map-append (λ page. page) (take i pages) (drop i pages))
      ∙ find-append (λ row. is_within bound row.0) (joined (take i pages)) (joined (drop i pages))
      ∙ ap (λ o. option_or o (next_row (joined (drop i pages)) bound)) (next-none bound (joined (take i pages)) (pages_before row_key (λ page. page) bound (take i pages) early))

  pub next-here : (bound : Bound (Bor (Key A))) (pages : List (Rows A)) (i : ℕ) (page : Rows A) → AllByRecursion (λ page. is_before bound page ≡ true) (take i pages) → AllByRecursion (λ page. is_before bound page ≡ false) (drop i pages) → slice_get pages i ≡ Some page → next_row page bound ≡ next_row (joined pages) bound
  next-here bound pages i page early late at =
      let cut = slice_get-drop pages i page at in
      let here = subst (AllByRecursion (λ page. is_before bound page ≡ false)) cut late in
      sym (
      next-from bound pages i early
      ∙ ap (λ ps. next_row (joined ps) bound) cut
      ∙ find-append (λ row. is_within bound row.0) page (joined (drop (suc i) pages))
      ∙ next-page bound page (next_row (joined (drop (suc i) pages)) bound) here.0)

  pub next-past : (bound : Bound (Bor (Key A))) (pages : List (Rows A)) (i : ℕ) → AllByRecursion (λ page. is_before bound page ≡ true) (take i pages) → slice_get pages i ≡ None → None ≡ next_row (joined pages) bound
  next-past bound pages i early at = sym (next-from bound pages i early ∙ ap (λ ps. next_row (joined ps) bound) (slice_get-none pages i at))

  -- ---- the row of a key

  -- the fields beside a key, and its row
  find-row_of : (rows : Rows A) (key : Value A) → finmap.find value_cmp key rows ≡ option_map (λ row. row.1) (row_of rows key)
  find-row_of [] key = refl
  find-row_of (row ∷ rows) key = by_test (is_eq (value_cmp key row.0)) (find-row_of rows key)
    where
      by_test : (b : Bool) → finmap.find value_cmp key rows ≡ option_map (λ row. row.1) (row_of rows key)
          → cond b (Some row.1) (finmap.find value_cmp key rows) ≡ option_map (λ row. row.1) (cond b (Some row) (row_of rows key))
      by_test true e = refl
      by_test false e = e

  copied_some : (o : Option (Bor (Row A))) → is_some (option_copied o) ≡ is_some o
  copied_some None = refl
  copied_some (Some row) = refl

  -- whether a row was found
  pub found-some : (o : Option (Bor (Row A))) (rows : Rows A) (key : Value A) → option_copied o ≡ row_of rows key → is_some o ≡ is_some (row_of rows key)
  found-some o rows key found = sym (copied_some o) ∙ ap is_some found

  pub has-found : (rows : Rows A) (key : Value A) → is_some (row_of rows key) ≡ is_some (finmap.find value_cmp key rows)
  has-found rows key = go (row_of rows key) (find-row_of rows key)
    where
      go : (o : Option (Row A)) → finmap.find value_cmp key rows ≡ option_map (λ row. row.1) o → is_some o ≡ is_some (finmap.find value_cmp key rows)
      go None e = ap is_some (sym e)
      go (Some row) e = ap is_some (sym e)

  -- ---- how many rows there are

  pub count-over : (row : Row A) (rows : Rows A) → is_some (row_of rows row.0) ≡ true → IsInKeyOrder rows → length (put_row rows row) ≡ length rows
  unfolding IsStrictlySortedBy
  count-over row [] there sorted = cc
  count-over row (r ∷ rs) there sorted = by_order (value_cmp row.0 r.0) refl there (λ t. count-over row rs t sorted.1)
    where
      by_order : (o : Ordering) → value_cmp row.0 r.0 ≡ o → is_some (cond (is_eq o) (Some r) (row_of rs row.0)) ≡ true → (is_some (row_of rs row.0) ≡ true → length (put_row rs row) ≡ length rs) → length (match_ordering o (row ∷ r ∷ rs) (row ∷ rs) (r ∷ put_row rs row)) ≡ length (r ∷ rs)
      by_order Less is t rest = absurd (true≢false (sym t ∙ ap is_some (find-none_above row_key row.0 rs (least-trans row_key row.0 r.0 rs is sorted.0))))
      by_order Equal is t rest = refl
      by_order Greater is t rest = let e : length (put_row rs row) ≡ length rs = rest t in omega (arith, e)

  pub count-new : (row : Row A) (rows : Rows A) → is_some (row_of rows row.0) ≡ false → length (put_row rows row) ≡ length rows + 1
  count-new row [] there = refl
  count-new row (r ∷ rs) there = by_order (value_cmp row.0 r.0) there (count-new row rs)
    where
      by_order : (o : Ordering) → is_some (cond (is_eq o) (Some r) (row_of rs row.0)) ≡ false → (is_some (row_of rs row.0) ≡ false → length (put_row rs row) ≡ length rs + 1) → length (match_ordering o (row ∷ r ∷ rs) (row ∷ rs) (r ∷ put_row rs row)) ≡ length (r ∷ rs) + 1
      by_order Less t rest = let e : length (row ∷ r ∷ rs) ≡ length (r ∷ rs) + 1 = omega arith in e
      by_order Equal t rest = cc
      by_order Greater t rest = let e : length (put_row rs row) ≡ length rs + 1 = rest t in omega (arith, e)

  pub count-behind : (row : Row A) (rows : Rows A) → IsBehind row_key row.0 rows → length (put_row rows row) ≡ length rows + 1
  count-behind row [] behind = refl
  count-behind row (r ∷ rs) behind =
      let e : length (put_row rs row) ≡ length rs + 1 = count-behind row rs behind.1 in
      let f : length (r ∷ put_row rs row) ≡ length (r ∷ rs) + 1 = omega (arith, e) in
      rw (Greater-from_le (value_cmp row.0 r.0) behind.0) f

  gone_count : (k : Value A) (rows : Rows A) → is_some (row_of rows k) ≡ true → IsInKeyOrder rows → length (changed k None rows) + 1 ≡ length rows
  unfolding IsStrictlySortedBy
  gone_count k [] there sorted = cc
  gone_count k (r ∷ rs) there sorted = by_order (value_cmp k r.0) refl there (λ t. gone_count k rs t sorted.1)
    where
      by_order : (o : Ordering) → value_cmp k r.0 ≡ o → is_some (cond (is_eq o) (Some r) (row_of rs k)) ≡ true → (is_some (row_of rs k) ≡ true → length (changed k None rs) + 1 ≡ length rs) → length (cond (not (is_eq o)) (r ∷ changed k None rs) (changed k None rs)) + 1 ≡ length (r ∷ rs)
      by_order Less is t rest = let e : length (changed k None rs) + 1 ≡ length rs = rest t in omega (arith, e)
      by_order Equal is t rest = let e : length (changed k None rs) ≡ length rs = ap length (gone-none k rs (subst (λ l. IsLeast row_key l rs) (sym (value_cmp-exact k r.0 is)) sorted.0)) in omega (arith, e)
      by_order Greater is t rest = let e : length (changed k None rs) + 1 ≡ length rs = rest t in omega (arith, e)

  pub count-gone : (k : Value A) (rows : Rows A) → is_some (finmap.find value_cmp k rows) ≡ true → IsInKeyOrder rows → length (changed k None rows) + 1 ≡ length rows
  count-gone k rows there sorted = gone_count k rows (has-found rows k ∙ there) sorted

  -- how many there are once a row of a new key is put in
  pub counted : {E : Type 0} (r : Result ℕ E) (count : ℕ) (rows : Rows A) (key : Value A) → IfOk r (λ n. n ≡ count + 1) → count ≡ length rows → is_some (row_of rows key) ≡ false → IfOk r (λ n. (row : Row A) → row.0 ≡ key → n ≡ length (put_row rows row))
  counted (Ok n) count rows key more is none = λ row same. more ∙ ap (λ m. m + 1) is ∙ sym (count-new row rows (ap (λ k. is_some (row_of rows k)) same ∙ none))
  counted (Err e) count rows key more is none = more

  -- where a key isn't there, nothing is taken away
  absent_stay : (k : Value A) (rows : Rows A) → is_some (row_of rows k) ≡ false → rows ≡ changed k None rows
  absent_stay k [] none = refl
  absent_stay k (r ∷ rs) none = by_test (is_eq (value_cmp k r.0)) none (absent_stay k rs)
    where
      by_test : (b : Bool) → is_some (cond b (Some r) (row_of rs k)) ≡ false → (is_some (row_of rs k) ≡ false → rs ≡ changed k None rs) → r ∷ rs ≡ cond (not b) (r ∷ changed k None rs) (changed k None rs)
      by_test true e rest = absurd (true≢false e)
      by_test false e rest = ap (λ left. r ∷ left) (rest e)

  pub gone-absent : (k : Value A) (rows : Rows A) → is_some (finmap.find value_cmp k rows) ≡ false → rows ≡ changed k None rows
  gone-absent k rows none = absent_stay k rows (has-found rows k ∙ none)
