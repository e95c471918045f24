-- Where no change is within a bound, the rows within it are the lent reader's.
use Rattle.std.proofs.Common.{◌≡◌, ℕ, zero, suc, ◌==◌, ◌&&◌, Bool, true, false, cond, ◌<◌, ◌≤◌, List, [], ◌∷◌, length, Option, Some, None, Bor, refl, sym, ap, ◌∙◌, arith, unwrap_or}
use Rattle.std.proofs.lemmas.Bool.{eqb-false}
use Rattle.std.proofs.lemmas.List.{get_or-set_other}
use Rattle.std.specs.FinMap.{find}
use Rattle.std.specs.List.{find as find_change}
use Rattle.std.specs.Option.{option_map}
use Rattle.value.specs.Order.{value_cmp}
use Rattle.value.specs.declared.key.Key.{Key}
use Rattle.value.specs.declared.value.Value.{Value}
use Rattle.value.proofs.Basics.{Less-from_lt}
use Rattle.schema.specs.declared.changes.Change.{Change}
use Rattle.schema.specs.declared.reader.Bound.{Bound}
use Rattle.schema.specs.declared.reader.Bound.TheVariants.{Start, After}
use Rattle.schema.specs.declared.row.Row.{Row}
use Rattle.schema.specs.declared.tables.Tables.{Tables}
use Rattle.schema.specs.Changing.{new_row, next_change}
use Rattle.schema.specs.Plain.{rows_of, row_at, changed, put_in, put_all}
use Rattle.schema.specs.Rows.{Rows, IsInKeyOrder, is_within, next_row, rows_within}
use Rattle.schema.proofs.PlainLemmas.{row_at-put_all}
use Rattle.schema.proofs.RowsInOrder.{later_within, next_row-rest, next_row-none}
use Rattle.snapshot.proofs.FirstLemmas.{first_of, same_next}
use Rattle.snapshot.proofs.OverlayLemmas.{put_all-in_order, unsaid}

module _ {A : Type 0} where
  -- the row at each key within a bound is the same
  abbrev AreAlike : Rows A → Rows A → Bound (Bor (Key A)) → Type 0
  AreAlike rows others bound = (q : Value A) → is_within bound q ≡ true → find value_cmp q rows ≡ find value_cmp q others

  abbrev at : Key A → Bor (Key A)
  at key = record { ref_ptr = (0, 0); now = key }

  module _ (rows others : Rows A) (sorted : IsInKeyOrder rows) (others_sorted : IsInKeyOrder others) where
    none_within : (bound : Bound (Bor (Key A))) → AreAlike rows others bound → next_row others bound ≡ None → rows_within rows bound ≡ rows_within others bound
    none_within bound alike is = next_row-none rows bound (same_next rows others bound sorted others_sorted alike ∙ is) ∙ sym (next_row-none others bound is)

    -- then the rows within it are the same
    same_within : (n : ℕ) (bound : Bound (Bor (Key A))) → length (rows_within others bound) ≤ n → AreAlike rows others bound → rows_within rows bound ≡ rows_within others bound
    same_within zero bound few alike = by_next (next_row others bound) refl
      where
        by_next : (next : Option (Row A)) → next_row others bound ≡ next → rows_within rows bound ≡ rows_within others bound
        by_next None is = none_within bound alike is
        by_next (Some row) is = let whole = next_row-rest others bound row (at row.0) others_sorted refl is in absurd (omega (arith, few, ap length whole))
    same_within (suc n) bound few alike = by_next (next_row others bound) refl (λ b. same_within n b)
      where
        by_next : (next : Option (Row A)) → next_row others bound ≡ next
            → ((b : Bound (Bor (Key A))) → length (rows_within others b) ≤ n → AreAlike rows others b → rows_within rows b ≡ rows_within others b) → rows_within rows bound ≡ rows_within others bound
        by_next None is rest = none_within bound alike is
        by_next (Some row) is rest =
            let whole = next_row-rest others bound row (at row.0) others_sorted refl is in
            let within : is_within bound row.0 ≡ true = (first_of others bound row others_sorted is).1 in
            next_row-rest rows bound row (at row.0) sorted refl (same_next rows others bound sorted others_sorted alike ∙ is)
            ∙ ap (λ more. row ∷ more) (rest (After (at row.0)) (omega (arith, few, ap length whole)) (λ q after. alike q (later_within bound row.0 q (Less-from_lt (value_cmp row.0 q) after) within)))
            ∙ sym whole

  -- without a change within the bound the rows are the lent ones
  pub unchanged_within : (xs : List (Change A)) (X : Tables A) (t : ℕ) (bound : Bound (Bor (Key A))) → t < length X → IsInKeyOrder (rows_of X t) → next_change xs t bound ≡ None → rows_within (rows_of (put_all xs X) t) bound ≡ rows_within (rows_of X t) bound
  unchanged_within xs X t bound within sorted none =
      same_within (rows_of (put_all xs X) t) (rows_of X t) (put_all-in_order xs X t within sorted) sorted (length (rows_within (rows_of X t) bound)) bound (omega arith)
      (λ q inside. row_at-put_all xs X t q within ∙ ap (λ o. unwrap_or o (row_at X t q)) (unsaid xs t bound none q inside))

  -- ---- a table that no change speaks of

  none_of_table : (xs : List (Change A)) (X : Tables A) (t : ℕ) → find_change (λ y. y.table == t && is_within Start y.key) xs ≡ None → rows_of (put_all xs X) t ≡ rows_of X t
  none_of_table [] X t none = refl
  none_of_table (y ∷ ys) X t none = by_table (y.table == t) refl none (λ Y. none_of_table ys Y t)
    where
      by_table : (b : Bool) → (y.table == t) ≡ b → cond (b && is_within Start y.key) (Some y) (find_change (λ z. z.table == t && is_within Start z.key) ys) ≡ None
          → ((Y : Tables A) → find_change (λ z. z.table == t && is_within Start z.key) ys ≡ None → rows_of (put_all ys Y) t ≡ rows_of Y t) → rows_of (put_all (y ∷ ys) X) t ≡ rows_of X t
      by_table true table is rest = cc
      by_table false table is rest = rest (put_in y X) is ∙ get_or-set_other X y.table t (changed y.key y.fields (rows_of X y.table)) [] (λ p. eqb-false y.table t table (sym p))

  pub untouched_rows : (xs : List (Change A)) (X : Tables A) (t : ℕ) → next_change xs t Start ≡ None → rows_of (put_all xs X) t ≡ rows_of X t
  untouched_rows xs X t none = go (find_change (λ y. y.table == t && is_within Start y.key) xs) refl none
    where
      go : (o : Option (Change A)) → find_change (λ y. y.table == t && is_within Start y.key) xs ≡ o → option_map {T = Change A} {U = Value A × Option (Row A)} (λ x. (x.key, new_row x)) o ≡ None → rows_of (put_all xs X) t ≡ rows_of X t
      go None found e = none_of_table xs X t found
      go (Some x) found e = cc
