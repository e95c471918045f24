-- Rows put in one after another: which keys are there, and how many rows.
use Rattle.std.proofs.Common.{◌≡◌, ◌+◌, Bool, true, false, true≢false, cond, ◌||◌, List, [], ◌∷◌, ◌++◌, length, Some, is_some, refl, ap, ◌∙◌, arith}
use Rattle.std.proofs.Math.Bool.{or-false}
use Rattle.std.proofs.lemmas.Bool.{or_parts}
use Rattle.std.specs.FinMap.{find}
use Rattle.std.specs.List.{fold}
use Rattle.std.specs.Ordering.{is_eq, match_ordering}
use Rattle.std.specs.declared.cmp.Ordering.{Ordering}
use Rattle.std.specs.declared.cmp.Ordering.TheVariants.{Less, Equal, Greater}
use Rattle.std.proofs.lemmas.List.Sums.{fold-append}
use Rattle.value.specs.declared.value.Value.{Value}
use Rattle.value.specs.Order.{value_cmp, value_cmp-exact}
use Rattle.schema.specs.declared.row.Row.{Row}
use Rattle.schema.specs.Plain.{same}
use Rattle.schema.specs.Rows.{put_row}
use Rattle.restore.specs.Layout.{by_key}
use Rattle.restore.specs.Faults.{has_key}

or_swapped : (a b c d : Bool) → d ≡ (b || c) → (a || d) ≡ (b || (a || c))
or_swapped true true c d e = refl
or_swapped true false c d e = refl
or_swapped false b c d e = e

or_again : (a c : Bool) → (a || c) ≡ (a || (a || c))
or_again true c = refl
or_again false c = refl

or_turned : (a b c : Bool) → (b || (a || c)) ≡ ((a || b) || c)
or_turned true true c = refl
or_turned true false c = refl
or_turned false b c = refl

module _ {A : Type 0} where
  pub key_found : (key : Value A) (rows : List (Row A)) → is_some (find value_cmp key rows) ≡ has_key rows key
  key_found key [] = refl
  key_found key (row ∷ rows) = go (same key row.0) (key_found key rows)
    where
      go : (b : Bool) → is_some (find value_cmp key rows) ≡ has_key rows key → is_some (cond b (Some row.1) (find value_cmp key rows)) ≡ (b || has_key rows key)
      go true e = refl
      go false e = e

  put_has : (key : Value A) (rows : List (Row A)) (row : Row A) → has_key (put_row rows row) key ≡ (same key row.0 || has_key rows key)
  put_has key [] row = refl
  put_has key (first ∷ rows) row = go (value_cmp row.0 first.0) refl (put_has key rows row)
    where
      go : (o : Ordering) → value_cmp row.0 first.0 ≡ o → has_key (put_row rows row) key ≡ (same key row.0 || has_key rows key)
          → has_key (match_ordering o (row ∷ first ∷ rows) (row ∷ rows) (first ∷ put_row rows row)) key ≡ (same key row.0 || (same key first.0 || has_key rows key))
      go Less is e = refl
      go Equal is e = or_again (same key row.0) (has_key rows key) ∙ ap (λ (k : Value A). same key row.0 || (same key k || has_key rows key)) (value_cmp-exact row.0 first.0 is)
      go Greater is e = or_swapped (same key first.0) (same key row.0) (has_key rows key) _ e

  all_has : (key : Value A) (before rows : List (Row A)) → has_key (fold put_row before rows) key ≡ (has_key rows key || has_key before key)
  all_has key before [] = refl
  all_has key before (row ∷ rows) =
      all_has key (put_row before row) rows ∙ ap (λ (d : Bool). has_key rows key || d) (put_has key before row) ∙ or_turned (same key row.0) (has_key rows key) (has_key before key)

  -- the keys of rows in their order are those of the rows
  pub by_key_has : (key : Value A) (rows : List (Row A)) → has_key (by_key rows) key ≡ has_key rows key
  by_key_has key rows = all_has key [] rows ∙ or-false (has_key rows key)

  -- a row more
  pub by_key_more : (rows : List (Row A)) (row : Row A) → by_key (rows ++ row ∷ []) ≡ put_row (by_key rows) row
  by_key_more rows row = fold-append put_row [] rows (row ∷ [])

  -- a row of a new key makes a table longer by one
  pub put_length : (rows : List (Row A)) (row : Row A) → has_key rows row.0 ≡ false → length (put_row rows row) ≡ length rows + 1
  put_length [] row new = refl
  put_length (first ∷ rows) row new = go (value_cmp row.0 first.0) (or_parts (same row.0 first.0) (has_key rows row.0) new).0 (put_length rows row (or_parts (same row.0 first.0) (has_key rows row.0) new).1)
    where
      go : (o : Ordering) → is_eq o ≡ false → length (put_row rows row) ≡ length rows + 1 → length (match_ordering o (row ∷ first ∷ rows) (row ∷ rows) (first ∷ put_row rows row)) ≡ length (first ∷ rows) + 1
      go Less e more = omega arith
      go Equal e more = absurd (true≢false e)
      go Greater e more = omega (arith, more)
