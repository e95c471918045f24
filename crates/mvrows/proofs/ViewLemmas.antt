-- What views read.
use Rattle.std.proofs.Common.{suc, zero, ◌≡◌, refl, sym, ap, subst, ◌∙◌, ℕ, ◌<◌, Bool, true, false, cond, List, [], ◌∷◌, length, get_or, Option, Some, None, arith}
use Rattle.std.specs.Prelude.{find}
use Rattle.std.specs.List.{cons_option}
use Rattle.std.specs.List.Sorted.{IsStrictlySortedBy}
use Rattle.std.specs.Option.{option_map, option_and_then}
use Rattle.value.specs.declared.value.Value.{Value}
use Rattle.schema.specs.Plain.{same, rows_of}
use Rattle.schema.proofs.PlainLemmas.{same_value}
use Rattle.schema.specs.Rows.{IsInKeyOrder, row_of}
use Rattle.mvrows.specs.Versions.{VersionedRows, IsInOrder, shown_fields, shown_row, shown_rows, shown}
use Rattle.mvrows.specs.HeldRows.{Held, rows_in, rows_held}
use Rattle.mvrows.proofs.VersionLemmas.{IsLeast, shown-above}

module _ {A : Type 0} where
  -- what is shown is in key order
  pub shown-in_order : (n : ℕ) (rows : VersionedRows A) → IsInOrder rows → IsInKeyOrder (shown_rows n rows)
  unfolding IsStrictlySortedBy
  shown-in_order n [] sorted = tt
  shown-in_order n (r ∷ rs) sorted = go (shown_fields n r.versions) (shown-in_order n rs sorted.1)
    where
      go : (o : Option (List (Value A))) → IsInKeyOrder (shown_rows n rs) → IsInKeyOrder (cons_option (option_map (λ f. (r.key, f)) o) (shown_rows n rs))
      go None rest = rest
      go (Some f) rest = (shown-above n r.key rs sorted.0, rest)

  -- a table of a view
  pub table-shown : (n : ℕ) (tables : List (List (Held A))) (t : ℕ) (leaves : List (Held A)) → leaves ≡ get_or tables t leaves → t < length (shown n (rows_held tables)) → shown_rows n (rows_in leaves) ≡ rows_of (shown n (rows_held tables)) t
  table-shown n [] t leaves at lt = absurd (omega arith)
  table-shown n (x ∷ xs) zero leaves at lt = ap (λ y. shown_rows n (rows_in y)) at
  table-shown n (x ∷ xs) (suc t) leaves at lt = table-shown n xs t leaves at (omega arith)

  -- ---- the row of a key is what is shown of its versions

  none_above : (n : ℕ) (k : Value A) (rows : VersionedRows A) → IsLeast k rows → row_of (shown_rows n rows) k ≡ None
  none_above n k [] above = refl
  none_above n k (r ∷ rs) above = go (shown_fields n r.versions) (none_above n k rs above.1)
    where
      go : (o : Option (List (Value A))) → row_of (shown_rows n rs) k ≡ None → row_of (cons_option (option_map (λ f. (r.key, f)) o) (shown_rows n rs)) k ≡ None
      go None rest = rest
      go (Some f) rest = rw above.0 rest

  pub row_of-found : (n : ℕ) (k : Value A) (rows : VersionedRows A) → IsInOrder rows → option_and_then (shown_row n) (find (λ r. same k r.key) rows) ≡ row_of (shown_rows n rows) k
  unfolding IsStrictlySortedBy
  row_of-found n k [] sorted = refl
  row_of-found n k (r ∷ rs) sorted = by_key (same k r.key) refl (shown_fields n r.versions) refl (row_of-found n k rs sorted.1)
    where
      by_row : (b : Bool) → same k r.key ≡ b → (o : Option (List (Value A))) → cond b (option_map (λ f. (r.key, f)) o) (row_of (shown_rows n rs) k) ≡ row_of (cons_option (option_map (λ f. (r.key, f)) o) (shown_rows n rs)) k
      by_row true e None = sym (none_above n k rs (subst (λ x. IsLeast x rs) (sym (same_value k r.key e)) sorted.0))
      by_row true e (Some f) = sym (ap (λ b. cond b (Some (r.key, f)) (row_of (shown_rows n rs) k)) e)
      by_row false e None = refl
      by_row false e (Some f) = sym (ap (λ b. cond b (Some (r.key, f)) (row_of (shown_rows n rs) k)) e)

      by_key : (b : Bool) → same k r.key ≡ b → (o : Option (List (Value A))) → shown_fields n r.versions ≡ o → option_and_then (shown_row n) (find (λ x. same k x.key) rs) ≡ row_of (shown_rows n rs) k
          → option_and_then (shown_row n) (cond b (Some r) (find (λ x. same k x.key) rs)) ≡ row_of (cons_option (option_map (λ f. (r.key, f)) o) (shown_rows n rs)) k
      by_key true e o is rest = ap (option_map (λ f. (r.key, f))) is ∙ by_row true e o
      by_key false e o is rest = rest ∙ by_row false e o
