-- References that are looked up by key.
use Rattle.std.proofs.Common.{◌≡◌, ℕ, ℤ, pos, negsuc, ◌<◌, ◌≤◌, ◌^◌, Bool, true, false, true≢false, not, cond, List, [], ◌∷◌, length, Option, Some, None, is_some, Bor, refl, sym, ap, ◌∙◌, arith, w64}
use Rattle.std.proofs.lemmas.Bool.{and_parts}
use Rattle.std.specs.Prelude.{FitsSigned}
use Rattle.std.proofs.lemmas.Bool.Decides.{nat_tests}
use Rattle.std.proofs.lemmas.Int.{ints}
use Rattle.std.specs.List.{list_all}
use Rattle.std.specs.Option.{option_copied, option_map_or}
use Rattle.std.specs.Ordering.{is_eq}
use Rattle.std.specs.FinMap.{find}
use Rattle.value.specs.declared.kind.Kind.{Kind}
use Rattle.value.specs.declared.kind.Kind.TheVariants as kind
use Rattle.value.specs.declared.value.Value.{Value}
use Rattle.value.specs.declared.value.Value.TheVariants.{Int}
use Rattle.value.specs.Order.{value_cmp}
use Rattle.schema.specs.Definition.{Column, Catalog}
use Rattle.schema.specs.declared.row.Row.{Row}
use Rattle.schema.specs.declared.tables.Tables.{Tables}
use Rattle.schema.specs.Plain.{same, in_range, is_null, cells, has_kind, rows_of, row_at, columns_of}
use Rattle.schema.specs.Rows.{row_of}
use Rattle.schema.proofs.PlainLemmas.{same_value, rows_of-past}
use Rattle.statement.specs.Fits.{literals_fit, takes}
use Rattle.statement.specs.Walk.{is_row_of, are_of}
use Rattle.statement.proofs.HeldLemmas.{held_length, held_table}

-- a number that 64 bits don't hold isn't in range
pub beyond : (n : ℤ) → (FitsSigned w64 n → ⊥) → in_range n ≡ false
beyond n f = by_test (in_range n) refl
  where
    fits : (m : ℤ) → in_range m ≡ true → FitsSigned w64 m
    fits (pos m) e = let lt : m < 2 ^ 63 = grind (arith, nat_tests) in omega (arith, ints)
    fits (negsuc m) e = let lt : m < 2 ^ 63 = grind (arith, nat_tests) in omega (arith, ints)

    by_test : (b : Bool) → in_range n ≡ b → in_range n ≡ false
    by_test true e = absurd (f (fits n e))
    by_test false e = e

module _ {A : Type 0} where
  -- a key has a row for a reader where it has one
  pub found_some : (rows : List (Row A)) (k : Value A) (found : Option (Bor (Row A))) → option_copied found ≡ row_of rows k → is_some found ≡ is_some (find value_cmp k rows)
  found_some rows k found e = copied found ∙ ap is_some e ∙ both_find rows
    where
      copied : (o : Option (Bor (Row A))) → is_some o ≡ is_some (option_copied o)
      copied None = refl
      copied (Some row) = refl

      both_find : (rs : List (Row A)) → is_some (row_of rs k) ≡ is_some (find value_cmp k rs)
      both_find [] = refl
      both_find (r ∷ rs) = by_test (is_eq (value_cmp k r.0)) (both_find rs)
        where
          by_test : (b : Bool) → is_some (row_of rs k) ≡ is_some (find value_cmp k rs) → is_some (cond b (Some r) (row_of rs k)) ≡ is_some (cond b (Some r.1) (find value_cmp k rs))
          by_test true rest = refl
          by_test false rest = rest

  -- a table that the catalog doesn't have has no row
  pub none_past : (c : Catalog) (X : Tables A) (t : ℕ) (k : Value A) → are_of c X ≡ true → (t < length c → ⊥) → false ≡ is_some (row_at X t k)
  none_past c X t k held past =
      let len = held_length c X held in
      let over : length X ≤ t = grind (arith, len, past) in
      sym (ap (λ rows. is_some (find value_cmp k rows)) (rows_of-past X t over))

  -- no key is a number out of range
  no_number : (ds : List Column) (rows : List (Row A)) (n : ℤ) → list_all (is_row_of ds) rows ≡ true → in_range n ≡ false → is_some (find value_cmp (Int n) rows) ≡ false
  no_number ds [] n held out = refl
  no_number ds (r ∷ rows) n held out =
      let p = and_parts (is_row_of ds r) (list_all (is_row_of ds) rows) held in
      let q = and_parts (not (is_null r.0)) (literals_fit ds (cells r)) p.0 in
      ap (λ b. is_some (cond b (Some r.1) (find value_cmp (Int n) rows))) (apart ds q.1) ∙ no_number ds rows n p.1 out
    where
      of_kind : (k : Kind) → has_kind {A = A} k (Int n) ≡ false
      of_kind kind.Bigint = out
      of_kind kind.Text = refl
      of_kind kind.Bytea = refl

      apart : (cs : List Column) → literals_fit cs (cells r) ≡ true → same (Int n) r.0 ≡ false
      apart [] e = absurd (true≢false (sym e))
      apart (d ∷ cs) e = by_test (same (Int n) r.0) refl
        where
          by_test : (b : Bool) → same (Int n) r.0 ≡ b → same (Int n) r.0 ≡ false
          by_test false s = s
          by_test true s = absurd (true≢false (sym (and_parts (takes r.0 d) (literals_fit cs r.1) e).0 ∙ ap (has_kind d.kind) (sym (same_value (Int n) r.0 s)) ∙ of_kind d.kind))

  -- a number out of range references no row
  pub no_row : (c : Catalog) (X : Tables A) (n : ℤ) (references : Option ℕ) (none : Bool) → are_of c X ≡ true → in_range n ≡ false → not none ≡ is_some references → none ≡ option_map_or (λ t. is_some (row_at X t (Int n))) references true
  no_row c X n None true held out e = refl
  no_row c X n None false held out e = absurd (true≢false e)
  no_row c X n (Some t) true held out e = absurd (true≢false (sym e))
  no_row c X n (Some t) false held out e = sym (no_number (columns_of c t) (rows_of X t) n (held_table c X t held).1 out)
