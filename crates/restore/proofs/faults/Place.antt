-- Where a line stands, and what forbids a row: by the lines before, and by the tables that they make.
use Rattle.std.proofs.Common.{◌≡◌, ℕ, ◌+◌, ◌-◌, ◌<◌, ◌≤◌, ◌==◌, Bool, true, false, not, ◌||◌, if◌then◌else◌, List, [], ◌∷◌, ◌++◌, length, Option, Some, None, is_some, refl, ap, ◌∙◌, arith, length-append}
use Rattle.std.proofs.lemmas.Bool.{le-ltb, lt-ltb}
use Rattle.std.specs.Prelude.{slice_index_or}
use Rattle.std.specs.List.{list_any, zip}
use Rattle.std.specs.Option.{option_map_or}
use Rattle.std.proofs.lemmas.Bool.Decides.{nat_tests}
use Rattle.value.specs.declared.refusal.Code.{Code}
use Rattle.value.specs.declared.refusal.Code.TheVariants.{NotNullViolation, UniqueViolation, ForeignKeyViolation}
use Rattle.value.specs.declared.value.Value.{Value}
use Rattle.schema.specs.Definition.{Column, Catalog, columns_of}
use Rattle.schema.specs.Inserting.{are_of_kinds, has_zero_byte, lacks_value, dangles, inserting_fault}
use Rattle.schema.specs.Plain.{is_null, cells, row_at, is_there}
use Rattle.schema.specs.declared.row.Row.{Row}
use Rattle.schema.specs.declared.tables.Tables.{Tables}
use Rattle.restore.specs.Layout.{catalog_of, parts, lead, Count, Copy, Rows, Nothing, place_in, place_behind}
use Rattle.restore.specs.Faults.{has_key, names_none, row_fault}
use Rattle.restore.proofs.faults.Layout.{at_last}

equal_test : (a b : ℕ) → a ≡ b → (a == b) ≡ true
equal_test a b e = grind (arith, nat_tests)

above_test : (a b : ℕ) → b ≤ a → (a + 1 == b) ≡ false
above_test a b h = grind (arith, nat_tests)

under_test : (a b : ℕ) → a + 1 < b → (a + 1 == b) ≡ false
under_test a b h = grind (arith, nat_tests)

pub lead_two : (t : ℕ) → lead true (t + 1) ≡ 2
lead_two t = rw (lt-ltb 0 (t + 1) (omega arith)) refl

-- ---- where a line stands

module _ (tables : ℕ) (counted : Bool) (t n : ℕ) where
  pub at_copy : n + 1 ≡ lead counted t → place_in tables counted t n ≡ Copy t
  at_copy e = rw (equal_test (n + 1) (lead counted t) e) refl

  pub at_count : n + 1 < lead counted t → place_in tables counted t n ≡ Count (t - 1)
  at_count h = let less : n < lead counted t = omega (arith, h) in rw (under_test n (lead counted t) h, lt-ltb n (lead counted t) less) refl

  pub at_rows : lead counted t ≤ n → t < tables → place_in tables counted t n ≡ Rows t
  at_rows h within = rw (above_test n (lead counted t) h, le-ltb n (lead counted t) h, lt-ltb t tables within) refl

  pub at_nothing : lead counted t ≤ n → tables ≤ t → place_in tables counted t n ≡ Nothing
  at_nothing h past = rw (above_test n (lead counted t) h, le-ltb n (lead counted t) h, le-ltb t tables past) refl

pub one_less : {X : Type 0} (xs : List X) (x : X) → length (xs ++ x ∷ []) - 1 ≡ length xs
one_less xs x = let e : length (xs ++ x ∷ []) ≡ length xs + 1 = length-append xs (x ∷ []) in omega (arith, e)

pub place_is : (counted : Bool) (lines : List (List ℕ)) (done : List (List (List ℕ))) (part : List (List ℕ)) → parts lines ≡ done ++ part ∷ []
    → place_behind counted lines ≡ place_in (length (catalog_of lines)) counted (length done) (length part)
place_is counted lines done part was =
    let last : length (parts lines) - 1 ≡ length done = ap (λ (ps : List (List (List ℕ))). length ps - 1) was ∙ one_less done part in
    let here : slice_index_or (parts lines) (length (parts lines) - 1) [] ≡ part =
    ap (λ (n : ℕ). slice_index_or (parts lines) n []) last ∙ ap (λ (ps : List (List (List ℕ))). slice_index_or ps (length done) []) was ∙ at_last done part in
    ap (λ (n : ℕ). place_in (length (catalog_of lines)) counted n (length (slice_index_or (parts lines) (length (parts lines) - 1) []))) last
    ∙ ap (λ (p : List (List ℕ)). place_in (length (catalog_of lines)) counted (length done) (length p)) here

-- ---- what stands against a row

abbrev stages : Bool → Bool → Bool → Option Code
stages null there dangling = if null then Some NotNullViolation else (if there then Some UniqueViolation else (if dangling then Some ForeignKeyViolation else None))

pub no_stage : (null there dangling : Bool) → stages null there dangling ≡ None → there ≡ false
no_stage true there dangling e = absurd cc
no_stage false true dangling e = absurd cc
no_stage false false dangling e = refl

module _ {A : Type 0} (X : Tables A) (earlier : ℕ → List (Row A)) (same : (u : ℕ) (k : Value A) → is_some (row_at X u k) ≡ has_key (earlier u) k) where
  there_so : (o : Option ℕ) (v : Value A) → option_map_or (λ t. is_some (row_at X t v)) o true ≡ option_map_or (λ t. has_key (earlier t) v) o true
  there_so None v = refl
  there_so (Some t) v = same t v

  dangle_so : (ps : List (Column × Value A)) → list_any (λ p. not (is_there X p.0 p.1)) ps ≡ list_any (λ p. names_none earlier p.0 p.1) ps
  dangle_so [] = refl
  dangle_so (p ∷ ps) =
      ap (λ (b : Bool). not (is_null p.1 || b) || list_any (λ q. not (is_there X q.0 q.1)) ps) (there_so p.0.references p.1)
      ∙ ap (λ (b : Bool). names_none earlier p.0 p.1 || b) (dangle_so ps)

  pub row_fault_is : (c : Catalog) (t : ℕ) (row : Row A) → are_of_kinds (columns_of c t) (cells row) ≡ true → list_any has_zero_byte (cells row) ≡ false → inserting_fault c X t row ≡ row_fault c earlier t row
  row_fault_is c t row kinds clear =
      let all : inserting_fault c X t row ≡ stages (lacks_value (columns_of c t) (cells row)) (is_some (row_at X t row.0)) (dangles X (columns_of c t) (cells row)) = rw (kinds, clear) refl in
      all ∙ ap (λ (b : Bool). stages (lacks_value (columns_of c t) (cells row)) b (dangles X (columns_of c t) (cells row))) (same t row.0)
      ∙ ap (λ (b : Bool). stages (lacks_value (columns_of c t) (cells row)) (has_key (earlier t) row.0) b) (dangle_so (zip (columns_of c t) (cells row)))

  -- a row without a fault has a new key
  pub new_key : (c : Catalog) (t : ℕ) (row : Row A) → row_fault c earlier t row ≡ None → has_key (earlier t) row.0 ≡ false
  new_key c t row none = no_stage (lacks_value (columns_of c t) (cells row)) (has_key (earlier t) row.0) (list_any (λ p. names_none earlier p.0 p.1) (zip (columns_of c t) (cells row))) none
