-- The row of a line.
use Rattle.std.proofs.Common.{◌≡◌, ℕ, ◌-◌, ◌≤◌, List, [], ◌∷◌, length, take, drop, get_or, Result, Ok, Err, refl, ap, sym, subst, ◌∙◌, arith}
use Rattle.std.proofs.lemmas.List.{take_rest}
use Rattle.value.specs.declared.kind.Kind.{Kind}
use Rattle.value.specs.declared.refusal.Code.{Code}
use Rattle.value.specs.declared.value.Value.{Value}
use Rattle.value.specs.declared.value.Value.TheVariants.{Null, Int, Text, Bytes}
use Rattle.schema.specs.Definition.{Catalog}
use Rattle.schema.specs.declared.tables.Tables.{Tables}
use Rattle.schema.specs.declared.row.Row.{Row}
use Rattle.schema.specs.Inserting.{inserted}
use Rattle.copytext.specs.Reading.{line_values}
use Rattle.restore.specs.declared.error.LineError.{LineError}
use Rattle.restore.specs.Reading.{kinds_of, with_values, with_row}
use Rattle.restore.specs.Rows.{row_of_values, row_of_line}
use Rattle.restore.specs.Steps.{◌>>=◌, Gives}

-- the first of some kinds, and the others
pub first_and_rest : (ks : List Kind) (d : Kind) → 1 ≤ length ks → get_or ks 0 d ∷ take (length ks - 1) (drop 1 ks) ≡ ks
first_and_rest [] d some = absurd (omega arith)
first_and_rest (k ∷ ks) d some = ap (λ rest. k ∷ rest) (take_rest (k ∷ ks) 1)

module _ {A : Type 0} where
  -- the row of a key and the other fields
  abbrev pub row_of : Value A → List (Value A) → Row A
  row_of key fields = (key, fields)

  pub of_key : (key : Value A) (fields : List (Value A)) → (key ≡ Null → ⊥) → row_of_values (key ∷ fields) ≡ Ok (row_of key fields)
  of_key Null fields some = absurd (some refl)
  of_key (Int n) fields some = refl
  of_key (Text x) fields some = refl
  of_key (Bytes x) fields some = refl

  values_are : (c : Catalog) (X : Tables A) (t : ℕ) (values : List (Value A)) → with_values c X t values ≡ (row_of_values values >>= λ row. inserted c X t row)
  values_are c X t [] = refl
  values_are c X t (Null ∷ fields) = refl
  values_are c X t (Int n ∷ fields) = refl
  values_are c X t (Text x ∷ fields) = refl
  values_are c X t (Bytes x ∷ fields) = refl

  -- the row of a line is inserted
  pub with_row_is : (c : Catalog) (X : Tables A) (t : ℕ) (text : List ℕ) → with_row c X t text ≡ (row_of_line (kinds_of c t) text >>= λ row. inserted c X t row)
  with_row_is c X t text = go (line_values (kinds_of c t) text)
    where
      go : (r : Result (List (Value A)) Code) → (r >>= λ values. with_values c X t values) ≡ ((r >>= λ values. row_of_values values) >>= λ row. inserted c X t row)
      go (Ok values) = values_are c X t values
      go (Err code) = refl

  -- what was read of a line is inserted
  pub gives_row : {U : Type 0} (c : Catalog) (X : Tables A) (t : ℕ) (text : List ℕ) (read : Result (Row A) LineError) (row : Row A) (done : Result U LineError) (view : U → Tables A) → read ≡ Ok row
      → Gives (λ r. r) read (row_of_line (kinds_of c t) text) → Gives view done (inserted c X t row) → Gives view done (with_row c X t text)
  gives_row c X t text read row done view was given h =
      let is : row_of_line (kinds_of c t) text ≡ Ok row = subst (λ (r : Result (Row A) LineError). Gives (λ x. x) r (row_of_line (kinds_of c t) text)) was given in
      subst (Gives view done) (sym (with_row_is c X t text ∙ ap (λ (r : Result (Row A) Code). r >>= λ x. inserted c X t x) is)) h
