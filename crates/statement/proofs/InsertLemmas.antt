-- What an INSERT comes to.
use Rattle.std.proofs.Common.{◌≡◌, refl, sym, ap, ◌∙◌, ℕ, ◌<◌, true, List, [], ◌∷◌, ◌++◌, length, Option, Some, None, is_some, cond, drop, take, ◌-◌, get_or, arith}
use Rattle.std.proofs.lemmas.List.{append-nil, take_rest}
use Rattle.value.specs.declared.value.Value.{Value}
use Rattle.value.specs.declared.refusal.Code.TheVariants as code
use Rattle.value.specs.declared.refusal.Place.TheVariants as place
use Rattle.value.specs.declared.refusal.Refusal.{Refusal}
use Rattle.value.specs.Isolation.{first_some}
use Rattle.schema.specs.Definition.{Catalog, Column}
use Rattle.schema.specs.declared.row.Row.{Row}
use Rattle.schema.specs.declared.changes.Change.{Change}
use Rattle.schema.specs.declared.tables.Tables.{Tables}
use Rattle.schema.specs.Plain.{cells, columns_of, is_null, row_at}
use Rattle.statement.specs.declared.outcome.Mark.{Mark}
use Rattle.statement.specs.declared.outcome.Outcome.{Outcome}
use Rattle.statement.specs.declared.reply.Reply.TheVariants.{Inserted, Refused}
use Rattle.statement.specs.Evaluation.{answers, at_column, fault, inserted, lacks_row, lacks_value, least_column, puts, writes_rows, ◌or_else◌}
use Rattle.statement.specs.Inserting.{inserting_fault}
use Rattle.statement.specs.Marks.{marks_of, references_of}

module _ {A : Type 0} where
  refused_first : (a b d : Option Refusal) (o : Outcome A) (r : Refusal) → Some r ≡ first_some (λ f. f) (a ∷ b ∷ d ∷ []) → answers (Refused r) ≡ a or_else b or_else d or_else o
  refused_first (Some x) b d o r e = let same : r ≡ x = cc in ap (λ y. answers (Refused y)) same
  refused_first None (Some x) d o r e = let same : r ≡ x = cc in ap (λ y. answers (Refused y)) same
  refused_first None None (Some x) o r e = let same : r ≡ x = cc in ap (λ y. answers (Refused y)) same
  refused_first None None None o r e = cc

  none_first : (a b d : Option Refusal) (o : Outcome A) → None ≡ first_some (λ f. f) (a ∷ b ∷ d ∷ []) → o ≡ a or_else b or_else d or_else o
  none_first (Some x) b d o e = cc
  none_first None (Some x) d o e = cc
  none_first None None (Some x) o e = cc
  none_first None None None o e = refl

  not_taken : (a d : Option Refusal) (o : Option (List (Value A))) → None ≡ first_some (λ f. f) (a ∷ at_column code.UniqueViolation (cond (is_some o) (Some 0) None) ∷ d ∷ []) → o ≡ None
  not_taken (Some x) d o e = cc
  not_taken None d None e = refl
  not_taken None d (Some fields) e = cc

  abbrev null_fault : Catalog → ℕ → Row A → Option Refusal
  null_fault c t row = at_column code.NotNullViolation (least_column lacks_value 0 (columns_of c t) (cells row))

  abbrev key_fault : ℕ → Row A → Tables A → Option Refusal
  key_fault t row X = at_column code.UniqueViolation (cond (is_some (row_at X t row.0)) (Some 0) None)

  abbrev reference_fault : Catalog → ℕ → Row A → Tables A → Option Refusal
  reference_fault c t row X = at_column code.ForeignKeyViolation (least_column (lacks_row X) 0 (columns_of c t) (cells row))

  -- a row with a fault is refused
  pub inserted_refused : (c : Catalog) (t : ℕ) (row : Row A) (X : Tables A) (r : Refusal) (o : Outcome A) → Some r ≡ inserting_fault c t row X → o ≡ answers (Refused r) → o ≡ inserted c t (cells row) X
  inserted_refused c t row X r o found is = is ∙ refused_first (null_fault c t row) (key_fault t row X) (reference_fault c t row X) (writes_rows c X Inserted (puts t row ∷ [])) r found

  -- one without is written
  pub inserted_new : (c : Catalog) (t : ℕ) (row : Row A) (X : Tables A) (changes : List (Change A)) (marks : List (Mark A)) (o : Outcome A) → None ≡ inserting_fault c t row X → o ≡ record { reply = Inserted; changes = changes; marks = marks }
      → changes ≡ puts t row ∷ [] → marks ≡ references_of t (columns_of c t) row.0 (Some row.1) → o ≡ inserted c t (cells row) X
  inserted_new c t row X changes marks o none is these those =
      is
      ∙ ap (λ xs. record { reply = Inserted; changes = xs; marks = marks }) these
      ∙ ap (λ ms. record { reply = Inserted; changes = puts t row ∷ []; marks = ms }) (those ∙ sym marked)
      ∙ none_first (null_fault c t row) (key_fault t row X) (reference_fault c t row X) (writes_rows c X Inserted (puts t row ∷ [])) none
    where
      marked : marks_of c X (puts t row ∷ []) ≡ references_of t (columns_of c t) row.0 (Some row.1)
      marked =
          append-nil (references_of t (columns_of c t) row.0 (row_at X t row.0) ++ references_of t (columns_of c t) row.0 (Some row.1))
          ∙ ap (λ o. references_of t (columns_of c t) row.0 o ++ references_of t (columns_of c t) row.0 (Some row.1)) (not_taken (null_fault c t row) (reference_fault c t row X) (row_at X t row.0) none)

  null_first : (ds : List Column) (k : Value A) (fields : List (Value A)) → 0 < length ds → is_null k ≡ true → least_column lacks_value 0 ds (k ∷ fields) ≡ Some 0
  null_first [] k fields some null = absurd (omega arith)
  null_first (d ∷ ds) k fields some null = ap (λ b. cond b (Some 0) (least_column lacks_value 1 ds fields)) null

  -- a key that is null is refused
  pub inserted_null : (c : Catalog) (t : ℕ) (k : Value A) (fields : List (Value A)) (X : Tables A) (r : Refusal) (o : Outcome A) → 0 < length (columns_of c t) → is_null k ≡ true → r ≡ fault code.NotNullViolation (place.Column 1) → o ≡ answers (Refused r) → o ≡ inserted c t (k ∷ fields) X
  inserted_null c t k fields X r o some null at is =
      is ∙ ap (λ x. answers (Refused x)) at
      ∙ ap (λ n. at_column code.NotNullViolation n or_else at_column code.UniqueViolation (cond (is_some (row_at X t k)) (Some 0) None) or_else at_column code.ForeignKeyViolation (least_column (lacks_row X) 0 (columns_of c t) (k ∷ fields)) or_else writes_rows c X Inserted (puts t (k, fields) ∷ [])) (sym (null_first (columns_of c t) k fields some null))

  -- the first of some values, and the others
  pub first_and_rest : (vs : List (Value A)) (k : Value A) → 0 < length vs → k ≡ get_or vs 0 k → k ∷ take (length vs - 1) (drop 1 vs) ≡ vs
  first_and_rest [] k some is = absurd (omega arith)
  first_and_rest (v ∷ vs) k some is = ap (λ x. x ∷ take (length (v ∷ vs) - 1) vs) is ∙ ap (λ rest. v ∷ rest) (take_rest (v ∷ vs) 1)
