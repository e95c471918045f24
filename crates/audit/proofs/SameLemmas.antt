-- Answers are the same exactly where they are equal.
use Rattle.std.proofs.Common.{◌≡◌, refl, sym, ap, ◌∙◌, Bool, true, false, true≢false, ◌&&◌, List, [], ◌∷◌, length, map, zip, eqb, Option, Some, None, is_some, if◌then◌else◌}
use Rattle.std.proofs.lemmas.Bool.{eq-eqb, eqb-true, and_parts}
use Rattle.std.specs.List.{list_all}
use Rattle.value.specs.declared.value.Value.{Value}
use Rattle.value.specs.Order.{value_eq-equivalence}
use Rattle.value.specs.declared.refusal.Refusal.{Refusal}
use Rattle.schema.specs.Plain.{same, row_at, columns_of}
use Rattle.schema.proofs.PlainLemmas.{same_value}
use Rattle.statement.specs.declared.reply.Reply.{Reply}
use Rattle.statement.specs.declared.reply.Reply.TheVariants.{Inserted, Updated, Deleted, Rows}
use Rattle.schema.specs.Definition.{Catalog}
use Rattle.schema.specs.declared.tables.Tables.{Tables}
use Rattle.statement.specs.declared.statement.Statement.{Statement}
use Rattle.statement.specs.declared.statement.Statement.TheVariants.{Select, Insert, Update, Delete}
use Rattle.statement.specs.declared.outcome.Outcome.{Outcome}
use Rattle.statement.specs.Conditions.{chosen}
use Rattle.statement.specs.Evaluation.{outcome, shown, ◌or_else◌, at_column, at_table, least_column, least_table, lacks_value, lacks_row, first_bad, assigned_lacks_value, assigned_out_of_range, assigned_lacks_row, updated_row, writes_rows, puts, removes}
use Rattle.value.specs.declared.refusal.Code.TheVariants as code
use Rattle.value.proofs.Basics.{zip_same}
use Rattle.history.specs.Answer.{is_refused}
use Rattle.audit.specs.Same.{same_answer, same_rows, same_values}

zip_self : {X : Type 0} (f : X → X → Bool) → ((x : X) → f x x ≡ true) → (xs : List X) → list_all (λ p. f p.0 p.1) (zip xs xs) ≡ true
zip_self f h [] = refl
zip_self f h (x ∷ xs) = ap (λ b. b && list_all (λ p. f p.0 p.1) (zip xs xs)) (h x) ∙ zip_self f h xs

module _ {A : Type 0} where
  same_values-true : (vs ws : List (Value A)) → same_values vs ws ≡ true → vs ≡ ws
  same_values-true vs ws e = let p = and_parts (eqb (length vs) (length ws)) (list_all (λ p. same p.0 p.1) (zip vs ws)) e in zip_same same same_value vs ws (eqb-true (length vs) (length ws) p.0) p.1

  same_rows-true : (vs ws : List (List (Value A))) → same_rows vs ws ≡ true → vs ≡ ws
  same_rows-true vs ws e = let p = and_parts (eqb (length vs) (length ws)) (list_all (λ p. same_values p.0 p.1) (zip vs ws)) e in zip_same same_values same_values-true vs ws (eqb-true (length vs) (length ws) p.0) p.1

  pub same_answer-true : (r q : Reply A) → same_answer r q ≡ true → r ≡ q
  same_answer-true Inserted Inserted e = refl
  same_answer-true (Updated n) (Updated m) e = ap Updated (eqb-true n m e)
  same_answer-true (Deleted n) (Deleted m) e = ap Deleted (eqb-true n m e)
  same_answer-true (Rows vs) (Rows ws) e = ap Rows (same_rows-true vs ws e)
  same_answer-true _ _ e = absurd (true≢false (sym e))

  -- ---- and the other way round

  same_self : (v : Value A) → same v v ≡ true
  same_self v = value_eq-equivalence.refl v

  same_values-self : (vs : List (Value A)) → same_values vs vs ≡ true
  same_values-self vs = ap (λ b. b && list_all (λ p. same p.0 p.1) (zip vs vs)) (eq-eqb (length vs) (length vs) refl) ∙ zip_self same same_self vs

  same_rows-self : (vs : List (List (Value A))) → same_rows vs vs ≡ true
  same_rows-self vs = ap (λ b. b && list_all (λ p. same_values p.0 p.1) (zip vs vs)) (eq-eqb (length vs) (length vs) refl) ∙ zip_self same_values same_values-self vs

  -- What answers a statement is the same as itself, if it is no refusal.
  abbrev Answers : Outcome A → Type 0
  Answers o = is_refused o.reply ≡ false → same_answer o.reply o.reply ≡ true

  or_else-answers : (f : Option Refusal) (o : Outcome A) → Answers o → Answers (f or_else o)
  or_else-answers None o h = h
  or_else-answers (Some r) o h = λ e. absurd (true≢false e)

  after_three : (f g h : Option Refusal) (o : Outcome A) → Answers o → Answers (f or_else g or_else h or_else o)
  after_three f g h o a = or_else-answers f (g or_else h or_else o) (or_else-answers g (h or_else o) (or_else-answers h o a))

  pub answers-itself : (c : Catalog) (q : Statement A) (X : Tables A) → Answers (outcome c q X)
  answers-itself c (Select t p conditions) X = λ e. same_rows-self (shown p (chosen X t conditions))
  answers-itself c (Insert t []) X = λ e. refl
  answers-itself c (Insert t (k ∷ fields)) X =
      after_three (at_column code.NotNullViolation (least_column lacks_value 0 (columns_of c t) (k ∷ fields))) (at_column code.UniqueViolation (if is_some (row_at X t k) then Some 0 else None))
      (at_column code.ForeignKeyViolation (least_column (lacks_row X) 0 (columns_of c t) (k ∷ fields))) (writes_rows c X Inserted (puts t (k, fields) ∷ [])) (λ e. refl)
  answers-itself c (Update t more conditions) X =
      let rows = chosen X t conditions in
      after_three (at_column code.NotNullViolation (first_bad (assigned_lacks_value more) (columns_of c t) (map (updated_row more) rows))) (at_column code.NumericValueOutOfRange (first_bad (assigned_out_of_range more) (columns_of c t) (map (updated_row more) rows)))
      (at_column code.ForeignKeyViolation (first_bad (assigned_lacks_row X more) (columns_of c t) (map (updated_row more) rows)))
      (writes_rows c X (Updated (length rows)) (map (λ row. puts t (updated_row more row)) rows)) (λ e. eq-eqb (length rows) (length rows) refl)
  answers-itself c (Delete t conditions) X =
      let rows = chosen X t conditions in
      or_else-answers (at_table code.ForeignKeyViolation (least_table t rows 0 c X)) (writes_rows c X (Deleted (length rows)) (map (removes t) rows)) (λ e. eq-eqb (length rows) (length rows) refl)
