-- A statement that isn't refused has an answer that agrees with itself.
use Rattle.std.proofs.Common.{◌≡◌, refl, sym, ap, subst, ◌∙◌, true, false, true≢false, cond, ◌&&◌, List, [], ◌∷◌, length, map, eqb, Option, Some, None, is_some}
use Rattle.std.proofs.lemmas.Bool.{eq-eqb}
use Rattle.std.specs.List.{AllByRecursion, list_all}
use Rattle.value.specs.declared.value.Value.{Value}
use Rattle.value.specs.declared.refusal.Code.TheVariants as code
use Rattle.value.specs.declared.refusal.Refusal.{Refusal}
use Rattle.schema.specs.Definition.{Catalog}
use Rattle.schema.specs.Plain.{columns_of, row_at}
use Rattle.schema.specs.declared.tables.Tables.{Tables}
use Rattle.statement.specs.Conditions.{chosen}
use Rattle.statement.specs.Evaluation.{after, assigned_lacks_row, assigned_lacks_value, assigned_out_of_range, at_column, at_table, first_bad, lacks_row, lacks_value, least_column, least_table, outcome, puts, removes, shown, updated_row, writes_rows, ◌or_else◌}
use Rattle.statement.specs.declared.outcome.Outcome.{Outcome}
use Rattle.statement.specs.declared.reply.Reply.{Reply}
use Rattle.statement.specs.declared.reply.Reply.TheVariants.{Deleted, Inserted, Updated}
use Rattle.statement.specs.declared.statement.Statement.{Statement}
use Rattle.statement.specs.declared.statement.Statement.TheVariants.{Delete, Insert, Select, Update}
use Rattle.history.specs.Answer.{is_refused}
use Rattle.history.specs.Serial.{Alone}
use Rattle.orders.specs.Explains.{agrees, alone, same_bag, times}

module _ {A : Type 0} where
  -- ---- answers that agree with themselves

  as_often : (rows all : List (List (Value A))) → list_all (λ row. eqb (times row all) (times row all)) rows ≡ true
  as_often [] all = refl
  as_often (row ∷ rows) all = ap (λ b. b && list_all (λ r. eqb (times r all) (times r all)) rows) (eq-eqb (times row all) (times row all) refl) ∙ as_often rows all

  same_rows : (rows : List (List (Value A))) → same_bag rows rows ≡ true
  same_rows rows = ap (λ b. b && list_all (λ row. eqb (times row rows) (times row rows)) rows) (eq-eqb (length rows) (length rows) refl) ∙ as_often rows rows

  -- what is no fault agrees with itself, and so does what comes where no fault does
  no_fault : (o p q : Option Refusal) (x : Outcome A) → agrees x.reply x.reply ≡ true → is_refused (o or_else p or_else q or_else x).reply ≡ false
      → agrees (o or_else p or_else q or_else x).reply (o or_else p or_else q or_else x).reply ≡ true
  no_fault (Some r) p q x a e = absurd (true≢false e)
  no_fault None (Some r) q x a e = absurd (true≢false e)
  no_fault None None (Some r) x a e = absurd (true≢false e)
  no_fault None None None x a e = a

  agrees_itself : (c : Catalog) (q : Statement A) (X : Tables A) → is_refused (outcome c q X).reply ≡ false → agrees (outcome c q X).reply (outcome c q X).reply ≡ true
  agrees_itself c (Select t p conditions) X e = same_rows (shown p (chosen X t conditions))
  agrees_itself c (Insert t []) X e = refl
  agrees_itself c (Insert t (k ∷ fields)) X e = no_fault
      (at_column code.NotNullViolation (least_column lacks_value 0 (columns_of c t) (k ∷ fields)))
      (at_column code.UniqueViolation (cond (is_some (row_at X t k)) (Some 0) None))
      (at_column code.ForeignKeyViolation (least_column (lacks_row X) 0 (columns_of c t) (k ∷ fields)))
      (writes_rows c X Inserted (puts t (k, fields) ∷ [])) refl e
  agrees_itself c (Update t more conditions) X e = no_fault
      (at_column code.NotNullViolation (first_bad (assigned_lacks_value more) (columns_of c t) (map (updated_row more) (chosen X t conditions))))
      (at_column code.NumericValueOutOfRange (first_bad (assigned_out_of_range more) (columns_of c t) (map (updated_row more) (chosen X t conditions))))
      (at_column code.ForeignKeyViolation (first_bad (assigned_lacks_row X more) (columns_of c t) (map (updated_row more) (chosen X t conditions))))
      (writes_rows c X (Updated (length (chosen X t conditions))) (map (λ row. puts t (updated_row more row)) (chosen X t conditions)))
      (eq-eqb (length (chosen X t conditions)) (length (chosen X t conditions)) refl) e
  agrees_itself c (Delete t conditions) X e = no_fault
      None None
      (at_table code.ForeignKeyViolation (least_table t (chosen X t conditions) 0 c X))
      (writes_rows c X (Deleted (length (chosen X t conditions))) (map (removes t) (chosen X t conditions)))
      (eq-eqb (length (chosen X t conditions)) (length (chosen X t conditions)) refl) e

  -- none of these was refused
  abbrev pub AreAnswered : List (Statement A × Reply A) → Type 0
  AreAnswered qs = AllByRecursion (λ q. is_refused q.1 ≡ false) qs

  -- Statements that, done alone, give exactly what was recorded, and no refusal, give what agrees with it.
  pub alone_agrees : (c : Catalog) (qs : List (Statement A × Reply A)) (X Y : Tables A) → AreAnswered qs → Alone c qs X Y → alone c qs X ≡ Some Y
  alone_agrees c [] X Y a h = ap Some (sym h)
  alone_agrees c (q ∷ qs) X Y a h =
      let agreed : agrees (outcome c q.0 X).reply q.1 ≡ true = subst (λ r. agrees (outcome c q.0 X).reply r ≡ true) h.0 (agrees_itself c q.0 X (ap is_refused h.0 ∙ a.0)) in
      ap (λ b. cond b (alone c qs (after c q.0 X)) None) agreed ∙ alone_agrees c qs (after c q.0 X) Y a.1 h.1
