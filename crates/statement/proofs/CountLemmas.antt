-- Counts of all rows of a table.
use Rattle.std.proofs.Common.{◌≡◌, ◌<◌, ℕ, pos, List, [], ◌∷◌, length, filter, Option, Some, None, refl, sym, ap, ◌∙◌, arith}
use Rattle.std.specs.Prelude.{IfSome}
use Rattle.value.specs.declared.value.Value.TheVariants.{Int}
use Rattle.schema.specs.declared.row.Row.{Row}
use Rattle.schema.specs.declared.tables.Tables.{Tables}
use Rattle.schema.specs.Plain.{rows_of}
use Rattle.statement.specs.declared.condition.Condition.{Condition}
use Rattle.statement.specs.declared.statement.Projection.{Projection}
use Rattle.statement.specs.declared.statement.Projection.TheVariants as is
use Rattle.statement.specs.Conditions.{chosen, satisfies}
use Rattle.statement.specs.Evaluation.{shown}

none_left : {X : Type 0} (xs : List X) → length xs < 1 → xs ≡ []
none_left [] few = refl
none_left (x ∷ xs) few = absurd (omega arith)

module _ {A : Type 0} where
  all_chosen : (rows : List (Row A)) → filter (satisfies []) rows ≡ rows
  all_chosen [] = refl
  all_chosen (row ∷ rows) = ap (λ more. row ∷ more) (all_chosen rows)

  -- without conditions all rows are counted
  pub count_of_all : (r : Option ℕ) (X : Tables A) (t : ℕ) (conditions : List (Condition A)) → length conditions < 1 → IfSome r (λ n. n ≡ length (rows_of X t)) → IfSome r (λ n. n ≡ length (chosen X t conditions))
  count_of_all None X t conditions few e = tt
  count_of_all (Some n) X t conditions few e = e ∙ ap length (sym (ap (chosen X t) (none_left conditions few) ∙ all_chosen (rows_of X t)))

  -- a SELECT of a count shows it
  pub count_shown : (r : Option ℕ) (p : Projection A) (rows others : List (Row A)) → p ≡ is.Count → rows ≡ others → IfSome r (λ n. n ≡ length rows) → IfSome r (λ n. shown p others ≡ (Int (pos n) ∷ []) ∷ [])
  count_shown None p rows others counts same e = tt
  count_shown (Some n) p rows others counts same e = ap (λ q. shown q others) counts ∙ ap (λ m. (Int (pos m) ∷ []) ∷ []) (sym (e ∙ ap length same))
