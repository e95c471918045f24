-- With its own literals, what a session asks for is what was read.
use Rattle.std.proofs.Common.{◌≡◌, ℕ, List, [], ◌∷◌, ◌++◌, drop, length, refl, ap, ◌∙◌}
use Rattle.value.specs.declared.value.Value.{Value}
use Rattle.statement.specs.declared.condition.Condition.{Condition}
use Rattle.statement.specs.declared.condition.Condition.TheVariants.{Compare, Between, IsNull, IsNotNull}
use Rattle.statement.specs.declared.statement.Source.{Source}
use Rattle.statement.specs.declared.statement.Source.TheVariants.{Literal, Sum}
use Rattle.statement.specs.declared.statement.Assignment.{Assignment}
use Rattle.statement.specs.declared.statement.Statement.{Statement}
use Rattle.statement.specs.declared.statement.Statement.TheVariants.{Select, Insert, Update, Delete}
use Rattle.history.specs.declared.event.Action.{Action}
use Rattle.history.specs.declared.event.Action.TheVariants.{Begin, Run, Broken, Poll, Export, Import, Commit, Rollback, Prune}
use Rattle.library.specs.Filling.{action_in, assigned_in, condition_literals, filled_assignments, filled_condition, filled_conditions, filled_source, filled_statement, filled_values, literals_in, literals_in_statement, places, read_once, source_literal}

module _ {A : Type 0} where
  own_values : (vs : List (Value A)) → filled_values vs vs ≡ vs
  own_values [] = refl
  own_values (v ∷ vs) = ap (λ ws. v ∷ ws) (own_values vs)

  own_condition : (c : Condition A) (more : List (Value A)) → filled_condition c (condition_literals c ++ more) ≡ c
  own_condition (Compare n how v) more = refl
  own_condition (Between n low high) more = refl
  own_condition (IsNull n) more = refl
  own_condition (IsNotNull n) more = refl

  behind_own : (c : Condition A) (more : List (Value A)) → drop (places c) (condition_literals c ++ more) ≡ more
  behind_own (Compare n how v) more = refl
  behind_own (Between n low high) more = refl
  behind_own (IsNull n) more = refl
  behind_own (IsNotNull n) more = refl

  own_conditions : (cs : List (Condition A)) → filled_conditions cs (literals_in cs) ≡ cs
  own_conditions [] = refl
  own_conditions (c ∷ cs) =
      ap (λ d. d ∷ filled_conditions cs (drop (places c) (condition_literals c ++ literals_in cs))) (own_condition c (literals_in cs))
      ∙ ap (λ vs. c ∷ filled_conditions cs vs) (behind_own c (literals_in cs)) ∙ ap (λ ds. c ∷ ds) (own_conditions cs)

  own_source : (s : Source A) → filled_source s (source_literal s) ≡ s
  own_source (Literal v) = refl
  own_source (Sum n m) = refl

  own_assignments : (xs : List (Assignment A)) (more : List (Value A)) → filled_assignments xs (assigned_in xs ++ more) ≡ xs
  own_assignments [] more = refl
  own_assignments (a ∷ xs) more =
      ap (λ s. record { column = a.column; source = s } ∷ filled_assignments xs (assigned_in xs ++ more)) (own_source a.source)
      ∙ ap (λ ys. a ∷ ys) (own_assignments xs more)

  behind_assigned : (xs : List (Assignment A)) (more : List (Value A)) → drop (length xs) (assigned_in xs ++ more) ≡ more
  behind_assigned [] more = refl
  behind_assigned (a ∷ xs) more = behind_assigned xs more

  own_statement : (q : Statement A) → filled_statement q (literals_in_statement q) ≡ q
  own_statement (Select t p cs) = ap (λ ds. Select t p ds) (own_conditions cs)
  own_statement (Insert t vs) = ap (λ ws. Insert t ws) (own_values vs)
  own_statement (Update t xs cs) =
      ap (λ ys. Update t ys (filled_conditions cs (drop (length xs) (assigned_in xs ++ literals_in cs)))) (own_assignments xs (literals_in cs))
      ∙ ap (λ vs. Update t xs (filled_conditions cs vs)) (behind_assigned xs (literals_in cs)) ∙ ap (λ ds. Update t xs ds) (own_conditions cs)
  own_statement (Delete t cs) = ap (λ ds. Delete t ds) (own_conditions cs)

  pub literals-stand : (s : ℕ) (a : Action A) → action_in (read_once s a) ≡ a
  literals-stand s (Begin m) = refl
  literals-stand s (Run q) = ap Run (own_statement q)
  literals-stand s (Broken r) = refl
  literals-stand s Poll = refl
  literals-stand s Export = refl
  literals-stand s (Import i) = refl
  literals-stand s Commit = refl
  literals-stand s Rollback = refl
  literals-stand s Prune = refl
