-- What a condition asks of a row before it can be tried.
use Rattle.std.specs.Prelude.{ℕ, ◌<◌, List, length}
use Rattle.std.specs.List.{All}
use Rattle.schema.specs.declared.row.Row.{Row}
use Rattle.schema.specs.Plain.{cells}
use Rattle.statement.specs.declared.condition.Condition.{Condition}
use Rattle.statement.specs.declared.condition.Condition.TheVariants.{Compare, Between, IsNull, IsNotNull}

module _ {A : Type 0} where
  -- the column that a condition is on, counted from 0
  abbrev pub column_of : Condition A → ℕ
  column_of (Compare n how v) = n
  column_of (Between n low high) = n
  column_of (IsNull n) = n
  column_of (IsNotNull n) = n

  -- the row has the columns of the conditions
  abbrev pub HasColumns : List (Condition A) → Row A → Type 0
  HasColumns conditions row = All (λ c. column_of c < length (cells row)) conditions
