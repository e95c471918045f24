-- Which rows satisfy a WHERE (PostgreSQL manual, "Comparison Functions and Operators"; that a comparison with null holds for no row is its three-valued logic, where null is not true).
use Rattle.std.specs.Prelude.{ℕ, Bool, not, ◌&&◌, List}
use Rattle.std.specs.List.{filter, list_all}
use Rattle.std.specs.declared.cmp.Ordering.{Ordering}
use Rattle.std.specs.Ordering.{is_eq, is_ne, is_lt, is_le, is_gt, is_ge}
use Rattle.value.specs.declared.value.Value.{Value}
use Rattle.value.specs.Order.{value_cmp}
use Rattle.schema.specs.declared.row.Row.{Row}
use Rattle.schema.specs.declared.tables.Tables.{Tables}
use Rattle.schema.specs.Plain.{is_null, field, rows_of}
use Rattle.statement.specs.declared.condition.Comparison.{Comparison}
use Rattle.statement.specs.declared.condition.Comparison.TheVariants as is
use Rattle.statement.specs.declared.condition.Condition.{Condition}
use Rattle.statement.specs.declared.condition.Condition.TheVariants.{Compare, Between, IsNull, IsNotNull}

-- whether two values in this order compare so
abbrev pub compares : Comparison → Ordering → Bool
compares is.Equal = is_eq
compares is.NotEqual = is_ne
compares is.Less = is_lt
compares is.LessOrEqual = is_le
compares is.Greater = is_gt
compares is.GreaterOrEqual = is_ge

module _ {A : Type 0} where
  -- A comparison holds where neither value is null, and they compare so.
  abbrev pub is_so : Value A → Comparison → Value A → Bool
  is_so v how w = not (is_null v) && not (is_null w) && compares how (value_cmp v w)

  -- A row meets a condition; BETWEEN is at least the one and at most the other.
  abbrev pub holds : Row A → Condition A → Bool
  holds row (Compare n how v) = is_so (field row n) how v
  holds row (Between n low high) = is_so (field row n) is.GreaterOrEqual low && is_so (field row n) is.LessOrEqual high
  holds row (IsNull n) = is_null (field row n)
  holds row (IsNotNull n) = not (is_null (field row n))

  abbrev pub satisfies : List (Condition A) → Row A → Bool
  satisfies conditions row = list_all (holds row) conditions

  -- the rows of a table that satisfy all conditions, by key
  abbrev pub chosen : Tables A → ℕ → List (Condition A) → List (Row A)
  chosen X t conditions = filter (satisfies conditions) (rows_of X t)
