-- Own changes over lent tables, and how far a reading of them has come.
-- Source: PostgreSQL manual, Transaction Isolation: a command sees its own transaction's earlier changes.
use Rattle.std.specs.Prelude.{ℕ, ◌==◌, ◌&&◌, Bool, false, Option, Some, None, List, filter, find}
use Rattle.std.specs.Borrow.{Bor}
use Rattle.std.specs.Ordering.{is_lt}
use Rattle.value.specs.declared.key.Key.{Key}
use Rattle.value.specs.Order.{value_cmp}
use Rattle.schema.specs.declared.changes.Change.{Change}
use Rattle.schema.specs.declared.reader.Bound.{Bound}
use Rattle.schema.specs.declared.row.Row.{Row}
use Rattle.schema.specs.declared.tables.Tables.{Tables}
use Rattle.schema.specs.Plain.{rows_of, put_all}
use Rattle.schema.specs.Rows.{Rows, is_within}

module _ {A : Type 0} where
  -- the rows of a table with the changes put in
  abbrev pub rows_with : List (Change A) → Tables A → ℕ → Rows A
  rows_with xs X t = rows_of (put_all xs X) t

  -- there is a row, of a lesser key
  abbrev pub is_before : Option (Row A) → Key A → Bool
  is_before None key = false
  is_before (Some row) key = is_lt (value_cmp row.0 key)

  -- the first row after a key
  abbrev pub next_after : Rows A → Key A → Option (Row A)
  next_after rows key = find (λ row. is_lt (value_cmp key row.0)) rows

  -- the changes of a table after a key
  abbrev pub changes_after : List (Change A) → ℕ → Key A → List (Change A)
  changes_after xs t key = filter (λ x. x.table == t && is_lt (value_cmp key x.key)) xs

  -- the changes of a table within a bound
  abbrev pub changes_within : List (Change A) → ℕ → Bound (Bor (Key A)) → List (Change A)
  changes_within xs t bound = filter (λ x. x.table == t && is_within bound x.key) xs
