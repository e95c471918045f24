-- Rows put into plain tables, one after another.
use Rattle.std.specs.Prelude.{ℕ, [], ◌∷◌, slice_set}
use Rattle.schema.specs.declared.tables.Tables.{Tables}
use Rattle.schema.specs.Plain.{rows_of}
use Rattle.schema.specs.Rows.{Rows, put_row}

module _ {A : Type 0} where
  -- a table's rows with others put in
  abbrev pub put_rows : Rows A → Rows A → Rows A
  put_rows rows [] = rows
  put_rows rows (row ∷ more) = put_rows (put_row rows row) more

  -- tables with rows put into one of them
  abbrev pub with_rows : Tables A → ℕ → Rows A → Tables A
  with_rows X t rows = slice_set X t (put_rows (rows_of X t) rows)
