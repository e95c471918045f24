-- Plain tables: for each table of the catalog its rows in the order of their keys; what a change makes of them, and when they are sound.
-- Sound is what PostgreSQL's manual asks of a table under "Constraints" (Data Definition): not null, primary key, foreign key; and of values under "Data Types".
use Rattle.std.specs.Prelude.{ℕ, ℤ, pos, negsuc, ◌-◌, ◌^◌, ◌==◌, nat_lt, int_le, int_lt, Bool, true, false, not, ◌&&◌, ◌||◌, Option, Some, None, is_some, List, [], ◌∷◌, slice_set, slice_index_or}
use Rattle.std.specs.List.{list_all, list_any}
use Rattle.std.specs.Option.{option_map_or}
use Rattle.std.specs.Ordering.{eq_by_cmp}
use Rattle.std.specs.Str.{is_utf8}
use Rattle.std.specs.FinMap.{find, put, is_sorted}
use Rattle.std.specs.FinMap.Entries.{where_key}
use Rattle.value.specs.declared.kind.Kind.{Kind}
use Rattle.value.specs.declared.kind.Kind.TheVariants as kind
use Rattle.value.specs.declared.value.Value.{Value}
use Rattle.value.specs.declared.value.Value.TheVariants.{Null, Int, Text, Bytes}
use Rattle.value.specs.Order.{value_cmp}
use Rattle.schema.specs.Definition.{Column}
use Rattle.schema.specs.Definition.{TableSchema}
use Rattle.schema.specs.declared.row.Row.{Row}
use Rattle.schema.specs.declared.changes.Change.{Change}
use Rattle.schema.specs.Definition.{Catalog}
pub use Rattle.schema.specs.Definition.{columns_of}
use Rattle.schema.specs.declared.tables.Tables.{Tables}

-- A bigint is a number of 64 bits with a sign (the manual, "Integer Types").
abbrev pub in_range : ℤ → Bool
in_range n = int_le (negsuc (2 ^ 63 - 1)) n && int_lt n (pos (2 ^ 63))

module _ {A : Type 0} where
  -- Two values are one and the same key.
  abbrev pub same : Value A → Value A → Bool
  same = eq_by_cmp value_cmp

  abbrev pub is_null : Value A → Bool
  is_null Null = true
  is_null _ = false

  -- the values of a row, the key's first
  abbrev pub cells : Row A → List (Value A)
  cells row = row.0 ∷ row.1

  -- the value in a column, counted from 0
  abbrev pub field : Row A → ℕ → Value A
  field row n = slice_index_or (cells row) n Null

  -- the rows of a table, counted from 0; none, where there is no such table
  abbrev pub rows_of : Tables A → ℕ → List (Row A)
  rows_of X t = slice_index_or X t []

  -- the fields beside a key, where the table has the key
  abbrev pub row_at : Tables A → ℕ → Value A → Option (List (Value A))
  row_at X t k = find value_cmp k (rows_of X t)

  -- ---- changes

  -- A change of a key leaves these fields beside it, whether it was there or not, or takes it away where there are none.
  abbrev pub changed : Value A → Option (List (Value A)) → List (Row A) → List (Row A)
  changed k (Some fields) rows = put value_cmp k fields rows
  changed k None rows = where_key value_cmp (λ x. not (same k x)) rows

  -- the tables with a change put in
  abbrev pub put_in : Change A → Tables A → Tables A
  put_in x X = slice_set X x.table (changed x.key x.fields (rows_of X x.table))

  -- the tables with all changes put in, the first first
  abbrev pub put_all : List (Change A) → Tables A → Tables A
  put_all [] X = X
  put_all (x ∷ xs) X = put_all xs (put_in x X)

  -- ---- soundness

  -- null, or a value of the kind: a number of 64 bits, a text of UTF-8 without the zero byte, bytes
  abbrev pub has_kind : Kind → Value A → Bool
  has_kind k Null = true
  has_kind kind.Bigint (Int n) = in_range n
  has_kind kind.Text (Text t) = is_utf8 t && not (list_any (λ b. b == 0) t)
  has_kind kind.Bytea (Bytes bytes) = list_all (λ b. nat_lt b 256) bytes
  has_kind _ _ = false

  -- what a non-null reference names is there
  abbrev pub is_there : Tables A → Column → Value A → Bool
  is_there X c v = is_null v || option_map_or (λ t. is_some (row_at X t v)) c.references true

  -- A row has one value for each column: of its kind, not null where none may be, and no reference to a row that isn't there.
  abbrev pub fits_columns : Tables A → List Column → List (Value A) → Bool
  fits_columns X [] [] = true
  fits_columns X (c ∷ cs) (v ∷ vs) = has_kind c.kind v && not (c.not_null && is_null v) && is_there X c v && fits_columns X cs vs
  fits_columns X _ _ = false

  -- Keys rise, so that each stands once; none is null, and each row fits the columns.
  abbrev pub is_sound_table : Tables A → TableSchema → List (Row A) → Bool
  is_sound_table X d rows = is_sorted value_cmp rows && list_all (λ r. not (is_null r.0) && fits_columns X d.columns (cells r)) rows

  -- There is one table for each definition, and each is sound; references are looked up in X.
  abbrev pub sound_tables : Tables A → Catalog → List (List (Row A)) → Bool
  sound_tables X [] [] = true
  sound_tables X (d ∷ ds) (rows ∷ more) = is_sound_table X d rows && sound_tables X ds more
  sound_tables X _ _ = false

  -- The tables hold what their definitions ask for.
  abbrev pub is_sound : Catalog → Tables A → Bool
  is_sound c X = sound_tables X c X
