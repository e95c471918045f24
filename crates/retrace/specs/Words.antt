-- What `run --why` calls what was read or written. Keys have their COPY text.
use Rattle.std.specs.Prelude.{ℕ, List, [], ◌++◌, codes, Option, Some, None, slice_get}
use Rattle.std.specs.Fmt.{decimal}
use Rattle.value.specs.declared.value.Value.{Value}
use Rattle.copytext.specs.Writing.{field_text}
use Rattle.schema.specs.Definition.{Catalog, Column, TableSchema}
use Rattle.statement.specs.declared.reading.End.{End}
use Rattle.statement.specs.declared.reading.End.TheVariants.{Open, Closed, Without}
use Rattle.statement.specs.declared.reading.Extent.{Extent}
use Rattle.statement.specs.declared.reading.Extent.TheVariants.{Whole, One, Range, Referencing}
use Rattle.statement.specs.declared.reading.Reading.{Reading}
use Rattle.retrace.specs.Holds.{greatest_key, least_key}
use Rattle.retrace.specs.declared.witness.hold.Hold.{Hold}
use Rattle.retrace.specs.declared.witness.hold.Hold.TheVariants as hold
use Rattle.retrace.specs.declared.witness.item.Item.{Item}

-- ---- names

-- a question mark where there is no such table, or column
abbrev pub name_of_table : Option TableSchema → List ℕ
name_of_table None = codes "?"
name_of_table (Some d) = d.name

abbrev pub name_of_column : Option Column → List ℕ
name_of_column None = codes "?"
name_of_column (Some d) = d.name

abbrev pub table_name : Catalog → ℕ → List ℕ
table_name c t = name_of_table (slice_get c t)

abbrev pub column_of : Option TableSchema → ℕ → List ℕ
column_of None j = codes "?"
column_of (Some d) j = name_of_column (slice_get d.columns j)

-- columns are counted from 0
abbrev pub column_name : Catalog → ℕ → ℕ → List ℕ
column_name c t j = column_of (slice_get c t) j

-- so much of a table was read that it counts as the whole
abbrev pub table_told : Catalog → ℕ → List ℕ
table_told c t = codes "so many ranges or references of " ++ table_name c t ++ codes " that it counts as read whole"

abbrev pub count_told : Catalog → ℕ → ℕ → List ℕ
count_told c t n = decimal n ++ codes " single keys of " ++ table_name c t

module _ {A : Type 0} where
  -- ---- keys

  -- a column's name, a sign and a key, as in `id = 1`
  abbrev pub compared : Catalog → ℕ → ℕ → List ℕ → Value A → List ℕ
  compared c t j sign k = column_name c t j ++ sign ++ field_text k

  -- a key of a table, as in `t id = 1`
  abbrev pub key_told : Catalog → ℕ → Value A → List ℕ
  key_told c t k = table_name c t ++ codes " " ++ compared c t 0 (codes " = ") k

  -- the rows with a key in a column
  abbrev pub rows_told : Catalog → ℕ → ℕ → Value A → List ℕ
  rows_told c t j k = codes "rows of " ++ table_name c t ++ codes " with " ++ compared c t j (codes " = ") k

  -- ---- ranges

  abbrev pub lower_told : Catalog → ℕ → End A → List ℕ
  lower_told c t Open = []
  lower_told c t (Closed k) = compared c t 0 (codes " >= ") k
  lower_told c t (Without k) = compared c t 0 (codes " > ") k

  abbrev pub upper_told : Catalog → ℕ → End A → List ℕ
  upper_told c t Open = []
  upper_told c t (Closed k) = compared c t 0 (codes " <= ") k
  upper_told c t (Without k) = compared c t 0 (codes " < ") k

  -- what stands between two ends
  abbrev pub between : End A → End A → List ℕ
  between Open e = []
  between (Closed k) Open = []
  between (Closed k) (Closed l) = codes " and "
  between (Closed k) (Without l) = codes " and "
  between (Without k) Open = []
  between (Without k) (Closed l) = codes " and "
  between (Without k) (Without l) = codes " and "

  -- a range of a table's keys, as in `t id >= 1 and id < 5`
  abbrev pub range_told : Catalog → ℕ → End A → End A → List ℕ
  range_told c t e f = table_name c t ++ codes " " ++ lower_told c t e ++ between e f ++ upper_told c t f

  -- ---- what was read

  abbrev pub extent_told : Catalog → ℕ → Extent A → List ℕ
  extent_told c t Whole = table_name c t ++ codes " whole"
  extent_told c t (One k) = key_told c t k
  extent_told c t (Range e f) = range_told c t e f
  extent_told c t (Referencing j k) = rows_told c t j k

  abbrev pub end_told : Option (Value A) → List ℕ
  end_told None = []
  end_told (Some k) = field_text k

  abbrev pub ends_told : Option (Value A) → Option (Value A) → List ℕ
  ends_told k l = end_told k ++ codes " to " ++ end_told l

  abbrev pub span_told : ℕ → List (Reading A) → List ℕ
  span_told t rs = codes ", which count as the range " ++ ends_told (least_key t rs) (greatest_key t rs)

  -- so many single keys, which count as a range
  abbrev pub keys_told : Catalog → ℕ → ℕ → List (Reading A) → List ℕ
  keys_told c t n rs = count_told c t n ++ span_told t rs

  -- the reading at a place; its table's name where there is none
  abbrev pub reading_told : Catalog → ℕ → Option (Reading A) → List ℕ
  reading_told c t None = table_name c t
  reading_told c t (Some r) = extent_told c r.table r.extent

  -- by what readings of a table something was held
  abbrev pub hold_told : Catalog → ℕ → List (Reading A) → Hold → List ℕ
  hold_told c t rs (hold.Reading n) = reading_told c t (slice_get rs n)
  hold_told c t rs (hold.Keys n) = keys_told c t n rs
  hold_told c t rs hold.Table = table_told c t

  -- ---- what was written

  abbrev pub written_told : Catalog → ℕ → Option ℕ → Value A → List ℕ
  written_told c t None k = key_told c t k
  written_told c t (Some j) k = rows_told c t j k

  abbrev pub item_told : Catalog → Item A → List ℕ
  item_told c i = written_told c i.table i.column i.key
