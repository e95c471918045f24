-- The lines of a dump: its first and last line, each table's CREATE TABLE and COPY line, its rows, and their number.
-- Source: PostgreSQL manual, CREATE TABLE and COPY's text format; the first line, the row counts and the last line are ours.
use Rattle.std.specs.Prelude.{ℕ, zero, suc, ◌+◌, Bool, true, false, if◌then◌else◌, Option, Some, None, option_and_then, slice_get, List, [], ◌∷◌, ◌++◌, length, map, codes}
use Rattle.std.specs.Int.Digits.{digits_of}
use Rattle.std.specs.List.{flat_map, join_with_byte}
use Rattle.std.specs.Option.{option_map}
use Rattle.value.specs.declared.kind.Kind.{Kind}
use Rattle.value.specs.declared.kind.Kind.TheVariants as kind
use Rattle.schema.specs.Definition.{ColumnDef, TableDef, Column, TableSchema, Catalog}
use Rattle.schema.specs.declared.row.Row.{Row}
use Rattle.schema.specs.declared.tables.Tables.{Tables}
use Rattle.copytext.specs.Writing.{line_text}

-- ---- a table as it is written

-- the name of a table of the catalog
abbrev pub name_of_table : Catalog → ℕ → Option (List ℕ)
name_of_table c t = option_map (λ d. d.name) (slice_get c t)

abbrev pub written_column : Catalog → Column → ColumnDef
written_column c d = record { name = d.name; kind = d.kind; not_null = d.not_null; references = option_and_then (name_of_table c) d.references }

-- a table of the catalog as it is written: references are names
abbrev pub written : Catalog → TableSchema → TableDef
written c d = record { name = d.name; columns = map (written_column c) d.columns }

-- ---- its CREATE TABLE line

abbrev pub comma : ℕ
comma = 44

abbrev pub space : ℕ
space = 32

abbrev pub kind_word : Kind → List ℕ
kind_word kind.Bigint = codes "bigint"
kind_word kind.Text = codes "text"
kind_word kind.Bytea = codes "bytea"

-- texts parted by a comma and a space
abbrev pub comma_separated : List (List ℕ) → List ℕ
comma_separated [] = []
comma_separated (text ∷ texts) = join_with_byte comma (text ∷ map (λ t. space ∷ t) texts)

abbrev pub reference_text : Option (List ℕ) → List ℕ
reference_text None = []
reference_text (Some name) = codes " REFERENCES " ++ name

abbrev pub not_null_text : Bool → List ℕ
not_null_text true = codes " NOT NULL"
not_null_text false = []

-- a column's name and kind, and what follows them
abbrev pub named_text : ColumnDef → List ℕ → List ℕ
named_text d marks = d.name ++ space ∷ kind_word d.kind ++ marks

-- the key's column
abbrev pub key_text : ColumnDef → List ℕ
key_text d = named_text d (codes " PRIMARY KEY" ++ reference_text d.references)

-- any other column
abbrev pub column_text : ColumnDef → List ℕ
column_text d = named_text d (not_null_text d.not_null ++ reference_text d.references)

-- the columns, of which the first is the key
abbrev pub column_texts : List ColumnDef → List (List ℕ)
column_texts [] = []
column_texts (d ∷ ds) = key_text d ∷ map column_text ds

-- the CREATE TABLE line of a table as it is written
abbrev pub create_line : TableDef → List ℕ
create_line d = codes "CREATE TABLE " ++ d.name ++ codes " (" ++ comma_separated (column_texts d.columns) ++ codes ");"

-- ---- the lines of its rows

-- the COPY line of a table, with all its columns
abbrev pub copy_line : TableSchema → List ℕ
copy_line d = codes "COPY " ++ d.name ++ codes " (" ++ comma_separated (map (λ c. c.name) d.columns) ++ codes ") FROM stdin;"

-- the line after a table's rows
abbrev pub end_of_rows : List ℕ
end_of_rows = codes "\\."

-- a number in decimal, without leading zeros
abbrev pub number_text : ℕ → List ℕ
number_text zero = codes "0"
number_text (suc n) = map (λ d. 48 + d) (digits_of 10 (suc n))

-- the line after that in version 2: how many rows the table has
abbrev pub rows_line : ℕ → List ℕ
rows_line n = codes "-- rows " ++ number_text n

-- version 2 counts the rows, version 1 doesn't
abbrev pub first_line : Bool → List ℕ
first_line counted = if counted then codes "-- dump 2" else codes "-- dump 1"

abbrev pub last_line : List ℕ
last_line = codes "-- end"

abbrev pub count_lines : Bool → ℕ → List (List ℕ)
count_lines true n = rows_line n ∷ []
count_lines false n = []

module _ {A : Type 0} where
  abbrev pub row_line : Row A → List ℕ
  row_line row = line_text (row.0 ∷ row.1)

  -- a table's COPY line, its rows, and what ends them
  abbrev pub table_lines : Bool → TableSchema → List (Row A) → List (List ℕ)
  table_lines counted d rows = copy_line d ∷ map row_line rows ++ end_of_rows ∷ count_lines counted (length rows)

  -- the tables in the order of their creation, each with its rows in the order of their keys
  abbrev pub data_lines : Bool → Catalog → Tables A → List (List ℕ)
  data_lines counted (d ∷ ds) (rows ∷ more) = table_lines counted d rows ++ data_lines counted ds more
  data_lines counted _ _ = []

  -- the lines of a dump
  abbrev pub dump_lines : Bool → Catalog → Tables A → List (List ℕ)
  dump_lines counted c X = first_line counted ∷ map (λ d. create_line (written c d)) c ++ data_lines counted c X ++ last_line ∷ []

  -- a dump: its lines, each ended by a newline
  abbrev pub dump_of : Bool → Catalog → Tables A → List ℕ
  dump_of counted c X = flat_map (λ line. line ++ 10 ∷ []) (dump_lines counted c X)

  -- the dump text of a catalog and tables, in version 2
  abbrev pub dump_text : Catalog → Tables A → List ℕ
  dump_text c X = dump_of true c X

  -- the dump text of a catalog and tables, in version 1
  abbrev pub dump_text1 : Catalog → Tables A → List ℕ
  dump_text1 c X = dump_of false c X
