-- Where a line of a dump stands, by the lines before it: which lines are CREATE TABLE lines, and which are the rows of a table.
-- Source: PostgreSQL manual, COPY's text format; the lines of a dump are ours.
use Rattle.std.specs.Prelude.{ℕ, ◌+◌, ◌-◌, ◌==◌, nat_lt, Bool, true, false, ◌&&◌, if◌then◌else◌, Option, Some, None, List, [], ◌∷◌, length, map, drop, codes, Result, Ok, Err, slice_index_or}
use Rattle.std.specs.List.{slice_split, filter_map, fold, range_with_len}
use Rattle.std.specs.Option.{option_map_or}
use Rattle.std.specs.Str.{bytes_eq}
use Rattle.value.specs.declared.kind.Kind.{Kind}
use Rattle.value.specs.declared.refusal.Code.{Code}
use Rattle.value.specs.declared.refusal.Code.TheVariants.{BadCopyFileFormat}
use Rattle.schema.specs.Adding.{added}
use Rattle.schema.specs.Definition.{Catalog, columns_of}
use Rattle.schema.specs.Rows.{put_row}
use Rattle.schema.specs.declared.row.Row.{Row}
use Rattle.schema.specs.declared.tables.Tables.{Tables}
use Rattle.copytext.specs.Writing.{newline}
use Rattle.dumpplan.specs.Lines.{first_line, end_of_rows}
use Rattle.restore.specs.CreateLine.{behind, table_of}
use Rattle.restore.specs.Rows.{row_of_line}
use Rattle.restore.specs.Steps.{◌>>=◌}

-- the lines of a text, and what follows the last newline
abbrev pub lines_of : List ℕ → List (List ℕ)
lines_of text = slice_split (λ b. b == newline) text

-- the version that the first line says: whether it counts the rows of a table
abbrev pub version : List ℕ → Result Bool Code
version line =
    if bytes_eq line (first_line true) then Ok true
    else (if bytes_eq line (first_line false) then Ok false
    else Err BadCopyFileFormat)

-- one table more, of what follows CREATE TABLE
abbrev pub with_table : Catalog → List ℕ → Result Catalog Code
with_table c text = table_of text >>= λ d. added c d

-- the kinds of a table's columns
abbrev pub kinds_of : Catalog → ℕ → List Kind
kinds_of c t = map (λ d. d.kind) (columns_of c t)

-- what was answered, if it was
abbrev pub found : {X : Type 0} → Result X Code → Option X
found (Ok x) = Some x
found (Err code) = None

-- ---- From here on lines are those after the first. A Bool says whether the rows of a table are counted.

-- what follows the words CREATE TABLE, in the lines from the first on that begin so
abbrev pub create_texts : List (List ℕ) → List (List ℕ)
create_texts [] = []
create_texts (line ∷ lines) = option_map_or (λ text. text ∷ create_texts lines) (behind (codes "CREATE TABLE ") line) []

-- the lines after those
abbrev pub behind_creates : List (List ℕ) → List (List ℕ)
behind_creates [] = []
behind_creates (line ∷ lines) = option_map_or (λ text. behind_creates lines) (behind (codes "CREATE TABLE ") line) (line ∷ lines)

-- a catalog with the table that a text says, where it may be added
abbrev pub taken_up : Catalog → List ℕ → Catalog
taken_up c text = option_map_or (λ d. d) (found (with_table c text)) c

-- the catalog of the CREATE TABLE lines
abbrev pub catalog_of : List (List ℕ) → Catalog
catalog_of lines = fold taken_up [] (create_texts lines)

-- the lines of each table, up to the line that ends its rows
abbrev pub parts : List (List ℕ) → List (List (List ℕ))
parts lines = slice_split (λ line. bytes_eq line end_of_rows) (behind_creates lines)

-- how many of a table's lines stand before its rows: its COPY line, and after the first table also how many rows the table before has, where they are counted
abbrev pub lead : Bool → ℕ → ℕ
lead counted t = if counted && nat_lt 0 t then 2 else 1

-- the lines of a table's rows
abbrev pub row_lines : Bool → List (List ℕ) → ℕ → List (List ℕ)
row_lines counted lines t = drop (lead counted t) (slice_index_or (parts lines) t [])

-- what may follow some lines
pub data Place : Type 0 where
  Count : ℕ → Place  -- how many rows a table has
  Copy : ℕ → Place  -- a table's COPY line, or after the last table the last line
  Rows : ℕ → Place  -- a row of a table, or the line that ends its rows
  Nothing : Place  -- nothing: the last line has come

-- what may follow n lines of a table, where there are `tables` tables
abbrev pub place_in : ℕ → Bool → ℕ → ℕ → Place
place_in tables counted t n =
    if n + 1 == lead counted t then Copy t
    else (if nat_lt n (lead counted t) then Count (t - 1)
    else (if nat_lt t tables then Rows t
    else Nothing))

-- the number of the last part is that of the table
abbrev pub place_behind : Bool → List (List ℕ) → Place
place_behind counted lines = place_in (length (catalog_of lines)) counted (length (parts lines) - 1) (length (slice_index_or (parts lines) (length (parts lines) - 1) []))

module _ {A : Type 0} where
  -- the rows that lines of a table say
  abbrev pub rows_said : List Kind → List (List ℕ) → List (Row A)
  rows_said kinds lines = filter_map (λ line. found (row_of_line kinds line)) lines

  -- the rows that the lines say of a table
  abbrev pub rows_of_table : Bool → List (List ℕ) → ℕ → List (Row A)
  rows_of_table counted lines t = rows_said (kinds_of (catalog_of lines) t) (row_lines counted lines t)

  -- rows in the order of their keys
  abbrev pub by_key : List (Row A) → List (Row A)
  by_key rows = fold put_row [] rows

  -- the rows of each table, in the order of their keys
  abbrev pub tables_of : Bool → List (List ℕ) → Tables A
  tables_of counted lines = map (λ t. by_key (rows_of_table counted lines t)) (range_with_len 0 (length (catalog_of lines)))
