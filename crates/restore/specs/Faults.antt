-- A line's fault, by that line and the lines before it. No table is built for it.
-- Source: PostgreSQL manual, COPY's text format and the codes of constraints; the lines of a dump and the order of the faults are ours.
use Rattle.std.specs.Prelude.{◌≡◌, ◌<◌, ℕ, ◌+◌, take, drop, Bool, true, false, not, ◌||◌, if◌then◌else◌, Option, Some, None, List, [], ◌∷◌, ◌++◌, length, slice_get, codes, Result, Ok, Err}
use Rattle.std.specs.List.{list_any, zip}
use Rattle.std.specs.Option.{option_map_or}
use Rattle.std.specs.Str.{bytes_eq}
use Rattle.value.specs.declared.refusal.Code.{Code}
use Rattle.value.specs.declared.refusal.Code.TheVariants.{BadCopyFileFormat, NotNullViolation, UniqueViolation, ForeignKeyViolation}
use Rattle.value.specs.declared.value.Value.{Value}
use Rattle.schema.specs.Definition.{Column, TableSchema, Catalog, columns_of}
use Rattle.schema.specs.Inserting.{lacks_value}
use Rattle.schema.specs.Plain.{same, is_null, cells}
use Rattle.schema.specs.declared.row.Row.{Row}
use Rattle.dumpplan.specs.Lines.{first_line, copy_line, end_of_rows, rows_line, last_line}
use Rattle.restore.specs.declared.error.RestoreFault.{RestoreFault}
use Rattle.restore.specs.CreateLine.{behind}
use Rattle.restore.specs.Layout.{version, with_table, kinds_of, behind_creates, catalog_of, row_lines, rows_of_table, Place, Count, Copy, Rows, Nothing, place_behind}
use Rattle.restore.specs.Rows.{row_of_line}
use Rattle.restore.specs.Steps.{fault}

-- why nothing was answered
abbrev pub refused : {X : Type 0} → Result X Code → Option Code
refused (Ok x) = None
refused (Err code) = Some code

-- a line that must be this one
abbrev pub unless_it_is : List ℕ → List ℕ → Option Code
unless_it_is wanted line = if bytes_eq line wanted then None else Some BadCopyFileFormat

-- where a table's COPY line must stand, or the last line where there is none more
abbrev pub copy_fault : Option TableSchema → List ℕ → Option Code
copy_fault (Some d) line = unless_it_is (copy_line d) line
copy_fault None line = unless_it_is last_line line

-- the text of a CREATE TABLE line, which may stand where nothing else but these does yet
abbrev pub create_text : List (List ℕ) → List ℕ → Option (List ℕ)
create_text [] line = behind (codes "CREATE TABLE ") line
create_text (other ∷ others) line = None

module _ {A : Type 0} where
  -- some rows have one of a key
  abbrev pub has_key : List (Row A) → Value A → Bool
  has_key rows key = list_any (λ row. same key row.0) rows

  -- a reference that isn't null names none of the rows of earlier lines
  abbrev pub names_none : (ℕ → List (Row A)) → Column → Value A → Bool
  names_none earlier d v = not (is_null v || option_map_or (λ t. has_key (earlier t) v) d.references true)

  -- a row of a table, by the rows of each table in earlier lines
  abbrev pub row_fault : Catalog → (ℕ → List (Row A)) → ℕ → Row A → Option Code
  row_fault c earlier t row =
      if lacks_value (columns_of c t) (cells row) then Some NotNullViolation
      else (if has_key (earlier t) row.0 then Some UniqueViolation
      else (if list_any (λ p. names_none earlier p.0 p.1) (zip (columns_of c t) (cells row)) then Some ForeignKeyViolation
      else None))

  -- a row's line: what it says, and then the row
  abbrev pub read_row_fault : Catalog → (ℕ → List (Row A)) → ℕ → Result (Row A) Code → Option Code
  read_row_fault c earlier t (Err code) = Some code
  read_row_fault c earlier t (Ok row) = row_fault c earlier t row

  -- among a table's rows
  abbrev pub rows_fault : Catalog → (ℕ → List (Row A)) → ℕ → List ℕ → Option Code
  rows_fault c earlier t line = if bytes_eq line end_of_rows then None else read_row_fault c earlier t (row_of_line (kinds_of c t) line)

-- the fault of a line at its place, after the first line and these
abbrev pub fault_at : Type 0 → Bool → List (List ℕ) → Place → List ℕ → Option Code
fault_at A counted lines (Count t) line = unless_it_is (rows_line (length (row_lines counted lines t))) line
fault_at A counted lines (Copy t) line = copy_fault (slice_get (catalog_of lines) t) line
fault_at A counted lines (Rows t) line = rows_fault (catalog_of lines) (rows_of_table {A = A} counted lines) t line
fault_at A counted lines Nothing line = Some BadCopyFileFormat

-- the version of a first line without a fault
abbrev pub counts : List ℕ → Bool
counts first = bytes_eq first (first_line true)

-- after the first line and these: a CREATE TABLE line, or any other
abbrev pub fault_behind : Type 0 → Bool → List (List ℕ) → Option (List ℕ) → List ℕ → Option Code
fault_behind A counted lines (Some text) line = refused (with_table (catalog_of lines) text)
fault_behind A counted lines None line = fault_at A counted lines (place_behind counted lines) line

-- The fault of a line, by the lines before it.
abbrev pub line_fault : Type 0 → List (List ℕ) → List ℕ → Option Code
line_fault A [] line = refused (version line)
line_fault A (first ∷ lines) line = fault_behind A (counts first) lines (create_text (behind_creates lines) line) line

-- ---- where the lines end

abbrev pub is_nothing : Place → Bool
is_nothing Nothing = true
is_nothing place = false

-- the last line has come
abbrev pub are_whole : List (List ℕ) → Bool
are_whole [] = false
are_whole (first ∷ lines) = is_nothing (place_behind (counts first) lines)

-- nothing may follow the last newline, and the last line must have come
abbrev pub end_fault : List (List ℕ) → List ℕ → Option Code
end_fault before [] = if are_whole before then None else Some BadCopyFileFormat
end_fault before (b ∷ text) = Some BadCopyFileFormat

-- a line with lines after it, or what follows the last newline
abbrev pub fault_of : Type 0 → List (List ℕ) → List ℕ → List (List ℕ) → Option Code
fault_of A before line [] = end_fault before line
fault_of A before line (next ∷ lines) = line_fault A before line

-- the fault of a line, or else that of a later one
abbrev pub first_of : ℕ → Option Code → Option RestoreFault → Option RestoreFault
first_of number (Some code) later = Some (fault number code)
first_of number None later = later

-- The first of some lines that has a fault, and its code. Lines are counted from 1.
abbrev pub first_fault : Type 0 → List (List ℕ) → List (List ℕ) → Option RestoreFault
first_fault A before [] = None
first_fault A before (line ∷ lines) = first_of (length before + 1) (fault_of A before line lines) (first_fault A (before ++ line ∷ []) lines)

-- ---- the same by the places of lines, counted from 0

abbrev pub fault_from : Type 0 → List (List ℕ) → List (List ℕ) → Option Code
fault_from A before [] = None
fault_from A before (line ∷ lines) = fault_of A before line lines

-- the fault of the line at a place
abbrev pub fault_in : Type 0 → List (List ℕ) → ℕ → Option Code
fault_in A lines i = fault_from A (take i lines) (drop i lines)

-- a line has a fault, with this code, and no line before it has one
pub record IsFirstFault (A : Type 0) (lines : List (List ℕ)) (f : RestoreFault) : Type 0 where
  pub place : ℕ
  pub number : f.line ≡ place + 1
  pub fault : fault_in A lines place ≡ Some f.code
  pub first : (i : ℕ) → i < place → fault_in A lines i ≡ None

-- no line has a fault
abbrev pub AreFaultless : Type 0 → List (List ℕ) → Type 0
AreFaultless A lines = (i : ℕ) → fault_in A lines i ≡ None
