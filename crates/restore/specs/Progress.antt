-- A dump read line by line, as the code reads it: how far the lines so far lead. `Reading` says what a dump reads as without it.
use Rattle.std.specs.Prelude.{ℕ, ◌+◌, Bool, true, false, if◌then◌else◌, Option, Some, None, slice_get, List, [], ◌∷◌, length, codes, Result, Ok, Err}
use Rattle.std.specs.Str.{bytes_eq}
use Rattle.value.specs.declared.refusal.Code.{Code}
use Rattle.value.specs.declared.refusal.Code.TheVariants.{BadCopyFileFormat, NotNullViolation}
use Rattle.value.specs.declared.value.Value.{Value}
use Rattle.value.specs.declared.value.Value.TheVariants.{Null}
use Rattle.schema.specs.Definition.{TableSchema, Catalog}
use Rattle.schema.specs.declared.tables.Tables.{Tables}
use Rattle.schema.specs.Inserting.{empty_tables, inserted}
use Rattle.schema.specs.Plain.{rows_of}
use Rattle.copytext.specs.Reading.{line_values}
use Rattle.dumpplan.specs.Lines.{copy_line, end_of_rows, rows_line, last_line}
use Rattle.restore.specs.declared.error.RestoreFault.{RestoreFault}
use Rattle.restore.specs.Steps.{◌>>=◌, fault}
use Rattle.restore.specs.CreateLine.{behind}
use Rattle.restore.specs.Layout.{lines_of, version, with_table, kinds_of}

-- how far the lines so far lead; a Bool says whether the version counts a table's rows
pub data Progress (A : Type 0) : Type 0 where
  Start : Progress A  -- there was no line yet
  Created : Bool → Catalog → Progress A  -- the tables of the CREATE TABLE lines
  Before : Bool → Catalog → Tables A → ℕ → Progress A  -- all rows of the tables before this one
  Within : Bool → Catalog → Tables A → ℕ → Progress A  -- its COPY line, and some of its rows
  Behind : Bool → Catalog → Tables A → ℕ → Progress A  -- all its rows, which are to be counted
  Whole : Catalog → Tables A → Progress A  -- the last line

module _ {A : Type 0} where
  -- ---- what a line may be, and what it leads to, or its fault

  abbrev pub first : List ℕ → Result (Progress A) Code
  first line = version line >>= λ counted. Ok (Created counted [])

  -- the COPY line of a table, or where there is none more the last line
  abbrev pub copies : Bool → Catalog → Tables A → ℕ → Option TableSchema → List ℕ → Result (Progress A) Code
  copies counted c X t (Some d) line = if bytes_eq line (copy_line d) then Ok (Within counted c X t) else Err BadCopyFileFormat
  copies counted c X t None line = if bytes_eq line last_line then Ok (Whole c X) else Err BadCopyFileFormat

  abbrev pub next_table : Bool → Catalog → Tables A → ℕ → List ℕ → Result (Progress A) Code
  next_table counted c X t line = copies counted c X t (slice_get c t) line

  -- a CREATE TABLE line; with any other line the tables begin, each of them empty
  abbrev pub creates : Bool → Catalog → Option (List ℕ) → List ℕ → Result (Progress A) Code
  creates counted c (Some text) line = with_table c text >>= λ d. Ok (Created counted d)
  creates counted c None line = next_table counted c (empty_tables c) 0 line

  -- the tables with the row of some values, of which the first is the key
  abbrev pub with_values : Catalog → Tables A → ℕ → List (Value A) → Result (Tables A) Code
  with_values c X t [] = Err BadCopyFileFormat
  with_values c X t (Null ∷ fields) = Err NotNullViolation
  with_values c X t (key ∷ fields) = inserted c X t (key, fields)

  -- the tables with the row of a line
  abbrev pub with_row : Catalog → Tables A → ℕ → List ℕ → Result (Tables A) Code
  with_row c X t line = line_values (kinds_of c t) line >>= λ values. with_values c X t values

  -- after a table's rows: version 2 counts them
  abbrev pub ended : Bool → Catalog → Tables A → ℕ → Progress A
  ended true c X t = Behind true c X t
  ended false c X t = Before false c X (t + 1)

  abbrev pub row : Bool → Catalog → Tables A → ℕ → List ℕ → Result (Progress A) Code
  row counted c X t line =
      if bytes_eq line end_of_rows then Ok (ended counted c X t)
      else with_row c X t line >>= λ Y. Ok (Within counted c Y t)

  -- the number of the table's rows
  abbrev pub count : Bool → Catalog → Tables A → ℕ → List ℕ → Result (Progress A) Code
  count counted c X t line = if bytes_eq line (rows_line (length (rows_of X t))) then Ok (Before counted c X (t + 1)) else Err BadCopyFileFormat

  unfoldable pub step : Progress A → List ℕ → Result (Progress A) Code
  step Start line = first line
  step (Created counted c) line = creates counted c (behind (codes "CREATE TABLE ") line) line
  step (Before counted c X t) line = next_table counted c X t line
  step (Within counted c X t) line = row counted c X t line
  step (Behind counted c X t) line = count counted c X t line
  step (Whole c X) line = Err BadCopyFileFormat

  -- ---- all lines

  -- where the lines end, the last one must have come
  abbrev pub whole : ℕ → Progress A → Result (Catalog × Tables A) RestoreFault
  whole number (Whole c X) = Ok (c, X)
  whole number progress = Err (fault number BadCopyFileFormat)

  -- what comes after a line, or its fault
  abbrev pub after : ℕ → Result (Progress A) Code → (Progress A → Result (Catalog × Tables A) RestoreFault) → Result (Catalog × Tables A) RestoreFault
  after number (Ok more) go_on = go_on more
  after number (Err code) go_on = Err (fault number code)

  -- the lines from this number on; nothing may follow the last newline
  unfoldable pub read_lines : ℕ → Progress A → List (List ℕ) → Result (Catalog × Tables A) RestoreFault
  read_lines number progress [] = whole number progress
  read_lines number progress ([] ∷ []) = whole number progress
  read_lines number progress ((b ∷ text) ∷ []) = Err (fault number BadCopyFileFormat)
  read_lines number progress (line ∷ next ∷ lines) = after number (step progress line) (λ more. read_lines (number + 1) more (next ∷ lines))

  -- all lines of a dump, counted from 1
  abbrev pub read_in_steps : List ℕ → Result (Catalog × Tables A) RestoreFault
  read_in_steps dump = read_lines 1 Start (lines_of dump)
