-- What a dump reads as: its first faulty line, or else the catalog of its CREATE TABLE lines and the rows of its rows' lines.
-- Source: PostgreSQL manual, COPY's text format and the codes of constraints; the lines of a dump and the order of the faults are ours.
use Rattle.std.specs.Prelude.{ℕ, ◌-◌, Option, Some, None, List, [], ◌∷◌, length, take, Result, Ok, Err}
use Rattle.schema.specs.Definition.{Catalog}
use Rattle.schema.specs.declared.tables.Tables.{Tables}
use Rattle.restore.specs.declared.error.RestoreFault.{RestoreFault}
pub use Rattle.restore.specs.Layout.{lines_of, version, with_table, kinds_of}
use Rattle.restore.specs.Layout.{catalog_of, tables_of}
use Rattle.restore.specs.Faults.{counts, first_fault}
pub use Rattle.restore.specs.Progress.{Progress, Start, Created, Before, Within, Behind, Whole, first, copies, next_table, creates, with_values, with_row, ended, row, count, whole, after}
unfoldable pub use Rattle.restore.specs.Progress.{step, read_lines}

-- the lines that are ended by a newline
abbrev pub ended_lines : List ℕ → List (List ℕ)
ended_lines dump = take (length (lines_of dump) - 1) (lines_of dump)

module _ {A : Type 0} where
  -- the catalog and tables of lines without a fault
  abbrev pub said_by : List (List ℕ) → Catalog × Tables A
  said_by [] = ([], [])
  said_by (first ∷ lines) = (catalog_of lines, tables_of (counts first) lines)

  abbrev pub unless_faulty : Option RestoreFault → Catalog × Tables A → Result (Catalog × Tables A) RestoreFault
  unless_faulty (Some f) said = Err f
  unless_faulty None said = Ok said

  -- what a dump reads as
  abbrev pub read_dump : List ℕ → Result (Catalog × Tables A) RestoreFault
  read_dump dump = unless_faulty (first_fault A [] (lines_of dump)) (said_by (ended_lines dump))
