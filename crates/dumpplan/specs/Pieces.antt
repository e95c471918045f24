-- How a dump is cut into pieces, and the text of each.
-- Source: COPY's text format in the PostgreSQL manual; the cutting is ours.
use Rattle.std.specs.Prelude.{◌≡◌, ℕ, ◌+◌, ◌-◌, ◌==◌, ◌<◌, Bool, true, if◌then◌else◌, List, [], ◌∷◌, ◌++◌, length, map, filter, take, slice_get, Option, Some, None}
use Rattle.std.specs.Borrow.{Bor}
use Rattle.std.specs.List.{flat_map}
use Rattle.std.specs.Ordering.{is_le, is_lt}
use Rattle.value.specs.Order.{value_cmp}
use Rattle.value.specs.declared.key.Key.{Key}
use Rattle.schema.specs.Definition.{TableSchema, Catalog}
use Rattle.schema.specs.declared.row.Row.{Row}
use Rattle.schema.specs.declared.tables.Tables.{Tables}
use Rattle.schema.specs.Plain.{rows_of}
use Rattle.schema.specs.Walking.{lent, rows_behind}
use Rattle.copytext.specs.Writing.{row_text}
use Rattle.dumpplan.specs.declared.piece.Piece.{Piece}
use Rattle.dumpplan.specs.declared.piece.Piece.TheVariants.{Head, Rows, End}
use Rattle.dumpplan.specs.declared.piece.RowRange.{RowRange}
use Rattle.dumpplan.specs.declared.piece.RowsEnd.{RowsEnd}
use Rattle.dumpplan.specs.declared.piece.RowsEnd.TheVariants.{Before, Last}
use Rattle.dumpplan.specs.Lines.{copy_line, end_of_rows, rows_line}
use Rattle.dumpplan.specs.Parts.{ended, head_text, end_text}

-- texts, one after another
abbrev pub joined : List (List ℕ) → List ℕ
joined texts = flat_map (λ text. text) texts

module _ {A : Type 0} where
  -- ---- the text of a piece

  -- a key is not below the first one, where there is a first
  abbrev pub is_from : Option (Key A) → Key A → Bool
  is_from None key = true
  is_from (Some first) key = is_le (value_cmp first key)

  -- a key is below the end
  abbrev pub is_before : RowsEnd A → Key A → Bool
  is_before (Before end) key = is_lt (value_cmp key end)
  is_before (Last count) key = true

  abbrev pub rows_from : Option (Key A) → List (Row A) → List (Row A)
  rows_from from rows = filter (λ row. is_from from row.0) rows

  abbrev pub rows_before : RowsEnd A → List (Row A) → List (Row A)
  rows_before end rows = filter (λ row. is_before end row.0) rows

  abbrev pub rows_text : List (Row A) → List ℕ
  rows_text rows = flat_map (λ row. row_text (row.0 ∷ row.1)) rows

  -- the first piece of a table begins with its COPY line
  abbrev pub start_text : TableSchema → Option (Key A) → List ℕ
  start_text d None = copy_line d ++ 10 ∷ []
  start_text d (Some first) = []

  -- the last one ends with the two lines after its rows
  abbrev pub stop_text : RowsEnd A → List ℕ
  stop_text (Before end) = []
  stop_text (Last count) = ended (end_of_rows ∷ rows_line count ∷ [])

  -- a piece of a table with these rows
  abbrev pub range_text : TableSchema → List (Row A) → RowRange A → List ℕ
  range_text d rows r = start_text d r.from ++ rows_text (rows_before r.end (rows_from r.from rows)) ++ stop_text r.end

  abbrev pub range_of : Option TableSchema → List (Row A) → RowRange A → List ℕ
  range_of None rows r = []
  range_of (Some d) rows r = range_text d rows r

  -- a piece of the dump of these tables
  abbrev pub piece_text : Catalog → Tables A → Piece A → List ℕ
  piece_text c X Head = head_text c
  piece_text c X (Rows r) = range_of (slice_get c r.table) (rows_of X r.table) r
  piece_text c X End = end_text

  abbrev pub piece_texts : Catalog → Tables A → List (Piece A) → List (List ℕ)
  piece_texts c X pieces = map (piece_text c X) pieces

  -- the piece is one of `tables` tables
  abbrev pub IsPieceOf : ℕ → Piece A → Type 0
  IsPieceOf tables Head = Unit {0}
  IsPieceOf tables (Rows r) = r.table < tables
  IsPieceOf tables End = Unit {0}

  -- the piece of a number, counted from 1
  abbrev pub piece_at : List (Piece A) → ℕ → Option (Piece A)
  piece_at pieces number = if number == 0 then None else slice_get pieces (number - 1)

  -- ---- the cutting

  -- the keys of the rows that begin a further piece, where a piece has `most` rows at most and the one at hand has room for `room`
  abbrev pub cuts : ℕ → ℕ → List (Row A) → List (Key A)
  cuts most room [] = []
  cuts most room (row ∷ rows) = if room == 0 then row.0 ∷ cuts most (most - 1) rows else cuts most (room - 1) rows

  -- the key of the first of some rows, where there are any
  abbrev pub first_key : List (Row A) → List (Key A)
  first_key [] = []
  first_key (row ∷ rows) = row.0 ∷ []

  -- a batch of a table's rows, and the rows after it
  abbrev pub to_come : List (Row A) → List (Bor (Row A)) → List (Row A)
  to_come rows batch = lent batch ++ rows_behind rows (lent batch)

  -- a batch is the first of the rows that are left, `most` at most, and those after it are the others
  abbrev pub IsBatch : ℕ → List (Row A) → List (Row A) → List (Bor (Row A)) → Type 0
  IsBatch most rows left batch = (lent batch ≡ take most (to_come rows batch)) × (to_come rows batch ≡ left)

  -- the rows of a table from a key on, cut at these keys; the table has `count` rows
  abbrev pub ranges : ℕ → ℕ → Option (Key A) → List (Key A) → List (RowRange A)
  ranges table count from [] = record { table = table; from = from; end = Last count } ∷ []
  ranges table count from (key ∷ keys) = record { table = table; from = from; end = Before key } ∷ ranges table count (Some key) keys

  -- the pieces of a table: its rows by key, in runs of `most`
  abbrev pub table_pieces : ℕ → ℕ → List (Row A) → List (Piece A)
  table_pieces most table rows = map Rows (ranges table (length rows) None (cuts most most rows))

  -- the pieces of tables, of which the first has this place
  abbrev pub tables_pieces : ℕ → ℕ → List (List (Row A)) → List (Piece A)
  tables_pieces most table [] = []
  tables_pieces most table (rows ∷ more) = table_pieces most table rows ++ tables_pieces most (table + 1) more

  -- the pieces of a dump: the head, the tables in the order of their creation, the end
  abbrev pub planned : ℕ → Tables A → List (Piece A)
  planned most X = (Head ∷ tables_pieces most 0 X) ++ End ∷ []
