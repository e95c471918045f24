-- Rows of lines that are read and wait to be taken into a table.
use Rattle.std.specs.Prelude.{◌≡◌, ◌≢◌, ℕ, ◌+◌, Bool, true, List, [], ◌∷◌, ◌++◌, length, map, Option, Vec, Result, Ok, Err}
use Rattle.std.specs.Borrow.{Bor}
use Rattle.std.specs.List.{list_all}
use Rattle.schema.specs.Definition.{Catalog, Column, columns_of}
use Rattle.schema.specs.declared.tables.Tables.{Tables}
use Rattle.schema.specs.Plain.{is_sound}
use Rattle.value.specs.declared.kind.Kind.{Kind}
use Rattle.restore.specs.declared.draws.Drawn.{Drawn}
use Rattle.restore.specs.declared.error.ReadError.{ReadError}
use Rattle.restore.specs.declared.error.RestoreFault.{RestoreFault}
use Rattle.restore.specs.declared.lines.Line.{Line}
use Rattle.restore.specs.declared.lines.Lines.{Lines}
use Rattle.restore.specs.declared.rounds.Round.{Round}
use Rattle.restore.specs.declared.draws.RoundLines.{RoundLines}
use Rattle.restore.specs.declared.rows.ReadPiece.{ReadPiece}
use Rattle.restore.specs.Lines.{is_row_line, AreFound}
use Rattle.restore.specs.Reading.{Within, lines_of, kinds_of, read_lines}
use Rattle.restore.specs.Rows.{AreDrawn, ArePieces, MayRise}
use Rattle.restore.specs.Steps.{Stops}

-- what a dump reads as, where its version counts the rows of a table and where it doesn't
abbrev pub Told : Type 0 → Type 0
Told A = Bool → Result (Catalog × Tables A) RestoreFault

-- lines of rows that are found: the first, all, and what is left after them
abbrev pub Found : Type 0 → Type 0
Found A = Option (Line × Vec (Bor (List ℕ)) A × Lines)

-- pieces of a table's lines wait, of which the first has a number, before lines that are left. The rows before them are those of
-- Y, where they were those of X. `told` says what the dump reads as from here on
pub record AreWaiting {A E : Type 0} (c : Catalog) (t : ℕ) (X : Tables A) (told : Told A) (Y : Tables A) (number : ℕ) (pieces : List (Result (ReadPiece A) E)) (next : ℕ) (left : List (List ℕ)) : Type 0 where
  pub lines : List (List ℕ)
  pub size : ℕ
  pub read : ArePieces size (kinds_of c t) pieces lines
  pub alone : list_all is_row_line lines ≡ true
  pub numbers : number + length lines ≡ next
  pub answer : (counted : Bool) → read_lines number (Within counted c Y t) (lines ++ left) ≡ told counted
  pub sound : is_sound c X ≡ true → is_sound c Y ≡ true

-- the rows of a round may be taken into its tables
pub record IsReady {A : Type 0} (c : Catalog) (t : ℕ) (round : Round A) : Type 0 where
  pub same_tables : length round.tables ≡ length c
  pub rise : MayRise round.tables (columns_of c t) round.pieces.items

module _ {A : Type 0} (c : Catalog) (t : ℕ) (X : Tables A) (told : Told A) where
  -- the tables with the rows that waited before the lines that are left, or their first fault
  abbrev pub AreIn : ℕ → List (List ℕ) → Result (Tables A) ReadError → Type 0
  AreIn next left (Ok Y) = ((counted : Bool) → read_lines next (Within counted c Y t) left ≡ told counted) × (is_sound c X ≡ true → is_sound c Y ≡ true)
  AreIn next left (Err e) = (counted : Bool) → Stops e (told counted)

  -- the lines that are left after a round that waits now, or the first fault of the rows that waited
  abbrev pub IsBegun : Result (Lines × Round A × Found A) ReadError → Type 0
  IsBegun (Ok (left, round, found)) = AreWaiting c t X told round.tables round.number round.pieces.items left.number (lines_of left.text.now)
  IsBegun (Err e) = (counted : Bool) → Stops e (told counted)

-- the rows of a round are taken into its tables, up to the first that isn't: these, or its fault
abbrev pub AreTaken : {A : Type 0} → Catalog → ℕ → Round A → Result (Tables A) ReadError → Type 0
AreTaken {A} c t round result =
    (X : Tables A) (told : Told A) (next : ℕ) (left : List (List ℕ)) → left ≢ [] → AreWaiting c t X told round.tables round.number round.pieces.items next left → AreIn c t X told next left result

-- one turn: the rows of a round are taken into its tables, and lines are read as the next round, whose rows may be taken into these;
-- and the lines after it are found. Or the first fault of the rows is reported, or that memory ran out
abbrev pub IsTurn : {A : Type 0} → Catalog → ℕ → Round A → RoundLines → Result (Round A × Found A) ReadError → Type 0
IsTurn c t round lines (Ok (next, found)) =
    AreTaken c t round (Ok next.tables) × (next.number ≡ lines.number) × ArePieces 1000 lines.kinds.now next.pieces.items (map (λ line. line.now) lines.lines.now) × IsReady c t next × AreFound lines.ahead.lines.number lines.ahead.lines.text.now found
IsTurn c t round lines (Err e) = AreTaken c t round (Err e)

-- a line and those after it are read as the next round, once the rows of a round that waits before them are taken
abbrev pub IsNextRound : {A : Type 0} → Catalog → ℕ → Round A → Line → Result (Lines × Round A × Found A) ReadError → Type 0
IsNextRound {A} c t round line result =
    (X : Tables A) (told : Told A) → AreWaiting c t X told round.tables round.number round.pieces.items line.number (line.bytes.now ∷ lines_of line.rest.text.now) → IsBegun c t X told result

-- the rows of a round are taken into its tables, up to the first that isn't, and pieces of the lines after it are drawn; and the
-- lines ahead of these are found
abbrev pub AreTakenAndDrawn : {A : Type 0} → Catalog → ℕ → Round A → Option (Tables A) → List Column → List Kind → List (Bor (List ℕ)) → ℕ → List ℕ → Result (Tables A × Vec (Drawn A) A × Found A) ReadError → Type 0
AreTakenAndDrawn {A} c t round known columns kinds lines number text (Ok (X, drawn, found)) = AreTaken c t round (Ok X) × (length X ≡ length c) × AreDrawn known columns kinds lines drawn.items × AreFound number text found
AreTakenAndDrawn {A} c t round known columns kinds lines number text (Err e) = AreTaken c t round (Err e)
