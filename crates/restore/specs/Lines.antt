-- The next line of a dump, as the code finds it.
use Rattle.std.specs.Prelude.{◌≡◌, ℕ, ◌+◌, ◌^◌, ◌<◌, ◌≤◌, length, ◌==◌, Bool, true, false, not, List, ◌∷◌, ◌++◌, map, Option, Some, None, Result, Ok, Err, Vec}
use Rattle.std.specs.List.{list_all}
use Rattle.std.specs.Borrow.{Bor}
use Rattle.std.specs.Str.{bytes_eq}
use Rattle.value.specs.declared.refusal.Code.TheVariants.{BadCopyFileFormat}
use Rattle.restore.specs.declared.error.ReadError.{ReadError}
use Rattle.restore.specs.declared.error.ReadError.TheVariants as read
use Rattle.restore.specs.declared.lines.Lines.{Lines}
use Rattle.restore.specs.declared.lines.Line.{Line}
use Rattle.dumpplan.specs.Lines.{end_of_rows}
use Rattle.restore.specs.CreateLine.{parted}
use Rattle.restore.specs.Reading.{lines_of}
use Rattle.restore.specs.Steps.{fault}

-- there is none, unless its number is past those of 64 bits
abbrev pub IsNoLine : ℕ → List ℕ → ReadError → Type 0
IsNoLine number text read.Memory = 2 ^ 64 ≤ number + 1
IsNoLine number text (read.Faulty f) = (parted 10 text ≡ None) × (f ≡ fault number BadCopyFileFormat)

-- a line up to the first newline, and the lines after it, or there is none
abbrev pub IsNextLine : ℕ → List ℕ → Result (Bor (List ℕ) × Lines) ReadError → Type 0
IsNextLine number text (Ok (line, rest)) = (parted 10 text ≡ Some (line.now, rest.text.now)) × (rest.number ≡ number + 1) × (length rest.text.now < length text)
IsNextLine number text (Err e) = IsNoLine number text e

abbrev pub IsOtherLine : List ℕ → ℕ → List ℕ → ReadError → Type 0
IsOtherLine wanted number text read.Memory = 2 ^ 64 ≤ number + 1
IsOtherLine wanted number text (read.Faulty f) = ((line rest : List ℕ) → parted 10 text ≡ Some (line, rest) → bytes_eq line wanted ≡ false) × (f ≡ fault number BadCopyFileFormat)

-- the next line is this one, and there are the lines after it; or it is another, or there is none
abbrev pub IsWantedLine : List ℕ → ℕ → List ℕ → Result Lines ReadError → Type 0
IsWantedLine wanted number text (Ok rest) = (parted 10 text ≡ Some (wanted, rest.text.now)) × (rest.number ≡ number + 1)
IsWantedLine wanted number text (Err e) = IsOtherLine wanted number text e

abbrev pub IsBehind : ℕ → List ℕ → ReadError → Type 0
IsBehind number text read.Memory = ⊥
IsBehind number text (read.Faulty f) = ((length text == 0) ≡ false) × (f ≡ fault number BadCopyFileFormat)

-- nothing is left, or something follows the last line
abbrev pub IsEnd : ℕ → List ℕ → Result (Unit {0}) ReadError → Type 0
IsEnd number text (Ok u) = (length text == 0) ≡ true
IsEnd number text (Err e) = IsBehind number text e

-- a line is a row's: it isn't the line after the rows
abbrev pub is_row_line : List ℕ → Bool
is_row_line line = not (bytes_eq line end_of_rows)

-- the next line, if there is one, is the line after the rows
abbrev pub HasNoRowLine : List ℕ → Type 0
HasNoRowLine text = (line rest : List ℕ) → parted 10 text ≡ Some (line, rest) → bytes_eq line end_of_rows ≡ true

-- a line and those after it up to the lines that are left, all of them of rows
pub record AreRowLines (first : Line) (rows : List (Bor (List ℕ))) (left : Lines) : Type 0 where
  pub lines : first.bytes.now ∷ lines_of first.rest.text.now ≡ map (λ line. line.now) rows ++ lines_of left.text.now
  pub number : left.number + 1 ≡ first.rest.number + length rows
  pub rows_alone : list_all is_row_line (map (λ line. line.now) rows) ≡ true

-- the next lines are those of rows, the first of them given by itself, up to the lines that are left; or no row's line is next
abbrev pub AreFound : {A : Type 0} → ℕ → List ℕ → Option (Line × Vec (Bor (List ℕ)) A × Lines) → Type 0
AreFound number text None = HasNoRowLine text
AreFound number text (Some (first, rows, left)) =
    (first.number ≡ number) × (first.rest.number ≡ number + 1) × (parted 10 text ≡ Some (first.bytes.now, first.rest.text.now)) × AreRowLines first rows.items left × (length left.text.now < length text)
