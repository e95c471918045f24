-- What the lines of rows read as, one after another and by pieces, and which rows may be put after those of a table.
use Rattle.std.specs.Prelude.{◌≡◌, ℕ, ◌*◌, ◌<◌, Bool, true, false, not, ◌&&◌, Option, Some, None, is_some, List, [], ◌∷◌, find, length, map, take, drop, slice_index_or, Result, Ok, Err, IfOk, IfSome, Vec}
use Rattle.std.specs.Borrow.{Bor}
use Rattle.std.specs.List.{AllByRecursion, list_any}
use Rattle.std.specs.Ordering.{is_le, is_lt}
use Rattle.value.specs.declared.kind.Kind.{Kind}
use Rattle.value.specs.declared.refusal.Code.{Code}
use Rattle.value.specs.declared.refusal.Code.TheVariants.{BadCopyFileFormat, NotNullViolation}
use Rattle.value.specs.declared.value.Value.{Value}
use Rattle.value.specs.declared.value.Value.TheVariants.{Null}
use Rattle.value.specs.Order.{value_cmp}
use Rattle.schema.specs.Definition.{Column}
use Rattle.schema.specs.declared.row.Row.{Row}
use Rattle.schema.specs.declared.tables.Tables.{Tables}
use Rattle.schema.specs.Inserting.{dangles, lacks_value}
use Rattle.schema.specs.Plain.{cells, row_at}
use Rattle.schema.specs.Rows.{Rows}
use Rattle.copytext.specs.Reading.{line_values}
use Rattle.restore.specs.declared.error.LineError.{LineError}
use Rattle.restore.specs.declared.draws.Drawn.{Drawn}
use Rattle.restore.specs.declared.rows.ReadPiece.{ReadPiece}
use Rattle.restore.specs.Steps.{◌>>=◌, Gives}

-- the lines of the piece at a place of a round
abbrev pub lines_at : List (Bor (List ℕ)) → ℕ → List (List ℕ)
lines_at lines place = map (λ line. line.now) (take 1000 (drop (place * 1000) lines))

module _ {A : Type 0} where
  -- the row of some values, of which the first is the key
  abbrev pub row_of_values : List (Value A) → Result (Row A) Code
  row_of_values [] = Err BadCopyFileFormat
  row_of_values (Null ∷ fields) = Err NotNullViolation
  row_of_values (key ∷ fields) = Ok (key, fields)

  -- the row of a line
  abbrev pub row_of_line : List Kind → List ℕ → Result (Row A) Code
  row_of_line kinds line = line_values kinds line >>= λ values. row_of_values values

  -- ---- rows that may be put after those of a table

  -- The references of a row are looked up in tables: each names a row of these. Or they are looked up nowhere: there are none.
  abbrev pub are_found : Option (Tables A) → List Column → List (Value A) → Bool
  are_found None columns values = not (list_any (λ d. is_some d.references) columns)
  are_found (Some X) columns values = not (dangles X columns values)

  -- nothing but a key that is there stands against a row: its references are found, and no value is null that mustn't be
  abbrev pub is_free : Option (Tables A) → List Column → Row A → Bool
  is_free known columns row = are_found known columns (cells row) && not (lacks_value columns (cells row))

  -- each row of a table comes before a key
  abbrev pub is_behind : Rows A → Value A → Bool
  is_behind table key = not (is_some (find (λ row. is_le (value_cmp key row.0)) table))

  -- a row may be put after those of a table among tables
  abbrev pub IsNext : Tables A → List Column → Rows A → Row A → Type 0
  IsNext X columns table row = (is_free (Some X) columns row ≡ true) × (is_behind table row.0 ≡ true)

  -- each of some lines was read, their keys rise from one on, and nothing else stands against their rows
  abbrev pub rise_from : Option (Tables A) → List Column → Value A → List (Result (Row A) LineError) → Bool
  rise_from known columns key [] = true
  rise_from known columns key (Ok row ∷ rows) = is_lt (value_cmp key row.0) && is_free known columns row && rise_from known columns row.0 rows
  rise_from known columns key (Err e ∷ rows) = false

  -- some rows rise from the first on
  abbrev pub rise : Option (Tables A) → List Column → List (Result (Row A) LineError) → Bool
  rise known columns [] = false
  rise known columns (Ok row ∷ rows) = is_free known columns row && rise_from known columns row.0 rows
  rise known columns (Err e ∷ rows) = false

  -- the first of some rows comes after a table
  abbrev pub follows : Rows A → List (Result (Row A) LineError) → Bool
  follows table [] = false
  follows table (Ok row ∷ rows) = is_behind table row.0
  follows table (Err e ∷ rows) = false

  -- each row that is there in some tables is there in others
  abbrev pub AreStillThere : Tables A → Tables A → Type 0
  AreStillThere X Y = (t : ℕ) (key : Value A) → is_some (row_at X t key) ≡ true → is_some (row_at Y t key) ≡ true

  -- ---- lines

  -- each row is that of its line
  abbrev pub AreRead : List Kind → List (Result (Row A) LineError) → List (List ℕ) → Type 0
  AreRead kinds [] [] = Unit {0}
  AreRead kinds (row ∷ rows) (line ∷ lines) = Gives (λ r. r) row (row_of_line kinds line) × AreRead kinds rows lines
  AreRead kinds _ _ = ⊥

  -- the rows of a piece are those of its lines, and it is known whether they rise
  abbrev pub IsPiece : Option (Tables A) → List Column → List Kind → ReadPiece A → List (List ℕ) → Type 0
  IsPiece known columns kinds piece lines = AreRead kinds piece.rows.items lines × (piece.rise ≡ rise known columns piece.rows.items)

  -- each piece is that of `size` lines, the last that of the rest
  abbrev pub ArePieces : {E : Type 0} → ℕ → List Kind → List (Result (ReadPiece A) E) → List (List ℕ) → Type 0
  ArePieces size kinds [] lines = lines ≡ []
  ArePieces size kinds (piece ∷ pieces) lines = IfOk piece (λ p. AreRead kinds p.rows.items (take size lines)) × ArePieces size kinds pieces (drop size lines)

  -- of each piece it is known whether its rows rise
  abbrev pub AreKnown : {E : Type 0} → Option (Tables A) → List Column → List (Result (ReadPiece A) E) → Type 0
  AreKnown known columns pieces = AllByRecursion (λ p. IfOk p (λ piece. piece.rise ≡ rise known columns piece.rows.items)) pieces

  -- where a piece is held to rise, its rows do, and their references are found in some tables
  abbrev pub MayRise : {E : Type 0} → Tables A → List Column → List (Result (ReadPiece A) E) → Type 0
  MayRise X columns pieces = AllByRecursion (λ p. IfOk p (λ piece. piece.rise ≡ true → rise (Some X) columns piece.rows.items ≡ true)) pieces

  -- ---- pieces that threads draw

  -- each piece that a thread has drawn is that of its place
  abbrev pub AreDrawn : Option (Tables A) → List Column → List Kind → List (Bor (List ℕ)) → List (Drawn A) → Type 0
  AreDrawn known columns kinds lines drawn = AllByRecursion (λ d. IsPiece known columns kinds d.piece (lines_at lines d.place)) drawn

  -- each piece that any of the threads has drawn is that of its place
  abbrev pub AreAllDrawn : {E : Type 0} → Option (Tables A) → List Column → List Kind → List (Bor (List ℕ)) → List (Result (Vec (Drawn A) A) E) → Type 0
  AreAllDrawn known columns kinds lines all = AllByRecursion (λ r. IfOk r (λ drawn. AreDrawn known columns kinds lines drawn.items)) all

  -- at each place stands the piece of its lines, or none yet
  abbrev pub AreAt : Option (Tables A) → List Column → List Kind → List (Bor (List ℕ)) → List (Option (ReadPiece A)) → Type 0
  AreAt known columns kinds lines places = (n : ℕ) (d : Option (ReadPiece A)) → n < length places → IfSome (slice_index_or places n d) (λ p. IsPiece known columns kinds p (lines_at lines n))
