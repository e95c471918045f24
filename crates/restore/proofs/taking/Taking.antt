-- Pieces of rows, taken one after another.
use Rattle.std.proofs.Common.{◌≡◌, ℕ, ◌+◌, ◌<◌, Bool, true, Bor, List, [], ◌∷◌, ◌++◌, length, map, take, drop, slice_set, Result, Ok, Err, IfOk, refl, sym, ap, subst, ◌∙◌, arith, append_assoc}
use Rattle.std.specs.List.{list_all}
use Rattle.std.proofs.lemmas.Bool.{and_parts}
use Rattle.std.proofs.lemmas.List.{get_or-set_same, take-append-drop, length-append}
use Rattle.std.proofs.lemmas.List.Folds.{list_all-append}
use Rattle.value.specs.declared.kind.Kind.{Kind}
use Rattle.schema.specs.Definition.{Column, Catalog}
use Rattle.schema.specs.declared.row.Row.{Row}
use Rattle.schema.specs.declared.tables.Tables.{Tables}
use Rattle.schema.specs.Plain.{is_sound, rows_of}
use Rattle.schema.specs.Rows.{Rows, put_row}
use Rattle.restore.specs.declared.error.LineError.{LineError}
use Rattle.restore.specs.declared.error.ReadError.{ReadError}
use Rattle.restore.specs.declared.rows.ReadPiece.{ReadPiece}
use Rattle.restore.specs.Lines.{is_row_line}
use Rattle.restore.specs.Reading.{Within, kinds_of, read_lines}
use Rattle.restore.specs.Rows.{row_of_line, IsNext, AreRead, AreStillThere, ArePieces}
use Rattle.restore.specs.Steps.{Gives, Stops}
use Rattle.restore.proofs.taking.Followed.{IsFollowed, followed-next}
use Rattle.restore.proofs.taking.Pieces.{read-length, some_more}
use Rattle.restore.proofs.stepwise.Reading.{stops_at}

halves : (size : ℕ) (last more : List (List ℕ)) → last ++ more ≡ take size last ++ (drop size last ++ more)
halves size last more = ap (λ (ls : List (List ℕ)). ls ++ more) (sym (take-append-drop size last)) ∙ append_assoc (take size last) (drop size last) more

alone : (size : ℕ) (last : List (List ℕ)) → list_all is_row_line last ≡ true → (list_all is_row_line (take size last) ≡ true) × (list_all is_row_line (drop size last) ≡ true)
alone size last h =
    and_parts (list_all is_row_line (take size last)) (list_all is_row_line (drop size last))
    (sym (list_all-append is_row_line (take size last) (drop size last)) ∙ ap (list_all is_row_line) (take-append-drop size last) ∙ h)

-- ---- rows

module _ {A : Type 0} where
  -- a row that is put in stands in its table
  pub placed : (X Y : Tables A) (t : ℕ) (read : Result (Row A) LineError) (row : Row A) → read ≡ Ok row → Y ≡ slice_set X t (put_row (rows_of X t) row) → t < length X → IfOk read (λ r. rows_of Y t ≡ put_row (rows_of X t) r)
  placed X Y t read row was made within =
      subst (λ (r : Result (Row A) LineError). IfOk r (λ x. rows_of Y t ≡ put_row (rows_of X t) x)) (sym was)
      (ap (λ (Z : Tables A). rows_of Z t) made ∙ get_or-set_same X t (put_row (rows_of X t) row) [] within)

  -- the first of rows that may be put after a table
  pub next_is : (X : Tables A) (ds : List Column) (table : Rows A) (left rest : List (Result (Row A) LineError)) (read : Result (Row A) LineError) → left ≡ read ∷ rest → IsFollowed X ds table left → IfOk read (λ r. IsNext X ds table r)
  next_is X ds table left rest read e f = go read (subst (IsFollowed X ds table) e f)
    where
      go : (r : Result (Row A) LineError) → IsFollowed X ds table (r ∷ rest) → IfOk r (λ x. IsNext X ds table x)
      go (Ok row) f = f.0
      go (Err e) f = absurd f

  -- and those after it
  pub followed-on : (X Y : Tables A) (ds : List Column) (table new : Rows A) (left rest : List (Result (Row A) LineError)) (read : Result (Row A) LineError) → left ≡ read ∷ rest → AreStillThere X Y → IsFollowed X ds table left → IfOk read (λ r. new ≡ put_row table r)
      → IsFollowed Y ds new rest
  followed-on X Y ds table new left rest read e still f put = go read (subst (IsFollowed X ds table) e f) put
    where
      go : (r : Result (Row A) LineError) → IsFollowed X ds table (r ∷ rest) → IfOk r (λ x. new ≡ put_row table x) → IsFollowed Y ds new rest
      go (Ok row) f p = subst (λ (rows : Rows A). IsFollowed Y ds rows rest) (sym p) (followed-next X Y ds table row rest still f.0 f.1)
      go (Err e) f p = absurd f

  -- rows that are left, of lines, and sound tables
  pub record IsKept (c : Catalog) (t : ℕ) (left : List (Result (Row A) LineError)) (Y : Tables A) : Type 0 where
    pub last : List (List ℕ)
    pub read : AreRead (kinds_of c t) left last
    pub sound : is_sound c Y ≡ true

  pub kept-first : (c : Catalog) (t : ℕ) (left rows : List (Result (Row A) LineError)) (lines : List (List ℕ)) (X : Tables A) → left ≡ rows → AreRead (kinds_of c t) rows lines → is_sound c X ≡ true → IsKept c t left X
  kept-first c t left rows lines X same read sound = record { last = lines; read = subst (λ (rs : List (Result (Row A) LineError)). AreRead (kinds_of c t) rs lines) (sym same) read; sound = sound }

  pub kept-next : (c : Catalog) (t : ℕ) (left rest : List (Result (Row A) LineError)) (Y Z : Tables A) (row : Result (Row A) LineError) → left ≡ row ∷ rest
      → ((l : List ℕ) → Gives (λ r. r) row (row_of_line (kinds_of c t) l) → is_sound c Y ≡ true → is_sound c Z ≡ true) → IsKept c t left Y → IsKept c t rest Z
  kept-next c t left rest Y Z row e still k = go k.last (subst (λ (rs : List (Result (Row A) LineError)). AreRead (kinds_of c t) rs k.last) e k.read)
    where
      go : (last : List (List ℕ)) → AreRead (kinds_of c t) (row ∷ rest) last → IsKept c t rest Z
      go [] h = absurd h
      go (l ∷ last) h = record { last = last; read = h.1; sound = still l h.0 k.sound }

-- ---- pieces

module _ {A E : Type 0} where
  -- the same kinds and lines
  pub pieces_same : (size : ℕ) (kinds others : List Kind) (pieces : List (Result (ReadPiece A) E)) (shown lines : List (Bor (List ℕ))) → kinds ≡ others → shown ≡ lines
      → ArePieces size kinds pieces (map (λ l. l.now) shown) → ArePieces size others pieces (map (λ l. l.now) lines)
  pieces_same size kinds others pieces shown lines e f h =
      subst (λ (ks : List Kind). ArePieces size ks pieces (map (λ l. l.now) lines)) e (subst (λ (ls : List (Bor (List ℕ))). ArePieces size kinds pieces (map (λ l. l.now) ls)) f h)

  -- what is left to take, from a line's number on: the answer from here is the answer from there
  pub record IsTaking (counted : Bool) (size : ℕ) (c : Catalog) (t : ℕ) (more : List (List ℕ)) (start : ℕ) (lines : List (List ℕ)) (X : Tables A) (number : ℕ) (left : List (Result (ReadPiece A) E)) (Y : Tables A) : Type 0 where
    pub last : List (List ℕ)
    pub pieces : ArePieces size (kinds_of c t) left last
    pub rows : list_all is_row_line last ≡ true
    pub numbers : number + length last ≡ start + length lines
    pub answer : read_lines number (Within counted c Y t) (last ++ more) ≡ read_lines start (Within counted c X t) (lines ++ more)

  pub taking-first : (counted : Bool) (size : ℕ) (c : Catalog) (t : ℕ) (more : List (List ℕ)) (start : ℕ) (lines : List (List ℕ)) (X : Tables A) (left pieces : List (Result (ReadPiece A) E)) → left ≡ pieces → ArePieces size (kinds_of c t) pieces lines
      → list_all is_row_line lines ≡ true → IsTaking counted size c t more start lines X start left X
  taking-first counted size c t more start lines X left pieces same are rows = record {
    last = lines;
    pieces = subst (λ (ps : List (Result (ReadPiece A) E)). ArePieces size (kinds_of c t) ps lines) (sym same) are;
    rows = rows;
    numbers = refl;
    answer = refl;
  }

  pub taking-next : (counted : Bool) (size : ℕ) (c : Catalog) (t : ℕ) (more : List (List ℕ)) (start : ℕ) (lines : List (List ℕ)) (X : Tables A) (n next : ℕ) (left rest : List (Result (ReadPiece A) E)) (Y Z : Tables A) (piece : ReadPiece A)
      → (more ≡ [] → ⊥) → left ≡ Ok piece ∷ rest → next ≡ n + length piece.rows.items
      → ((front behind : List (List ℕ)) → AreRead (kinds_of c t) piece.rows.items front → list_all is_row_line front ≡ true → (behind ≡ [] → ⊥) → read_lines n (Within counted c Y t) (front ++ behind) ≡ read_lines (n + length front) (Within counted c Z t) behind)
      → IsTaking counted size c t more start lines X n left Y → IsTaking counted size c t more start lines X next rest Z
  taking-next counted size c t more start lines X n next left rest Y Z piece some e same taken j =
      let h : ArePieces size (kinds_of c t) (Ok piece ∷ rest) j.last = subst (λ (ps : List (Result (ReadPiece A) E)). ArePieces size (kinds_of c t) ps j.last) e j.pieces in
      let front : List (List ℕ) = take size j.last in
      let back : List (List ℕ) = drop size j.last in
      let r = alone size j.last j.rows in
      let count : length piece.rows.items ≡ length front = read-length (kinds_of c t) piece.rows.items front h.0 in
      let parts : length front + length back ≡ length j.last = sym (length-append front back) ∙ ap length (take-append-drop size j.last) in
      record {
        last = back;
        pieces = h.1;
        rows = r.1;
        numbers = omega (arith, same, count, parts, j.numbers);
        answer =
            ap (λ k. read_lines k (Within counted c Z t) (back ++ more)) (same ∙ ap (λ k. n + k) count)
            ∙ sym (taken front (back ++ more) h.0 r.0 (some_more back more some))
            ∙ ap (read_lines n (Within counted c Y t)) (sym (halves size j.last more))
            ∙ j.answer;
      }

  pub taking-stops : (counted : Bool) (size : ℕ) (c : Catalog) (t : ℕ) (more : List (List ℕ)) (start : ℕ) (lines : List (List ℕ)) (X : Tables A) (n : ℕ) (left rest : List (Result (ReadPiece A) E)) (Y : Tables A) (piece : ReadPiece A) (e : ReadError)
      → (more ≡ [] → ⊥) → left ≡ Ok piece ∷ rest
      → ((front behind : List (List ℕ)) → AreRead (kinds_of c t) piece.rows.items front → list_all is_row_line front ≡ true → (behind ≡ [] → ⊥) → Stops e (read_lines n (Within counted c Y t) (front ++ behind)))
      → IsTaking counted size c t more start lines X n left Y → Stops e (read_lines start (Within counted c X t) (lines ++ more))
  taking-stops counted size c t more start lines X n left rest Y piece e some is fails j =
      let h : ArePieces size (kinds_of c t) (Ok piece ∷ rest) j.last = subst (λ (ps : List (Result (ReadPiece A) E)). ArePieces size (kinds_of c t) ps j.last) is j.pieces in
      let r = alone size j.last j.rows in
      stops_at e _ _ (fails (take size j.last) (drop size j.last ++ more) h.0 r.0 (some_more (drop size j.last) more some)) (ap (read_lines n (Within counted c Y t)) (sym (halves size j.last more)) ∙ j.answer)

  pub taking-all : (counted : Bool) (size : ℕ) (c : Catalog) (t : ℕ) (more : List (List ℕ)) (start : ℕ) (lines : List (List ℕ)) (X : Tables A) (n : ℕ) (left : List (Result (ReadPiece A) E)) (Y : Tables A) → left ≡ []
      → IsTaking counted size c t more start lines X n left Y → read_lines start (Within counted c X t) (lines ++ more) ≡ read_lines (start + length lines) (Within counted c Y t) more
  taking-all counted size c t more start lines X n left Y e j =
      let none : j.last ≡ [] = subst (λ (ps : List (Result (ReadPiece A) E)). ArePieces size (kinds_of c t) ps j.last) e j.pieces in
      let same : n ≡ start + length lines = omega (arith, ap length none, j.numbers) in
      sym j.answer ∙ ap (λ (ls : List (List ℕ)). read_lines n (Within counted c Y t) (ls ++ more)) none ∙ ap (λ k. read_lines k (Within counted c Y t) more) same

  -- pieces that are left, of lines, and sound tables
  pub record IsKeeping (size : ℕ) (c : Catalog) (t : ℕ) (left : List (Result (ReadPiece A) E)) (Y : Tables A) : Type 0 where
    pub last : List (List ℕ)
    pub pieces : ArePieces size (kinds_of c t) left last
    pub sound : is_sound c Y ≡ true

  pub keeping-first : (size : ℕ) (c : Catalog) (t : ℕ) (left pieces : List (Result (ReadPiece A) E)) (lines : List (List ℕ)) (X : Tables A) → left ≡ pieces → ArePieces size (kinds_of c t) pieces lines → is_sound c X ≡ true → IsKeeping size c t left X
  keeping-first size c t left pieces lines X same are sound = record { last = lines; pieces = subst (λ (ps : List (Result (ReadPiece A) E)). ArePieces size (kinds_of c t) ps lines) (sym same) are; sound = sound }

  pub keeping-next : (size : ℕ) (c : Catalog) (t : ℕ) (left rest : List (Result (ReadPiece A) E)) (Y Z : Tables A) (piece : ReadPiece A) → left ≡ Ok piece ∷ rest
      → ((front : List (List ℕ)) → AreRead (kinds_of c t) piece.rows.items front → is_sound c Y ≡ true → is_sound c Z ≡ true) → IsKeeping size c t left Y → IsKeeping size c t rest Z
  keeping-next size c t left rest Y Z piece e still k =
      let h : ArePieces size (kinds_of c t) (Ok piece ∷ rest) k.last = subst (λ (ps : List (Result (ReadPiece A) E)). ArePieces size (kinds_of c t) ps k.last) e k.pieces in
      record { last = drop size k.last; pieces = h.1; sound = still (take size k.last) h.0 k.sound }
