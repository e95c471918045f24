-- Lines of rows, read by pieces and inserted one after another.
use Rattle.std.proofs.Common.{◌≡◌, ℕ, suc, ◌+◌, ◌*◌, ◌<◌, ◌≤◌, Bool, true, false, ◌&&◌, Bor, List, [], ◌∷◌, ◌++◌, length, map, take, drop, get_or, Option, Some, Result, Ok, Err, IfOk, refl, sym, ap, subst, ◌∙◌, arith, append_assoc}
use Rattle.std.specs.List.{list_all}
use Rattle.std.specs.Str.{bytes_eq}
use Rattle.std.proofs.lemmas.Bool.{and_parts, not-true, not_from_false}
use Rattle.std.proofs.lemmas.List.{take_more, take-map, drop-map, drop-drop, map-append, length-append, length-map, length-drop}
use Rattle.std.proofs.lemmas.List.Folds.{list_all-append}
use Rattle.value.specs.declared.kind.Kind.{Kind}
use Rattle.schema.specs.Definition.{Column, Catalog}
use Rattle.schema.specs.declared.row.Row.{Row}
use Rattle.schema.specs.declared.tables.Tables.{Tables}
use Rattle.dumpplan.specs.Lines.{end_of_rows}
use Rattle.restore.specs.declared.error.LineError.{LineError}
use Rattle.restore.specs.declared.lines.Line.{Line}
use Rattle.restore.specs.declared.lines.Lines.{Lines}
use Rattle.restore.specs.CreateLine.{parted}
use Rattle.restore.specs.Lines.{AreRowLines, is_row_line}
use Rattle.restore.specs.Reading.{Within, lines_of, kinds_of, with_row, read_lines}
use Rattle.restore.specs.declared.rows.ReadPiece.{ReadPiece}
use Rattle.restore.specs.Rows.{row_of_line, rise, AreRead, IsPiece, ArePieces, AreKnown}
use Rattle.restore.specs.Steps.{◌>>=◌, Gives, Fails, Stops, read_error}
use Rattle.restore.proofs.stepwise.Refusals.{stops}
use Rattle.restore.proofs.stepwise.Reading.{row_is, stops_at, stepped_on, refused_on}
use Rattle.restore.proofs.words.Texts.{split-parted}

zero-mul : (n : ℕ) → 0 * n ≡ 0
zero-mul n = omega arith

suc_times : (n m : ℕ) → suc n * m ≡ m + n * m
suc_times n m = grind arith

-- ---- lines of rows up to those that are left

pub row_lines-first : (first : Line) → bytes_eq first.bytes.now end_of_rows ≡ false → AreRowLines first (first.bytes ∷ []) first.rest
row_lines-first first row = record {
  lines = refl;
  number = omega arith;
  rows_alone = ap (λ b. b && true) (not_from_false (bytes_eq first.bytes.now end_of_rows) row);
}

pub row_lines-more : (first : Line) (rows more : List (Bor (List ℕ))) (left rest : Lines) (line : Bor (List ℕ)) → AreRowLines first rows left → parted 10 left.text.now ≡ Some (line.now, rest.text.now) → rest.number ≡ left.number + 1
    → bytes_eq line.now end_of_rows ≡ false → more ≡ rows ++ line ∷ [] → AreRowLines first more rest
row_lines-more first rows more left rest line before at next row pushed =
    let now : Bor (List ℕ) → List ℕ = λ l. l.now in
    let shown : map now more ≡ map now rows ++ line.now ∷ [] = ap (map now) pushed ∙ map-append now rows (line ∷ []) in
    record {
      lines =
          before.lines ∙ ap (λ ls. map now rows ++ ls) (split-parted 10 left.text.now line.now rest.text.now at)
          ∙ sym (append_assoc (map now rows) (line.now ∷ []) (lines_of rest.text.now))
          ∙ ap (λ ls. ls ++ lines_of rest.text.now) (sym shown);
      number = let count : length more ≡ length rows + 1 = ap length pushed ∙ length-append rows (line ∷ []) in omega (arith, before.number);
      rows_alone =
          ap (list_all is_row_line) shown ∙ list_all-append is_row_line (map now rows) (line.now ∷ [])
          ∙ rw (before.rows_alone, row) refl;
    }

-- ---- what lines read as

module _ {A : Type 0} (kinds : List Kind) where
  pub read-length : (rows : List (Result (Row A) LineError)) (lines : List (List ℕ)) → AreRead kinds rows lines → length rows ≡ length lines
  read-length [] [] h = refl
  read-length [] (l ∷ ls) h = absurd h
  read-length (r ∷ rs) [] h = absurd h
  read-length (r ∷ rs) (l ∷ ls) h = ap (λ n. suc n) (read-length rs ls h.1)

  pub read-append : (rows more : List (Result (Row A) LineError)) (lines others : List (List ℕ)) → AreRead kinds rows lines → AreRead kinds more others → AreRead kinds (rows ++ more) (lines ++ others)
  read-append [] more [] others h k = k
  read-append [] more (l ∷ ls) others h k = absurd h
  read-append (r ∷ rs) more [] others h k = absurd h
  read-append (r ∷ rs) more (l ∷ ls) others h k = (h.0, read-append rs more ls others h.1 k)

  -- one line more
  pub read-next : (rows more : List (Result (Row A) LineError)) (lines : List (Bor (List ℕ))) (i : ℕ) (d : Bor (List ℕ)) (r : Result (Row A) LineError) → i < length lines → Gives (λ x. x) r (row_of_line kinds (get_or lines i d).now) → more ≡ rows ++ r ∷ []
      → AreRead kinds rows (map (λ l. l.now) (take i lines)) → AreRead kinds more (map (λ l. l.now) (take (i + 1) lines))
  read-next rows more lines i d r lt gives pushed before =
      let now : Bor (List ℕ) → List ℕ = λ l. l.now in
      let taken : map now (take (i + 1) lines) ≡ map now (take i lines) ++ (get_or lines i d).now ∷ [] =
      ap (map now) (take_more lines i d lt) ∙ map-append now (take i lines) (get_or lines i d ∷ []) in
      subst (λ (rs : List (Result (Row A) LineError)). AreRead kinds rs (map now (take (i + 1) lines))) (sym pushed)
      (subst (λ (ls : List (List ℕ)). AreRead kinds (rows ++ r ∷ []) ls) (sym taken) (read-append rows (r ∷ []) (map now (take i lines)) ((get_or lines i d).now ∷ []) before (gives, tt)))

-- ---- by pieces of a size

none_left : (lines : List (List ℕ)) → length lines ≤ 0 → lines ≡ []
none_left [] h = refl
none_left (l ∷ ls) h = absurd (omega arith)

module _ {A E : Type 0} (known : Option (Tables A)) (columns : List Column) (kinds : List Kind) (size : ℕ) where
  read_of : (piece : Result (ReadPiece A) E) (ls ms : List (List ℕ)) → ls ≡ ms → IfOk piece (λ p. IsPiece known columns kinds p ls) → IfOk piece (λ p. AreRead kinds p.rows.items ms)
  read_of (Ok piece) ls ms e h = subst (AreRead kinds piece.rows.items) e h.0
  read_of (Err e) ls ms same h = tt

  known_of : (piece : Result (ReadPiece A) E) (ls : List (List ℕ)) → IfOk piece (λ p. IsPiece known columns kinds p ls) → IfOk piece (λ p. p.rise ≡ rise known columns p.rows.items)
  known_of (Ok piece) ls h = h.1
  known_of (Err e) ls h = tt

  ok_same : (piece : Result (ReadPiece A) E) (ls ms : List (List ℕ)) → ls ≡ ms → IfOk piece (λ p. IsPiece known columns kinds p ls) → IfOk piece (λ p. IsPiece known columns kinds p ms)
  ok_same piece ls ms e h = subst (λ (xs : List (List ℕ)). IfOk piece (λ p. IsPiece known columns kinds p xs)) e h

  -- each piece is that of its lines
  abbrev pub EachIs : List (Result (ReadPiece A) E) → List (Bor (List ℕ)) → Type 0
  EachIs pieces lines = (n : ℕ) (d : Result (ReadPiece A) E) → n < length pieces → IfOk (get_or pieces n d) (λ p. IsPiece known columns kinds p (map (λ l. l.now) (take size (drop (n * size) lines))))

  each_behind : (piece : Result (ReadPiece A) E) (pieces : List (Result (ReadPiece A) E)) (lines : List (Bor (List ℕ))) → EachIs (piece ∷ pieces) lines → EachIs pieces (drop size lines)
  each_behind piece pieces lines each n d lt =
      let now : Bor (List ℕ) → List ℕ = λ l. l.now in
      ok_same (get_or pieces n d) (map now (take size (drop (suc n * size) lines))) (map now (take size (drop (n * size) (drop size lines))))
      (ap (λ m. map now (take size (drop m lines))) (suc_times n size) ∙ ap (λ ls. map now (take size ls)) (sym (drop-drop (n * size) size lines)))
      (each (suc n) d (omega arith))

  pub are_pieces : (pieces : List (Result (ReadPiece A) E)) (lines : List (Bor (List ℕ))) → length lines ≤ length pieces * size → EachIs pieces lines → ArePieces size kinds pieces (map (λ l. l.now) lines)
  are_pieces [] lines few each = none_left (map (λ l. l.now) lines) (omega (arith, length-map lines (λ l. l.now)))
  are_pieces (piece ∷ pieces) lines few each =
      let now : Bor (List ℕ) → List ℕ = λ l. l.now in (
        read_of piece (map now (take size (drop (0 * size) lines))) (take size (map now lines)) (ap (λ n. map now (take size (drop n lines))) (zero-mul size) ∙ sym (take-map now size lines)) (each 0 piece (omega arith)),
        subst (ArePieces size kinds pieces) (sym (drop-map now size lines))
            (are_pieces pieces (drop size lines) (let count = length-drop size lines in let more : suc (length pieces) * size ≡ size + length pieces * size = suc_times (length pieces) size in omega (arith, few, count, more))
            (each_behind piece pieces lines each)),
      )

  -- of each piece it is known whether its rows rise
  pub are_known : (pieces : List (Result (ReadPiece A) E)) (lines : List (Bor (List ℕ))) → EachIs pieces lines → AreKnown known columns pieces
  are_known [] lines each = tt
  are_known (piece ∷ pieces) lines each =
      (known_of piece (map (λ l. l.now) (take size (drop (0 * size) lines))) (each 0 piece (omega arith)), are_known pieces (drop size lines) (each_behind piece pieces lines each))

-- ---- inserted one after another

pub some_more : (last more : List (List ℕ)) → (more ≡ [] → ⊥) → (last ++ more) ≡ [] → ⊥
some_more [] more some e = some e
some_more (l ∷ last) more some e = absurd cc

module _ {A : Type 0} where
  -- what is left to insert, from a line's number on: the answer from here is the answer from there
  pub record IsInserting (counted : Bool) (c : Catalog) (t : ℕ) (more : List (List ℕ)) (start : ℕ) (lines : List (List ℕ)) (X : Tables A) (number : ℕ) (left : List (Result (Row A) LineError)) (Y : Tables A) : Type 0 where
    pub last : List (List ℕ)
    pub read : AreRead (kinds_of c t) left last
    pub rows : list_all is_row_line last ≡ true
    pub numbers : number + length last ≡ start + length lines
    pub answer : read_lines number (Within counted c Y t) (last ++ more) ≡ read_lines start (Within counted c X t) (lines ++ more)

  pub inserting-first : (counted : Bool) (c : Catalog) (t : ℕ) (more : List (List ℕ)) (start : ℕ) (lines : List (List ℕ)) (X : Tables A) (left rows : List (Result (Row A) LineError)) → left ≡ rows → AreRead (kinds_of c t) rows lines → list_all is_row_line lines ≡ true
      → IsInserting counted c t more start lines X start left X
  inserting-first counted c t more start lines X left rows same read alone = record {
    last = lines;
    read = subst (λ (rs : List (Result (Row A) LineError)). AreRead (kinds_of c t) rs lines) (sym same) read;
    rows = alone;
    numbers = refl;
    answer = refl;
  }

  taken_on : (counted : Bool) (c : Catalog) (t : ℕ) (n : ℕ) (X Y : Tables A) (row : List ℕ) (lines : List (List ℕ)) → (lines ≡ [] → ⊥) → is_row_line row ≡ true → with_row c X t row ≡ Ok Y
      → read_lines n (Within counted c X t) (row ∷ lines) ≡ read_lines (n + 1) (Within counted c Y t) lines
  taken_on counted c t n X Y row lines some is h =
      stepped_on n (Within counted c X t) (Within counted c Y t) row lines some (row_is counted c X t row (not-true (bytes_eq row end_of_rows) is) ∙ ap (λ r. r >>= λ Z. Ok (Within counted c Z t)) h)

  pub inserted-next : (counted : Bool) (c : Catalog) (t : ℕ) (more : List (List ℕ)) (start : ℕ) (lines : List (List ℕ)) (X : Tables A) (n : ℕ) (left rest : List (Result (Row A) LineError)) (Y Z : Tables A) (row : Result (Row A) LineError)
      → (more ≡ [] → ⊥) → left ≡ row ∷ rest → ((l : List ℕ) → Gives (λ r. r) row (row_of_line (kinds_of c t) l) → with_row c Y t l ≡ Ok Z)
      → IsInserting counted c t more start lines X n left Y → IsInserting counted c t more start lines X (n + 1) rest Z
  inserted-next counted c t more start lines X n left rest Y Z row some e taken j = go j.last (subst (λ (rs : List (Result (Row A) LineError)). AreRead (kinds_of c t) rs j.last) e j.read) j.rows j.numbers j.answer
    where
      go : (last : List (List ℕ)) → AreRead (kinds_of c t) (row ∷ rest) last → list_all is_row_line last ≡ true → n + length last ≡ start + length lines
          → read_lines n (Within counted c Y t) (last ++ more) ≡ read_lines start (Within counted c X t) (lines ++ more) → IsInserting counted c t more start lines X (n + 1) rest Z
      go [] h r m a = absurd h
      go (l ∷ last) h r m a =
          let p = and_parts (is_row_line l) (list_all is_row_line last) r in
          record {
            last = last;
            read = h.1;
            rows = p.1;
            numbers = omega (arith, m);
            answer = sym (taken_on counted c t n Y Z l (last ++ more) (some_more last more some) p.0 (taken l h.0)) ∙ a;
          }

  pub inserted-stops : (counted : Bool) (c : Catalog) (t : ℕ) (more : List (List ℕ)) (start : ℕ) (lines : List (List ℕ)) (X : Tables A) (n : ℕ) (left rest : List (Result (Row A) LineError)) (Y : Tables A) (row : Result (Row A) LineError) (e : LineError)
      → (more ≡ [] → ⊥) → left ≡ row ∷ rest → ((l : List ℕ) → Gives (λ r. r) row (row_of_line (kinds_of c t) l) → Fails e (with_row c Y t l))
      → IsInserting counted c t more start lines X n left Y → Stops (read_error n e) (read_lines start (Within counted c X t) (lines ++ more))
  inserted-stops counted c t more start lines X n left rest Y row e some is fails j = go j.last (subst (λ (rs : List (Result (Row A) LineError)). AreRead (kinds_of c t) rs j.last) is j.read) j.rows j.answer
    where
      go : (last : List (List ℕ)) → AreRead (kinds_of c t) (row ∷ rest) last → list_all is_row_line last ≡ true
          → read_lines n (Within counted c Y t) (last ++ more) ≡ read_lines start (Within counted c X t) (lines ++ more) → Stops (read_error n e) (read_lines start (Within counted c X t) (lines ++ more))
      go [] h r a = absurd h
      go (l ∷ last) h r a =
          let p = and_parts (is_row_line l) (list_all is_row_line last) r in
          stops_at (read_error n e) _ _
          (refused_on e n (Within counted c Y t) l (last ++ more) (some_more last more some)
          (rw (row_is counted c Y t l (not-true (bytes_eq l end_of_rows) p.0)) (stops e (with_row c Y t l) (λ Z. Ok (Within counted c Z t)) (fails l h.0)))) a

  pub inserted-all : (counted : Bool) (c : Catalog) (t : ℕ) (more : List (List ℕ)) (start : ℕ) (lines : List (List ℕ)) (X : Tables A) (n : ℕ) (left : List (Result (Row A) LineError)) (Y : Tables A) → left ≡ []
      → IsInserting counted c t more start lines X n left Y → read_lines start (Within counted c X t) (lines ++ more) ≡ read_lines (start + length lines) (Within counted c Y t) more
  inserted-all counted c t more start lines X n left Y e j = go j.last (subst (λ (rs : List (Result (Row A) LineError)). AreRead (kinds_of c t) rs j.last) e j.read) j.numbers j.answer
    where
      go : (last : List (List ℕ)) → AreRead {A = A} (kinds_of c t) [] last → n + length last ≡ start + length lines
          → read_lines n (Within counted c Y t) (last ++ more) ≡ read_lines start (Within counted c X t) (lines ++ more) → read_lines start (Within counted c X t) (lines ++ more) ≡ read_lines (start + length lines) (Within counted c Y t) more
      go [] h m a = let same : n ≡ start + length lines = omega (arith, m) in sym a ∙ ap (λ k. read_lines k (Within counted c Y t) more) same
      go (l ∷ last) h m a = absurd h
