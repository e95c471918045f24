-- Rounds of lines: read piece by piece, and taken one after another.
use Rattle.std.proofs.Common.{◌≡◌, ℕ, zero, suc, ◌+◌, ◌-◌, ◌*◌, ◌/◌, ◌%◌, ◌<◌, ◌≤◌, min, Bool, true, false, Bor, List, [], ◌∷◌, ◌++◌, map, take, drop, Option, Some, None, Result, Ok, Err, refl, sym, ap, subst, ◌∙◌, arith, append_assoc}
use Rattle.std.specs.Str.{bytes_eq}
use Rattle.std.proofs.Math.Nat.{mod-lt}
use Rattle.std.proofs.lemmas.List.{take-append-drop, drop-drop, map-append, length-map}
use Rattle.std.proofs.lemmas.Nat.{div-add-mod'}
use Rattle.value.specs.declared.kind.Kind.{Kind}
use Rattle.value.proofs.Basics.{bytes_eq-self}
use Rattle.schema.specs.Definition.{Catalog}
use Rattle.schema.specs.declared.row.Row.{Row}
use Rattle.schema.specs.declared.tables.Tables.{Tables}
use Rattle.dumpplan.specs.Lines.{end_of_rows}
use Rattle.restore.specs.declared.error.LineError.{LineError}
use Rattle.restore.specs.declared.error.ReadError.{ReadError}
use Rattle.restore.specs.declared.error.ReadError.TheVariants as read
use Rattle.restore.specs.declared.lines.Line.{Line}
use Rattle.restore.specs.declared.lines.Lines.{Lines}
use Rattle.restore.specs.declared.rows.ReadPiece.{ReadPiece}
use Rattle.restore.specs.CreateLine.{parted}
use Rattle.restore.specs.Lines.{IsWantedLine, HasNoRowLine, AreRowLines}
use Rattle.restore.specs.Reading.{Within, ended, lines_of, kinds_of, read_lines}
use Rattle.restore.specs.Rounds.{Told, AreWaiting, AreIn}
use Rattle.restore.specs.Rows.{AreRead, ArePieces}
use Rattle.restore.specs.Steps.{Reads}
use Rattle.restore.proofs.taking.Pieces.{read-append}
use Rattle.restore.proofs.stepwise.Reading.{stepped, rows_end, no-line}
use Rattle.restore.proofs.words.Texts.{split-parted}

-- ---- the end of the rows

differs : (b : Bool) → b ≡ true → b ≡ false → ⊥
differs true e f = absurd cc
differs false e f = absurd cc

none_next : (text : List ℕ) (found : Option (List ℕ × List ℕ)) → parted 10 text ≡ found → HasNoRowLine text → ((line rest : List ℕ) → parted 10 text ≡ Some (line, rest) → bytes_eq line end_of_rows ≡ false) → parted 10 text ≡ None
none_next text None is none other = is
none_next text (Some x) is none other = absurd (differs (bytes_eq x.0 end_of_rows) (none x.0 x.1 is) (other x.0 x.1 is))

module _ {A : Type 0} where
  -- where no row is next, the line after the rows is, or the dump's end
  pub rows_ended : (counted : Bool) (c : Catalog) (X : Tables A) (t : ℕ) (r : Result Lines ReadError) (n : ℕ) (text : List ℕ) → HasNoRowLine text → IsWantedLine end_of_rows n text r
      → Reads (λ l. read_lines l.number (ended counted c X t) (lines_of l.text.now)) r (read_lines n (Within counted c X t) (lines_of text))
  rows_ended counted c X t (Ok rest) n text none h = stepped rest n (Within counted c X t) (ended counted c X t) text end_of_rows h.0 h.1 (rows_end counted c X t end_of_rows (bytes_eq-self end_of_rows))
  rows_ended counted c X t (Err read.Memory) n text none h = tt
  rows_ended counted c X t (Err (read.Faulty f)) n text none h = rw h.1 (no-line n (Within counted c X t) text (none_next text (parted 10 text) refl none h.0) refl)

-- ---- a piece, read stretch by stretch

module _ {A : Type 0} where
  -- the lines before a place are read
  pub record AreReadTo (kinds : List Kind) (rows : List (Result (Row A) LineError)) (lines : List (Bor (List ℕ))) (place : ℕ) : Type 0 where
    pub front : List (Bor (List ℕ))
    pub whole : front ++ drop place lines ≡ lines
    pub read : AreRead kinds rows (map (λ l. l.now) front)

  pub read_to-first : (kinds : List Kind) (rows : List (Result (Row A) LineError)) (lines : List (Bor (List ℕ))) → rows ≡ [] → AreReadTo kinds rows lines 0
  read_to-first kinds rows lines e = record { front = []; whole = refl; read = subst (λ (rs : List (Result (Row A) LineError)). AreRead kinds rs []) (sym e) tt }

  pub read_to-next : (kinds : List Kind) (rows more all : List (Result (Row A) LineError)) (lines : List (Bor (List ℕ))) (start end : ℕ) → start ≤ end → all ≡ rows ++ more → AreRead kinds more (map (λ l. l.now) (take (end - start) (drop start lines)))
      → AreReadTo kinds rows lines start → AreReadTo kinds all lines end
  read_to-next kinds rows more all lines start end up e h j =
      let now : Bor (List ℕ) → List ℕ = λ l. l.now in
      let count : ℕ = end - start in
      let next : List (Bor (List ℕ)) = take count (drop start lines) in
      let place : start + count ≡ end = omega (arith, up) in
      let rest : next ++ drop end lines ≡ drop start lines = ap (λ k. next ++ drop k lines) (sym place) ∙ ap (λ ls. next ++ ls) (sym (drop-drop count start lines)) ∙ take-append-drop count (drop start lines) in
      record {
        front = j.front ++ next;
        whole = append_assoc j.front next (drop end lines) ∙ ap (λ ls. j.front ++ ls) rest ∙ j.whole;
        read =
            subst (λ (rs : List (Result (Row A) LineError)). AreRead kinds rs (map now (j.front ++ next))) (sym e)
            (subst (λ (ls : List (List ℕ)). AreRead kinds (rows ++ more) ls) (sym (map-append now j.front next)) (read-append kinds rows more (map now j.front) (map now next) j.read h));
      }

-- ---- the pieces of a round

next_times : (q s : ℕ) → (q + 1) * s ≡ q * s + s
next_times q s = grind arith

-- as many pieces of a size as are needed have all lines
pub covers : (n s p : ℕ) → 0 < s → p ≡ n / s + min 1 (n % s) → n ≤ p * s
covers n s p some e = go (n % s) refl
  where
    go : (m : ℕ) → n % s ≡ m → n ≤ p * s
    go zero is =
        let pieces : p ≡ n / s = e ∙ ap (λ k. n / s + min 1 k) is ∙ omega arith in
        let all : p * s ≡ n / s * s = ap (λ k. k * s) pieces in
        omega (arith, all, div-add-mod' n s, is)
    go (suc m) is =
        let pieces : p ≡ n / s + 1 = e ∙ ap (λ k. n / s + min 1 k) is ∙ omega arith in
        let all : p * s ≡ n / s * s + s = ap (λ k. k * s) pieces ∙ next_times (n / s) s in
        omega (arith, all, div-add-mod' n s, mod-lt n some)

-- ---- one round after another

pub some_lines : (line : List ℕ) (lines : List (List ℕ)) → (line ∷ lines) ≡ [] → ⊥
some_lines line lines e = absurd cc

module _ {A E : Type 0} (c : Catalog) (t : ℕ) (X : Tables A) (told : Told A) where
  -- nothing waits yet
  pub waiting-first : (Y : Tables A) (number next : ℕ) (pieces : List (Result (ReadPiece A) E)) (left : List (List ℕ)) → Y ≡ X → number ≡ next → pieces ≡ [] → ((counted : Bool) → read_lines next (Within counted c X t) left ≡ told counted)
      → AreWaiting c t X told Y number pieces next left
  waiting-first Y number next pieces left at same e answer =
      let first : AreWaiting c t X told X number pieces next left = record {
        lines = [];
        size = 0;
        read = subst (λ (ps : List (Result (ReadPiece A) E)). ArePieces 0 (kinds_of c t) ps []) (sym e) refl;
        alone = refl;
        numbers = omega (arith, same);
        answer = λ counted. ap (λ n. read_lines n (Within counted c X t) left) same ∙ answer counted;
        sound = λ h. h;
      } in
      subst (λ (Z : Tables A). AreWaiting c t X told Z number pieces next left) (sym at) first

  -- once the rows that waited are in, those of the next lines wait
  pub waiting-next : (Y : Tables A) (n : ℕ) (line : Line) (rows : List (Bor (List ℕ))) (left : Lines) (size : ℕ) (pieces : List (Result (ReadPiece A) E)) → n ≡ line.number → line.rest.number ≡ line.number + 1 → AreRowLines line rows left
      → ArePieces size (kinds_of c t) pieces (map (λ l. l.now) rows) → AreIn c t X told line.number (line.bytes.now ∷ lines_of line.rest.text.now) (Ok Y)
      → AreWaiting c t X told Y n pieces left.number (lines_of left.text.now)
  waiting-next Y n line rows left size pieces same number are read taken = record {
    lines = map (λ l. l.now) rows;
    size = size;
    read = read;
    alone = are.rows_alone;
    numbers = omega (arith, same, length-map rows (λ l. l.now), are.number, number);
    answer = λ counted.
        ap (λ k. read_lines k (Within counted c Y t) (map (λ l. l.now) rows ++ lines_of left.text.now)) same
        ∙ ap (read_lines line.number (Within counted c Y t)) (sym are.lines)
        ∙ taken.0 counted;
    sound = taken.1;
  }

  -- the next of the lines that are left is given by itself
  pub waiting-line : (Y : Tables A) (number : ℕ) (pieces : List (Result (ReadPiece A) E)) (next : ℕ) (text line rest : List ℕ) → parted 10 text ≡ Some (line, rest) → AreWaiting c t X told Y number pieces next (lines_of text)
      → AreWaiting c t X told Y number pieces next (line ∷ lines_of rest)
  waiting-line Y number pieces next text line rest at h = subst (AreWaiting c t X told Y number pieces next) (split-parted 10 text line rest at) h
