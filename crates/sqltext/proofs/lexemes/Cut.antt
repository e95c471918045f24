-- The tokens of a text are those that spell it.
use Rattle.std.proofs.Common.{◌≡◌, ◌≤◌, ◌<◌, ℕ, zero, suc, ◌+◌, Bool, true, false, List, [], ◌∷◌, ◌++◌, length, take, drop, inl, inr, refl, sym, ap, ap₂, subst, ◌∙◌, append-nil, add-zero, take-append-drop, drop_at, length-drop, length-append, length-take-le, arith}
use Rattle.std.proofs.lemmas.Bool.{and_parts, and_from}
use Rattle.std.specs.List.{list_all}
use Rattle.sqltext.specs.declared.token.TokenKind.{TokenKind}
use Rattle.sqltext.specs.declared.token.TokenKind.TheVariants as kind
use Rattle.sqltext.specs.declared.token.Token.{Token}
use Rattle.sqltext.specs.Tokens.{same_kind, is_blank, first_token, token_at, tokens_from, tokens}
use Rattle.sqltext.specs.Lexemes.{IsFirst, right_after, BeginsWith, AreSpelled}
use Rattle.sqltext.specs.Laws.{CutsAsSpelled}
use Rattle.sqltext.proofs.LexerLemmas.{one_token}
use Rattle.sqltext.proofs.lexemes.First.{reads_first, reads_no_other}

token_is : (t : Token) (k : TokenKind) (start end : ℕ) → t.kind ≡ k → t.start ≡ start → t.end ≡ end → t ≡ record { kind = k; start = start; end = end }
token_is t k start end e f g = λ i. record { kind = e i; start = f i; end = g i }

-- ---- blanks

blank_passed : (after : Bool) (at b : ℕ) (text : List ℕ) → is_blank b ≡ true → tokens_from after 0 at (b ∷ text) ≡ tokens_from false 0 (at + 1) text
blank_passed after at b text e = rw e refl

blanks_passed : (after : Bool) (at : ℕ) (blanks text : List ℕ) → list_all is_blank blanks ≡ true → tokens_from after 0 at (blanks ++ text) ≡ tokens_from (right_after after blanks) 0 (at + length blanks) text
blanks_passed after at [] text h = rw add-zero refl
blanks_passed after at (b ∷ blanks) text h =
    let parts = and_parts (is_blank b) (list_all is_blank blanks) h in
    let place : at + 1 + length blanks ≡ at + suc (length blanks) = omega arith in
    blank_passed after at b (blanks ++ text) parts.0 ∙ blanks_passed false (at + 1) blanks text parts.1
    ∙ ap (λ (q : Bool). tokens_from q 0 (at + 1 + length blanks) text) (still blanks) ∙ ap (λ (n : ℕ). tokens_from false 0 n text) place
  where
    still : (bs : List ℕ) → right_after false bs ≡ false
    still [] = refl
    still (c ∷ bs) = refl

blank_before : (after : Bool) (at b : ℕ) (text : List ℕ) (ts : List Token) → is_blank b ≡ true → AreSpelled false (at + 1) text ts → AreSpelled after at (b ∷ text) ts
blank_before after at b text [] e s = absurd s
blank_before after at b text (t ∷ ts) e (inl s) =
    let place : at + 1 + length text ≡ at + suc (length text) = omega arith in
    inl (record { blank = and_from (is_blank b) (list_all is_blank text) e s.0.blank; kind = s.0.kind; start = s.0.start ∙ place; end = s.0.end }, s.1)
blank_before after at b text (t ∷ ts) e (inr s) =
    let begin = s.1 in
    let place : at + 1 + length begin.blanks ≡ at + suc (length begin.blanks) = omega arith in
    inr (
      s.0,
      record {
        blanks = b ∷ begin.blanks;
        bytes = begin.bytes;
        all = ap (λ (l : List ℕ). b ∷ l) begin.all;
        blank = and_from (is_blank b) (list_all is_blank begin.blanks) e begin.blank;
        first = go begin.blanks begin.first;
        start = begin.start ∙ place;
        end = begin.end;
      },
      s.2,
    )
  where
    go : (bs : List ℕ) → IsFirst (right_after false bs) t.kind s.1.bytes s.0 → IsFirst false t.kind s.1.bytes s.0
    go [] f = f
    go (c ∷ bs) f = f

-- ---- what is read is spelled

spelled : (fuel : ℕ) (after : Bool) (at : ℕ) (text : List ℕ) → length text ≤ fuel → AreSpelled after at text (tokens_from after 0 at text)
spelled fuel after at [] le = inl (record { blank = refl; kind = refl; start = sym (add-zero at); end = refl }, refl)
spelled zero after at (b ∷ text) le = absurd (omega arith)
spelled (suc fuel) after at (b ∷ text) le = go (is_blank b) refl (λ q n rest h. spelled fuel q n rest h)
  where
    go : (q : Bool) → is_blank b ≡ q → ((q : Bool) (n : ℕ) (rest : List ℕ) → length rest ≤ fuel → AreSpelled q n rest (tokens_from q 0 n rest)) → AreSpelled after at (b ∷ text) (tokens_from after 0 at (b ∷ text))
    go true e ih = subst (AreSpelled after at (b ∷ text)) (sym (blank_passed after at b text e)) (blank_before after at b text (tokens_from false 0 (at + 1) text) e (ih false (at + 1) text (omega arith)))
    go false e ih =
        let first = first_token (b ∷ text) after in
        let some : 0 < length (b ∷ text) = omega arith in
        let reads = reads_first after (b ∷ text) some e in
        let left : length (drop first.1 (b ∷ text)) ≤ fuel = omega (arith, reads.moves, length-drop first.1 (b ∷ text)) in
        let start : at ≡ at + 0 = sym (add-zero at) in
        let long : at + first.1 ≡ at + length (take first.1 (b ∷ text)) = ap (λ (n : ℕ). at + n) (sym (length-take-le first.1 (b ∷ text) reads.within)) in
        let begin : BeginsWith after at (b ∷ text) (token_at at first) (drop first.1 (b ∷ text)) = record {
          blanks = [];
          bytes = take first.1 (b ∷ text);
          all = sym (take-append-drop first.1 (b ∷ text));
          blank = refl;
          first = reads.is_first;
          start = start;
          end = long;
        } in
        let more = ih (same_kind first.0 kind.Number) (at + first.1) (drop first.1 (b ∷ text)) left in
        subst (AreSpelled after at (b ∷ text)) (sym (one_token after at (b ∷ text) some e reads.moves reads.within)) (inr (drop first.1 (b ∷ text), begin, more))

-- ---- what is spelled is read

is_read : (ts : List Token) (after : Bool) (at : ℕ) (text : List ℕ) → AreSpelled after at text ts → tokens_from after 0 at text ≡ ts
is_read [] after at text s = absurd s
is_read (t ∷ ts) after at text (inl s) =
    let passed : tokens_from after 0 at text ≡ tokens_from (right_after after text) 0 (at + length text) [] =
    ap (tokens_from after 0 at) (sym (append-nil text)) ∙ blanks_passed after at text [] s.0.blank
    in
    let end : t ≡ record { kind = kind.End; start = at + length text; end = at + length text } = token_is t kind.End (at + length text) (at + length text) s.0.kind s.0.start (s.0.end ∙ s.0.start) in
    passed ∙ ap (λ (u : Token). u ∷ []) (sym end) ∙ ap (λ (us : List Token). t ∷ us) (sym s.1)
is_read (t ∷ ts) after at text (inr s) =
    go s.1 (is_read ts (same_kind t.kind kind.Number) t.end s.0 s.2)
  where
    go : BeginsWith after at text t s.0 → tokens_from (same_kind t.kind kind.Number) 0 t.end s.0 ≡ ts → tokens_from after 0 at text ≡ t ∷ ts
    go begin ih =
        let rest : List ℕ = s.0 in
        let now = right_after after begin.blanks in
        let read = reads_no_other now t.kind begin.bytes rest begin.first in
        let first : TokenKind × ℕ = first_token (begin.bytes ++ rest) now in
        let long : first.1 ≡ length begin.bytes = ap (λ (f : TokenKind × ℕ). f.1) read.is in
        let kind_is : first.0 ≡ t.kind = ap (λ (f : TokenKind × ℕ). f.0) read.is in
        let some : 0 < length (begin.bytes ++ rest) = omega (arith, read.moves, length-append begin.bytes rest) in
        let moves : 1 ≤ first.1 = omega (arith, long, read.moves) in
        let within : first.1 ≤ length (begin.bytes ++ rest) = omega (arith, long, length-append begin.bytes rest) in
        let start : at + length begin.blanks ≡ t.start = sym begin.start in
        let ends : at + length begin.blanks + first.1 ≡ t.end = ap₂ (λ (m n : ℕ). m + n) start long ∙ sym begin.end in
        let token : token_at (at + length begin.blanks) first ≡ t = sym (token_is t first.0 (at + length begin.blanks) (at + length begin.blanks + first.1) (sym kind_is) begin.start (sym ends)) in
        let left : drop first.1 (begin.bytes ++ rest) ≡ rest = drop_at begin.bytes rest first.1 (sym long) in
        let more : tokens_from (same_kind first.0 kind.Number) 0 (at + length begin.blanks + first.1) (drop first.1 (begin.bytes ++ rest)) ≡ ts =
        ap (λ (k : TokenKind). tokens_from (same_kind k kind.Number) 0 (at + length begin.blanks + first.1) (drop first.1 (begin.bytes ++ rest))) kind_is
        ∙ ap₂ (λ (n : ℕ) (l : List ℕ). tokens_from (same_kind t.kind kind.Number) 0 n l) ends left ∙ ih
        in
        ap (tokens_from after 0 at) begin.all ∙ blanks_passed after at begin.blanks (begin.bytes ++ rest) begin.blank
        ∙ one_token now (at + length begin.blanks) (begin.bytes ++ rest) some read.no_blank moves within
        ∙ ap₂ (λ (u : Token) (us : List Token). u ∷ us) token more

pub cuts_as_spelled : CutsAsSpelled
unfolding tokens
cuts_as_spelled text ts =
    (λ e. subst (AreSpelled false 0 text) e (spelled (length text) false 0 text (omega arith)), λ s. is_read ts false 0 text s)
