-- What spells a token at the front of a text is found: what is read first is as long at least, and of its kind where it is no longer.
use Rattle.std.proofs.Common.{◌≡◌, ◌≢◌, ◌≤◌, ℕ, suc, ◌+◌, Bool, true, false, true≢false, ◌==◌, cond, List, [], ◌∷◌, ◌++◌, length, slice_index, codes, inl, inr, refl, sym, ap, subst, ◌∙◌, append_assoc, take_at, arith}
use Rattle.std.proofs.lemmas.Bool.{and_parts, and_from, or_left}
use Rattle.std.proofs.lemmas.Bool.Decides.{nat_tests}
use Rattle.std.proofs.lemmas.List.{length_push}
use Rattle.std.proofs.lemmas.List.Elements.{All-contains, All-from_recursion}
use Rattle.std.specs.List.{list_all, prefix_len, AllByRecursion}
use Rattle.std.specs.Char.{is_ascii_digit}
use Rattle.sqltext.specs.declared.token.TokenKind.{TokenKind}
use Rattle.sqltext.specs.declared.token.TokenKind.TheVariants as kind
use Rattle.sqltext.specs.Tokens.{is_blank, begins_word, continues_word, word_length, number_length, word, closing, closed, quoted, less, greater, sign, first_token}
use Rattle.sqltext.specs.Lexemes.{IsWord, IsNumber, doubled, IsQuoted, signs, kind_of_word, IsSpelling}
use Rattle.sqltext.proofs.lexemes.Quoted.{NoQuote, closing_doubled}

-- ---- fronts of a list that pass

pub prefix_longer : (p : ℕ → Bool) (x : ℕ) (xs : List ℕ) → p x ≡ true → prefix_len p (x ∷ xs) ≡ suc (prefix_len p xs)
prefix_longer p x xs h =
    let one : 1 + prefix_len p xs ≡ suc (prefix_len p xs) = omega arith in
    ap (λ (q : Bool). cond q (1 + prefix_len p xs) 0) h ∙ one

prefix_reaches : (p : ℕ → Bool) (front rest : List ℕ) → list_all p front ≡ true → length front ≤ prefix_len p (front ++ rest)
prefix_reaches p [] rest h = omega arith
prefix_reaches p (x ∷ front) rest h =
    let parts = and_parts (p x) (list_all p front) h in
    omega (arith, prefix_longer p x (front ++ rest) parts.0, prefix_reaches p front rest parts.1)

-- ---- what is read first, by the first byte

pub reads_word : (after : Bool) (text : List ℕ) → begins_word (slice_index text 0) ≡ true → first_token text after ≡ word text after
unfolding first_token
reads_word after text h = rw h refl

pub reads_number : (after : Bool) (text : List ℕ) → begins_word (slice_index text 0) ≡ false → is_ascii_digit (slice_index text 0) ≡ true → first_token text after ≡ (kind.Number, number_length text)
unfolding first_token
reads_number after text h d = rw (h, d) refl

pub reads_other : (after : Bool) (text : List ℕ) → begins_word (slice_index text 0) ≡ false → is_ascii_digit (slice_index text 0) ≡ false
    → first_token text after ≡ cond (slice_index text 0 == 39) (quoted text) (sign text)
unfolding first_token
reads_other after text h d = rw (h, d) refl

word_no_blank : (b : ℕ) → begins_word b ≡ true → is_blank b ≡ false
word_no_blank b h = grind (arith, nat_tests)

digit_no_blank : (b : ℕ) → is_ascii_digit b ≡ true → is_blank b ≡ false
digit_no_blank b h = grind (arith, nat_tests)

digit_no_word : (b : ℕ) → is_ascii_digit b ≡ true → begins_word b ≡ false
digit_no_word b h = grind (arith, nat_tests)

-- ---- each spelling

-- what is read first, against bytes at the front that spell a token of a kind
pub record Found (k : TokenKind) (bytes text : List ℕ) (first : TokenKind × ℕ) : Type 0 where
  pub no_blank : is_blank (slice_index text 0) ≡ false
  pub within : length bytes ≤ first.1
  pub same : length bytes ≡ first.1 → k ≡ first.0
  pub known : begins_word (slice_index text 0) ≡ false → first.0 ≢ kind.Unknown

-- just these bytes are read
exactly : (k : TokenKind) (bytes text : List ℕ) (first : TokenKind × ℕ) → is_blank (slice_index text 0) ≡ false → first ≡ (k, length bytes) → k ≢ kind.Unknown → Found k bytes text first
exactly k bytes text first no_blank e known =
    let kind_is : first.0 ≡ k = ap (λ (f : TokenKind × ℕ). f.0) e in
    let length_is : first.1 ≡ length bytes = ap (λ (f : TokenKind × ℕ). f.1) e in
    record { no_blank = no_blank; within = omega (arith, length_is); same = λ l. sym kind_is; known = λ w u. known (sym kind_is ∙ u) }

found_word : (after : Bool) (bytes rest : List ℕ) → IsWord bytes → Found (kind_of_word after bytes) bytes (bytes ++ rest) (first_token (bytes ++ rest) after)
found_word after [] rest w = absurd w
found_word after (b ∷ bytes) rest w =
    let all : list_all continues_word (b ∷ bytes) ≡ true = and_from (continues_word b) (list_all continues_word bytes) (or_left (begins_word b) (is_ascii_digit b) w.0) w.1 in
    let within : length (b ∷ bytes) ≤ word_length (b ∷ bytes ++ rest) = prefix_reaches continues_word (b ∷ bytes) rest all in
    let found : Found (kind_of_word after (b ∷ bytes)) (b ∷ bytes) (b ∷ bytes ++ rest) (word (b ∷ bytes ++ rest) after) = record {
      no_blank = word_no_blank b w.0;
      within = within;
      same = λ e. ap (kind_of_word after) (sym (take_at (b ∷ bytes) rest (word_length (b ∷ bytes ++ rest)) e));
      known = λ f. absurd (true≢false (sym w.0 ∙ f));
    } in
    subst (Found (kind_of_word after (b ∷ bytes)) (b ∷ bytes) (b ∷ bytes ++ rest)) (sym (reads_word after (b ∷ bytes ++ rest) w.0)) found

found_number : (after : Bool) (bytes rest : List ℕ) → IsNumber bytes → Found kind.Number bytes (bytes ++ rest) (first_token (bytes ++ rest) after)
found_number after [] rest n = absurd n
found_number after (b ∷ bytes) rest n =
    let digit : is_ascii_digit b ≡ true = (and_parts (is_ascii_digit b) (list_all is_ascii_digit bytes) n).0 in
    let found : Found kind.Number (b ∷ bytes) (b ∷ bytes ++ rest) (kind.Number, number_length (b ∷ bytes ++ rest)) = record {
      no_blank = digit_no_blank b digit;
      within = prefix_reaches is_ascii_digit (b ∷ bytes) rest n;
      same = λ e. refl;
      known = λ f u. cc;
    } in
    subst (Found kind.Number (b ∷ bytes) (b ∷ bytes ++ rest)) (sym (reads_number after (b ∷ bytes ++ rest) (digit_no_word b digit) digit)) found

reads_quoted : (after : Bool) (inner rest : List ℕ) → NoQuote rest → first_token (39 ∷ doubled inner ++ 39 ∷ [] ++ rest) after ≡ (kind.Quoted, length (39 ∷ doubled inner ++ 39 ∷ []))
reads_quoted after inner rest h =
    let text : List ℕ = 39 ∷ doubled inner ++ 39 ∷ [] ++ rest in
    let first : first_token text after ≡ closed (closing false 0 (doubled inner ++ 39 ∷ [] ++ rest)) = reads_other after text refl refl in
    let regrouped : doubled inner ++ 39 ∷ [] ++ rest ≡ doubled inner ++ 39 ∷ rest = append_assoc (doubled inner) (39 ∷ []) rest in
    let place : 0 + length (doubled inner) + 1 + 1 ≡ length (39 ∷ doubled inner ++ 39 ∷ []) = omega (arith, length_push (doubled inner) 39) in
    first ∙ ap (λ (t : List ℕ). closed (closing false 0 t)) regrouped ∙ ap closed (closing_doubled inner 0 rest h) ∙ ap (λ (n : ℕ). (kind.Quoted, n)) place

found_quoted : (after : Bool) (bytes rest : List ℕ) → IsQuoted bytes → NoQuote rest → Found kind.Quoted bytes (bytes ++ rest) (first_token (bytes ++ rest) after)
found_quoted after bytes rest q h =
    subst (λ (s : List ℕ). Found kind.Quoted s (s ++ rest) (first_token (s ++ rest) after)) (sym q.1)
    (exactly kind.Quoted (39 ∷ doubled q.0 ++ 39 ∷ []) (39 ∷ doubled q.0 ++ 39 ∷ [] ++ rest) (first_token (39 ∷ doubled q.0 ++ 39 ∷ [] ++ rest) after) refl (reads_quoted after q.0 rest h) (λ u. cc))

-- wherever it stands, a sign is found
abbrev FoundSign : List ℕ × TokenKind → Type 0
FoundSign s = (after : Bool) (rest : List ℕ) → Found s.1 s.0 (s.0 ++ rest) (first_token (s.0 ++ rest) after)

found_less : (text : List ℕ) (next : ℕ) → Found kind.Less (60 ∷ []) (60 ∷ text) (less next)
found_less text next = go (next == 61) (next == 62)
  where
    go : (q r : Bool) → Found kind.Less (60 ∷ []) (60 ∷ text) (cond q (kind.LessOrEqual, 2) (cond r (kind.NotEqual, 2) (kind.Less, 1)))
    go true r = record { no_blank = refl; within = omega arith; same = λ e. absurd (omega arith); known = λ f u. cc }
    go false true = record { no_blank = refl; within = omega arith; same = λ e. absurd (omega arith); known = λ f u. cc }
    go false false = record { no_blank = refl; within = omega arith; same = λ e. refl; known = λ f u. cc }

found_greater : (text : List ℕ) (next : ℕ) → Found kind.Greater (62 ∷ []) (62 ∷ text) (greater next)
found_greater text next = go (next == 61)
  where
    go : (q : Bool) → Found kind.Greater (62 ∷ []) (62 ∷ text) (cond q (kind.GreaterOrEqual, 2) (kind.Greater, 1))
    go true = record { no_blank = refl; within = omega arith; same = λ e. absurd (omega arith); known = λ f u. cc }
    go false = record { no_blank = refl; within = omega arith; same = λ e. refl; known = λ f u. cc }

-- one that no other begins with is read as it is
simply : (bytes : List ℕ) (k : TokenKind) → ((rest : List ℕ) → is_blank (slice_index (bytes ++ rest) 0) ≡ false) → ((after : Bool) (rest : List ℕ) → first_token (bytes ++ rest) after ≡ (k, length bytes)) → k ≢ kind.Unknown → FoundSign (bytes, k)
simply bytes k no_blank is known after rest = exactly k bytes (bytes ++ rest) (first_token (bytes ++ rest) after) (no_blank rest) (is after rest) known

found_signs : AllByRecursion FoundSign signs
unfolding first_token
found_signs = (
  simply (codes "(") kind.Open (λ rest. refl) (λ after rest. refl) (λ u. cc),
  (
    simply (codes ")") kind.Close (λ rest. refl) (λ after rest. refl) (λ u. cc),
    (
      simply (codes ",") kind.Comma (λ rest. refl) (λ after rest. refl) (λ u. cc),
      (
        simply (codes ";") kind.Semicolon (λ rest. refl) (λ after rest. refl) (λ u. cc),
        (
          simply (codes "*") kind.Star (λ rest. refl) (λ after rest. refl) (λ u. cc),
          (
            simply (codes "=") kind.Equal (λ rest. refl) (λ after rest. refl) (λ u. cc),
            (
              simply (codes "<>") kind.NotEqual (λ rest. refl) (λ after rest. refl) (λ u. cc),
              (
                λ after rest. found_less rest (slice_index rest 0),
                (
                  simply (codes "<=") kind.LessOrEqual (λ rest. refl) (λ after rest. refl) (λ u. cc),
                  (
                    λ after rest. found_greater rest (slice_index rest 0),
                    (
                      simply (codes ">=") kind.GreaterOrEqual (λ rest. refl) (λ after rest. refl) (λ u. cc),
                      (
                        simply (codes "+") kind.Plus (λ rest. refl) (λ after rest. refl) (λ u. cc),
                        (
                          simply (codes "-") kind.Minus (λ rest. refl) (λ after rest. refl) (λ u. cc),
                          tt,
                        ),
                      ),
                    ),
                  ),
                ),
              ),
            ),
          ),
        ),
      ),
    ),
  ),
)

pub found : (after : Bool) (k : TokenKind) (bytes rest : List ℕ) → IsSpelling after k bytes rest → Found k bytes (bytes ++ rest) (first_token (bytes ++ rest) after)
found after k bytes rest (inl w) = subst (λ (j : TokenKind). Found j bytes (bytes ++ rest) (first_token (bytes ++ rest) after)) (sym w.1) (found_word after bytes rest w.0)
found after k bytes rest (inr (inl n)) = subst (λ (j : TokenKind). Found j bytes (bytes ++ rest) (first_token (bytes ++ rest) after)) (sym n.1) (found_number after bytes rest n.0)
found after k bytes rest (inr (inr (inl q))) = subst (λ (j : TokenKind). Found j bytes (bytes ++ rest) (first_token (bytes ++ rest) after)) (sym q.2) (found_quoted after bytes rest q.0 q.1)
found after k bytes rest (inr (inr (inr s))) = All-contains FoundSign signs (bytes, k) (All-from_recursion FoundSign signs found_signs) s after rest
