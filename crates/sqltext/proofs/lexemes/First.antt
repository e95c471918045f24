-- The token that is read first is the one that the text begins with, and the text begins with no other.
use Rattle.std.proofs.Common.{◌≡◌, ◌≤◌, ◌<◌, ◌⊎◌, ℕ, ◌+◌, Bool, true, false, ◌==◌, cond, List, [], ◌∷◌, ◌++◌, length, take, drop, slice_index, Contains, Option, Some, None, inl, inr, refl, sym, ap, ap₂, subst, ◌∙◌, append_assoc, take_at, drop_at, take-append-drop, length-take-le, length-append, eqb-true, arith}
use Rattle.std.proofs.lemmas.Bool.{and_from}
use Rattle.std.proofs.lemmas.List.{length_push}
use Rattle.std.proofs.lemmas.List.Sums.{prefix_len-le-length}
use Rattle.std.specs.List.{list_all, prefix_len}
use Rattle.std.specs.Char.{is_ascii_digit}
use Rattle.sqltext.specs.declared.token.TokenKind.{TokenKind}
use Rattle.sqltext.specs.declared.token.TokenKind.TheVariants as kind
use Rattle.sqltext.specs.Tokens.{is_blank, begins_word, continues_word, word_length, number_length, word, closing, closed, quoted, less, greater, single, sign, first_token}
use Rattle.sqltext.specs.Lexemes.{IsWord, IsNumber, doubled, signs, IsSpelling, IsLongest, IsStray, IsFirst}
use Rattle.sqltext.proofs.lexemes.Quoted.{NoQuote, closing_is}
use Rattle.sqltext.proofs.lexemes.Found.{prefix_longer, reads_word, reads_number, reads_other, Found, found}

-- ---- what is read first spells a token, or its byte has no kind

passes : (p : ℕ → Bool) (xs : List ℕ) → list_all p (take (prefix_len p xs) xs) ≡ true
passes p [] = refl
passes p (x ∷ xs) = go (p x) refl (passes p xs)
  where
    go : (q : Bool) → p x ≡ q → list_all p (take (prefix_len p xs) xs) ≡ true → list_all p (take (prefix_len p (x ∷ xs)) (x ∷ xs)) ≡ true
    go true e ih = subst (λ (n : ℕ). list_all p (take n (x ∷ xs)) ≡ true) (sym (prefix_longer p x xs e)) (and_from (p x) (list_all p (take (prefix_len p xs) xs)) e ih)
    go false e ih =
        let none : prefix_len p (x ∷ xs) ≡ 0 = ap (λ (q : Bool). cond q (1 + prefix_len p xs) 0) e in
        subst (λ (n : ℕ). list_all p (take n (x ∷ xs)) ≡ true) (sym none) refl

abbrev Outcome : Bool → List ℕ → TokenKind × ℕ → Type 0
Outcome after text first =
    (IsSpelling after first.0 (take first.1 text) (drop first.1 text) × (1 ≤ first.1) × (first.1 ≤ length text)) ⊎ ((begins_word (slice_index text 0) ≡ false) × (first ≡ (kind.Unknown, 1)))

word_outcome : (after : Bool) (b : ℕ) (text : List ℕ) → begins_word b ≡ true → Outcome after (b ∷ text) (word (b ∷ text) after)
word_outcome after b text e =
    let continues : continues_word b ≡ true = rw e refl in
    let long = prefix_longer continues_word b text continues in
    let is_word : IsWord (take (word_length (b ∷ text)) (b ∷ text)) = subst (λ (n : ℕ). IsWord (take n (b ∷ text))) (sym long) (e, passes continues_word text) in
    inl (inl (is_word, refl), omega (arith, long), prefix_len-le-length continues_word (b ∷ text))

number_outcome : (after : Bool) (b : ℕ) (text : List ℕ) → is_ascii_digit b ≡ true → Outcome after (b ∷ text) (kind.Number, number_length (b ∷ text))
number_outcome after b text d =
    let long = prefix_longer is_ascii_digit b text d in
    let digits : list_all is_ascii_digit (b ∷ take (number_length text) text) ≡ true = and_from (is_ascii_digit b) (list_all is_ascii_digit (take (number_length text) text)) d (passes is_ascii_digit text) in
    let is_number : IsNumber (take (number_length (b ∷ text)) (b ∷ text)) = subst (λ (n : ℕ). IsNumber (take n (b ∷ text))) (sym long) digits in
    inl (inr (inl (is_number, refl)), omega (arith, long), prefix_len-le-length is_ascii_digit (b ∷ text))

quoted_outcome : (after : Bool) (text : List ℕ) → Outcome after (39 ∷ text) (quoted (39 ∷ text))
quoted_outcome after text = go (closing false 0 text) refl
  where
    go : (end : Option ℕ) → closing false 0 text ≡ end → Outcome after (39 ∷ text) (closed end)
    go None e = inr (refl, refl)
    go (Some n) e =
        let (inner, rest, text_is, no_quote, n_is) = closing_is text n e in
        let bytes : List ℕ = 39 ∷ doubled inner ++ 39 ∷ [] in
        let whole : 39 ∷ text ≡ bytes ++ rest = ap (λ (l : List ℕ). 39 ∷ l) (text_is ∙ sym (append_assoc (doubled inner) (39 ∷ []) rest)) in
        let long : length bytes ≡ n + 1 = omega (arith, n_is, length_push (doubled inner) 39) in
        let front : take (n + 1) (39 ∷ text) ≡ bytes = ap (take (n + 1)) whole ∙ take_at bytes rest (n + 1) long in
        let left : drop (n + 1) (39 ∷ text) ≡ rest = ap (drop (n + 1)) whole ∙ drop_at bytes rest (n + 1) long in
        let within : n + 1 ≤ length (39 ∷ text) = omega (arith, long, ap length whole, length-append bytes rest) in
        inl (inr (inr (inl ((inner, front), subst NoQuote (sym left) no_quote, refl))), omega arith, within)

-- ---- signs

less_outcome : (after : Bool) (text : List ℕ) → Outcome after (60 ∷ text) (less (slice_index text 0))
less_outcome after [] = inl (inr (inr (inr (7, omega arith, refl))), omega arith, omega arith)
less_outcome after (c ∷ text) = go (c == 61) (c == 62) refl refl
  where
    go : (q r : Bool) → (c == 61) ≡ q → (c == 62) ≡ r → Outcome after (60 ∷ c ∷ text) (cond q (kind.LessOrEqual, 2) (cond r (kind.NotEqual, 2) (kind.Less, 1)))
    go true r e f = inl (inr (inr (inr (subst (λ (d : ℕ). Contains signs (60 ∷ d ∷ [], kind.LessOrEqual)) (sym (eqb-true c 61 e)) (8, omega arith, refl)))), omega arith, omega arith)
    go false true e f = inl (inr (inr (inr (subst (λ (d : ℕ). Contains signs (60 ∷ d ∷ [], kind.NotEqual)) (sym (eqb-true c 62 f)) (6, omega arith, refl)))), omega arith, omega arith)
    go false false e f = inl (inr (inr (inr (7, omega arith, refl))), omega arith, omega arith)

greater_outcome : (after : Bool) (text : List ℕ) → Outcome after (62 ∷ text) (greater (slice_index text 0))
greater_outcome after [] = inl (inr (inr (inr (9, omega arith, refl))), omega arith, omega arith)
greater_outcome after (c ∷ text) = go (c == 61) refl
  where
    go : (q : Bool) → (c == 61) ≡ q → Outcome after (62 ∷ c ∷ text) (cond q (kind.GreaterOrEqual, 2) (kind.Greater, 1))
    go true e = inl (inr (inr (inr (subst (λ (d : ℕ). Contains signs (62 ∷ d ∷ [], kind.GreaterOrEqual)) (sym (eqb-true c 61 e)) (10, omega arith, refl)))), omega arith, omega arith)
    go false e = inl (inr (inr (inr (9, omega arith, refl))), omega arith, omega arith)

-- a byte of a kind is a sign by itself
abbrev IsSingle : ℕ → TokenKind → Type 0
IsSingle b k = (k ≡ kind.Unknown) ⊎ Contains signs (b ∷ [], k)

single_or : (b c : ℕ) (k other : TokenKind) → Contains signs (c ∷ [], k) → IsSingle b other → IsSingle b (cond (b == c) k other)
single_or b c k other here there = go (b == c) refl
  where
    go : (q : Bool) → (b == c) ≡ q → IsSingle b (cond q k other)
    go true e = inr (subst (λ (d : ℕ). Contains signs (d ∷ [], k)) (sym (eqb-true b c e)) here)
    go false e = there

is_single : (b : ℕ) → IsSingle b (single b)
is_single b =
    single_or b 40 kind.Open _ (0, omega arith, refl) (single_or b 41 kind.Close _ (1, omega arith, refl) (single_or b 44 kind.Comma _ (2, omega arith, refl) (single_or b 59 kind.Semicolon _ (3, omega arith, refl)
    (single_or b 42 kind.Star _ (4, omega arith, refl) (single_or b 61 kind.Equal _ (5, omega arith, refl) (single_or b 43 kind.Plus _ (11, omega arith, refl) (single_or b 45 kind.Minus _ (12, omega arith, refl) (inl refl))))))))

single_outcome : (after : Bool) (b : ℕ) (text : List ℕ) → begins_word b ≡ false → Outcome after (b ∷ text) (single b, 1)
single_outcome after b text no_word = go (is_single b)
  where
    go : IsSingle b (single b) → Outcome after (b ∷ text) (single b, 1)
    go (inl e) = inr (no_word, ap (λ (k : TokenKind). (k, 1)) e)
    go (inr s) = inl (inr (inr (inr s)), omega arith, omega arith)

sign_outcome : (after : Bool) (b : ℕ) (text : List ℕ) → begins_word b ≡ false → Outcome after (b ∷ text) (sign (b ∷ text))
sign_outcome after b text no_word = go (b == 60) (b == 62) refl refl
  where
    go : (q r : Bool) → (b == 60) ≡ q → (b == 62) ≡ r → Outcome after (b ∷ text) (cond q (less (slice_index text 0)) (cond r (greater (slice_index text 0)) (single b, 1)))
    go true r e f = subst (λ (c : ℕ). Outcome after (c ∷ text) (less (slice_index text 0))) (sym (eqb-true b 60 e)) (less_outcome after text)
    go false true e f = subst (λ (c : ℕ). Outcome after (c ∷ text) (greater (slice_index text 0))) (sym (eqb-true b 62 f)) (greater_outcome after text)
    go false false e f = single_outcome after b text no_word

outcome : (after : Bool) (text : List ℕ) → Outcome after text (first_token text after)
unfolding first_token
outcome after [] = inr (refl, refl)
outcome after (b ∷ text) = go (begins_word b) (is_ascii_digit b) (b == 39) refl refl refl
  where
    go : (w d q : Bool) → begins_word b ≡ w → is_ascii_digit b ≡ d → (b == 39) ≡ q → Outcome after (b ∷ text) (first_token (b ∷ text) after)
    go true d q e f g = subst (Outcome after (b ∷ text)) (sym (reads_word after (b ∷ text) e)) (word_outcome after b text e)
    go false true q e f g = subst (Outcome after (b ∷ text)) (sym (reads_number after (b ∷ text) e f)) (number_outcome after b text f)
    go false false q e f g = subst (Outcome after (b ∷ text)) (sym (reads_other after (b ∷ text) e f)) (last q g)
      where
        last : (p : Bool) → (b == 39) ≡ p → Outcome after (b ∷ text) (cond (b == 39) (quoted (b ∷ text)) (sign (b ∷ text)))
        last true h = rw h (subst (λ (c : ℕ). Outcome after (c ∷ text) (quoted (c ∷ text))) (sym (eqb-true b 39 h)) (quoted_outcome after text))
        last false h = rw h (sign_outcome after b text e)

-- ---- that it is the first of the text, and no other is

-- what spells a token at the front of this text
abbrev Front : Bool → List ℕ → Type 0
Front after text = (k : TokenKind) (other left : List ℕ) → text ≡ other ++ left → IsSpelling after k other left → Found k other text (first_token text after)

front : (after : Bool) (text : List ℕ) → Front after text
front after text k other left e s = subst (λ (t : List ℕ). Found k other t (first_token t after)) (sym e) (found after k other left s)

pub record Reads (after : Bool) (text : List ℕ) (first : TokenKind × ℕ) : Type 0 where
  pub is_first : IsFirst after first.0 (take first.1 text) (drop first.1 text)
  pub moves : 1 ≤ first.1
  pub within : first.1 ≤ length text

pub reads_first : (after : Bool) (text : List ℕ) → 0 < length text → is_blank (slice_index text 0) ≡ false → Reads after text (first_token text after)
reads_first after [] some no_blank = absurd (omega arith)
reads_first after (b ∷ text) some no_blank = go (outcome after (b ∷ text))
  where
    go : Outcome after (b ∷ text) (first_token (b ∷ text) after) → Reads after (b ∷ text) (first_token (b ∷ text) after)
    go (inl s) =
        let n = (first_token (b ∷ text) after).1 in
        let longest : IsLongest after (take n (b ∷ text)) (drop n (b ∷ text)) =
        λ k other left e o.
        let f = front after (b ∷ text) k other left (sym (take-append-drop n (b ∷ text)) ∙ e) o in
        omega (arith, f.within, length-take-le n (b ∷ text) s.2)
        in
        record { is_first = inl (s.0, longest); moves = s.1; within = s.2 }
    go (inr s) =
        let stray : IsStray after (b ∷ []) text = (b, refl, no_blank, λ k other left e o. (front after (b ∷ text) k other left e o).known s.0 (ap (λ (f : TokenKind × ℕ). f.0) s.1)) in
        let reads : Reads after (b ∷ text) (kind.Unknown, 1) = record { is_first = inr (stray, refl); moves = omega arith; within = omega arith } in
        subst (Reads after (b ∷ text)) (sym s.1) reads

pub record IsRead (after : Bool) (k : TokenKind) (bytes rest : List ℕ) : Type 0 where
  pub no_blank : is_blank (slice_index (bytes ++ rest) 0) ≡ false
  pub is : first_token (bytes ++ rest) after ≡ (k, length bytes)
  pub moves : 1 ≤ length bytes

pair : (first : TokenKind × ℕ) (k : TokenKind) (n : ℕ) → first.0 ≡ k → first.1 ≡ n → first ≡ (k, n)
pair first k n e f = ap₂ (λ (j : TokenKind) (m : ℕ). (j, m)) e f

pub reads_no_other : (after : Bool) (k : TokenKind) (bytes rest : List ℕ) → IsFirst after k bytes rest → IsRead after k bytes rest
reads_no_other after k bytes rest (inl s) = go (outcome after (bytes ++ rest))
  where
    go : Outcome after (bytes ++ rest) (first_token (bytes ++ rest) after) → IsRead after k bytes rest
    go (inl r) =
        let first = first_token (bytes ++ rest) after in
        let f = found after k bytes rest s.0 in
        let no_longer : length (take first.1 (bytes ++ rest)) ≤ length bytes = s.1 first.0 (take first.1 (bytes ++ rest)) (drop first.1 (bytes ++ rest)) (sym (take-append-drop first.1 (bytes ++ rest))) r.0 in
        let long : length bytes ≡ first.1 = omega (arith, no_longer, f.within, length-take-le first.1 (bytes ++ rest) r.2) in
        let moves : 1 ≤ length bytes = omega (arith, r.1, long) in
        record { no_blank = f.no_blank; is = pair first k (length bytes) (sym (f.same long)) (sym long); moves = moves }
    go (inr r) = absurd ((found after k bytes rest s.0).known r.0 (ap (λ (f : TokenKind × ℕ). f.0) r.1))
reads_no_other after k bytes rest (inr s) = go (outcome after (bytes ++ rest))
  where
    go : Outcome after (bytes ++ rest) (first_token (bytes ++ rest) after) → IsRead after k bytes rest
    go (inl r) =
        let first = first_token (bytes ++ rest) after in
        absurd (s.0.3 first.0 (take first.1 (bytes ++ rest)) (drop first.1 (bytes ++ rest)) (sym (take-append-drop first.1 (bytes ++ rest))) r.0)
    go (inr r) =
        let long : length bytes ≡ 1 = ap length s.0.1 in
        let no_blank : is_blank (slice_index (bytes ++ rest) 0) ≡ false = subst (λ (l : List ℕ). is_blank (slice_index (l ++ rest) 0) ≡ false) (sym s.0.1) s.0.2 in
        record { no_blank = no_blank; is = r.1 ∙ ap₂ (λ (j : TokenKind) (m : ℕ). (j, m)) (sym s.1) (sym long); moves = omega (arith, long) }
