-- The quote that closes a text: the first that isn't one of two.
use Rattle.std.proofs.Common.{◌≡◌, ◌≢◌, ℕ, suc, ◌+◌, Bool, true, false, true≢false, not, ◌&&◌, ◌==◌, cond, List, [], ◌∷◌, ◌++◌, length, slice_index, Option, Some, unwrap_or, refl, sym, ap, ◌∙◌, arith, eqb-true, ne_eqb}
use Rattle.sqltext.specs.Tokens.{closing}
use Rattle.sqltext.specs.Lexemes.{doubled}

-- no quote comes first
abbrev pub NoQuote : List ℕ → Type 0
NoQuote rest = (more : List ℕ) → rest ≢ 39 ∷ more

no_quote_test : (rest : List ℕ) → NoQuote rest → (slice_index rest 0 == 39) ≡ false
no_quote_test [] h = refl
no_quote_test (b ∷ rest) h = ne_eqb b 39 (λ e. h rest (ap (λ (c : ℕ). c ∷ rest) e))

no_quote_from : (rest : List ℕ) → (slice_index rest 0 == 39) ≡ false → NoQuote rest
no_quote_from rest h more e = true≢false (sym (ap (λ (r : List ℕ). slice_index r 0 == 39) e) ∙ h)

-- ---- a doubled text is passed over, up to the quote after it

doubled_quote : (b : ℕ) (text : List ℕ) → (b == 39) ≡ true → doubled (b ∷ text) ≡ 39 ∷ 39 ∷ doubled text
doubled_quote b text e = ap (λ (q : Bool). cond q (39 ∷ 39 ∷ doubled text) (b ∷ doubled text)) e

doubled_other : (b : ℕ) (text : List ℕ) → (b == 39) ≡ false → doubled (b ∷ text) ≡ b ∷ doubled text
doubled_other b text e = ap (λ (q : Bool). cond q (39 ∷ 39 ∷ doubled text) (b ∷ doubled text)) e

passes_other : (b : ℕ) (at : ℕ) (text : List ℕ) → (b == 39) ≡ false → closing false at (b ∷ text) ≡ closing false (at + 1) text
passes_other b at text e = ap (λ (q : Bool). cond (q && not (slice_index text 0 == 39)) (Some (at + 1)) (closing q (at + 1) text)) e

closes : (at : ℕ) (text : List ℕ) → (slice_index text 0 == 39) ≡ false → closing false at (39 ∷ text) ≡ Some (at + 1)
closes at text e = ap (λ (q : Bool). cond (not q) (Some (at + 1)) (closing true (at + 1) text)) e

pub closing_doubled : (inner : List ℕ) (at : ℕ) (rest : List ℕ) → NoQuote rest → closing false at (doubled inner ++ 39 ∷ rest) ≡ Some (at + length (doubled inner) + 1)
closing_doubled [] at rest h =
    let place : at + 1 ≡ at + 0 + 1 = omega arith in
    closes at rest (no_quote_test rest h) ∙ ap (λ (n : ℕ). Some n) place
closing_doubled (b ∷ inner) at rest h = go (b == 39) refl (λ n. closing_doubled inner n rest h)
  where
    go : (q : Bool) → (b == 39) ≡ q → ((n : ℕ) → closing false n (doubled inner ++ 39 ∷ rest) ≡ Some (n + length (doubled inner) + 1))
        → closing false at (doubled (b ∷ inner) ++ 39 ∷ rest) ≡ Some (at + length (doubled (b ∷ inner)) + 1)
    go true e ih =
        let place : at + 1 + 1 + length (doubled inner) + 1 ≡ at + suc (suc (length (doubled inner))) + 1 = omega arith in
        rw (doubled_quote b inner e) (ih (at + 1 + 1) ∙ ap (λ (n : ℕ). Some n) place)
    go false e ih =
        let place : at + 1 + length (doubled inner) + 1 ≡ at + suc (length (doubled inner)) + 1 = omega arith in
        rw (doubled_other b inner e) (passes_other b at (doubled inner ++ 39 ∷ rest) e ∙ ih (at + 1) ∙ ap (λ (n : ℕ). Some n) place)

-- ---- and only a doubled text is

-- a doubled text and its closing quote end after n bytes, where the text begins after `at`
abbrev IsClosed : ℕ → List ℕ → ℕ → Type 0
IsClosed at text n = (inner : List ℕ) × (rest : List ℕ) × (text ≡ doubled inner ++ 39 ∷ rest) × NoQuote rest × (n ≡ at + length (doubled inner) + 1)

-- a doubled text and its closing quote end after n bytes, maybe with the second of two quotes before the text
abbrev Closed : Bool → ℕ → List ℕ → ℕ → Type 0
Closed false at text n = IsClosed at text n
Closed true at text n = (b : ℕ) × (more : List ℕ) × (text ≡ b ∷ more) × IsClosed (at + 1) more n

closed_at : (is_second : Bool) (at : ℕ) (text : List ℕ) (n : ℕ) → closing is_second at text ≡ Some n → Closed is_second at text n
closed_at is_second at [] n e = cc
closed_at true at (b ∷ text) n e = (b, text, refl, closed_at false (at + 1) text n e)
closed_at false at (b ∷ text) n e = go (b == 39) (slice_index text 0 == 39) refl refl (λ s. closed_at s (at + 1) text n) e
  where
    go : (q r : Bool) → (b == 39) ≡ q → (slice_index text 0 == 39) ≡ r → ((s : Bool) → closing s (at + 1) text ≡ Some n → Closed s (at + 1) text n)
        → cond (q && not r) (Some (at + 1)) (closing q (at + 1) text) ≡ Some n → Closed false at (b ∷ text) n
    go true false eb er ih e =
        let here : at + 1 ≡ n = ap (λ (o : Option ℕ). unwrap_or o 0) e in
        let place : n ≡ at + 0 + 1 = omega arith in
        ([], text, ap (λ (c : ℕ). c ∷ text) (eqb-true b 39 eb), no_quote_from text er, place)
    go true true eb er ih e =
        let (c, more, text_is, closed) = ih true e in
        let (inner, rest, more_is, no_quote, n_is) = closed in
        let second : c ≡ 39 = eqb-true c 39 (ap (λ (l : List ℕ). slice_index l 0 == 39) (sym text_is) ∙ er) in
        let text_doubled : text ≡ 39 ∷ (doubled inner ++ 39 ∷ rest) = text_is ∙ ap (λ (d : ℕ). d ∷ more) second ∙ ap (λ (l : List ℕ). 39 ∷ l) more_is in
        let place : n ≡ at + suc (suc (length (doubled inner))) + 1 = omega (arith, n_is) in
        (39 ∷ inner, rest, ap (λ (d : ℕ). d ∷ text) (eqb-true b 39 eb) ∙ ap (λ (l : List ℕ). 39 ∷ l) text_doubled, no_quote, place)
    go false r eb er ih e =
        let (inner, rest, text_is, no_quote, n_is) = ih false e in
        let spelled : doubled (b ∷ inner) ≡ b ∷ doubled inner = doubled_other b inner eb in
        let place : n ≡ at + suc (length (doubled inner)) + 1 = omega (arith, n_is) in
        (b ∷ inner, rest, ap (λ (l : List ℕ). b ∷ l) text_is ∙ ap (λ (l : List ℕ). l ++ 39 ∷ rest) (sym spelled), no_quote, place ∙ ap (λ (l : List ℕ). at + length l + 1) (sym spelled))

pub closing_is : (text : List ℕ) (n : ℕ) → closing false 0 text ≡ Some n → (inner : List ℕ) × (rest : List ℕ) × (text ≡ doubled inner ++ 39 ∷ rest) × NoQuote rest × (n ≡ length (doubled inner) + 1)
closing_is text n e =
    let (inner, rest, text_is, no_quote, n_is) = closed_at false 0 text n e in
    let place : n ≡ length (doubled inner) + 1 = omega (arith, n_is) in
    (inner, rest, text_is, no_quote, place)
