-- Passing over the bytes of a token at once.
use Rattle.std.proofs.Common.{◌≡◌, ℕ, zero, suc, ◌+◌, ◌-◌, ◌≤◌, ◌<◌, Bool, false, List, [], ◌∷◌, ◌++◌, length, drop, slice_index, refl, sym, ap, subst, ◌∙◌, append_assoc, add-zero, arith}
use Rattle.std.proofs.lemmas.List.{length-drop, drop-drop}
use Rattle.sqltext.specs.declared.token.Token.{Token}
use Rattle.sqltext.specs.declared.token.TokenKind.{TokenKind}
use Rattle.sqltext.specs.declared.token.TokenKind.TheVariants as kind
use Rattle.sqltext.specs.Tokens.{is_blank, first_token, token_at, tokens_from, same_kind}

skips : (after : Bool) (n at : ℕ) (text : List ℕ) → n ≤ length text → tokens_from after n at text ≡ tokens_from after 0 (at + n) (drop n text)
skips after zero at text h = rw add-zero refl
skips after (suc n) at [] h = absurd (omega arith)
skips after (suc n) at (b ∷ text) h =
    let e : at + 1 + n ≡ at + suc n = omega arith in
    skips after n (at + 1) text (omega arith) ∙ ap (λ m. tokens_from after 0 m (drop n text)) e

drop-cons : (n b : ℕ) (text : List ℕ) → 1 ≤ n → drop (n - 1) text ≡ drop n (b ∷ text)
drop-cons zero b text h = absurd (omega arith)
drop-cons (suc n) b text h = let e : suc n - 1 ≡ n = omega arith in ap (λ k. drop k text) e

-- one token, and those after it
pub one_token : (after : Bool) (at : ℕ) (text : List ℕ) → 0 < length text → is_blank (slice_index text 0) ≡ false
    → 1 ≤ (first_token text after).1 → (first_token text after).1 ≤ length text
    → tokens_from after 0 at text ≡ token_at at (first_token text after) ∷ tokens_from (same_kind (first_token text after).0 kind.Number) 0 (at + (first_token text after).1) (drop (first_token text after).1 text)
one_token after at [] some no_blank moves within = absurd (omega arith)
one_token after at (b ∷ text) some no_blank moves within =
    let first = first_token (b ∷ text) after in
    let is_number = same_kind first.0 kind.Number in
    let place : at + 1 + (first.1 - 1) ≡ at + first.1 = omega arith in
    let passed : tokens_from is_number (first.1 - 1) (at + 1) text ≡ tokens_from is_number 0 (at + first.1) (drop first.1 (b ∷ text)) =
    skips is_number (first.1 - 1) (at + 1) text (omega arith) ∙ rw (place, drop-cons first.1 b text moves) refl in
    rw no_blank (ap (λ (more : List Token). token_at at first ∷ more) passed)

-- one token more in the middle of a text, after the tokens that were read
pub goes_on : (before pushed : List Token) (after : Bool) (at : ℕ) (text rest : List ℕ) (first : TokenKind × ℕ) (is_number : Bool) (all : List Token)
    → rest ≡ drop at text → at < length text → first ≡ first_token rest after → is_blank (slice_index rest 0) ≡ false → 1 ≤ first.1 → first.1 ≤ length rest
    → is_number ≡ same_kind first.0 kind.Number → pushed ≡ before ++ token_at at first ∷ []
    → before ++ tokens_from after 0 at (drop at text) ≡ all
    → pushed ++ tokens_from is_number 0 (at + first.1) (drop (at + first.1) text) ≡ all
goes_on before pushed after at text rest first is_number all rest-is lt first-is no_blank moves within number pushed-is so_far =
    let long : 0 < length rest = omega (arith, length-drop at text, ap length rest-is) in
    let moves-2 : 1 ≤ (first_token rest after).1 = subst (λ (f : TokenKind × ℕ). 1 ≤ f.1) first-is moves in
    let within-2 : (first_token rest after).1 ≤ length rest = subst (λ (f : TokenKind × ℕ). f.1 ≤ length rest) first-is within in
    let one = one_token after at rest long no_blank moves-2 within-2 in
    let passed : drop first.1 rest ≡ drop (at + first.1) text = ap (drop first.1) rest-is ∙ drop-drop first.1 at text in
    let one-2 : tokens_from after 0 at rest ≡ token_at at first ∷ tokens_from is_number 0 (at + first.1) (drop first.1 rest) = rw (number, first-is) one in
    let one-3 : tokens_from after 0 at (drop at text) ≡ token_at at first ∷ tokens_from is_number 0 (at + first.1) (drop (at + first.1) text) =
    rw (← rest-is, ← passed) one-2 in
    rw (pushed-is, append_assoc) (ap (λ (more : List Token). before ++ more) (sym one-3) ∙ so_far)
