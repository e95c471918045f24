-- Reading tokens from left to right, with the first fault that is met.
use Rattle.std.specs.Prelude.{◌≡◌, ℕ, zero, suc, min, if◌then◌else◌, List, [], ◌∷◌, length, Option, Some, None, Result, Ok, Err}
use Rattle.std.specs.Option.{option_map_or}
use Rattle.value.specs.declared.refusal.Refusal.{Refusal}
use Rattle.value.specs.declared.refusal.Code.{Code}
use Rattle.value.specs.declared.refusal.Code.TheVariants.{SyntaxError}
use Rattle.value.specs.declared.refusal.Place.TheVariants.{Byte}
use Rattle.sqltext.specs.declared.token.TokenKind.{TokenKind}
use Rattle.sqltext.specs.declared.token.Token.{Token}
use Rattle.sqltext.specs.declared.error.ParseError.{ParseError}
use Rattle.sqltext.specs.declared.error.ParseError.TheVariants as error
use Rattle.sqltext.specs.Tokens.{same_kind}

infixl 10 ◌>>=◌
abbrev pub ◌>>=◌ : {A B : Type 0} → Result A Refusal → (A → Result B Refusal) → Result B Refusal
(Ok x) >>= f = f x
(Err e) >>= f = Err e

-- ---- what a function that may want memory ensures: what it returned, seen by view, is the answer, unless memory ran out

abbrev pub Fails : {Y : Type 0} → ParseError → Result Y Refusal → Type 0
Fails error.Memory answer = Unit {0}
Fails (error.Refused refusal) answer = answer ≡ Err refusal

abbrev pub Gives : {X Y : Type 0} → (X → Y) → Result X ParseError → Result Y Refusal → Type 0
Gives view (Ok x) answer = answer ≡ Ok (view x)
Gives view (Err e) answer = Fails e answer

-- ---- refusals

-- a refusal at a byte; a place names no byte past 2 ^ 32 - 1, and no statement is so long
abbrev pub refusal_at : Code → ℕ → Refusal
refusal_at code byte = record { code = code; place = Byte (min byte 4294967295) }

-- where the first of the tokens stands
abbrev pub place : List Token → ℕ
place [] = 0
place (t ∷ ts) = t.start

-- no statement goes on with the first of the tokens
abbrev pub syntax_error : List Token → Refusal
syntax_error ts = refusal_at SyntaxError (place ts)

-- ---- steps

-- the tokens after one of a kind, if it comes first
unfoldable pub past : TokenKind → List Token → Option (List Token)
past k [] = None
past k (t ∷ ts) = if same_kind t.kind k then Some ts else None

-- the first token, which must be of a kind
unfoldable pub expect : TokenKind → List Token → Result (Token × List Token) Refusal
expect k [] = Err (syntax_error [])
expect k (t ∷ ts) = if same_kind t.kind k then Ok (t, ts) else Err (syntax_error (t ∷ ts))

-- no tokens are left
unfoldable pub nothing_left : List Token → Result (Unit {0}) Refusal
nothing_left [] = Ok tt
nothing_left (t ∷ ts) = Err (syntax_error (t ∷ ts))

-- a separator and an item, as long as a separator comes, and at most so often
unfoldable pub more : {T : Type 0} → TokenKind → (List Token → Result (T × List Token) Refusal) → ℕ → List Token → Result (List T × List Token) Refusal
more separator item zero ts = Ok ([], ts)
more separator item (suc n) ts = option_map_or (λ after. item after >>= λ x. more separator item n x.1 >>= λ xs. Ok (x.0 ∷ xs.0, xs.1)) (past separator ts) (Ok ([], ts))

-- One or more items, with separators between. Each takes a token, so the number of tokens is enough.
unfoldable pub list_of : {T : Type 0} → TokenKind → (List Token → Result (T × List Token) Refusal) → List Token → Result (List T × List Token) Refusal
list_of separator item ts = item ts >>= λ x. more separator item (length x.1) x.1 >>= λ xs. Ok (x.0 ∷ xs.0, xs.1)
