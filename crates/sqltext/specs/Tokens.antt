-- The tokens of a text.
-- Source: PostgreSQL manual, SQL syntax, lexical structure; the signs, the reserved words and the limit of names are ours.
use Rattle.std.specs.Prelude.{◌≡◌, ◌≤◌, ℕ, zero, suc, ◌+◌, ◌-◌, Bool, true, false, not, ◌&&◌, ◌||◌, if◌then◌else◌, ◌==◌, nat_le, List, [], ◌∷◌, length, take, drop, map, slice_index, Option, Some, None}
use Rattle.std.specs.Char.{is_ascii_digit, is_ascii_lowercase}
use Rattle.std.specs.List.{prefix_len}
use Rattle.std.specs.Str.{bytes_eq}
use denote.Enum.Bare.{sameb}
use Rattle.sqltext.specs.contracts.token.TokenKind.{the_type}
use Rattle.sqltext.specs.declared.token.TokenKind.{TokenKind}
use Rattle.sqltext.specs.declared.token.TokenKind.TheVariants as kind
use Rattle.sqltext.specs.declared.token.Token.{Token}
use Rattle.sqltext.specs.declared.token.TheConstants.{RESERVED_WORDS}

-- `==` on kinds
unfoldable pub same_kind : TokenKind → TokenKind → Bool
same_kind = sameb the_type

abbrev pub is_blank : ℕ → Bool
is_blank b = b == 9 || b == 10 || b == 13 || b == 32

-- a small letter or `_`
abbrev pub begins_word : ℕ → Bool
begins_word b = is_ascii_lowercase b || b == 95

-- a small letter, `_` or a digit
abbrev pub continues_word : ℕ → Bool
continues_word b = begins_word b || is_ascii_digit b

abbrev pub word_length : List ℕ → ℕ
word_length = prefix_len continues_word

abbrev pub number_length : List ℕ → ℕ
number_length = prefix_len is_ascii_digit

-- ---- words

abbrev pub reserved_in : List (List ℕ × TokenKind) → List ℕ → Option TokenKind
reserved_in [] word = None
reserved_in (entry ∷ entries) word = if bytes_eq entry.0 word then Some entry.1 else reserved_in entries word

-- the kind of a reserved word
unfoldable pub reserved : List ℕ → Option TokenKind
reserved = reserved_in (map (λ entry. (entry.0.now, entry.1)) RESERVED_WORDS)

abbrev pub reserved_or_name : Option TokenKind → ℕ → TokenKind
reserved_or_name (Some k) n = k
reserved_or_name None n = if nat_le n 63 then kind.Name else kind.Unknown

-- a reserved word, or else a name, of at most 63 bytes
abbrev pub word_kind : List ℕ → TokenKind
word_kind word = reserved_or_name (reserved word) (length word)

-- a word, which may not stand right after a number
abbrev pub word : List ℕ → Bool → TokenKind × ℕ
word text after_number = (if after_number then kind.Unknown else word_kind (take (word_length text) text), word_length text)

-- ---- quoted texts

-- the length up to and with the closing quote, of a text that begins after `at` bytes; a doubled quote doesn't close
abbrev pub closing : Bool → ℕ → List ℕ → Option ℕ
closing is_second at [] = None
closing true at (b ∷ text) = closing false (at + 1) text
closing false at (b ∷ text) = if b == 39 && not (slice_index text 0 == 39) then Some (at + 1) else closing (b == 39) (at + 1) text

abbrev pub closed : Option ℕ → TokenKind × ℕ
closed None = (kind.Unknown, 1)
closed (Some n) = (kind.Quoted, n + 1)

-- from a quote up to the one that closes it; an unended text begins no token
abbrev pub quoted : List ℕ → TokenKind × ℕ
quoted text = closed (closing false 0 (drop 1 text))

-- ---- signs

-- one byte long, or two where there is a second
abbrev pub IsShort : ℕ → ℕ → Type 0
IsShort next n = (1 ≤ n) × (n ≤ 2) × (next ≡ 0 → n ≡ 1)

abbrev pub less : ℕ → TokenKind × ℕ
less next = if next == 61 then (kind.LessOrEqual, 2) else (if next == 62 then (kind.NotEqual, 2) else (kind.Less, 1))

abbrev pub greater : ℕ → TokenKind × ℕ
greater next = if next == 61 then (kind.GreaterOrEqual, 2) else (kind.Greater, 1)

abbrev pub single : ℕ → TokenKind
single b =
    if b == 40 then kind.Open else (if b == 41 then kind.Close else (if b == 44 then kind.Comma else (if b == 59 then kind.Semicolon
    else (if b == 42 then kind.Star else (if b == 61 then kind.Equal else (if b == 43 then kind.Plus else (if b == 45 then kind.Minus else kind.Unknown)))))))

-- the longest sign at the front
abbrev pub sign : List ℕ → TokenKind × ℕ
sign text =
    let b = slice_index text 0 in
    if b == 60 then less (slice_index text 1) else (if b == 62 then greater (slice_index text 1) else (single b, 1))

-- ---- the tokens

-- the token at the front, and its length
unfoldable pub first_token : List ℕ → Bool → TokenKind × ℕ
first_token text after_number =
    let b = slice_index text 0 in
    if begins_word b then word text after_number
    else (if is_ascii_digit b then (kind.Number, number_length text)
    else (if b == 39 then quoted text
    else sign text))

abbrev pub token_at : ℕ → TokenKind × ℕ → Token
token_at start first = record { kind = first.0; start = start; end = start + first.1 }

-- The tokens from a place on. The next `inside` bytes belong to the token before; a number stands right before or doesn't.
abbrev pub tokens_from : Bool → ℕ → ℕ → List ℕ → List Token
tokens_from after_number inside at [] = record { kind = kind.End; start = at; end = at } ∷ []
tokens_from after_number (suc inside) at (b ∷ text) = tokens_from after_number inside (at + 1) text
tokens_from after_number zero at (b ∷ text) =
    if is_blank b then tokens_from false 0 (at + 1) text
    else (let first = first_token (b ∷ text) after_number in
    token_at at first ∷ tokens_from (same_kind first.0 kind.Number) (first.1 - 1) (at + 1) text)

-- the tokens of a text in small letters, and its end
unfoldable pub tokens : List ℕ → List Token
tokens = tokens_from false 0 0
