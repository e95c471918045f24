-- The tokens of a text, given without reading it: a text is its tokens' spellings with blanks between, each the longest that fits.
-- Source: PostgreSQL manual, SQL syntax, lexical structure; the signs, the reserved words and the limit of names are ours.
use Rattle.std.specs.Prelude.{◌≡◌, ◌≢◌, ◌≤◌, ◌⊎◌, ℕ, ◌+◌, Bool, true, false, if◌then◌else◌, ◌==◌, List, [], ◌∷◌, ◌++◌, length, codes, Contains}
use Rattle.std.specs.List.{list_all}
use Rattle.std.specs.Char.{is_ascii_digit}
use Rattle.sqltext.specs.declared.token.TokenKind.{TokenKind}
use Rattle.sqltext.specs.declared.token.TokenKind.TheVariants as kind
use Rattle.sqltext.specs.declared.token.Token.{Token}
use Rattle.sqltext.specs.Tokens.{same_kind, is_blank, begins_word, continues_word, word_kind}

-- ---- what spells a token

-- a small letter or `_`, and after it small letters, `_` and digits
abbrev pub IsWord : List ℕ → Type 0
IsWord [] = ⊥
IsWord (b ∷ bytes) = (begins_word b ≡ true) × (list_all continues_word bytes ≡ true)

-- digits, one at least
abbrev pub IsNumber : List ℕ → Type 0
IsNumber [] = ⊥
IsNumber (b ∷ bytes) = list_all is_ascii_digit (b ∷ bytes) ≡ true

-- a text with each of its quotes written twice
abbrev pub doubled : List ℕ → List ℕ
doubled [] = []
doubled (b ∷ text) = if b == 39 then 39 ∷ 39 ∷ doubled text else b ∷ doubled text

-- any text so written, between quotes
abbrev pub IsQuoted : List ℕ → Type 0
IsQuoted bytes = (text : List ℕ) × (bytes ≡ 39 ∷ doubled text ++ 39 ∷ [])

-- the signs, and the kind of each
abbrev pub signs : List (List ℕ × TokenKind)
signs =
    (codes "(", kind.Open) ∷ (codes ")", kind.Close) ∷ (codes ",", kind.Comma) ∷ (codes ";", kind.Semicolon) ∷ (codes "*", kind.Star)
    ∷ (codes "=", kind.Equal) ∷ (codes "<>", kind.NotEqual) ∷ (codes "<", kind.Less) ∷ (codes "<=", kind.LessOrEqual) ∷ (codes ">", kind.Greater)
    ∷ (codes ">=", kind.GreaterOrEqual) ∷ (codes "+", kind.Plus) ∷ (codes "-", kind.Minus) ∷ []

-- the kind of a word; right after a number it is none
abbrev pub kind_of_word : Bool → List ℕ → TokenKind
kind_of_word after_number word = if after_number then kind.Unknown else word_kind word

-- bytes that spell a token of a kind, where others follow: a quote that another follows doesn't end a quoted text
abbrev pub IsSpelling : Bool → TokenKind → List ℕ → List ℕ → Type 0
IsSpelling after_number k bytes rest =
    (IsWord bytes × (k ≡ kind_of_word after_number bytes)) ⊎ (IsNumber bytes × (k ≡ kind.Number))
    ⊎ (IsQuoted bytes × ((more : List ℕ) → rest ≢ 39 ∷ more) × (k ≡ kind.Quoted)) ⊎ Contains signs (bytes, k)

-- ---- the first token of a text

-- no more bytes of the text spell a token
abbrev pub IsLongest : Bool → List ℕ → List ℕ → Type 0
IsLongest after_number bytes rest = (k : TokenKind) (other left : List ℕ) → bytes ++ rest ≡ other ++ left → IsSpelling after_number k other left → length other ≤ length bytes

-- one byte that is no blank, with which no spelling begins
abbrev pub IsStray : Bool → List ℕ → List ℕ → Type 0
IsStray after_number bytes rest = (b : ℕ) × (bytes ≡ b ∷ []) × (is_blank b ≡ false)
    × ((k : TokenKind) (other left : List ℕ) → bytes ++ rest ≡ other ++ left → IsSpelling after_number k other left → ⊥)

-- the longest spelling, or a byte of no kind
abbrev pub IsFirst : Bool → TokenKind → List ℕ → List ℕ → Type 0
IsFirst after_number k bytes rest = (IsSpelling after_number k bytes rest × IsLongest after_number bytes rest) ⊎ (IsStray after_number bytes rest × (k ≡ kind.Unknown))

-- ---- the tokens of a text

-- after blanks nothing stands right after a number
abbrev pub right_after : Bool → List ℕ → Bool
right_after after_number [] = after_number
right_after after_number (b ∷ blanks) = false

-- a text from a place on is blanks, the bytes of a token, and the rest
pub record BeginsWith (after_number : Bool) (at : ℕ) (text : List ℕ) (t : Token) (rest : List ℕ) : Type 0 where
  pub blanks : List ℕ
  pub bytes : List ℕ
  pub all : text ≡ blanks ++ (bytes ++ rest)
  pub blank : list_all is_blank blanks ≡ true
  pub first : IsFirst (right_after after_number blanks) t.kind bytes rest
  pub start : t.start ≡ at + length blanks
  pub end : t.end ≡ t.start + length bytes

-- nothing but blanks is left, and the token is the end of the text
pub record IsEnd (at : ℕ) (text : List ℕ) (t : Token) : Type 0 where
  pub blank : list_all is_blank text ≡ true
  pub kind : t.kind ≡ kind.End
  pub start : t.start ≡ at + length text
  pub end : t.end ≡ t.start

-- The tokens of a text from a place on, up to its end. A number stands right before or doesn't.
abbrev pub AreSpelled : Bool → ℕ → List ℕ → List Token → Type 0
AreSpelled after_number at text [] = ⊥
AreSpelled after_number at text (t ∷ ts) = (IsEnd at text t × (ts ≡ []))
    ⊎ ((rest : List ℕ) × BeginsWith after_number at text t rest × AreSpelled (same_kind t.kind kind.Number) t.end rest ts)
