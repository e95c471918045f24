-- What may be the name of a table or a column.
-- Source: PostgreSQL manual, SQL syntax, identifiers and key words; the list of reserved words is this project's own.
use Rattle.std.specs.Prelude.{ℕ, ◌==◌, nat_le, Bool, false, not, ◌&&◌, ◌||◌, List, [], ◌∷◌, length, codes}
use Rattle.std.specs.Char.{is_ascii_digit, is_ascii_lowercase}
use Rattle.std.specs.List.{list_any, list_all}
use Rattle.std.specs.Str.{bytes_eq}

-- the words of the language, which name nothing
abbrev pub reserved_words : List (List ℕ)
reserved_words =
    codes "and" ∷ codes "between" ∷ codes "bigint" ∷ codes "bytea" ∷ codes "count" ∷ codes "create" ∷ codes "delete" ∷ codes "from"
    ∷ codes "insert" ∷ codes "into" ∷ codes "is" ∷ codes "key" ∷ codes "not" ∷ codes "null" ∷ codes "primary" ∷ codes "references"
    ∷ codes "select" ∷ codes "set" ∷ codes "table" ∷ codes "text" ∷ codes "update" ∷ codes "values" ∷ codes "where" ∷ []

abbrev pub is_reserved : List ℕ → Bool
is_reserved word = list_any (bytes_eq word) reserved_words

-- a small letter or `_`
abbrev pub begins_name : ℕ → Bool
begins_name b = is_ascii_lowercase b || b == 95

-- a small letter, a digit or `_`
abbrev pub continues_name : ℕ → Bool
continues_name b = begins_name b || is_ascii_digit b

-- a small letter or `_`, and then small letters, digits and `_`
abbrev pub is_small_word : List ℕ → Bool
is_small_word [] = false
is_small_word (b ∷ bs) = begins_name b && list_all continues_name bs

-- a word in small letters, of at most 63 bytes, that isn't reserved
abbrev pub is_name : List ℕ → Bool
is_name word = is_small_word word && nat_le (length word) 63 && not (is_reserved word)
