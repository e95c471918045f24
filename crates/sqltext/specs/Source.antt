-- What stands in a text at a token.
use Rattle.std.specs.Prelude.{ℕ, ◌-◌, Bool, true, false, not, if◌then◌else◌, ◌==◌, List, [], ◌∷◌, length, take, drop}
use Rattle.std.specs.Char.{to_ascii_lowercase}
use Rattle.sqltext.specs.declared.token.Token.{Token}

-- letters in small letters, except those between quotes; a doubled quote ends a quoted text and begins one again
abbrev pub in_small_letters : Bool → List ℕ → List ℕ
in_small_letters is_quoted [] = []
in_small_letters is_quoted (b ∷ text) =
    (if is_quoted then b else to_ascii_lowercase b) ∷ in_small_letters (if b == 39 then not is_quoted else is_quoted) text

-- the bytes of a token
abbrev pub bytes_of : Token → List ℕ → List ℕ
bytes_of t text = take (t.end - t.start) (drop t.start text)

-- one quote for each two
abbrev pub undoubled : Bool → List ℕ → List ℕ
undoubled is_second [] = []
undoubled true (b ∷ text) = undoubled false text
undoubled false (b ∷ text) = b ∷ undoubled (b == 39) text

-- what stands between the first byte and the last
abbrev pub between_ends : List ℕ → List ℕ
between_ends text = take (length text - 2) (drop 1 text)

-- what a quoted text stands for
abbrev pub unquoted : List ℕ → List ℕ
unquoted text = undoubled false (between_ends text)
