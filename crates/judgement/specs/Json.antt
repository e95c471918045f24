-- JSON's texts, without blanks. Source: RFC 8259, sections 4 to 7.
use Rattle.std.specs.Prelude.{◌-◌, ◌+◌, ◌==◌, ℕ, nat_lt, if◌then◌else◌, List, [], ◌∷◌, ◌++◌, codes, drop, Option, Some, None}
use Rattle.std.specs.Fmt.{decimal}
use Rattle.std.specs.List.{flat_map}

-- a digit of sixteen
abbrev pub hex_digit : ℕ → ℕ
hex_digit n = if nat_lt n 10 then n + 48 else n + 87

-- a control character: its number, below 32
abbrev pub control : ℕ → List ℕ
control b = if nat_lt b 16 then codes "\\u000" ++ hex_digit b ∷ [] else codes "\\u001" ++ hex_digit (b - 16) ∷ []

-- a byte as it stands in a string: a quotation mark, a backslash and control characters are escaped
abbrev pub escaped : ℕ → List ℕ
escaped b = if b == 34 then codes "\\\"" else if b == 92 then codes "\\\\" else if nat_lt b 32 then control b else b ∷ []

unfoldable pub string : List ℕ → List ℕ
string bytes = codes "\"" ++ (flat_map escaped bytes ++ codes "\"")

-- An array: what `each` says is an element behind a comma, and the first comma is left out.
unfoldable pub array : List ℕ → List ℕ
array each = codes "[" ++ (drop 1 each ++ codes "]")

abbrev pub after_comma : List ℕ → List ℕ
after_comma text = codes "," ++ text

-- members of an object that come after another; `before` is the comma, the name and the colon
unfoldable pub number_member : List ℕ → ℕ → List ℕ
number_member before n = before ++ decimal n

unfoldable pub string_member : List ℕ → List ℕ → List ℕ
string_member before bytes = before ++ string bytes

-- nothing stands where there is no number
unfoldable pub number_if : List ℕ → Option ℕ → List ℕ
number_if before None = []
number_if before (Some n) = number_member before n
