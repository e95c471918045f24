-- The text of a field and of a row, as COPY TO writes it (PostgreSQL's manual, "COPY", "Text Format").
use Rattle.std.specs.Prelude.{ℕ, ◌==◌, if◌then◌else◌, List, [], ◌∷◌, ◌++◌, map, codes, Option, Some, None}
use Rattle.std.specs.Fmt.{signed_decimal}
use Rattle.std.specs.List.{flat_map, join_with_byte}
use Rattle.value.specs.Printed.{bytea_text}
use Rattle.value.specs.declared.value.Value.{Value}
use Rattle.value.specs.declared.value.Value.TheVariants.{Null, Int, Text, Bytes}

-- the bytes that the format knows by name: what parts fields, what ends a row, and what escapes
abbrev pub tab : ℕ
tab = 9

abbrev pub newline : ℕ
newline = 10

abbrev pub carriage_return : ℕ
carriage_return = 13

abbrev pub backslash : ℕ
backslash = 92

-- the letter that is written after a backslash in a byte's place: b, t, n, v, f, r for 8 to 13, and the backslash itself
abbrev pub letter_of : ℕ → Option ℕ
letter_of b =
    if b == 8 then Some 98
    else if b == 9 then Some 116
    else if b == 10 then Some 110
    else if b == 11 then Some 118
    else if b == 12 then Some 102
    else if b == 13 then Some 114
    else if b == 92 then Some 92
    else None

-- a byte by its letter, or as itself
abbrev pub by_letter : ℕ → Option ℕ → List ℕ
by_letter b (Some letter) = backslash ∷ letter ∷ []
by_letter b None = b ∷ []

-- bytes as they are written
abbrev pub escaped : List ℕ → List ℕ
escaped bytes = flat_map (λ b. by_letter b (letter_of b)) bytes

module _ {A : Type 0} where
  -- the text of a field
  abbrev pub field_text : Value A → List ℕ
  field_text Null = codes "\\N"
  field_text (Int n) = signed_decimal n
  field_text (Text t) = escaped t
  field_text (Bytes b) = escaped (bytea_text b)

  -- fields parted by tabs
  abbrev pub line_text : List (Value A) → List ℕ
  line_text values = join_with_byte tab (map field_text values)

  -- a row: its fields and a newline
  abbrev pub row_text : List (Value A) → List ℕ
  row_text values = line_text values ++ newline ∷ []
