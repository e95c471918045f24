-- A table drawn in aligned columns, as psql draws one (PostgreSQL manual, psql, the format `aligned`; there numbers stand at the right). A row is its fields, parted by tabs.
use Rattle.std.specs.Prelude.{ℕ, ◌-◌, ◌==◌, ◌||◌, Bool, List, [], ◌∷◌, ◌++◌, length, chars, codes, false, max, drop, get_or, replicate, nat_lt, slice_get, suc, zero, Option, Some, None, if◌then◌else◌}
use Rattle.std.specs.Fmt.{decimal}
use Rattle.std.specs.List.{count_by, flat_map, slice_split}
use Rattle.std.specs.Str.{is_utf8}
use Rattle.unicode_width.specs.Width.{str_width}

-- the fields of a row
abbrev pub fields : List ℕ → List (List ℕ)
fields row = slice_split (λ b. b == 9) row

-- a field where there is one, else an empty one
abbrev pub or_empty : Option (List ℕ) → List ℕ
or_empty None = []
or_empty (Some f) = f

-- a row's field of this number, from 0 on; an empty one where there are fewer
abbrev pub field : List ℕ → ℕ → List ℕ
field row j = or_empty (slice_get (fields row) j)

-- A byte of UTF-8 begins a character where it isn't one of 128 to 191.
abbrev pub begins_character : ℕ → Bool
begins_character b = nat_lt b 128 || nat_lt 191 b

-- how many characters bytes have that are no text
abbrev pub characters : List ℕ → ℕ
characters f = count_by begins_character f

-- how many columns of a terminal a field takes: by its characters, of which some take two and some none (Unicode Standard Annex 11)
abbrev pub width : List ℕ → ℕ
width f = if is_utf8 f then str_width false (chars f) else characters f

-- the greatest width of a column in the first n rows
abbrev pub widest : List (List ℕ) → ℕ → ℕ → ℕ
widest rows j zero = 0
widest rows j (suc n) = max (widest rows j n) (width (field (get_or rows n []) j))

-- a column's width: that of its name, or of a wider field
abbrev pub column_width : List ℕ → List (List ℕ) → ℕ → ℕ
column_width names rows j = max (width (field names j)) (widest rows j (length rows))

-- the widths of the first n columns
abbrev pub first_widths : List ℕ → List (List ℕ) → ℕ → List ℕ
first_widths names rows zero = []
first_widths names rows (suc n) = first_widths names rows n ++ column_width names rows n ∷ []

-- the widths of all columns that have a name
abbrev pub widths : List ℕ → List (List ℕ) → List ℕ
widths names rows = first_widths names rows (length (fields names))

-- a field after a bar, with spaces up to its column's width and one on each side
abbrev pub cell : ℕ → List ℕ → List ℕ
cell w f = 124 ∷ 32 ∷ f ++ replicate (w - width f) 32 ++ 32 ∷ []

-- the first n cells of a row
abbrev pub cells : List ℕ → List ℕ → ℕ → List ℕ
cells ws row zero = []
cells ws row (suc n) = cells ws row n ++ cell (get_or ws n 0) (field row n)

-- the line of a row: its cells, with no bar before the first
abbrev pub row_text : List ℕ → List ℕ → List ℕ
row_text ws row = drop 1 (cells ws row (length ws)) ++ codes "\n"

-- the rule below a name, after a crossing
abbrev pub dashes : ℕ → List ℕ
dashes w = 43 ∷ replicate w 45 ++ codes "--"

-- the rule below the first n names
abbrev pub rules : List ℕ → ℕ → List ℕ
rules ws zero = []
rules ws (suc n) = rules ws n ++ dashes (get_or ws n 0)

abbrev pub rule_text : List ℕ → List ℕ
rule_text ws = drop 1 (rules ws (length ws)) ++ codes "\n"

-- how many rows there are, in words
abbrev pub rows_word : ℕ → List ℕ
rows_word n = if n == 1 then codes " row)\n" else codes " rows)\n"

abbrev pub count_text : ℕ → List ℕ
count_text n = codes "(" ++ decimal n ++ rows_word n

-- the names, the rule, the rows, and how many they are
abbrev pub table_text : List ℕ → List (List ℕ) → List ℕ
table_text names rows =
    let ws = widths names rows in
    row_text ws names ++ rule_text ws ++ flat_map (row_text ws) rows ++ count_text (length rows)
