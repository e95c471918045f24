-- How an answer is drawn at a terminal.
use Rattle.std.specs.Prelude.{ℕ, ◌+◌, ◌-◌, ◌/◌, ◌%◌, ◌==◌, ◌||◌, ◌&&◌, not, Bool, List, [], ◌∷◌, ◌++◌, Option, Some, None, length, map, codes, take, drop, nat_lt, if◌then◌else◌}
use Rattle.std.specs.Fmt.{decimal}
use Rattle.std.specs.List.{slice_split}
use Rattle.terminal.specs.Tables.{table_text}
use Rattle.terminal.specs.Typing.{begins}

-- A byte is shown as it is: a newline, a tab, or what doesn't control a terminal.
abbrev pub is_shown : ℕ → Bool
is_shown b = (nat_lt 31 b && not (b == 127)) || b == 9 || b == 10

-- one of sixteen digits
abbrev pub digit_text : ℕ → ℕ
digit_text n = if nat_lt n 10 then 48 + n else 87 + n

-- a byte by its number
abbrev pub numbered : ℕ → List ℕ
numbered b = 92 ∷ 120 ∷ digit_text (b / 16) ∷ digit_text (b % 16) ∷ []

-- a byte as it is shown
abbrev pub shown_byte : ℕ → List ℕ
shown_byte b = if is_shown b then b ∷ [] else numbered b

-- The two bytes of a character from U+0080 to U+009F, which controls a terminal.
abbrev pub is_control : ℕ → ℕ → Bool
is_control b c = b == 194 && nat_lt 127 c && nat_lt c 160

-- The three bytes of a character from U+202A to U+202E or from U+2066 to U+2069, which turns the direction of a text.
abbrev pub turns : ℕ → ℕ → ℕ → Bool
turns b c d = b == 226 && ((c == 128 && nat_lt 169 d && nat_lt d 175) || (c == 129 && nat_lt 165 d && nat_lt d 170))

-- such a character by its number, as psql shows it
abbrev pub turn_head : ℕ → List ℕ
turn_head c = if c == 128 then codes "\\u202" else codes "\\u206"

abbrev pub turn_text : ℕ → ℕ → List ℕ
turn_text c d = turn_head c ++ digit_text (d % 16) ∷ []

-- a text as it is shown: what controls a terminal by its number
abbrev pub shown : List ℕ → List ℕ
shown [] = []
shown (b ∷ []) = shown_byte b
shown (b ∷ c ∷ []) = if is_control b c then numbered c ++ shown [] else shown_byte b ++ shown (c ∷ [])
shown (b ∷ c ∷ d ∷ rest) =
    if is_control b c then numbered c ++ shown (d ∷ rest)
    else if turns b c d then turn_text c d ++ shown rest
    else shown_byte b ++ shown (c ∷ d ∷ rest)

-- the rows of an answer, which are its lines after the first: each without the n bytes before its fields
abbrev pub rows_in : ℕ → List ℕ → List (List ℕ)
rows_in n text =
    let parts = slice_split (λ b. b == 10) text in
    map (λ row. drop n row) (drop 1 (take (length parts - 1) parts))

-- whether session s is answered rows
abbrev pub has_rows : ℕ → List ℕ → Bool
has_rows s answer = begins (codes "SELECT ") (drop (length (decimal s) + 1) answer)

-- the session that asks for rows, and the names of their columns, parted by tabs
pub record Header : Type 0 where
  pub session : ℕ
  pub names : List ℕ

-- an answer as it is drawn: rows as a table, where the names of their columns are known
abbrev pub drawn : Option Header → List ℕ → List ℕ
drawn None answer = shown answer
drawn (Some h) answer = if has_rows h.session answer then table_text h.names (rows_in (length (decimal h.session) + 3) (shown answer)) else shown answer
