-- A script's run as a transcript (this project's own format).
use Rattle.std.specs.Prelude.{ℕ, ◌-◌, ◌==◌, Bool, not, ◌||◌, if◌then◌else◌, List, [], ◌∷◌, ◌++◌, codes, slice_get, slice_index, unwrap_or}
use Rattle.std.specs.Char.{is_ascii_digit}
use Rattle.std.specs.List.{flat_map, slice_split}
use Rattle.std.specs.Str.{bytes_eq}
use Rattle.script.specs.Scripts.{is_end, is_passed_over}

-- of the parts between newlines those that a newline ends: all but the last
abbrev pub ended : List (List ℕ) → List (List ℕ)
ended [] = []
ended (line ∷ more) = if is_end more then [] else line ∷ ended more

-- the lines of a text
abbrev pub lines : List ℕ → List (List ℕ)
lines text = ended (slice_split (λ b. b == 10) text)

-- the line with this number, counted from 1
abbrev pub line_at : List (List ℕ) → ℕ → List ℕ
line_at ls n = unwrap_or (slice_get ls (n - 1)) []

-- a line after a mark
abbrev pub marked : List ℕ → List ℕ → List ℕ
marked mark line = mark ++ (line ++ codes "\n")

-- what was asked
abbrev pub asked : List ℕ → List ℕ
asked = marked (codes "> ")

-- what was answered, each line after two spaces
abbrev pub answered : List ℕ → List ℕ
answered reply = flat_map (marked (codes "  ")) (lines reply)

-- a line of a script asks for something that is done: a session's command, or a checkpoint
abbrev pub is_done : List ℕ → Bool
is_done line = is_ascii_digit (slice_index line 0) || bytes_eq line (codes "CHECKPOINT;")

-- it creates a table, or opens a dump's tables
abbrev pub sets_tables : List ℕ → Bool
sets_tables line = not (is_passed_over line || is_done line)

-- a line that sets tables, as it is asked; of others nothing
abbrev pub table_asked : List ℕ → List ℕ
table_asked line = if sets_tables line then asked line else []

-- the lines of a script that set tables
abbrev pub tables_asked : List ℕ → List ℕ
tables_asked script = flat_map table_asked (lines script)
