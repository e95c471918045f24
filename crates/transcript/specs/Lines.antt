-- The lines of a transcript (this project's own format).
use Rattle.std.specs.Prelude.{ℕ, ◌+◌, ◌≤◌, ◌==◌, ◌||◌, if◌then◌else◌, Option, Some, None, Result, Ok, Err, List, [], ◌∷◌, length, take, drop, codes}
use Rattle.std.specs.List.{slice_split}
use Rattle.std.specs.Option.{option_map_or}
use Rattle.std.specs.Str.{bytes_eq, is_utf8}
use Rattle.script.specs.Scripts.{is_end}
use Rattle.transcript.specs.declared.lines.LineKind.{LineKind}
use Rattle.transcript.specs.declared.lines.LineKind.TheVariants.{Skipped, Command, Reply}

-- what a line is that is text: none where it begins with another mark
abbrev pub kind_of_text : List ℕ → Option LineKind
kind_of_text line =
    if length line == 0 || bytes_eq (take 2 line) (codes "--") || bytes_eq (take 2 line) (codes "= ") then Some Skipped
    else if bytes_eq (take 2 line) (codes "> ") then Some Command
    else if bytes_eq (take 2 line) (codes "  ") then Some Reply
    else None

-- what a line is
abbrev pub kind_of : List ℕ → Option LineKind
kind_of line = if is_utf8 line then kind_of_text line else None

-- what follows its mark
abbrev pub behind_mark : List ℕ → List ℕ
behind_mark line = drop 2 line

-- A line with this number stands in the text, counted from 1; the last is what follows the last newline, mostly nothing.
abbrev pub IsLineOf : List ℕ → ℕ → Type 0
IsLineOf text n = (1 ≤ n) × (n ≤ length (slice_split (λ b. b == 10) text))

-- With the lines from the n-th on, each read by step: what is read, and the number of what follows the last newline, which is nothing; or the number of the first line that may not stand where it stands.
abbrev pub read_from : {S : Type 0} → (S → ℕ → List ℕ → Option S) → S → ℕ → List (List ℕ) → Result (S × ℕ) ℕ
read_from step s n [] = Err n
read_from step s n (line ∷ more) =
    if is_end more then (if length line == 0 then Ok (s, n) else Err n)
    else option_map_or (λ t. read_from step t (n + 1) more) (step s n line) (Err n)

-- the lines of a text
abbrev pub read_text : {S : Type 0} → (S → ℕ → List ℕ → Option S) → S → List ℕ → Result (S × ℕ) ℕ
read_text step s text = read_from step s 1 (slice_split (λ b. b == 10) text)
