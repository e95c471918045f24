-- The application's places that a transcript's comments tell (this project's own format).
use Rattle.std.specs.Prelude.{ℕ, ◌+◌, ◌==◌, nat_lt, Bool, true, false, ◌&&◌, if◌then◌else◌, Option, None, Some, List, [], ◌∷◌, ◌++◌, length, take, drop, codes}
use Rattle.std.specs.Char.{is_ascii_digit}
use Rattle.std.specs.List.{cons_option, fold, slice_split}
use Rattle.std.specs.Option.{option_map, option_map_or}
use Rattle.std.specs.Str.{bytes_eq}
use Rattle.script.specs.Commands.{cut}
use Rattle.script.specs.Scripts.{is_end}
use Rattle.transcript.specs.declared.places.Reach.{Reach}
use Rattle.transcript.specs.declared.places.Reach.TheVariants as reach

-- ---- a file, a colon and a line's digits

abbrev pub after_colon : Reach → Reach
after_colon reach.Start = reach.File
after_colon _ = reach.Colon

abbrev pub after_digit : Reach → Reach
after_digit reach.Colon = reach.Line
after_digit reach.Line = reach.Line
after_digit _ = reach.File

-- how far a text is read with one more byte
abbrev pub after : Reach → ℕ → Reach
after r b = if b == 58 then after_colon r else if is_ascii_digit b then after_digit r else reach.File

abbrev pub is_line : Reach → Bool
is_line reach.Line = true
is_line _ = false

abbrev pub is_file_and_line : List ℕ → Bool
is_file_and_line text = is_line (fold after reach.Start text)

-- ---- a comment

-- a function or a name, a blank, a file, a colon and a line
abbrev pub is_place : List ℕ → Bool
is_place text = option_map_or (λ p. nat_lt 0 (length p.0) && is_file_and_line p.1) (cut 32 text) false

-- what follows `-- at `, where that is a place
abbrev pub told : List ℕ → Option (List ℕ)
told line = if bytes_eq (take 6 line) (codes "-- at ") && is_place (drop 6 line) then Some (drop 6 line) else None

-- ---- all lines

-- The place of the comment before the next line, and the places of commands, each with the number of the command's line.
pub record Marked : Type 0 where
  pub awaited : Option (List ℕ)
  pub places : List (ℕ × List ℕ)

abbrev pub start : Marked
start = record { awaited = None; places = [] }

-- the command in line n has the place of the comment before it
abbrev pub given : Marked → ℕ → Marked
given m n = record { awaited = None; places = m.places ++ cons_option (option_map (λ words. (n, words)) m.awaited) [] }

abbrev pub with_line : Marked → ℕ → List ℕ → Marked
with_line m n line = if bytes_eq (take 2 line) (codes "> ") then given m n else record m { awaited = told line }

-- with the lines from the n-th on, but what follows the last newline
abbrev pub with_lines : Marked → ℕ → List (List ℕ) → Marked
with_lines m n [] = m
with_lines m n (line ∷ more) = if is_end more then m else with_lines (with_line m n line) (n + 1) more

-- the places that a text's comments tell
abbrev pub places : List ℕ → List (ℕ × List ℕ)
places text = (with_lines start 1 (slice_split (λ b. b == 10) text)).places
