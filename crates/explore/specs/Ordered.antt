-- The script of one schedule.
use Rattle.std.specs.Prelude.{◌≡◌, ℕ, ◌==◌, Option, Some, List, [], ◌∷◌, ◌++◌, codes, length, map, slice_get, take}
use Rattle.std.specs.List.{filter, flat_map}
use Rattle.script.specs.Transcribing.{line_at, lines}
use Rattle.explore.specs.declared.setup.Turn.{Turn}

-- the numbers of a session's lines, in its order
abbrev pub own_numbers : ℕ → List Turn → List ℕ
own_numbers s turns = map (λ t. t.number) (filter (λ t. t.session == s) turns)

-- how often a session has gone
abbrev pub times : ℕ → List ℕ → ℕ
times s order = length (filter (λ x. x == s) order)

-- The numbers of the lines that sessions do which go in an order, after these have gone: at each turn the session's next line, which follows as many of its own as it has done.
abbrev pub numbers_from : List Turn → List ℕ → List ℕ → List (Option ℕ)
numbers_from turns before [] = []
numbers_from turns before (s ∷ order) = slice_get (own_numbers s turns) (times s before) ∷ numbers_from turns (before ++ s ∷ []) order

-- lines, each with its newline
abbrev pub text_of : List (List ℕ) → List ℕ
text_of ls = flat_map (λ l. l ++ codes "\n") ls

-- The text is that of the schedule in which sessions go in this order, each as often as it has lines: the script's lines up to its setup's last, and then at each turn the session's next line.
abbrev pub IsOrdered : List ℕ → ℕ → List Turn → List ℕ → List ℕ → Type 0
IsOrdered script last turns order text = (numbers : List ℕ) × (length order ≡ length turns) × (numbers_from turns [] order ≡ map Some numbers) × (text ≡ text_of (take last (lines script)) ++ text_of (map (line_at (lines script)) numbers))
