-- The interleavings of several sessions' lines.
-- Sources: PostgreSQL's isolation tester (src/test/isolation/README), which runs all of a specification's permutations; Knuth, The Art of Computer Programming, volume 4A, section 7.2.1.2, for the permutations of a multiset and their lexicographic order.
use Rattle.std.specs.Prelude.{◌≡◌, ℕ, zero, suc, ◌+◌, ◌-◌, ◌==◌, if◌then◌else◌, List, [], ◌∷◌, ◌++◌, length, map, sum, slice_index, slice_set}

-- how often a session goes in an order
abbrev pub turns : ℕ → List ℕ → ℕ
turns s [] = 0
turns s (x ∷ xs) = (if x == s then 1 else 0) + turns s xs

-- Sessions stand for their places, counted from 0, and `lines` says how many lines each has. An interleaving is an order in which each session goes as often as it has lines: it takes its lines in their order.
abbrev pub IsInterleaving : List ℕ → List ℕ → Type 0
IsInterleaving lines order = (s : ℕ) → turns s order ≡ slice_index lines s

-- what is left where session s has gone once
abbrev pub without : List ℕ → ℕ → List ℕ
without lines s = slice_set lines s (slice_index lines s - 1)

-- those in which session s goes first, where the others are known by what is left
abbrev pub led_by : (List ℕ → List (List ℕ)) → List ℕ → ℕ → List (List ℕ)
led_by rest lines s = if slice_index lines s == 0 then [] else map (λ order. s ∷ order) (rest (without lines s))

-- those in which session s goes first, then those in which the next one does, and so on for m sessions
abbrev pub led_from : (List ℕ → List (List ℕ)) → List ℕ → ℕ → ℕ → List (List ℕ)
led_from rest lines s zero = []
led_from rest lines s (suc m) = led_by rest lines s ++ led_from rest lines (suc s) m

-- all of n lines, in lexicographic order
abbrev pub ordered : ℕ → List ℕ → List (List ℕ)
ordered zero lines = [] ∷ []
ordered (suc n) lines = led_from (ordered n) lines 0 (length lines)

-- all interleavings, in lexicographic order
unfoldable pub interleavings : List ℕ → List (List ℕ)
interleavings lines = ordered (sum lines) lines

-- how often an order stands among others
abbrev pub same_order : List ℕ → List ℕ → ℕ
same_order [] [] = 1
same_order [] (y ∷ ys) = 0
same_order (x ∷ xs) [] = 0
same_order (x ∷ xs) (y ∷ ys) = if y == x then same_order xs ys else 0

abbrev pub occurrences : List ℕ → List (List ℕ) → ℕ
occurrences order [] = 0
occurrences order (x ∷ xs) = same_order order x + occurrences order xs
