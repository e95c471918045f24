-- A text's lines, cut off one by one.
use Rattle.std.proofs.Common.{◌≡◌, ℕ, ◌<◌, ◌==◌, Bool, true, false, not, nat_lt, List, [], ◌∷◌, length, Option, Some, None, if◌then◌else◌, refl, arith}
use Rattle.std.specs.List.{slice_split, position_or_len, before_first, after_first}
use Rattle.std.proofs.lemmas.Bool.{ltb-true}
use Rattle.std.proofs.lemmas.Bool.Decides.{nat_tests}
use Rattle.std.proofs.lemmas.Grind.{common_steps}
use Rattle.std.proofs.lemmas.List.Splits.{slice_split_first, slice_split_none, length-slice_split}
use Rattle.std.proofs.lemmas.List.Sums.{prefix_len_passes}
use Rattle.script.specs.Commands.{cut}

abbrev pub ends_line : ℕ → Bool
ends_line b = b == 10

-- the lines of a text, once a line was sought in it
abbrev pub by_cut : List ℕ → Option (List ℕ × List ℕ) → List (List ℕ)
by_cut text None = text ∷ []
by_cut text (Some p) = p.0 ∷ slice_split ends_line p.1

-- a text's lines are the one that is cut off and those after it, or all of it
pub parts : (text : List ℕ) → slice_split ends_line text ≡ by_cut text (cut 10 text)
parts text = by_test (nat_lt (position_or_len ends_line text) (length text)) refl
  where
    by_test : (b : Bool) → nat_lt (position_or_len ends_line text) (length text) ≡ b
        → slice_split ends_line text ≡ by_cut text (if◌then◌else◌ {A = Option (List ℕ × List ℕ)} b (Some (before_first ends_line text, after_first ends_line text)) None)
    by_test true h = slice_split_first ends_line text 0 (ltb-true _ _ h)
    by_test false h =
        slice_split_none ends_line text (λ k d l. let passes = prefix_len_passes (λ x. not (ends_line x)) text k d (grind (arith, nat_tests, common_steps)) in grind (arith, common_steps))

-- after a line that is cut off a line comes
pub some_part : (text : List ℕ) → 0 < length (slice_split ends_line text)
some_part text = let counted = length-slice_split ends_line text in grind (arith, common_steps)
