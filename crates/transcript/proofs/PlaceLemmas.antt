-- The comments of a text with its first line cut off.
use Rattle.std.proofs.Common.{◌≡◌, ℕ, ◌+◌, ◌<◌, List, [], ◌∷◌, length, Some, None, ap, refl, sym, ◌∙◌, arith}
use Rattle.std.specs.List.{slice_split}
use Rattle.script.specs.Commands.{cut}
use Rattle.script.proofs.LineLemmas.{by_cut, ends_line, parts, some_part}
use Rattle.transcript.specs.Places.{Marked, with_line, with_lines}

pub goes_on : (m : Marked) (n : ℕ) (text line more : List ℕ) → Some (line, more) ≡ cut 10 text → with_lines m n (slice_split ends_line text) ≡ with_lines (with_line m n line) (n + 1) (slice_split ends_line more)
goes_on m n text line more e = ap (with_lines m n) (parts text ∙ ap (by_cut text) (sym e)) ∙ by_more (slice_split ends_line more) (some_part more)
  where
    by_more : (ls : List (List ℕ)) → 0 < length ls → with_lines m n (line ∷ ls) ≡ with_lines (with_line m n line) (n + 1) ls
    by_more [] below = absurd (omega (arith, below))
    by_more (l ∷ ls) below = refl

-- the last line is no comment
pub ends : (m : Marked) (n : ℕ) (text : List ℕ) → None ≡ cut 10 text → with_lines m n (slice_split ends_line text) ≡ m
ends m n text e = ap (with_lines m n) (parts text ∙ ap (by_cut text) (sym e))
