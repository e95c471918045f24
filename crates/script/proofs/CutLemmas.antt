-- A text's lines, counted and cut off one by one.
use Rattle.std.proofs.Common.{◌≡◌, ℕ, ◌+◌, ◌<◌, ◌==◌, ◌∙◌, List, [], ◌∷◌, ◌++◌, length, Some, None, sym, ap, refl, append_assoc, arith}
use Rattle.std.specs.List.{flat_map, slice_split}
use Rattle.std.proofs.lemmas.Grind.{common_steps}
use Rattle.std.proofs.lemmas.List.{append-nil}
use Rattle.script.specs.Commands.{cut}
use Rattle.script.proofs.LineLemmas.{by_cut, ends_line, parts, some_part}
use Rattle.script.specs.Transcribing.{ended, lines}

-- after a line that is cut off there is one line less
pub counted : (text line more : List ℕ) → Some (line, more) ≡ cut 10 text → length (slice_split (λ b. b == 10) text) ≡ 1 + length (slice_split (λ b. b == 10) more)
counted text line more e =
    let whole : length (slice_split (λ b. b == 10) text) ≡ length (line ∷ slice_split (λ b. b == 10) more) = ap length (parts text ∙ ap (by_cut text) (sym e)) in
    grind (arith, common_steps)

-- a line that is cut off, and those after it
pub first_line : (text line more : List ℕ) → Some (line, more) ≡ cut 10 text → lines text ≡ line ∷ lines more
first_line text line more e = ap ended (parts text ∙ ap (by_cut text) (sym e)) ∙ by_more (slice_split ends_line more) (some_part more)
  where
    by_more : (ls : List (List ℕ)) → 0 < length ls → ended (line ∷ ls) ≡ line ∷ ended ls
    by_more [] below = absurd (omega (arith, below))
    by_more (l ∷ ls) below = refl

-- where none can be cut off there is none
pub no_line : (text : List ℕ) → None ≡ cut 10 text → lines text ≡ []
no_line text e = ap ended (parts text ∙ ap (by_cut text) (sym e))

-- what is written of the lines left stands after what is written of those before them
pub told_more : (told : List ℕ → List ℕ) (text line more old new all : List ℕ) → Some (line, more) ≡ cut 10 text → new ≡ old ++ told line → old ++ flat_map told (lines text) ≡ all → new ++ flat_map told (lines more) ≡ all
told_more told text line more old new all e is so =
    ap (λ t. t ++ flat_map told (lines more)) is ∙ append_assoc old (told line) (flat_map told (lines more)) ∙ sym (ap (λ ls. old ++ flat_map told ls) (first_line text line more e)) ∙ so

-- nothing is left to be written
pub told_all : (told : List ℕ → List ℕ) (text old all : List ℕ) → None ≡ cut 10 text → old ++ flat_map told (lines text) ≡ all → old ≡ all
told_all told text old all e so = sym (append-nil old) ∙ sym (ap (λ ls. old ++ flat_map told ls) (no_line text e)) ∙ so

-- one more line
pub line_more : (text line more : List ℕ) (old new all : List (List ℕ)) → Some (line, more) ≡ cut 10 text → new ≡ old ++ line ∷ [] → old ++ lines text ≡ all → new ++ lines more ≡ all
line_more text line more old new all e is so = ap (λ ls. ls ++ lines more) is ∙ append_assoc old (line ∷ []) (lines more) ∙ sym (ap (λ ls. old ++ ls) (first_line text line more e)) ∙ so

-- no line is left
pub lines_all : (text : List ℕ) (old all : List (List ℕ)) → None ≡ cut 10 text → old ++ lines text ≡ all → old ≡ all
lines_all text old all e so = sym (append-nil old) ∙ sym (ap (λ ls. old ++ ls) (no_line text e)) ∙ so
