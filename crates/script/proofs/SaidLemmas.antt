-- A script with its first line cut off.
use Rattle.std.proofs.Common.{◌≡◌, ℕ, ◌+◌, ◌<◌, ◌==◌, List, [], ◌∷◌, length, Option, Some, None, Result, Ok, Err, if◌then◌else◌, ◌⊎◌, true, false, inl, inr, ap, refl, sym, ◌∙◌, arith}
use Rattle.std.specs.List.{slice_split}
use Rattle.std.specs.Option.{option_map_or}
use Rattle.script.specs.Commands.{cut, Lacks}
use Rattle.script.specs.Scripts.{Said, said_from, with_line, line_of}
use Rattle.script.specs.declared.schedule.Schedule.{Schedule}
use Rattle.script.specs.declared.error.LineError.{LineError}
use Rattle.script.specs.declared.error.LineError.TheVariants.{Memory, Faulty}
use Rattle.script.proofs.LineLemmas.{by_cut, ends_line, parts, some_part}

module _ {A : Type 0} (schedule : Schedule) where
  -- what the lines after the first say, where that one may come
  abbrev pub behind : ℕ → List (List ℕ) → Option (Said A) → Result (Said A) ℕ
  behind n more said = option_map_or (λ t. said_from schedule t (n + 1) more) said (Err n)

  said_cut : (s : Said A) (n : ℕ) (text line more : List ℕ) → Some (line, more) ≡ cut 10 text
      → said_from schedule s n (slice_split ends_line text) ≡ behind n (slice_split ends_line more) (with_line schedule s n line)
  said_cut s n text line more e = ap (said_from schedule s n) (parts text ∙ ap (by_cut text) (sym e)) ∙ by_more (slice_split ends_line more) (some_part more)
    where
      by_more : (ls : List (List ℕ)) → 0 < length ls → said_from schedule s n (line ∷ ls) ≡ behind n ls (with_line schedule s n line)
      by_more [] below = absurd (omega (arith, below))
      by_more (l ∷ ls) below = refl

  -- the last line is nothing, or it is faulty
  pub said_whole : (s : Said A) (n : ℕ) (text : List ℕ) → None ≡ cut 10 text → said_from schedule s n (slice_split ends_line text) ≡ (if length text == 0 then Ok s else Err n)
  said_whole s n text e = ap (said_from schedule s n) (parts text ∙ ap (by_cut text) (sym e))

  pub unended : (s : Said A) (n : ℕ) (text : List ℕ) → None ≡ cut 10 text → (length text == 0) ≡ false → said_from schedule s n (slice_split ends_line text) ≡ Err n
  unended s n text e some = said_whole s n text e ∙ rw some refl

  pub ended : (s : Said A) (n : ℕ) (text : List ℕ) → None ≡ cut 10 text → (length text == 0) ≡ true → said_from schedule s n (slice_split ends_line text) ≡ Ok s
  ended s n text e none = said_whole s n text e ∙ rw none refl

  -- a line that may come
  pub goes_on : (s t : Said A) (n : ℕ) (text line more : List ℕ) → Some (line, more) ≡ cut 10 text → with_line schedule s n line ≡ Some t
      → said_from schedule s n (slice_split ends_line text) ≡ said_from schedule t (n + 1) (slice_split ends_line more)
  goes_on s t n text line more e may = said_cut s n text line more e ∙ ap (behind n (slice_split ends_line more)) may

  -- a line that may not come, or for which there was no memory
  pub is_faulty : (s : Said A) (n : ℕ) (text line more : List ℕ) (error : LineError) → Some (line, more) ≡ cut 10 text → Lacks error (with_line schedule s n line)
      → (line_of error n ≡ 0) ⊎ (said_from schedule s n (slice_split ends_line text) ≡ Err (line_of error n))
  is_faulty s n text line more Memory e lacks = inl refl
  is_faulty s n text line more Faulty e lacks = inr (said_cut s n text line more e ∙ ap (behind n (slice_split ends_line more)) lacks)
