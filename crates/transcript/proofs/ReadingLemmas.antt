-- A transcript with its first line cut off.
use Rattle.std.proofs.Common.{◌≡◌, ℕ, ◌+◌, ◌<◌, ◌==◌, List, [], ◌∷◌, length, Option, Some, None, Result, Ok, Err, if◌then◌else◌, ◌⊎◌, true, false, inl, inr, ap, refl, sym, ◌∙◌, arith}
use Rattle.std.specs.List.{slice_split}
use Rattle.std.specs.Option.{option_map_or}
use Rattle.script.specs.Commands.{cut}
use Rattle.script.proofs.LineLemmas.{by_cut, ends_line, parts, some_part}
use Rattle.transcript.specs.Lines.{read_from}
use Rattle.transcript.specs.Outcomes.{Lacks, reason_of}
use Rattle.transcript.specs.declared.fault.LineError.{LineError}
use Rattle.transcript.specs.declared.fault.LineError.TheVariants.{Memory, Faulty}
use Rattle.transcript.specs.declared.fault.Reason.{Reason}
use Rattle.transcript.specs.declared.fault.Reason.TheVariants as reason

module _ {S : Type 0} (step : S → ℕ → List ℕ → Option S) where
  -- what the lines after the first say, where that one may come
  abbrev pub others : ℕ → List (List ℕ) → Option S → Result (S × ℕ) ℕ
  others n more read = option_map_or (λ t. read_from step t (n + 1) more) read (Err n)

  read_cut : (s : S) (n : ℕ) (text line more : List ℕ) → Some (line, more) ≡ cut 10 text → read_from step s n (slice_split ends_line text) ≡ others n (slice_split ends_line more) (step s n line)
  read_cut s n text line more e = ap (read_from step s n) (parts text ∙ ap (by_cut text) (sym e)) ∙ by_more (slice_split ends_line more) (some_part more)
    where
      by_more : (ls : List (List ℕ)) → 0 < length ls → read_from step s n (line ∷ ls) ≡ others n ls (step s n line)
      by_more [] below = absurd (omega (arith, below))
      by_more (l ∷ ls) below = refl

  -- the last line is nothing, or it is faulty
  read_whole : (s : S) (n : ℕ) (text : List ℕ) → None ≡ cut 10 text → read_from step s n (slice_split ends_line text) ≡ (if length text == 0 then Ok (s, n) else Err n)
  read_whole s n text e = ap (read_from step s n) (parts text ∙ ap (by_cut text) (sym e))

  pub unended : (s : S) (n : ℕ) (text : List ℕ) → None ≡ cut 10 text → (length text == 0) ≡ false → read_from step s n (slice_split ends_line text) ≡ Err n
  unended s n text e some = read_whole s n text e ∙ rw some refl

  pub ended : (s : S) (n : ℕ) (text : List ℕ) → None ≡ cut 10 text → (length text == 0) ≡ true → read_from step s n (slice_split ends_line text) ≡ Ok (s, n)
  ended s n text e none = read_whole s n text e ∙ rw none refl

  -- a line that may come
  pub goes_on : (s t : S) (n : ℕ) (text line more : List ℕ) → Some (line, more) ≡ cut 10 text → step s n line ≡ Some t
      → read_from step s n (slice_split ends_line text) ≡ read_from step t (n + 1) (slice_split ends_line more)
  goes_on s t n text line more e may = read_cut s n text line more e ∙ ap (others n (slice_split ends_line more)) may

  -- a line that may not come, or memory ran out
  pub is_faulty : (s : S) (n : ℕ) (text line more : List ℕ) (error : LineError) → Some (line, more) ≡ cut 10 text → Lacks error (step s n line)
      → (reason_of error ≡ reason.Memory) ⊎ (read_from step s n (slice_split ends_line text) ≡ Err n)
  is_faulty s n text line more Memory e lacks = inl refl
  is_faulty s n text line more (Faulty r) e lacks = inr (read_cut s n text line more e ∙ ap (others n (slice_split ends_line more)) lacks)

module _ {Y : Type 0} (all here : Result Y ℕ) (n line : ℕ) (same : here ≡ all) (is : line ≡ n) where
  -- a fault here is one of the whole text, in the line that it names
  pub names_it : here ≡ Err n → all ≡ Err line
  names_it e = rw is (sym same ∙ e)

  -- a line is refused as the definition says, or memory ran out
  pub names_or_lacks : (error : LineError) (why : Reason) → (reason_of error ≡ reason.Memory → why ≡ reason.Memory) → (reason_of error ≡ reason.Memory) ⊎ (here ≡ Err n) → (why ≡ reason.Memory) ⊎ (all ≡ Err line)
  names_or_lacks error why given (inl m) = inl (given m)
  names_or_lacks error why given (inr e) = inr (names_it e)
