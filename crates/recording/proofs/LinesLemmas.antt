-- The lines of a text, read one after another.
use Rattle.std.proofs.Common.{◌≡◌, ℕ, ◌+◌, ◌==◌, List, [], ◌∷◌, ◌++◌, map, Option, Some, None, Result, Ok, Err, refl, sym, ap, ◌∙◌, append_assoc}
use Rattle.std.specs.Prelude.{codes}
use Rattle.std.specs.List.{flat_map, slice_split}
use Rattle.std.specs.Option.{option_map_or}
use Rattle.script.specs.Transcribing.{ended, lines, marked}
use Rattle.transcript.specs.Lines.{read_from, read_text}
use Rattle.recording.proofs.TextLemmas.{Lacks, split_at}

-- ---- lines that newlines end

abbrev pub ended_lines : List (List ℕ) → List ℕ
ended_lines [] = []
ended_lines (line ∷ more) = line ++ 10 ∷ ended_lines more

abbrev pub AllLack : List (List ℕ) → Type 0
AllLack [] = Unit {0}
AllLack (line ∷ more) = Lacks 10 line × AllLack more

pub all_lack-append : (ls ms : List (List ℕ)) → AllLack ls → AllLack ms → AllLack (ls ++ ms)
all_lack-append [] ms h k = k
all_lack-append (l ∷ ls) ms h k = (h.0, all_lack-append ls ms h.1 k)

pub ended_append : (ls ms : List (List ℕ)) → ended_lines (ls ++ ms) ≡ ended_lines ls ++ ended_lines ms
ended_append [] ms = refl
ended_append (l ∷ ls) ms =
    ap (λ (t : List ℕ). l ++ 10 ∷ t) (ended_append ls ms) ∙ sym (append_assoc l (10 ∷ ended_lines ls) (ended_lines ms))

pub split_lines : (ls : List (List ℕ)) → AllLack ls → slice_split (λ b. b == 10) (ended_lines ls) ≡ ls ++ [] ∷ []
split_lines [] h = refl
split_lines (l ∷ ls) h = split_at 10 l (ended_lines ls) h.0 ∙ ap (λ (ms : List (List ℕ)). l ∷ ms) (split_lines ls h.1)

all_ended : (ls : List (List ℕ)) → ended (ls ++ [] ∷ []) ≡ ls
all_ended [] = refl
all_ended (l ∷ []) = refl
all_ended (l ∷ m ∷ ls) = ap (λ (ms : List (List ℕ)). l ∷ ms) (all_ended (m ∷ ls))

-- these are the lines
pub lines_ended : (ls : List (List ℕ)) → AllLack ls → lines (ended_lines ls) ≡ ls
lines_ended ls h = ap ended (split_lines ls h) ∙ all_ended ls

-- lines after a mark
pub marked_lines : (mark : List ℕ) (ls : List (List ℕ)) → flat_map (marked mark) ls ≡ ended_lines (map (λ l. mark ++ l) ls)
marked_lines mark [] = refl
marked_lines mark (l ∷ ls) =
    ap (λ (t : List ℕ). (mark ++ (l ++ codes "\n")) ++ t) (marked_lines mark ls)
    ∙ append_assoc mark (l ++ codes "\n") rest
    ∙ ap (λ (t : List ℕ). mark ++ t) (append_assoc l (codes "\n") rest)
    ∙ sym (append_assoc mark l (10 ∷ rest))
  where
    rest : List ℕ
    rest = ended_lines (map (λ m. mark ++ m) ls)

-- ---- what is read of lines

module _ {S : Type 0} (step : S → ℕ → List ℕ → Option S) where
  -- of lines from the n-th on: what is read, and the number of the next; or the number of the first that may not stand where it stands
  abbrev pub whole : S → ℕ → List (List ℕ) → Result (S × ℕ) ℕ
  whole s n [] = Ok (s, n)
  whole s n (line ∷ more) = option_map_or (λ t. whole t (n + 1) more) (step s n line) (Err n)

  more_lines : (s : S) (n : ℕ) (line : List ℕ) (ls : List (List ℕ))
      → read_from step s n (line ∷ (ls ++ [] ∷ [])) ≡ option_map_or (λ t. read_from step t (n + 1) (ls ++ [] ∷ [])) (step s n line) (Err n)
  more_lines s n line [] = refl
  more_lines s n line (m ∷ ls) = refl

  same_from : (n : ℕ) (f g : S → Result (S × ℕ) ℕ) → ((t : S) → f t ≡ g t) → (o : Option S) → option_map_or f o (Err n) ≡ option_map_or g o (Err n)
  same_from n f g same None = refl
  same_from n f g same (Some t) = same t

  read_whole : (s : S) (n : ℕ) (ls : List (List ℕ)) → read_from step s n (ls ++ [] ∷ []) ≡ whole s n ls
  read_whole s n [] = refl
  read_whole s n (line ∷ ls) =
      more_lines s n line ls
      ∙ same_from n (λ t. read_from step t (n + 1) (ls ++ [] ∷ [])) (λ t. whole t (n + 1) ls) (λ t. read_whole t (n + 1) ls) (step s n line)

  -- a text of these lines reads as they do
  pub text_read : (s : S) (ls : List (List ℕ)) → AllLack ls → read_text step s (ended_lines ls) ≡ whole s 1 ls
  text_read s ls h = ap (read_from step s 1) (split_lines ls h) ∙ read_whole s 1 ls

  pub one_read : (s t : S) (n : ℕ) (line : List ℕ) (more : List (List ℕ)) → step s n line ≡ Some t → whole s n (line ∷ more) ≡ whole t (n + 1) more
  one_read s t n line more e = ap (λ o. option_map_or (λ u. whole u (n + 1) more) o (Err n)) e

  pub none_read : (s : S) (n : ℕ) (line : List ℕ) (more : List (List ℕ)) → step s n line ≡ None → whole s n (line ∷ more) ≡ Err n
  none_read s n line more e = ap (λ o. option_map_or (λ u. whole u (n + 1) more) o (Err n)) e

  -- further lines are read from where the first have come to
  pub read_on : (ls ms : List (List ℕ)) (s t : S) (n m : ℕ) → whole s n ls ≡ Ok (t, m) → whole s n (ls ++ ms) ≡ whole t m ms
  read_on [] ms s t n m e =
      let same : (s, n) ≡ (t, m) = cc in
      ap (λ (p : S × ℕ). whole p.0 p.1 ms) same
  read_on (l ∷ ls) ms s t n m e = go (step s n l) (λ u f. read_on ls ms u t (n + 1) m f) e
    where
      go : (o : Option S) → ((u : S) → whole u (n + 1) ls ≡ Ok (t, m) → whole u (n + 1) (ls ++ ms) ≡ whole t m ms)
          → option_map_or (λ u. whole u (n + 1) ls) o (Err n) ≡ Ok (t, m) → option_map_or (λ u. whole u (n + 1) (ls ++ ms)) o (Err n) ≡ whole t m ms
      go None rest f = absurd cc
      go (Some u) rest f = rest u f

  pub read_wrong : (ls ms : List (List ℕ)) (s : S) (n k : ℕ) → whole s n ls ≡ Err k → whole s n (ls ++ ms) ≡ Err k
  read_wrong [] ms s n k e = absurd cc
  read_wrong (l ∷ ls) ms s n k e = go (step s n l) (λ u f. read_wrong ls ms u (n + 1) k f) e
    where
      go : (o : Option S) → ((u : S) → whole u (n + 1) ls ≡ Err k → whole u (n + 1) (ls ++ ms) ≡ Err k)
          → option_map_or (λ u. whole u (n + 1) ls) o (Err n) ≡ Err k → option_map_or (λ u. whole u (n + 1) (ls ++ ms)) o (Err n) ≡ Err k
      go None rest f = f
      go (Some u) rest f = rest u f
