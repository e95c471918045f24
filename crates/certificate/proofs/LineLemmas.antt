-- The lines of a text, read one by one; and columns of tables that aren't there.
use Rattle.std.proofs.Common.{◌≡◌, ◌⊎◌, inl, inr, subst, ℕ, zero, suc, ◌+◌, ◌<◌, ◌==◌, nat_lt, Bool, true, false, true≢false, not, cond, List, [], ◌∷◌, ◌++◌, length, Option, Some, None, Result, Ok, Err, if◌then◌else◌, refl, sym, ap, ◌∙◌, append_assoc, get_or, take, arith}
use Rattle.std.specs.Prelude.{IsTrue, ◌↔◌, codes}
use Rattle.std.specs.List.{slice_split, position_or_len, before_first, after_first}
use Rattle.std.specs.Str.{IsUtf8, is_utf8}
use Rattle.std.proofs.lemmas.Bool.{ltb-true, false_from_ne_true}
use Rattle.std.proofs.lemmas.Bool.Decides.{nat_tests}
use Rattle.std.proofs.lemmas.Grind.{common_steps}
use Rattle.std.proofs.lemmas.List.{append-nil, flat_map_more, take_more}
use Rattle.std.proofs.lemmas.List.Splits.{slice_split_first, slice_split_none, length-slice_split}
use Rattle.std.proofs.lemmas.List.Sums.{prefix_len_passes}
use Rattle.std.proofs.lemmas.Str.{IsUtf8-from_is_utf8}
use Rattle.schema.specs.Definition.{Catalog, columns_of}
use Rattle.value.specs.declared.refusal.Code.{Code}
use Rattle.value.specs.declared.refusal.Refusal.{Refusal}
use Rattle.value.specs.declared.value.Value.{Value}
use Rattle.value.specs.Refusals.{out_of_memory, pointing_nowhere}
use Rattle.certificate.specs.declared.certificate.Line.{Line}
use Rattle.certificate.specs.declared.written.error.LineError.{LineError}
use Rattle.certificate.specs.declared.written.error.LineError.TheVariants.{Memory, Malformed}
use Rattle.certificate.specs.Outcomes.{Lacks, Fails, error_of, read_error}
use Rattle.certificate.specs.Names.{Naming}
use Rattle.certificate.specs.Reading.{line_of, lines_from, onto, stated}
use Rattle.certificate.specs.Words.{cut}
use Rattle.certificate.specs.Writing.{line_text, lines_text}

-- ---- tables and texts

no_columns : (c : Catalog) (t : ℕ) → (t < length c → ⊥) → [] ≡ columns_of c t
no_columns [] t none = refl
no_columns (d ∷ ds) zero none = absurd (none (omega arith))
no_columns (d ∷ ds) (suc t) none = no_columns ds t (λ lt. none (omega arith))

-- a table that isn't there has no columns
pub columns_none : (c : Catalog) (t : ℕ) (has : Bool) → has ≡ false → (IsTrue has ↔ (t < length c)) → [] ≡ columns_of c t
columns_none c t has none says = no_columns c t (λ lt. true≢false (sym (says.1 lt) ∙ none))

pub is_utf8-not : (bytes : List ℕ) → ¬ (IsUtf8 bytes) → false ≡ is_utf8 bytes
is_utf8-not bytes other = sym (false_from_ne_true (is_utf8 bytes) (λ h. other (IsUtf8-from_is_utf8 bytes h)))

-- nothing was read, for whatever reason
lacks_none : (Y : Type 0) (e : LineError) → Lacks {Y = Y} e None
lacks_none Y Memory = tt
lacks_none Y Malformed = refl

-- what isn't read as values is no key with a state, or memory ran out
pub not_stated : {A : Type 0} (r : Result (List (Value A)) Code) (e : Refusal) → (e ≡ out_of_memory) ⊎ (pointing_nowhere r ≡ Err e) → Lacks (error_of e.code) (stated r)
not_stated {A} (Ok vs) e (inl m) = subst (λ (x : Refusal). Lacks (error_of x.code) (stated (Ok vs))) (sym m) tt
not_stated {A} (Ok vs) e (inr w) = absurd cc
not_stated {A} (Err code) e said = lacks_none (Value A × Option (Value A)) (error_of e.code)

-- ---- what is written of lines

-- one more line
pub more_lines : {A : Type 0} (n : Naming) (old : List ℕ) (xs : List (Line A)) (i : ℕ) (x : Line A) → i < length xs → x ≡ get_or xs i x
    → (old ++ lines_text n (take i xs)) ++ (line_text n x ++ codes "\n") ≡ old ++ lines_text n (take (i + 1) xs)
more_lines {A} n old xs i x lt at =
    flat_map_more (λ (l : Line A). line_text n l ++ codes "\n") old (take i xs) x
    ∙ ap (λ (ys : List (Line A)). old ++ lines_text n ys) (ap (λ (z : Line A). take i xs ++ z ∷ []) at ∙ sym (take_more xs i x lt))

-- ---- the lines of a text, cut off one by one

abbrev pub ends_line : ℕ → Bool
ends_line b = b == 10

-- the lines of a text, once a line was sought in it
abbrev by_cut : List ℕ → Option (List ℕ × List ℕ) → List (List ℕ)
by_cut text None = text ∷ []
by_cut text (Some p) = p.0 ∷ slice_split ends_line p.1

-- a text's lines are the one that is cut off and those behind it, or all of it
parts : (text : List ℕ) → slice_split ends_line text ≡ by_cut text (cut 10 text)
parts text = by_test (nat_lt (position_or_len ends_line text) (length text)) refl
  where
    by_test : (b : Bool) → nat_lt (position_or_len ends_line text) (length text) ≡ b
        → slice_split ends_line text ≡ by_cut text (if◌then◌else◌ {A = Option (List ℕ × List ℕ)} b (Some (before_first ends_line text, after_first ends_line text)) None)
    by_test true h = slice_split_first ends_line text 0 (ltb-true _ _ h)
    by_test false h =
        slice_split_none ends_line text (λ k d l. let passes = prefix_len_passes (λ x. not (ends_line x)) text k d (grind (arith, nat_tests, common_steps)) in grind (arith, common_steps))

-- behind a line that is cut off a line comes
some_part : (text : List ℕ) → 0 < length (slice_split ends_line text)
some_part text = let counted = length-slice_split ends_line text in grind (arith, common_steps)

module _ {A : Type 0} (n : Naming) where
  -- lines in front of those that are read, or the first that is none
  abbrev pub in_front : List (Line A) → Result (List (Line A)) ℕ → Result (List (Line A)) ℕ
  in_front done (Ok ls) = Ok (done ++ ls)
  in_front done (Err k) = Err k

  -- the lines that were read, and those of what is left
  abbrev pub behind_read : List (Line A) → ℕ → List ℕ → Result (List (Line A)) ℕ
  behind_read done k rest = in_front done (lines_from n k (slice_split ends_line rest))

  one_part : (k : ℕ) (line : List ℕ) (ls : List (List ℕ)) → 0 < length ls → lines_from {A = A} n k (line ∷ ls) ≡ onto k (line_of n line) (lines_from n (k + 1) ls)
  unfolding lines_from
  one_part k line [] below = absurd (omega (arith, below))
  one_part k line (l ∷ ls) below = refl

  one_line : (k : ℕ) (line more : List ℕ) → lines_from {A = A} n k (line ∷ slice_split ends_line more) ≡ onto k (line_of n line) (lines_from n (k + 1) (slice_split ends_line more))
  one_line k line more = one_part k line (slice_split ends_line more) (some_part more)

  first_line : (k : ℕ) (rest line more : List ℕ) → Some (line, more) ≡ cut 10 rest → lines_from {A = A} n k (slice_split ends_line rest) ≡ onto k (line_of n line) (lines_from n (k + 1) (slice_split ends_line more))
  first_line k rest line more e = ap (lines_from n k) (parts rest ∙ ap (by_cut rest) (sym e)) ∙ one_line k line more

  last_line : (k : ℕ) (rest : List ℕ) → None ≡ cut 10 rest → lines_from {A = A} n k (slice_split ends_line rest) ≡ cond (length rest == 0) (Ok []) (Err k)
  unfolding lines_from
  last_line k rest e = ap (lines_from n k) (parts rest ∙ ap (by_cut rest) (sym e))

  front_onto : (done : List (Line A)) (k : ℕ) (l : Line A) (r : Result (List (Line A)) ℕ) → in_front done (onto k (Some l) r) ≡ in_front (done ++ l ∷ []) r
  front_onto done k l (Ok ls) = ap Ok (sym (append_assoc done (l ∷ []) ls))
  front_onto done k l (Err j) = refl

  -- nothing is read yet
  pub nothing_read : (k : ℕ) (text : List ℕ) → lines_from {A = A} n k (slice_split ends_line text) ≡ behind_read [] k text
  nothing_read k text = alike (lines_from n k (slice_split ends_line text))
    where
      alike : (r : Result (List (Line A)) ℕ) → r ≡ in_front [] r
      alike (Ok ls) = refl
      alike (Err j) = refl

  -- one more line is read
  pub read_more : (done : List (Line A)) (k next : ℕ) (rest line more : List ℕ) (l : Line A) → Some (line, more) ≡ cut 10 rest → line_of n line ≡ Some l → next ≡ k + 1
      → behind_read done k rest ≡ behind_read (done ++ l ∷ []) next more
  read_more done k next rest line more l e found counts =
      ap (in_front done) (first_line k rest line more e ∙ ap (λ o. onto k o (lines_from n (k + 1) (slice_split ends_line more))) found)
      ∙ front_onto done k l (lines_from n (k + 1) (slice_split ends_line more))
      ∙ ap (λ j. behind_read (done ++ l ∷ []) j more) (sym counts)

  -- the next line is none
  pub read_wrong : (done : List (Line A)) (k : ℕ) (rest line more : List ℕ) → Some (line, more) ≡ cut 10 rest → line_of {A = A} n line ≡ None → behind_read done k rest ≡ Err k
  read_wrong done k rest line more e wrong = ap (in_front done) (first_line k rest line more e ∙ ap (λ o. onto k o (lines_from n (k + 1) (slice_split ends_line more))) wrong)

  -- a line isn't read: the first that is none, unless memory ran out
  pub fails_by : (e : LineError) (k : ℕ) (o : Option (Line A)) (whole : Result (List (Line A)) ℕ) → Lacks e o → (o ≡ None → whole ≡ Err k) → Fails (read_error k e) whole
  fails_by Memory k o whole lacks so = tt
  fails_by Malformed k o whole lacks so = so lacks

  -- nothing is left
  pub read_all : (done : List (Line A)) (k : ℕ) (rest : List ℕ) → None ≡ cut 10 rest → (length rest == 0) ≡ true → behind_read done k rest ≡ Ok done
  read_all done k rest e empty = ap (in_front done) (last_line k rest e ∙ ap (λ b. cond b (Ok []) (Err k)) empty) ∙ ap Ok (append-nil done)

  -- what is left isn't ended
  pub read_unended : (done : List (Line A)) (k : ℕ) (rest : List ℕ) → None ≡ cut 10 rest → (length rest == 0) ≡ false → behind_read done k rest ≡ Err k
  read_unended done k rest e some = ap (in_front done) (last_line k rest e ∙ ap (λ b. cond b (Ok []) (Err k)) some)
