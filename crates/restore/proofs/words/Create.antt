-- The words of a CREATE TABLE line.
use Rattle.std.proofs.Common.{◌≡◌, ℕ, ◌<◌, ◌==◌, Bool, true, false, cond, not, nat_le, ◌&&◌, List, [], ◌∷◌, get_or, length, zero, suc, Option, Some, None, Result, Ok, Err, refl, ap, inl, inr, arith}
use Rattle.std.proofs.lemmas.Bool.{and_parts}
use Rattle.std.specs.Prelude.{codes}
use Rattle.std.specs.List.{list_all}
use Rattle.std.specs.Str.{IsAscii, IsUtf8}
use Rattle.std.proofs.lemmas.Str.{IsUtf8-from_ascii}
use Rattle.std.proofs.lemmas.Bool.Decides.{nat_tests}
use Rattle.value.specs.declared.refusal.Code.{Code}
use Rattle.value.specs.declared.refusal.Code.TheVariants.{OutOfMemory, BadCopyFileFormat}
use Rattle.value.specs.declared.refusal.Refusal.{Refusal}
use Rattle.value.specs.Refusals.{AnswersOrNoMemory, pointing_nowhere, out_of_memory}
use Rattle.schema.specs.Definition.{ColumnDef, TableDef}
use Rattle.schema.specs.Names.{is_name, is_small_word, is_reserved, begins_name, continues_name}
use Rattle.restore.specs.Steps.{◌>>=◌, Fails}
use Rattle.restore.specs.declared.error.LineError.{LineError}
use Rattle.restore.specs.declared.error.LineError.TheVariants as line
use Rattle.restore.specs.CreateLine.{behind, name_of, referenced, well_formed, other_column, other_columns, parts_of}
use Rattle.std.specs.Borrow.{Bor}
use Rattle.std.specs.Option.{option_copied}
use Rattle.restore.proofs.stepwise.Refusals.{failed, same_refusal}

-- ---- names are ASCII

begins_below : (b : ℕ) → begins_name b ≡ true → b < 128
begins_below b h = grind (arith, nat_tests)

continues_below : (b : ℕ) → continues_name b ≡ true → b < 128
continues_below b h = grind (arith, nat_tests)

all_below : (bs : List ℕ) → list_all continues_name bs ≡ true → (i : ℕ) → get_or bs i 0 < 128
all_below [] h i = omega arith
all_below (b ∷ bs) h zero = continues_below b (and_parts (continues_name b) (list_all continues_name bs) h).0
all_below (b ∷ bs) h (suc i) = all_below bs (and_parts (continues_name b) (list_all continues_name bs) h).1 i

pub name-ascii : (word : List ℕ) → is_name word ≡ true → IsAscii word
name-ascii [] h i = omega arith
name-ascii (b ∷ bs) h i = below i
  where
    small : is_small_word (b ∷ bs) ≡ true
    small =
        let most = and_parts (is_small_word (b ∷ bs) && nat_le (length (b ∷ bs)) 63) (not (is_reserved (b ∷ bs))) h in
        (and_parts (is_small_word (b ∷ bs)) (nat_le (length (b ∷ bs)) 63) most.0).0

    below : (k : ℕ) → get_or (b ∷ bs) k 0 < 128
    below zero = begins_below b (and_parts (begins_name b) (list_all continues_name bs) small).0
    below (suc k) = all_below bs (and_parts (begins_name b) (list_all continues_name bs) small).1 k

pub name-utf8 : (word : List ℕ) → is_name word ≡ true → IsUtf8 word
name-utf8 word h = IsUtf8-from_ascii word (name-ascii word h)

-- what isn't UTF-8 is no name
pub not_name : (word : List ℕ) → (IsUtf8 word → ⊥) → name_of word ≡ Err BadCopyFileFormat
not_name word other = go (is_name word) refl
  where
    go : (is : Bool) → is_name word ≡ is → cond is (Ok word) (Err BadCopyFileFormat) ≡ Err BadCopyFileFormat
    go true is = absurd (other (name-utf8 word is))
    go false is = refl

pub other_name : (word text : List ℕ) → text ≡ word → is_name text ≡ false → name_of word ≡ Err BadCopyFileFormat
other_name word text same other = rw (← same, other) refl

-- ---- a definition that is none

pub answered : (answer : Result TableDef Code) (r : Refusal) → AnswersOrNoMemory (failed r) (pointing_nowhere answer) → (r.code ≡ OutOfMemory → ⊥) → well_formed answer ≡ Err BadCopyFileFormat
answered (Ok d) r (inl e) other = absurd cc
answered (Ok d) r (inr e) other = absurd (other (ap (λ (s : Refusal). s.code) (same_refusal r out_of_memory e)))
answered (Err code) r h other = refl

-- ---- references

-- marks that are there
pub reference-is : (marks word name : List ℕ) → (marks ≡ [] → ⊥) → behind (codes " REFERENCES ") marks ≡ Some word → name_of word ≡ Ok name → referenced marks ≡ Ok (Some name)
unfolding referenced
reference-is [] word name some at named = absurd (some refl)
reference-is (b ∷ marks) word name some at named = rw (at, named) refl

pub reference-fails : (e : LineError) (marks word : List ℕ) → (marks ≡ [] → ⊥) → behind (codes " REFERENCES ") marks ≡ Some word → Fails e (name_of word) → Fails e (referenced marks)
unfolding referenced
reference-fails line.Memory marks word some at h = tt
reference-fails (line.Refused code) [] word some at h = absurd (some refl)
reference-fails (line.Refused code) (b ∷ marks) word some at h = rw (at, h) refl

-- ---- columns

module _ {A : Type 0} where
  pub not_empty : (is : Bool) (xs : List A) → is ≡ (length xs == 0) → is ≡ false → xs ≡ [] → ⊥
  not_empty is [] h false_too e = absurd cc
  not_empty is (x ∷ xs) h false_too e = absurd cc

-- how much is left to be read
abbrev pub part_left : Option (Bor (List ℕ)) → ℕ
part_left None = 0
part_left (Some text) = suc (length text.now)

pub others-next : (parts rest : List (List ℕ)) (part : List ℕ) (d : ColumnDef) → parts ≡ part ∷ rest → other_column part ≡ Ok d → other_columns parts ≡ (other_columns rest >>= λ ds. Ok (d ∷ ds))
unfolding other_columns
others-next parts rest part d same h = rw (same, h) refl

pub others-fail : (e : LineError) (parts rest : List (List ℕ)) (part : List ℕ) → parts ≡ part ∷ rest → Fails e (other_column part) → Fails e (other_columns parts)
unfolding other_columns
others-fail line.Memory parts rest part same h = tt
others-fail (line.Refused code) parts rest part same h = rw (same, h) refl

pub others-none : other_columns [] ≡ Ok []
unfolding other_columns
others-none = refl

pub nothing_left : (rest : Option (Bor (List ℕ))) → ((text : Bor (List ℕ)) → rest ≡ Some text → ⊥) → other_columns (parts_of (option_copied rest)) ≡ Ok []
nothing_left None h = others-none
nothing_left (Some text) h = absurd (h text refl)
