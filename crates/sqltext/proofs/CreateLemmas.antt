-- The words of a CREATE TABLE, and what makes a table of them.
use Rattle.std.proofs.Common.{◌≡◌, ℕ, List, Result, Ok, Err, refl, sym, ap, inl, inr}
use Rattle.std.specs.Str.{IsUtf8, is_utf8}
use Rattle.std.proofs.lemmas.Bool.{false_from_ne_true}
use Rattle.std.proofs.lemmas.Str.{is_utf8-from_IsUtf8, IsUtf8-from_is_utf8}
use Rattle.value.specs.declared.refusal.Refusal.{Refusal}
use Rattle.value.specs.declared.refusal.Code.TheVariants.{SyntaxError, OutOfMemory}
use Rattle.value.specs.Refusals.{AnswersOrNoMemory, out_of_memory}
use Rattle.schema.specs.Definition.{TableDef}
use Rattle.sqltext.specs.declared.tree.Name.{Name}
use Rattle.sqltext.specs.Source.{bytes_of}
use Rattle.sqltext.specs.Resolving.{refused}
use Rattle.sqltext.specs.Creating.{word_of}

pub not_word : (text bytes : List ℕ) (n : Name) (r : Refusal) → bytes ≡ bytes_of n.0 text → ¬ (IsUtf8 bytes) → r ≡ refused SyntaxError n.0 → word_of text n ≡ Err r
not_word text bytes n r same other is =
    rw (← same, false_from_ne_true (is_utf8 bytes) (λ h. other (IsUtf8-from_is_utf8 bytes h)), is) refl

pub is_word : (text bytes word : List ℕ) (n : Name) → bytes ≡ bytes_of n.0 text → IsUtf8 bytes → word ≡ bytes → word_of text n ≡ Ok word
is_word text bytes word n same utf8 is = rw (← same, is_utf8-from_IsUtf8 bytes utf8, is) refl

abbrev failed : Refusal → Result TableDef Refusal
failed r = Err r

same_refusal : (r s : Refusal) → failed r ≡ failed s → r ≡ s
same_refusal r s e = cc

-- a refusal other than out of memory is the answer
pub answered : (answer : Result TableDef Refusal) (r : Refusal) → AnswersOrNoMemory (failed r) answer → (r.code ≡ OutOfMemory → ⊥) → answer ≡ Err r
answered answer r h other =
    elim h [ inl e ↦ sym e | inr e ↦ absurd (other (ap (λ (s : Refusal). s.code) (same_refusal r out_of_memory e))) ]
