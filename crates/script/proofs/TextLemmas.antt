-- Bytes that are text, and those that aren't.
use Rattle.std.proofs.Common.{◌≡◌, ℕ, List, false, Some, None, Result, Ok, Err, inl, inr, ap, refl, sym, subst}
use mathlib.Core.Bool.{false≢true}
use Rattle.std.specs.Result.{is_ok, result_ok}
use Rattle.value.specs.declared.refusal.Code.{Code}
use Rattle.value.specs.declared.refusal.Refusal.{Refusal}
use Rattle.value.specs.Refusals.{AnswersOrNoMemory, pointing_nowhere}
use Rattle.schema.specs.Definition.{Catalog}
use Rattle.script.specs.declared.error.LineError.{LineError}
use Rattle.script.specs.declared.error.LineError.TheVariants.{Memory, Faulty}
use Rattle.script.specs.Scripts.{error_of}
use Rattle.std.specs.Str.{IsUtf8, is_utf8}
use Rattle.std.proofs.lemmas.Bool.{false_from_ne_true}
use Rattle.std.proofs.lemmas.Str.{is_utf8-from_IsUtf8, IsUtf8-from_is_utf8}
use Rattle.script.specs.Commands.{text_of, Lacks}

pub text_of-utf8 : (bytes : List ℕ) → IsUtf8 bytes → text_of bytes ≡ Some bytes
text_of-utf8 bytes utf8 = rw (is_utf8-from_IsUtf8 bytes utf8) refl

pub text_of-other : (bytes : List ℕ) → ¬ (IsUtf8 bytes) → text_of bytes ≡ None
text_of-other bytes other = rw (false_from_ne_true (is_utf8 bytes) (λ h. other (IsUtf8-from_is_utf8 bytes h))) refl

pub is_utf8-not : (bytes : List ℕ) → ¬ (IsUtf8 bytes) → false ≡ is_utf8 bytes
is_utf8-not bytes other = sym (false_from_ne_true (is_utf8 bytes) (λ h. other (IsUtf8-from_is_utf8 bytes h)))

-- nothing was read, for whatever reason
pub lacks_none : (Y : Type 0) (e : LineError) → Lacks {Y = Y} e None
lacks_none Y Memory = tt
lacks_none Y Faulty = refl

-- the refusal of a result
abbrev refusal_or : {T : Type 0} → Refusal → Result T Refusal → Refusal
refusal_or r (Ok x) = r
refusal_or r (Err e) = e

-- a table that wasn't added may not be, or memory ran out
pub not_added : (answer : Result Catalog Code) (r : Refusal) → AnswersOrNoMemory (Err r) (pointing_nowhere answer) → Lacks (error_of r) (result_ok answer)
not_added (Ok c) r (inl e) = absurd (false≢true (ap is_ok e))
not_added (Ok c) r (inr e) = subst (λ o. Lacks (error_of o) (Some c)) (sym (ap (refusal_or r) e)) tt
not_added (Err code) r said = lacks_none Catalog (error_of r)
