-- Tables that weren't added.
use Rattle.std.proofs.Common.{Result, Ok, Err, inl, inr, ap, refl, sym, subst}
use mathlib.Core.Bool.{false≢true}
use Rattle.std.specs.Prelude.{None, Some}
use Rattle.std.specs.Result.{is_ok, result_ok}
use Rattle.value.specs.declared.refusal.Code.{Code}
use Rattle.value.specs.declared.refusal.Refusal.{Refusal}
use Rattle.value.specs.Refusals.{AnswersOrNoMemory, pointing_nowhere}
use Rattle.schema.specs.Definition.{Catalog}
use Rattle.transcript.specs.Outcomes.{Lacks, error_of}
use Rattle.transcript.specs.declared.fault.LineError.{LineError}
use Rattle.transcript.specs.declared.fault.LineError.TheVariants.{Memory, Faulty}
use Rattle.transcript.specs.declared.fault.Reason.{Reason}

-- nothing was read, for whatever reason
lacks_none : (Y : Type 0) (e : LineError) → Lacks {Y = Y} e None
lacks_none Y Memory = tt
lacks_none Y (Faulty r) = refl

-- the refusal of a result
abbrev refusal_or : {T : Type 0} → Refusal → Result T Refusal → Refusal
refusal_or r (Ok x) = r
refusal_or r (Err e) = e

-- a table that wasn't added may not be, or memory ran out
pub not_added : (answer : Result Catalog Code) (r : Refusal) (why : Reason) → AnswersOrNoMemory (Err r) (pointing_nowhere answer) → Lacks (error_of r.code why) (result_ok answer)
not_added (Ok c) r why (inl e) = absurd (false≢true (ap is_ok e))
not_added (Ok c) r why (inr e) = subst (λ o. Lacks (error_of o.code why) (Some c)) (sym (ap (refusal_or r) e)) tt
not_added (Err code) r why said = lacks_none Catalog (error_of r.code why)
