-- A session's transaction status, by whether it may read.
use Rattle.std.proofs.Common.{◌≡◌, ◌≢◌, ◌∙◌, Result, Ok, Err, IfOk, ap, inl, inr, rules}
use Rattle.value.specs.Refusals.{AnswersOrNoMemory, out_of_memory}
use Rattle.value.specs.declared.refusal.Refusal.{Refusal}
use Rattle.schema.specs.declared.tables.Tables.{Tables}
use Rattle.terminal.specs.Marks.{mark_of, mark_of_code}
use Rattle.terminal.specs.declared.marks.Mark.{Mark}
use Rattle.terminal.specs.declared.marks.Mark.TheVariants as mark

-- that it may, is the answer
pub allowed : {A : Type 0} (X : Tables A) (answer : Result (Tables A) Refusal) → AnswersOrNoMemory (Ok X) answer → mark.Open ≡ mark_of answer
allowed X answer (inl same) = ap mark_of same
allowed X answer (inr none) = absurd cc

-- that it may not, for another reason than out of memory, is the answer
pub marked : {A : Type 0} (r : Result Mark Refusal) (e : Refusal) (answer : Result (Tables A) Refusal) → IfOk r (λ m. m ≡ mark_of_code e.code) → IfOk r (λ m. e ≢ out_of_memory) → AnswersOrNoMemory (Err e) answer → IfOk r (λ m. m ≡ mark_of answer)
marked (Ok m) e answer is ample (inl same) = is ∙ ap mark_of same
marked (Ok m) e answer is ample (inr none) = absurd (ample (search (rules, none)))
marked (Err x) e answer is ample a = is
