use Rattle.std.proofs.Common.{Some, None, codes, subst}
use Rattle.std.specs.Str.Parse.{ExplainsUnsignedError, HasUnsignedDigitsIfOk}
use Rattle.clap.specs.Words.{found_of, one_text}
use Rattle.clap.proofs.WalkLemmas.{one_text-rows}
use Rattle.program.specs.Asked.{MayWork, Writes}
use Rattle.program.proofs.AskedLemmas.{chosen, is_read, not_chosen}
use Rattle.program.proofs.task.jobs_of.Goals as goal

pub returns-in-Some : goal.returns-in-Some
returns-in-Some c =
    let found = found_of c.args.restore.now in
    subst (λ o. Writes MayWork 1 o c.so_many.result) (one_text-rows found (codes "jobs"))
    (chosen (one_text found (codes "jobs")) c.in-Some.jobs c.so_many.result c.in-Some.ensures.none
    (λ t e. is_read (λ bs r. ExplainsUnsignedError 10 bs r) (λ bs r. HasUnsignedDigitsIfOk bs r) (Some c.in-Some.jobs) t (c.in-Some.ensures.value t e)) c.so_many.ensures)

pub returns-in-None : goal.returns-in-None
returns-in-None c =
    let found = found_of c.args.restore.now in
    subst (λ o. Writes MayWork 1 o c.one_job.result) (one_text-rows found (codes "jobs"))
    (not_chosen (one_text found (codes "jobs")) c.one_job.result
    (λ t e. is_read (λ bs r. ExplainsUnsignedError 10 bs r) (λ bs r. HasUnsignedDigitsIfOk bs r) None t (c.in-None.ensures.value t e)) c.one_job.ensures)
