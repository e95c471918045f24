use Rattle.std.proofs.Common.{◌^◌, ◌<◌, codes, subst, sym}
use Rattle.std.specs.Str.Parse.{ExplainsUnsignedError, HasUnsignedDigitsIfOk}
use Rattle.clap.specs.Words.{found_of, one_text}
use Rattle.clap.proofs.WalkLemmas.{one_text-rows}
use Rattle.program.specs.Asked.{Writes}
use Rattle.program.proofs.AskedLemmas.{is_read, writes}
use Rattle.commands.proofs.check.task.steps_of.Goals as goal

pub returns : goal.returns
returns c =
    let text = one_text (found_of c.args.matches.now) (codes "steps") in
    let read = writes 1000000 text c.get_one.result c.get_one.ensures.none (λ t e. is_read (λ bs r. ExplainsUnsignedError 10 bs r) (λ bs r. HasUnsignedDigitsIfOk bs r) c.get_one.result t (c.get_one.ensures.value t e)) in
    subst (λ o. Writes (λ n. n < 2 ^ 32) 1000000 o c.unwrap_or.result) (one_text-rows (found_of c.args.matches.now) (codes "steps")) (subst (λ k. Writes (λ n. n < 2 ^ 32) 1000000 text k) (sym c.unwrap_or.ensures) read)
