use Rattle.std.proofs.Common.{map}
use Rattle.commands.proofs.CheckLemmas.{ends_within, of_error, of_task}
use Rattle.commands.proofs.check.words.check_words.Goals as goal

pub returns-in-Ok-clause-ends : goal.returns-in-Ok-clause-ends
returns-in-Ok-clause-ends g c = of_task _ _ _ (map (λ w. w.now) c.args.words.now) c.in-Ok.task c.do_task.result _ _ c.in-Ok.ensures.asked c.do_task.ensures

pub returns-in-Err-clause-ends : goal.returns-in-Err-clause-ends
returns-in-Err-clause-ends g c = of_error _ _ _ (map (λ w. w.now) c.args.words.now) c.in-Err.error c.tell_words.result _ _ c.in-Err.ensures.fails c.tell_words.ensures

pub returns-in-Ok-clause-within : goal.returns-in-Ok-clause-within
returns-in-Ok-clause-within g c = ends_within _ _ _ _ _ _ _ (returns-in-Ok-clause-ends g c)

pub returns-in-Err-clause-within : goal.returns-in-Err-clause-within
returns-in-Err-clause-within g c = ends_within _ _ _ _ _ _ _ (returns-in-Err-clause-ends g c)
