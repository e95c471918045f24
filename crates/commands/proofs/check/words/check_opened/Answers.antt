use Rattle.std.specs.Option.{option_copied}
use Rattle.commands.proofs.CheckLemmas.{was_judged}
use Rattle.commands.proofs.check.words.check_opened.Goals as goal

pub returns-in-Ok : goal.returns-in-Ok
returns-in-Ok g c = was_judged _ c.args.task.has_time c.args.task.json c.args.text.now c.args.opening (option_copied c.as_ref.result) c.in-Ok.judgement c.tell_judgement.result _ _ c.as_ref.ensures.value c.in-Ok.ensures c.tell_judgement.ensures
