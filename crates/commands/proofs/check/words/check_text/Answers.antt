use Rattle.commands.proofs.CheckLemmas.{was_checked}
use Rattle.commands.proofs.check.words.check_text.Goals as goal

pub returns-in-Ok : goal.returns-in-Ok
returns-in-Ok g c = was_checked _ c.args.task.has_time c.args.task.json c.args.text.now c.in-Ok.opening c.check_opened.result _ _ c.in-Ok.ensures.reads c.check_opened.ensures
