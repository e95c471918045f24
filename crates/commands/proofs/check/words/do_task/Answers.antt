use Rattle.commands.proofs.CheckLemmas.{was_done}
use Rattle.commands.proofs.check.words.do_task.Goals as goal

pub returns-in-Ok : goal.returns-in-Ok
returns-in-Ok g c = was_done _ _ _ c.args.task c.in-Ok.text.items c.as_slice.result.now c.check_both.result _ _ c.as_slice.ensures.value c.in-Ok.ensures.read c.check_both.ensures
