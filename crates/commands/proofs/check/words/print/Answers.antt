use Rattle.commands.proofs.CheckLemmas.{printed}
use Rattle.commands.proofs.check.words.print.Goals as goal

pub returns-in-Ok : goal.returns-in-Ok
returns-in-Ok g c = printed c.args.json c.args.judgement.now c.write_all.result c.in-Ok.text.items c.as_slice.result.now _ _ c.as_slice.ensures.value c.in-Ok.ensures c.write_all.ensures
