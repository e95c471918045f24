use Rattle.commands.proofs.CheckLemmas.{told}
use Rattle.commands.proofs.check.words.tell_judgement.Goals as goal

pub returns-in-Ok : goal.returns-in-Ok
returns-in-Ok g c = told c.args.json c.args.judgement.now c.end.result _ _ c.in-Ok.ensures c.end.ensures
