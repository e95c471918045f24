use Rattle.shell.proofs.HeldLemmas.{not_running}
use Rattle.shell.proofs.shell.Shell.stay.Goals as goal

pub returns-clause-held : goal.returns-clause-held
returns-clause-held g c = not_running c.args.self.now c.requires.none
