use Rattle.commands.proofs.CheckLemmas.{by_code}
use Rattle.commands.proofs.check.fault.tell.Goals as goal

pub returns : goal.returns
returns g c = by_code c.tell_lines-status.result c.code.result c.tell_lines-status.ensures c.code.ensures
