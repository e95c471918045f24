use Rattle.commands.proofs.CheckLemmas.{of_fault}
use Rattle.commands.proofs.check.fault.tell_lines.Goals as goal

pub returns-in-File : goal.returns-in-File
returns-in-File g c = of_fault c.in-File.fault c.tell.result c.tell.ensures.kind
