use Rattle.library.proofs.exploring.opened_output.Goals as goal

pub returns-else-opens : goal.returns-else-opens
returns-else-opens g c = rw c.if-opens.false c.lines_output.ensures
