use Rattle.library.proofs.checking.begun_output.Goals as goal

pub returns-else-opens : goal.returns-else-opens
returns-else-opens g c = rw c.if-opens.false c.recorded_output.ensures
