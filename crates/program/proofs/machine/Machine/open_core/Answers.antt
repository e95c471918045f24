use Rattle.program.proofs.machine.Machine.open_core.Goals as goal

pub returns-in-Ok-clause-begun : goal.returns-in-Ok-clause-begun
returns-in-Ok-clause-begun g c = (c.in_ok-catalog.catalog, c.in_ok-catalog.tables, c.in_ok-catalog.ensures.begins, c.in-Ok.ensures.ok)
