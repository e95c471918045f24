use Rattle.statement.proofs.HeldLemmas.{held_length, held_sound}
use Rattle.program.proofs.restoring.sound_tables_are_counted.Goals as goal

pub returns : goal.returns
returns g c = held_length c.args._catalog.now c.args._tables.now (held_sound c.args._catalog.now c.args._tables.now c.requires)
