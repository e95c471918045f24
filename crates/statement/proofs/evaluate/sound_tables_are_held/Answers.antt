use Rattle.statement.proofs.HeldLemmas.{held_sound}
use Rattle.statement.proofs.evaluate.sound_tables_are_held.Goals as goal

pub returns : goal.returns
returns g c = λ c X h. held_sound c X h
