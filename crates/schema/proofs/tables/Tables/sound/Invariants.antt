use Rattle.std.proofs.Common.{◌≡◌, drop}
use Rattle.schema.specs.Plain.{sound_tables, is_sound}
use Rattle.schema.proofs.tables.Tables.sound.Given as goal

-- the tables from here on decide
abbrev pub invariant-loop-place : goal.invariant-loop-place
invariant-loop-place g l = sound_tables l.self (drop l.place l.catalog) (drop l.place l.self) ≡ is_sound l.catalog l.self
