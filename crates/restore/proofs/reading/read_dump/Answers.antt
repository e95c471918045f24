use Rattle.std.proofs.Common.{◌≡◌, true, subst}
use Rattle.schema.specs.Plain.{is_sound}
use Rattle.schema.specs.declared.tables.Tables.{Tables}
use Rattle.restore.specs.declared.error.RestoreFault.{RestoreFault}
use Rattle.restore.proofs.stepwise.Reading.{done_same, empty_is_sound}
use Rattle.restore.proofs.reading.read_dump.Goals as goal

pub returns-clause-sound : goal.returns-clause-sound
returns-clause-sound g c =
    c.read_tables.ensures.sound (subst (λ (X : Tables g.row.A.Denot). is_sound c.in_ok-counted.catalog X ≡ true) (done_same {E = RestoreFault} _ _ c.in_ok-tables.ensures) (empty_is_sound g.row.A.Denot c.in_ok-counted.catalog))
