use Rattle.certificate.proofs.RecordingLemmas.{row-found}
use Rattle.std.specs.Option.{option_copied}
use Rattle.certificate.proofs.recording.row_of.Goals as goal

pub returns-then-has : goal.returns-then-has
returns-then-has g c = row-found (option_copied c.get.result) c.args.tables.now c.args.table c.args.key.now c.get.ensures
