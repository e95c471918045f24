use Rattle.restore.proofs.taking.Rounds.{rows_ended}
use Rattle.restore.proofs.reading.read_end_of_rows.Goals as goal

pub returns : goal.returns
returns g c = λ counted. rows_ended counted c.args.catalog.now c.args.tables.now c.args.table c.read_line.result c.args.lines.number c.args.lines.text.now c.requires c.read_line.ensures
