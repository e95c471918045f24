use Rattle.std.proofs.Common.{◌∙◌}
use Rattle.restore.proofs.stepwise.Reading.{copies}
use Rattle.restore.proofs.reading.read_copy_line.Goals as goal

pub returns-in-Ok : goal.returns-in-Ok
returns-in-Ok g c = λ counted X.
    copies counted c.args.catalog.now X c.args.table c.table.result.now c.read_line.result c.args.lines.number c.args.lines.text.now c.as_slice.result.now c.table.ensures.table
    (c.as_slice.ensures.value ∙ c.in-Ok.ensures.ok) c.read_line.ensures
