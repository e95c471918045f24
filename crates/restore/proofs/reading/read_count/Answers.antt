use Rattle.std.proofs.Common.{◌∙◌, ap}
use Rattle.dumpplan.specs.Lines.{rows_line}
use Rattle.restore.proofs.stepwise.Reading.{counts}
use Rattle.restore.proofs.reading.read_count.Goals as goal

pub returns-in-Ok : goal.returns-in-Ok
returns-in-Ok g c =
    counts c.args.counted c.args.catalog.now c.args.tables.now c.args.table c.read_line.result c.args.lines.number c.args.lines.text.now c.as_slice.result.now c.if-counted.true
    (c.as_slice.ensures.value ∙ c.in-Ok.ensures.ok ∙ ap rows_line c.len.ensures) c.read_line.ensures
