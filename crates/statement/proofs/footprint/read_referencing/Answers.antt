use Rattle.std.proofs.Common.{◌<◌, length, ◌∙◌, arith}
use Rattle.statement.specs.Walk.{listed}
use Rattle.statement.proofs.FootprintLemmas.{referencing_more}
use Rattle.statement.proofs.footprint.read_referencing.Goals as goal

pub loop-place-preserved : goal.loop-place-preserved
loop-place-preserved g c =
    let lt : c.loop-place.place < length c.args.catalog.now = omega arith in
    referencing_more (listed c.args.gone.now) c.args.referenced c.args.catalog.now c.loop-place.place _ c.at-table.result c.columns_of.result.now c.loop-place.readings.items _ lt (omega arith) c.at-table.ensures c.columns_of.ensures.columns c.in_ok-read_columns.ensures.ok
    ∙ c.loop-place.invariant
