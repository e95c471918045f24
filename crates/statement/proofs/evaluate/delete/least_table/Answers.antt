use Rattle.std.proofs.Common.{◌<◌, true, false, map, length, sym, ◌∙◌, arith, add-one}
use Rattle.statement.proofs.DeleteLemmas.{least_at}
use Rattle.statement.proofs.HeldLemmas.{held_length}
use Rattle.statement.proofs.evaluate.delete.least_table.Goals as goal

pub any_names_one-requires-clause-has : goal.any_names_one-requires-clause-has
any_names_one-requires-clause-has g c = omega (arith, held_length c.args.catalog.now (g.R.SnapshotReader.tables c.args.reader.now) c.requires.held, c.at-walked.ensures)

pub returns-then-any_names_one-clause-least : goal.returns-then-any_names_one-clause-least
returns-then-any_names_one-clause-least g c =
    let X = g.R.SnapshotReader.tables c.args.reader.now in
    let gone = map (λ row. row.now) c.args.gone.now in
    let lt : c.loop-place.place < length c.args.catalog.now = omega arith in
    sym (c.loop-place.invariant ∙ least_at c.args.table gone c.args.catalog.now X c.loop-place.place c.at-walked.result c.columns_of-columns.result.now true lt (held_length c.args.catalog.now X c.requires.held) c.at-walked.ensures c.columns_of-columns.ensures.columns c.if-any_names_one.ensures)

pub loop-place-preserved : goal.loop-place-preserved
loop-place-preserved g c =
    let X = g.R.SnapshotReader.tables c.args.reader.now in
    let gone = map (λ row. row.now) c.args.gone.now in
    let lt : c.loop-place.place < length c.args.catalog.now = omega arith in
    rw add-one (c.loop-place.invariant ∙ least_at c.args.table gone c.args.catalog.now X c.loop-place.place c.at-walked.result c.columns_of-columns.result.now false lt (held_length c.args.catalog.now X c.requires.held) c.at-walked.ensures c.columns_of-columns.ensures.columns c.if-any_names_one.ensures)
