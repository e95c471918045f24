use Rattle.std.proofs.Common.{Ok, ap, map, subst, ◌∙◌}
use Rattle.value.specs.Refusals.{AnswersOrNoMemory}
use Rattle.statement.specs.Conditions.{chosen}
use Rattle.statement.specs.Evaluation.{shown}
use Rattle.statement.proofs.HeldLemmas.{answered, select_has, select_readable, select_shown}
use Rattle.statement.proofs.evaluate.select.select_rows.Goals as goal

pub chosen-requires-clause-has : goal.chosen-requires-clause-has
chosen-requires-clause-has g c = select_has c.args.catalog.now (g.R.SnapshotReader.tables c.args.reader.now) c.args.table c.args.projection.now c.args.conditions.now c.requires.held c.requires.fits

pub chosen-requires-clause-readable : goal.chosen-requires-clause-readable
chosen-requires-clause-readable g c =
    rw c.as_slice.ensures (select_readable c.args.catalog.now (g.R.SnapshotReader.tables c.args.reader.now) c.args.table c.args.projection.now c.args.conditions.now c.requires.held c.requires.fits)

pub shown-requires : goal.shown-requires
shown-requires g c =
    let X = g.R.SnapshotReader.tables c.args.reader.now in
    let is = c.in_ok-rows.ensures.ok ∙ ap (chosen X c.args.table) c.as_slice.ensures in
    rw c.as_slice-2.ensures.value (select_shown c.args.catalog.now X c.args.table c.args.projection.now c.args.conditions.now c.in_ok-rows.rows.items c.requires.held c.requires.fits is)

pub returns : goal.returns
returns g c =
    let X = g.R.SnapshotReader.tables c.args.reader.now in
    let is = ap (map (λ row. row.now)) c.as_slice-2.ensures.value ∙ c.in_ok-rows.ensures.ok ∙ ap (chosen X c.args.table) c.as_slice.ensures in
    subst (λ rows. AnswersOrNoMemory c.shown.result (Ok (shown c.args.projection.now rows))) is (answered c.shown.result (shown c.args.projection.now (map (λ row. row.now) c.as_slice-2.result.now)) c.shown.ensures.ok c.shown.ensures.err)
