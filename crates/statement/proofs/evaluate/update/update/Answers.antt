use Rattle.std.proofs.Common.{Ok, ap, inl, map, subst, sym, ◌∙◌}
use Rattle.value.specs.Refusals.{AnswersOrNoMemory}
use Rattle.statement.specs.Conditions.{chosen}
use Rattle.statement.proofs.HeldLemmas.{answered, held_readable}
use Rattle.statement.proofs.UpdatingLemmas.{AreChosen, update_assignable, update_fits, update_has, update_refused, update_rows, update_written}
use Rattle.statement.proofs.evaluate.update.update.Goals as goal

pub chosen-requires-clause-has : goal.chosen-requires-clause-has
chosen-requires-clause-has g c = update_has c.args.catalog.now (g.R.SnapshotReader.tables c.args.reader.now) c.args.table c.args.assignments.now c.args.conditions.now c.requires.held c.requires.fits

pub chosen-requires-clause-readable : goal.chosen-requires-clause-readable
chosen-requires-clause-readable g c =
    rw c.as_slice.ensures (held_readable c.args.catalog.now (g.R.SnapshotReader.tables c.args.reader.now) c.args.table c.args.conditions.now c.requires.held (update_fits c.args.catalog.now c.args.table c.args.assignments.now c.args.conditions.now c.requires.fits).conditions)

pub columns_of-columns-requires : goal.columns_of-columns-requires
columns_of-columns-requires g c = (update_fits c.args.catalog.now c.args.table c.args.assignments.now c.args.conditions.now c.requires.fits).table

pub returns-in-Some : goal.returns-in-Some
returns-in-Some g c =
    let X = g.R.SnapshotReader.tables c.args.reader.now in
    let are : AreChosen c.args.catalog.now X c.args.table c.args.assignments.now c.args.conditions.now c.columns_of-columns.result.now c.as_slice-2.result.now c.as_slice-rows.result.now = record {
      columns = c.columns_of-columns.ensures.columns;
      assignments = c.as_slice-2.ensures;
      chosen_all = ap (map (λ row. row.now)) c.as_slice-rows.ensures.value ∙ c.in_ok-chosen.ensures.ok ∙ ap (chosen X c.args.table) c.as_slice.ensures;
    } in
    inl (ap Ok (c.answers.ensures
    ∙ update_refused c.args.catalog.now X c.args.table c.args.assignments.now c.args.conditions.now c.requires.held c.requires.fits c.columns_of-columns.result.now c.as_slice-2.result.now c.as_slice-rows.result.now are c.in_ok-fault.field-0 c.in-Some.fault c.in_ok-fault.ensures.ok
    c.in-Some.is))

pub write-requires-clause-rows : goal.write-requires-clause-rows
write-requires-clause-rows g c =
    let X = g.R.SnapshotReader.tables c.args.reader.now in
    let are : AreChosen c.args.catalog.now X c.args.table c.args.assignments.now c.args.conditions.now c.columns_of-columns.result.now c.as_slice-2.result.now c.as_slice-rows.result.now = record {
      columns = c.columns_of-columns.ensures.columns;
      assignments = c.as_slice-2.ensures;
      chosen_all = ap (map (λ row. row.now)) c.as_slice-rows.ensures.value ∙ c.in_ok-chosen.ensures.ok ∙ ap (chosen X c.args.table) c.as_slice.ensures;
    } in
    update_rows c.args.catalog.now X c.args.table c.args.assignments.now c.args.conditions.now c.requires.held c.requires.fits c.columns_of-columns.result.now c.as_slice-2.result.now c.as_slice-rows.result.now are

pub write-requires-clause-assignable : goal.write-requires-clause-assignable
write-requires-clause-assignable g c =
    let X = g.R.SnapshotReader.tables c.args.reader.now in
    let are : AreChosen c.args.catalog.now X c.args.table c.args.assignments.now c.args.conditions.now c.columns_of-columns.result.now c.as_slice-2.result.now c.as_slice-rows.result.now = record {
      columns = c.columns_of-columns.ensures.columns;
      assignments = c.as_slice-2.ensures;
      chosen_all = ap (map (λ row. row.now)) c.as_slice-rows.ensures.value ∙ c.in_ok-chosen.ensures.ok ∙ ap (chosen X c.args.table) c.as_slice.ensures;
    } in
    update_assignable c.args.catalog.now X c.args.table c.args.assignments.now c.args.conditions.now c.requires.held c.requires.fits c.columns_of-columns.result.now c.as_slice-2.result.now c.as_slice-rows.result.now are (sym c.in_ok-fault.ensures.ok ∙ c.in-None.is)

pub returns : goal.returns
returns g c =
    let X = g.R.SnapshotReader.tables c.args.reader.now in
    let are : AreChosen c.args.catalog.now X c.args.table c.args.assignments.now c.args.conditions.now c.columns_of-columns.result.now c.as_slice-2.result.now c.as_slice-rows.result.now = record {
      columns = c.columns_of-columns.ensures.columns;
      assignments = c.as_slice-2.ensures;
      chosen_all = ap (map (λ row. row.now)) c.as_slice-rows.ensures.value ∙ c.in_ok-chosen.ensures.ok ∙ ap (chosen X c.args.table) c.as_slice.ensures;
    } in
    let is = update_written c.args.catalog.now X c.args.table c.args.assignments.now c.args.conditions.now c.requires.held c.requires.fits c.columns_of-columns.result.now c.as_slice-2.result.now c.as_slice-rows.result.now are (sym c.in_ok-fault.ensures.ok ∙ c.in-None.is) in
    subst (λ o. AnswersOrNoMemory c.write.result (Ok o)) is (answered c.write.result _ c.write.ensures.ok c.write.ensures.err)
