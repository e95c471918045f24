use Rattle.std.proofs.Common.{◌≡◌, None, Ok, inl, true, map, ap, sym, subst, ◌∙◌}
use Rattle.std.proofs.lemmas.List.{length-map}
use Rattle.std.specs.FinMap.{is_sorted}
use Rattle.value.specs.Order.{value_cmp}
use Rattle.schema.specs.Plain.{columns_of}
use Rattle.statement.specs.Conditions.{chosen}
use Rattle.statement.proofs.DeleteLemmas.{delete_has, delete_readable, deleted_none}
use Rattle.statement.specs.Evaluation.{deleted, removes}
use Rattle.statement.specs.Writing.{AreRowsOf, references_of_rows}
use Rattle.value.specs.Refusals.{AnswersOrNoMemory}
use Rattle.statement.proofs.WritingLemmas.{chosen_rows, writes_rise}
use Rattle.statement.proofs.evaluate.delete.delete.Goals as goal

pub chosen-requires-clause-has : goal.chosen-requires-clause-has
chosen-requires-clause-has g c = delete_has c.args.catalog.now (g.R.SnapshotReader.tables c.args.reader.now) c.args.table c.args.conditions.now c.requires.held c.requires.fits

pub chosen-requires-clause-readable : goal.chosen-requires-clause-readable
chosen-requires-clause-readable g c =
    rw c.as_slice.ensures (delete_readable c.args.catalog.now (g.R.SnapshotReader.tables c.args.reader.now) c.args.table c.args.conditions.now c.requires.held c.requires.fits)

pub least_table-requires-clause-sorted : goal.least_table-requires-clause-sorted
least_table-requires-clause-sorted g c =
    let X = g.R.SnapshotReader.tables c.args.reader.now in
    let is = ap (map (λ row. row.now)) c.as_slice-2.ensures.value ∙ c.in_ok-rows.ensures.ok ∙ ap (chosen X c.args.table) c.as_slice.ensures in
    subst (λ rows. is_sorted value_cmp rows ≡ true) (sym is) (chosen_rows c.args.catalog.now X c.args.table c.args.conditions.now c.requires.held).sorted

pub returns : goal.returns
returns g c =
    let C = c.args.catalog.now in
    let X = g.R.SnapshotReader.tables c.args.reader.now in
    let gone = map (λ row. row.now) c.as_slice-2.result.now in
    let shown : c.as_slice-in-None.result.now ≡ c.as_slice-2.result.now = c.as_slice-in-None.ensures.value ∙ sym c.as_slice-2.ensures.value in
    let is : gone ≡ chosen X c.args.table c.args.conditions.now = ap (map (λ row. row.now)) c.as_slice-2.ensures.value ∙ c.in_ok-rows.ensures.ok ∙ ap (chosen X c.args.table) c.as_slice.ensures in
    let rows = subst (AreRowsOf X c.args.table) (sym is) (chosen_rows C X c.args.table c.args.conditions.now c.requires.held) in
    let e = deleted_none C X c.args.table gone c.len.result c.in_ok-written-in-None.written.changes.items c.in_ok-written-in-None.written.marks.items c.outcome.result rows c.in-None.ensures.least c.outcome.ensures
    (c.len.ensures ∙ sym c.as_slice-2.ensures.len ∙ sym (length-map c.as_slice-2.result.now (λ row. row.now)))
    (c.in_ok-written-in-None.ensures.changes ∙ ap (λ rs. map (removes c.args.table) (map (λ row. row.now) rs)) shown)
    (c.in_ok-written-in-None.ensures.marks ∙ ap (λ rs. references_of_rows c.args.table (columns_of C c.args.table) (map (λ row. row.now) rs)) shown) in
    subst (λ zs. AnswersOrNoMemory (Ok c.outcome.result) (Ok (deleted C c.args.table zs X))) is (inl (ap Ok e))

pub outcome-requires : goal.outcome-requires
outcome-requires g c =
    let X = g.R.SnapshotReader.tables c.args.reader.now in
    let is = ap (map (λ row. row.now)) c.as_slice-in-None.ensures.value ∙ c.in_ok-rows.ensures.ok ∙ ap (chosen X c.args.table) c.as_slice.ensures in
    let sorted = subst (λ rows. is_sorted value_cmp rows ≡ true) (sym is) (chosen_rows c.args.catalog.now X c.args.table c.args.conditions.now c.requires.held).sorted in
    writes_rise c.args.table (λ row. None) (map (λ row. row.now) c.as_slice-in-None.result.now) c.in_ok-written-in-None.written.changes.items sorted c.in_ok-written-in-None.ensures.changes
