use Rattle.std.proofs.Common.{◌≡◌, ◌<◌, ◌≤◌, None, false, length, map, subst, sym, ◌∙◌, arith, add-one}
use Rattle.std.proofs.lemmas.List.{take_all}
use Rattle.std.specs.List.{list_any}
use Rattle.statement.specs.Updating.{first_given, is_faulty, least_given, refuses}
use Rattle.statement.proofs.UpdatingLemmas.{none_more, row_faultless, rows_faultless}
use Rattle.statement.proofs.evaluate.update.Updating.are_faultless.Goals as goal

pub loop-row-preserved : goal.loop-row-preserved
loop-row-preserved g c =
    let lt : c.loop-row.row-index < length c.args.rows.now = omega arith in
    let X = g.R.SnapshotReader.tables c.args.self.now.reader.now in
    let more = c.args.self.now.assignments.now in
    let none : list_any (is_faulty X c.args.columns.now c.row-item.result.now) more ≡ false = sym c.in_ok-faulty.ensures.ok ∙ c.if-faulty.false in
    λ s. rw add-one (none_more (λ row. least_given (refuses s X) more row 0 c.args.columns.now) c.args.rows.now c.loop-row.row-index c.row-item.result (c.loop-row.invariant s) lt c.row-item.is
    (row_faultless X c.args.columns.now c.row-item.result.now more none s))

pub returns-clause-none : goal.returns-clause-none
returns-clause-none g c =
    let X = g.R.SnapshotReader.tables c.args.self.now.reader.now in
    let more = c.args.self.now.assignments.now in
    let all : length c.args.rows.now ≤ c.loop-row.row-index = omega arith in
    λ yes. rows_faultless X more c.args.columns.now (map (λ row. row.now) c.args.rows.now) (λ s. subst (λ rows. first_given (refuses s X) more c.args.columns.now (map (λ row. row.now) rows) ≡ None) (take_all c.loop-row.row-index c.args.rows.now all) (c.loop-row.invariant s))
