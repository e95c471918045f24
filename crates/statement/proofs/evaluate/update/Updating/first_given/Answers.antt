use Rattle.std.proofs.Common.{◌<◌, length, sym, ◌∙◌, arith, add-one}
use Rattle.value.proofs.Basics.{None-from_some}
use Rattle.statement.specs.Updating.{least_given, refuses}
use Rattle.statement.proofs.UpdatingLemmas.{first_found, none_more}
use Rattle.statement.proofs.evaluate.update.Updating.first_given.Goals as goal

pub returns-then-is_some-clause-ok : goal.returns-then-is_some-clause-ok
returns-then-is_some-clause-ok g c =
    let lt : c.loop-row.row-index < length c.args.rows.now = omega arith in
    first_found (λ row. least_given (refuses c.args.stage (g.R.SnapshotReader.tables c.args.self.now.reader.now)) c.args.self.now.assignments.now row 0 c.args.columns.now) c.args.rows.now c.loop-row.row-index c.row-item.result c.in_ok-found.found c.loop-row.invariant lt c.row-item.is c.in_ok-found.ensures.ok (sym c.is_some.ensures ∙ c.if-is_some.true)

pub loop-row-preserved : goal.loop-row-preserved
loop-row-preserved g c =
    let lt : c.loop-row.row-index < length c.args.rows.now = omega arith in
    rw add-one (none_more (λ row. least_given (refuses c.args.stage (g.R.SnapshotReader.tables c.args.self.now.reader.now)) c.args.self.now.assignments.now row 0 c.args.columns.now) c.args.rows.now c.loop-row.row-index c.row-item.result c.loop-row.invariant lt c.row-item.is
    (sym c.in_ok-found.ensures.ok ∙ None-from_some c.in_ok-found.found (sym c.is_some.ensures ∙ c.if-is_some.false)))
