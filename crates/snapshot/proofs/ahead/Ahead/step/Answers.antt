use Rattle.std.proofs.Common.{◌<◌, ◌≤◌, ◌+◌, ap, ◌∙◌, arith, length, List, Bor}
use Rattle.std.proofs.lemmas.List.{length-map}
use Rattle.schema.specs.Plain.{rows_of}
use Rattle.schema.specs.Walking.{lent, rows_behind}
use Rattle.schema.specs.declared.row.Row.{Row}
use Rattle.snapshot.proofs.AheadLemmas.{batch_passed, one_passed, read_now}
use Rattle.snapshot.proofs.ahead.Ahead.step.Goals as goal

pub returns-then-next-count-clause-ok : goal.returns-then-next-count-clause-ok
returns-then-next-count-clause-ok g c =
    let i = c.self.inside in
    let lt : i.place < length (lent i.batch.items) = omega (arith, c.if-self-count.false, c.len-count.ensures, i.batch.ok.0, length-map i.batch.items (λ row. row.now)) in
    one_passed (rows_of (g.R.SnapshotReader.tables i.reader.now) i.table) (lent i.batch.items) c.args.self.now i.place c.self.view_is lt

pub invariant_of-self-2 : goal.invariant_of-self-2
invariant_of-self-2 g c = (c.self.invariant.0, read_now (rows_of (g.R.SnapshotReader.tables c.self.inside.reader.now) c.self.inside.table) (lent c.in_ok-batch.batch.items))

pub returns-clause-ok : goal.returns-clause-ok
returns-clause-ok g c =
    let i = c.self.inside in
    let rows = rows_of (g.R.SnapshotReader.tables i.reader.now) i.table in
    let lt : i.place < length (lent i.batch.items) = omega (arith, c.if-self-count.false, c.len-count.ensures, i.batch.ok.0, length-map i.batch.items (λ row. row.now)) in
    let all : length (lent i.batch.items) ≤ i.place + 1 = omega (arith, c.if-next-count.false, c.len-count.ensures, i.batch.ok.0, length-map i.batch.items (λ row. row.now)) in
    batch_passed rows (lent i.batch.items) c.args.self.now (lent c.in_ok-batch.batch.items) i.place c.self.view_is lt all (c.in_ok-batch.ensures.rows ∙ ap (λ (b : List (Bor (Row g.row.A.Denot))). rows_behind rows (lent b)) c.as_slice.ensures.value)
