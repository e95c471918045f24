use Rattle.std.proofs.Common.{List, subst, sym}
use Rattle.schema.specs.declared.row.Row.{Row}
use Rattle.schema.specs.Plain.{rows_of}
use Rattle.dumpplan.specs.Pieces.{IsBatch}
use Rattle.dumpplan.proofs.CuttingLemmas.{behind_batch, fewer, some_last}
use Rattle.dumpplan.proofs.cutting.rows_behind.Goals as goal

pub returns-in_ok-next-in-Some-clause-rows : goal.returns-in_ok-next-in-Some-clause-rows
returns-in_ok-next-in-Some-clause-rows g c =
    let rows = rows_of (g.R.SnapshotReader.tables c.args.reader.now) c.args.table in
    subst (λ (left : List (Row g.row.A.Denot)). IsBatch c.args.most rows left c.in_ok-next-in-Some.next.items) (sym (behind_batch rows c.args.batch.now c.in-Some.last.now c.in-Some.ensures.value)) c.in_ok-next-in-Some.ensures.rows

pub returns-in_ok-next-in-Some-clause-fewer : goal.returns-in_ok-next-in-Some-clause-fewer
returns-in_ok-next-in-Some-clause-fewer g c =
    let rows = rows_of (g.R.SnapshotReader.tables c.args.reader.now) c.args.table in
    let behind = subst (λ (left : List (Row g.row.A.Denot)). IsBatch c.args.most rows left c.in_ok-next-in-Some.next.items) (sym (behind_batch rows c.args.batch.now c.in-Some.last.now c.in-Some.ensures.value)) c.in_ok-next-in-Some.ensures.rows in
    fewer c.args.most rows c.args.batch.now c.in_ok-next-in-Some.next.items (some_last c.args.batch.now c.in-Some.last.now c.in-Some.ensures.value) behind
