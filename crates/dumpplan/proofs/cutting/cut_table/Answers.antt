use Rattle.std.proofs.Common.{◌≡◌, ◌+◌, ◌++◌, Bor, List, [], length, sym, ap, subst, ◌∙◌, arith}
use Rattle.std.proofs.lemmas.List.{append-nil}
use Rattle.schema.specs.declared.row.Row.{Row}
use Rattle.schema.specs.Plain.{rows_of}
use Rattle.schema.specs.Walking.{lent, rows_behind}
use Rattle.dumpplan.specs.Pieces.{cuts, to_come, first_key, IsBatch}
use Rattle.dumpplan.proofs.CuttingLemmas.{cut_next, fewer, none_left}
use Rattle.dumpplan.proofs.cutting.cut_table.Goals as goal

pub loop-batch-init : goal.loop-batch-init
loop-batch-init g c =
    let rows = rows_of (g.R.SnapshotReader.tables c.args.reader.now) c.args.table in
    let most = c.most_rows-most.result in
    let first = c.in_ok-batch.ensures.rows in (
      first.0,
      ap (λ ks. ks ++ cuts most most (to_come rows c.in_ok-batch.batch.items)) c.new-keys.ensures.items ∙ ap (cuts most most) first.1,
      (let all = ap length first.1 in omega (arith, all)),
    )

pub loop-batch-preserved : goal.loop-batch-preserved
loop-batch-preserved g c =
    let rows = rows_of (g.R.SnapshotReader.tables c.args.reader.now) c.args.table in
    let most = c.most_rows-most.result in
    let batch = c.loop-batch.batch.items in
    let next = c.in-Some.next.items in
    let behind : IsBatch most rows (rows_behind rows (lent batch)) next =
    subst (λ (b : List (Bor (Row g.row.A.Denot))). IsBatch most rows (rows_behind rows (lent b)) next) c.as_slice.ensures.value (rw c.in-Some.is at c.in_ok-next.ensures.rows) in
    let made = c.in_ok-push_cut.ensures.ok ∙ ap (λ (b : List (Bor (Row g.row.A.Denot))). c.loop-batch.keys.items ++ first_key (lent b)) c.as_slice-found.ensures.value in
    let step = cut_next most c.loop-batch.rows (length rows) c.loop-batch.keys.items c.push_cut.new.keys.items (cuts most most rows) rows batch next c.most_rows-most.ensures.some c.loop-batch.invariant.0 behind made c.loop-batch.invariant.1 c.loop-batch.invariant.2 in
    let counted = step.1 in
    (behind.0, step.0, omega (arith, c.in_ok-rows.ensures.ok, c.len.ensures, c.loop-batch.batch.ok.0, counted))

pub returns-clause-keys : goal.returns-clause-keys
returns-clause-keys g c =
    let rows = rows_of (g.R.SnapshotReader.tables c.args.reader.now) c.args.table in
    let most = c.most_rows-most.result in
    let none = none_left rows c.loop-batch.batch.items (sym c.as_slice.ensures.value ∙ rw c.in_default.is at c.in_ok-next.ensures.none) in
    sym (append-nil c.loop-batch.keys.items) ∙ ap (λ ks. c.loop-batch.keys.items ++ ks) (sym (ap (cuts most most) none)) ∙ c.loop-batch.invariant.1 ∙ ap (λ n. cuts n n rows) c.most_rows-most.ensures.most

pub returns-clause-rows : goal.returns-clause-rows
returns-clause-rows g c =
    let rows = rows_of (g.R.SnapshotReader.tables c.args.reader.now) c.args.table in
    let none = ap length (none_left rows c.loop-batch.batch.items (sym c.as_slice.ensures.value ∙ rw c.in_default.is at c.in_ok-next.ensures.none)) in
    omega (arith, none, c.loop-batch.invariant.2)
