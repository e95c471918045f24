use Rattle.std.proofs.Common.{◌≡◌, ◌++◌, [], map, refl, ap, sym, subst, ◌∙◌, arith}
use Rattle.std.specs.Prelude.{vec_len}
use Rattle.std.proofs.lemmas.Bool.{eqb-true}
use Rattle.std.specs.List.{AllByRecursion, filter}
use Rattle.std.proofs.lemmas.List.{append-nil, nil_from_length}
use Rattle.value.proofs.Basics.{all-filter}
use Rattle.schema.specs.Plain.{rows_of}
use Rattle.schema.specs.Rows.{IsInKeyOrder}
use Rattle.schema.specs.Walking.{lent, rows_behind, rows_to_come}
use Rattle.statement.specs.declared.reading.End.TheVariants.{Open}
use Rattle.statement.specs.Conditions.{satisfies}
use Rattle.statement.specs.Cover.{is_from}
use Rattle.statement.specs.Walk.{IsWithin}
use Rattle.statement.proofs.WalkLemmas.{behind_within, first_rise, first_within, from_low, from_low_rise, next_batch, rest_rise, up_to}
use Rattle.statement.proofs.evaluate.chosen.chosen_between.Goals as goal

pub loop-alloc-init : goal.loop-alloc-init
loop-alloc-init g c =
    let rows = rows_of (g.R.SnapshotReader.tables c.args.reader.now) c.args.table in
    let cs = c.args.conditions.now in
    let e = c.in_ok-batch.ensures.rows in (
      rw (c.new-chosen.ensures.items) (ap (filter (satisfies cs)) e ∙ from_low cs c.args.low.now c.args.high.now rows c.requires.within),
      subst (AllByRecursion (λ row. IsWithin cs c.args.low.now c.args.high.now row)) (sym e) (all-filter (λ row. IsWithin cs c.args.low.now c.args.high.now row) (λ row. is_from c.args.low.now row.0) rows c.requires.within),
      subst IsInKeyOrder (sym e) (from_low_rise c.args.low.now rows c.rows_from.ensures.ordered),
    )

pub push_batch-requires-clause-within : goal.push_batch-requires-clause-within
push_batch-requires-clause-within g c =
    let rows = rows_of (g.R.SnapshotReader.tables c.args.reader.now) c.args.table in
    let cs = c.args.conditions.now in
    let batch = lent c.loop-alloc.batch.items in
    subst (λ bs. AllByRecursion (λ row. IsWithin cs Open c.args.high.now row) (lent bs)) (sym c.as_slice.ensures.value)
    (up_to cs c.args.low.now c.args.high.now batch (first_within cs c.args.low.now c.args.high.now batch (rows_behind rows batch) c.loop-alloc.invariant.1))

pub push_batch-requires-clause-ordered : goal.push_batch-requires-clause-ordered
push_batch-requires-clause-ordered g c =
    let rows = rows_of (g.R.SnapshotReader.tables c.args.reader.now) c.args.table in
    let batch = lent c.loop-alloc.batch.items in
    subst (λ bs. IsInKeyOrder (lent bs)) (sym c.as_slice.ensures.value) (first_rise batch (rows_behind rows batch) c.loop-alloc.invariant.2)

pub returns-then-branch-clause-ok : goal.returns-then-branch-clause-ok
returns-then-branch-clause-ok g c =
    let rows = rows_of (g.R.SnapshotReader.tables c.args.reader.now) c.args.table in
    let cs = c.args.conditions.now in
    let batch = lent c.loop-alloc.batch.items in
    let behind = rows_behind rows batch in
    let now = map (λ r. r.now) c.loop-alloc.chosen.items in
    let next = map (λ r. r.now) c.push_batch.new.chosen.items in
    let none : filter (satisfies cs) behind ≡ [] =
    c.in_ok-push_batch.ensures.above c.if-branch.true behind
    (subst (λ bs. IsInKeyOrder (lent bs ++ behind)) (sym c.as_slice.ensures.value) c.loop-alloc.invariant.2)
    (up_to cs c.args.low.now c.args.high.now behind (behind_within cs c.args.low.now c.args.high.now batch behind c.loop-alloc.invariant.1)) in
    sym (append-nil next)
    ∙ ap (λ zs. next ++ zs) (sym none)
    ∙ next_batch cs rows batch behind now next (filter (satisfies cs) rows)
    (c.in_ok-push_batch.ensures.ok ∙ ap (λ bs. now ++ filter (satisfies cs) (lent bs)) c.as_slice.ensures.value) refl c.loop-alloc.invariant.0

pub loop-alloc-preserved : goal.loop-alloc-preserved
loop-alloc-preserved g c =
    let rows = rows_of (g.R.SnapshotReader.tables c.args.reader.now) c.args.table in
    let cs = c.args.conditions.now in
    let batch = lent c.loop-alloc.batch.items in
    let come = rows_to_come rows (lent c.in_ok-batch-2.batch.items) 0 in
    let now = map (λ r. r.now) c.loop-alloc.chosen.items in
    let is : come ≡ rows_behind rows batch = c.in_ok-batch-2.ensures.rows ∙ ap (λ bs. rows_behind rows (lent bs)) c.as_slice-in-loop-alloc.ensures.value in (
      next_batch cs rows batch come now (map (λ r. r.now) c.push_batch.new.chosen.items) (filter (satisfies cs) rows)
          (c.in_ok-push_batch.ensures.ok ∙ ap (λ bs. now ++ filter (satisfies cs) (lent bs)) c.as_slice.ensures.value) is c.loop-alloc.invariant.0,
      subst (AllByRecursion (λ row. IsWithin cs c.args.low.now c.args.high.now row)) (sym is) (behind_within cs c.args.low.now c.args.high.now batch (rows_behind rows batch) c.loop-alloc.invariant.1),
      subst IsInKeyOrder (sym is) (rest_rise batch (rows_behind rows batch) c.loop-alloc.invariant.2),
    )

pub returns-clause-ok : goal.returns-clause-ok
returns-clause-ok g c =
    let rows = rows_of (g.R.SnapshotReader.tables c.args.reader.now) c.args.table in
    let cs = c.args.conditions.now in
    let items = c.loop-alloc.batch in
    let empty = eqb-true (vec_len items) 0 (sym c.is_empty.ensures ∙ c.loop-alloc-test.false) in
    let none = nil_from_length items.items (omega (arith, items.ok.0, empty)) in
    let now = map (λ r. r.now) c.loop-alloc.chosen.items in
    sym (append-nil now) ∙ ap (λ bs. now ++ filter (satisfies cs) (rows_to_come rows (lent bs) 0)) (sym none) ∙ c.loop-alloc.invariant.0
