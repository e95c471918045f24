use Rattle.std.proofs.Common.{ap, sym, arith, ◌≡◌, ◌≤◌, length, set, map, List, ◌∙◌}
use Rattle.std.proofs.lemmas.List.{length-set}
use Rattle.mvrows.specs.Pruning.{pruned_rows}
use Rattle.mvrows.specs.HeldRows.{Held, rows_in, rows_held, own_pruned_in}
use Rattle.mvrows.proofs.HeldLemmas.{so_far-more, so_far-same, so_far-end, whole-left}
use Rattle.mvrows.proofs.rows.make_all_prunable.Goals as goal

pub returns-in_err-make_prunable-clause-same : goal.returns-in_err-make_prunable-clause-same
returns-in_err-make_prunable-clause-same g c =
    let items = set c.loop-table.table-items c.loop-table.table-index c.make_prunable.new.self in
    let len : length items ≡ length c.args.tables.now.items = omega (arith, length-set c.loop-table.table-items c.loop-table.table-index c.make_prunable.new.self, c.loop-table.auto.table-items, ap length c.deref_mut-table-items.ensures.value) in
    let more = so_far-more rows_in rows_in c.loop-table.table-items c.deref_mut-table-items.result.now c.loop-table.table-index c.table-item.result c.make_prunable.new.self (omega arith) c.table-item.is (c.make_prunable.ensures.same ∙ ap rows_in (sym c.table-item.is)) c.loop-table.invariant.same in
    ap rows_held (whole-left c.args.tables.now.len items c.args.tables.now.items len c.args.tables.now.ok.0)
    ∙ so_far-same rows_in items c.deref_mut-table-items.result.now _ more
    ∙ ap rows_held c.deref_mut-table-items.ensures.value

pub loop-table-preserved : goal.loop-table-preserved
loop-table-preserved g c = record {
  same = so_far-more rows_in rows_in c.loop-table.table-items c.deref_mut-table-items.result.now c.loop-table.table-index c.table-item.result c.make_prunable.new.self (omega arith) c.table-item.is (c.make_prunable.ensures.same ∙ ap rows_in (sym c.table-item.is)) c.loop-table.invariant.same;
  prunable = so_far-more (own_pruned_in c.args.oldest) (λ h. pruned_rows c.args.oldest (rows_in h)) c.loop-table.table-items c.deref_mut-table-items.result.now c.loop-table.table-index c.table-item.result c.make_prunable.new.self (omega arith) c.table-item.is (c.in_ok-make_prunable.ensures.ok ∙ ap (λ (h : List (Held _)). pruned_rows c.args.oldest (rows_in h)) (sym c.table-item.is)) c.loop-table.invariant.prunable;
}

pub returns-clause-ok : goal.returns-clause-ok
returns-clause-ok g c =
    let len : length c.loop-table.table-items ≡ length c.args.tables.now.items = omega (arith, c.loop-table.auto.table-items, ap length c.deref_mut-table-items.ensures.value) in
    let past : length c.loop-table.table-items ≤ c.loop-table.table-index = omega (arith, c.loop-table-test.false, c.loop-table.auto.table-items) in
    ap (map (own_pruned_in c.args.oldest)) (whole-left c.args.tables.now.len c.loop-table.table-items c.args.tables.now.items len c.args.tables.now.ok.0)
    ∙ so_far-end (own_pruned_in c.args.oldest) (λ h. pruned_rows c.args.oldest (rows_in h)) c.loop-table.table-items c.deref_mut-table-items.result.now c.loop-table.table-index past c.loop-table.invariant.prunable
    ∙ ap (map (λ (h : List (Held _)). pruned_rows c.args.oldest (rows_in h))) c.deref_mut-table-items.ensures.value
