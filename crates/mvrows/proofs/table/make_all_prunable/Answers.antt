use Rattle.std.proofs.Common.{ap, sym, arith, ◌≡◌, ◌≤◌, length, set, map, ◌∙◌}
use Rattle.std.proofs.lemmas.List.{length-set}
use Rattle.mvrows.specs.Pruning.{pruned_rows}
use Rattle.mvrows.specs.HeldRows.{Held, pages_of, own_pruned}
use Rattle.mvrows.proofs.HeldLemmas.{so_far-more, so_far-same, so_far-end, whole-left}
use Rattle.mvrows.proofs.table.make_all_prunable.Goals as goal

pub returns-in_err-make_prunable-clause-pages : goal.returns-in_err-make_prunable-clause-pages
returns-in_err-make_prunable-clause-pages g c =
    let items = set c.loop-leaf.leaf-items c.loop-leaf.leaf-index c.make_prunable.new.self in
    let len : length items ≡ length c.args.leaves.now.items = omega (arith, length-set c.loop-leaf.leaf-items c.loop-leaf.leaf-index c.make_prunable.new.self, c.loop-leaf.auto.leaf-items, ap length c.deref_mut-leaf-items.ensures.value) in
    let more = so_far-more (λ (h : Held _). h.rows) (λ h. h.rows) c.loop-leaf.leaf-items c.deref_mut-leaf-items.result.now c.loop-leaf.leaf-index c.leaf-item.result c.make_prunable.new.self (omega arith) c.leaf-item.is (c.make_prunable.ensures.same ∙ ap (λ (h : Held _). h.rows) (sym c.leaf-item.is)) c.loop-leaf.invariant.same in
    ap pages_of (whole-left c.args.leaves.now.len items c.args.leaves.now.items len c.args.leaves.now.ok.0)
    ∙ so_far-same (λ (h : Held _). h.rows) items c.deref_mut-leaf-items.result.now _ more
    ∙ ap pages_of c.deref_mut-leaf-items.ensures.value

pub loop-leaf-preserved : goal.loop-leaf-preserved
loop-leaf-preserved g c = record {
  same = so_far-more (λ (h : Held _). h.rows) (λ h. h.rows) c.loop-leaf.leaf-items c.deref_mut-leaf-items.result.now c.loop-leaf.leaf-index c.leaf-item.result c.make_prunable.new.self (omega arith) c.leaf-item.is (c.make_prunable.ensures.same ∙ ap (λ (h : Held _). h.rows) (sym c.leaf-item.is)) c.loop-leaf.invariant.same;
  prunable = so_far-more (own_pruned c.args.oldest) (λ h. pruned_rows c.args.oldest h.rows) c.loop-leaf.leaf-items c.deref_mut-leaf-items.result.now c.loop-leaf.leaf-index c.leaf-item.result c.make_prunable.new.self (omega arith) c.leaf-item.is (c.in_ok-make_prunable.ensures.ok ∙ ap (λ (h : Held _). pruned_rows c.args.oldest h.rows) (sym c.leaf-item.is)) c.loop-leaf.invariant.prunable;
}

pub returns-clause-ok : goal.returns-clause-ok
returns-clause-ok g c =
    let len : length c.loop-leaf.leaf-items ≡ length c.args.leaves.now.items = omega (arith, c.loop-leaf.auto.leaf-items, ap length c.deref_mut-leaf-items.ensures.value) in
    let past : length c.loop-leaf.leaf-items ≤ c.loop-leaf.leaf-index = omega (arith, c.loop-leaf-test.false, c.loop-leaf.auto.leaf-items) in
    ap (map (own_pruned c.args.oldest)) (whole-left c.args.leaves.now.len c.loop-leaf.leaf-items c.args.leaves.now.items len c.args.leaves.now.ok.0)
    ∙ so_far-end (own_pruned c.args.oldest) (λ h. pruned_rows c.args.oldest h.rows) c.loop-leaf.leaf-items c.deref_mut-leaf-items.result.now c.loop-leaf.leaf-index past c.loop-leaf.invariant.prunable
    ∙ ap (map (λ (h : Held _). pruned_rows c.args.oldest h.rows)) c.deref_mut-leaf-items.ensures.value
