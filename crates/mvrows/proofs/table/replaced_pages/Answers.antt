use Rattle.std.proofs.Common.{◌≤◌, arith, ap, drop, length, subst, sym, ◌∙◌}
use Rattle.std.proofs.lemmas.List.{take_all}
use Rattle.mvrows.specs.Versions.{IsInOrder}
use Rattle.mvrows.specs.Replacing.{replaced, left}
use Rattle.mvrows.specs.HeldRows.{rows_in}
use Rattle.mvrows.proofs.ReplacingLemmas.{page-more, page-left, page-filled, order-stays}
use Rattle.mvrows.proofs.table.replaced_pages.Goals as goal

pub loop-leaf-preserved : goal.loop-leaf-preserved
loop-leaf-preserved g c =
    let xs = drop c.args.place.now c.args.changes.now in
    let ys = drop c.loop-leaf.place c.args.changes.now in
    let zs = drop c.replaced_page.new.place c.args.changes.now in
    let t = c.args.replacing.table in
    let n = c.args.replacing.number in
    record {
      rows = page-more t n c.loop-leaf.leaf-index xs ys c.args.leaves.now c.loop-leaf.made.items c.push.new.self.items c.leaf-item.result c.in_ok-replaced_page.field-0 (omega arith) c.leaf-item.is c.in_ok-push.ensures.items c.in_ok-replaced_page.ensures.page c.loop-leaf.invariant.rows c.loop-leaf.invariant.left;
      keys = page-filled t n c.loop-leaf.leaf-index ys c.args.leaves.now c.loop-leaf.made.items c.push.new.self.items c.leaf-item.result c.in_ok-replaced_page.field-0 (omega arith) c.leaf-item.is c.in_ok-push.ensures.items c.in_ok-replaced_page.ensures.page c.requires.1 c.loop-leaf.invariant.keys;
      left = page-left t c.loop-leaf.leaf-index xs ys zs c.args.leaves.now c.leaf-item.result (omega arith) c.leaf-item.is c.in_ok-replaced_page.ensures.place c.loop-leaf.invariant.left;
    }

pub returns-clause-laid_out : goal.returns-clause-laid_out
returns-clause-laid_out g c =
    let past : length c.args.leaves.now ≤ c.loop-leaf.leaf-index = omega (arith, c.loop-leaf-test.false) in
    let all = c.loop-leaf.invariant.rows ∙ ap (λ ls. replaced c.args.replacing.table c.args.replacing.number (drop c.args.place.now c.args.changes.now) (rows_in ls)) (take_all c.loop-leaf.leaf-index c.args.leaves.now past) in
    (subst IsInOrder (sym all) (order-stays c.args.replacing.table c.args.replacing.number (drop c.args.place.now c.args.changes.now) (rows_in c.args.leaves.now) c.requires.0), c.loop-leaf.invariant.keys)

pub returns-clause-rows : goal.returns-clause-rows
returns-clause-rows g c =
    let past : length c.args.leaves.now ≤ c.loop-leaf.leaf-index = omega (arith, c.loop-leaf-test.false) in
    c.loop-leaf.invariant.rows ∙ ap (λ ls. replaced c.args.replacing.table c.args.replacing.number (drop c.args.place.now c.args.changes.now) (rows_in ls)) (take_all c.loop-leaf.leaf-index c.args.leaves.now past)

pub returns-clause-place : goal.returns-clause-place
returns-clause-place g c =
    let past : length c.args.leaves.now ≤ c.loop-leaf.leaf-index = omega (arith, c.loop-leaf-test.false) in
    c.loop-leaf.invariant.left ∙ ap (λ ls. left c.args.replacing.table (drop c.args.place.now c.args.changes.now) (rows_in ls)) (take_all c.loop-leaf.leaf-index c.args.leaves.now past)
