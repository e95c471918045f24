use Rattle.std.proofs.Common.{◌≤◌, arith, ap, drop, length, subst, sym, ◌∙◌}
use Rattle.std.proofs.lemmas.List.{take_all}
use Rattle.mvrows.specs.Versions.{IsInOrder}
use Rattle.mvrows.specs.Replacing.{replaced, left}
use Rattle.mvrows.proofs.ReplacingLemmas.{key-more, left-more, order-stays}
use Rattle.mvrows.proofs.page.Page.replaced.Goals as goal

pub loop-chain-preserved : goal.loop-chain-preserved
loop-chain-preserved g c =
    let xs = drop c.args.place.now c.args.changes.now in
    let ys = drop c.loop-chain.place c.args.changes.now in
    let zs = drop c.key.new.place c.args.changes.now in
    let t = c.args.replacing.table in
    let ks = c.deref-chain-items.result.now in
    record {
      keys = key-more t c.args.replacing.number c.loop-chain.chain-index xs ys ks c.loop-chain.chains.items c.push.new.self.items c.chain-item.result c.in_ok-key.field-0 (omega arith) c.chain-item.is c.in_ok-push.ensures.items c.in_ok-key.ensures.key c.loop-chain.invariant.keys c.loop-chain.invariant.left;
      left = left-more t c.loop-chain.chain-index xs ys zs ks c.chain-item.result (omega arith) c.chain-item.is c.in_ok-key.ensures.place c.loop-chain.invariant.left;
    }

pub invariant_of-result : goal.invariant_of-result
invariant_of-result g c =
    let xs = drop c.args.place.now c.args.changes.now in
    let past : length c.deref-chain-items.result.now ≤ c.loop-chain.chain-index = omega (arith, c.loop-chain-test.false) in
    let all = c.loop-chain.invariant.keys ∙ ap (replaced c.args.replacing.table c.args.replacing.number xs) (take_all c.loop-chain.chain-index c.deref-chain-items.result.now past ∙ c.deref-chain-items.ensures.value) in
    subst IsInOrder (sym all) (order-stays c.args.replacing.table c.args.replacing.number xs c.self.inside.chains.items c.self.invariant)

pub returns-clause-page : goal.returns-clause-page
returns-clause-page g c =
    let past : length c.deref-chain-items.result.now ≤ c.loop-chain.chain-index = omega (arith, c.loop-chain-test.false) in
    c.loop-chain.invariant.keys ∙ ap (replaced c.args.replacing.table c.args.replacing.number (drop c.args.place.now c.args.changes.now)) (take_all c.loop-chain.chain-index c.deref-chain-items.result.now past ∙ c.deref-chain-items.ensures.value ∙ c.self.view_is)

pub returns-clause-place : goal.returns-clause-place
returns-clause-place g c =
    let past : length c.deref-chain-items.result.now ≤ c.loop-chain.chain-index = omega (arith, c.loop-chain-test.false) in
    c.loop-chain.invariant.left ∙ ap (left c.args.replacing.table (drop c.args.place.now c.args.changes.now)) (take_all c.loop-chain.chain-index c.deref-chain-items.result.now past ∙ c.deref-chain-items.ensures.value ∙ c.self.view_is)
