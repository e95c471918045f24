use Rattle.std.proofs.Common.{◌<◌, ◌-◌, arith, length, set, subst, sym}
use Rattle.std.specs.List.{AllByRecursion}
use Rattle.value.proofs.Basics.{all-get, all-set}
use Rattle.transactions.specs.Stretches.{HoldsStretch}
use Rattle.transactions.proofs.StretchLemmas.{all-take, held-joined}
use Rattle.transactions.proofs.kept.stretch.join_last.Goals as goal

pub grown-before-requires-clause-held : goal.grown-before-requires-clause-held
grown-before-requires-clause-held g c =
    let lt : c.len-count.result - 2 < length c.args.past.now.items = omega (arith, c.len-count.ensures, c.if-count-gt1.true) in
    all-get (λ x. HoldsStretch x c.args.transactions.now) c.args.past.now.items (c.len-count.result - 2) c.index.result.now lt c.index.ensures c.requires

pub grown-before-requires-clause-limit : goal.grown-before-requires-clause-limit
grown-before-requires-clause-limit g c =
    let lt : c.len-count.result - 1 < length c.args.past.now.items = omega (arith, c.len-count.ensures, c.if-count-gt1.true) in
    let held = all-get (λ x. HoldsStretch x c.args.transactions.now) c.args.past.now.items (c.len-count.result - 1) c.index-last.result.now lt c.index-last.ensures c.requires in
    omega (arith, held.order, held.within)

pub returns-then-before-last : goal.returns-then-before-last
returns-then-before-last g c =
    let ts = c.args.transactions.now in
    let items = c.args.past.now.items in
    let lt : c.len-count.result - 1 < length items = omega (arith, c.len-count.ensures, c.if-count-gt1.true) in
    let last = all-get (λ x. HoldsStretch x ts) items (c.len-count.result - 1) c.index-last.result.now lt c.index-last.ensures c.requires in
    let one = subst (λ x. HoldsStretch x ts) (sym c.joined.ensures) (held-joined c.grown-before.result c.index-last.result.now ts c.grown-before.ensures last c.if-before-last.true) in
    subst (AllByRecursion (λ x. HoldsStretch x ts)) (sym c.truncate.ensures.items)
    (all-take (λ x. HoldsStretch x ts) (c.len-count.result - 1) (set items (c.len-count.result - 2) c.joined.result) (all-set (λ x. HoldsStretch x ts) items (c.len-count.result - 2) c.joined.result one c.requires))
