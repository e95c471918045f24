use Rattle.std.proofs.Common.{◌<◌, ◌-◌, arith, length}
use Rattle.value.proofs.Basics.{all-get, all-set}
use Rattle.transactions.specs.Stretches.{HoldsStretch}
use Rattle.transactions.proofs.kept.stretch.grow_last.Goals as goal

pub grown-requires-clause-held : goal.grown-requires-clause-held
grown-requires-clause-held g c =
    let lt : c.len-count.result - 1 < length c.args.past.now.items = omega (arith, c.len-count.ensures, c.if-count-gt0.true) in
    all-get (λ x. HoldsStretch x c.args.transactions.now) c.args.past.now.items (c.len-count.result - 1) c.index-last.result.now lt c.index-last.ensures c.requires

pub returns-then-count-gt0 : goal.returns-then-count-gt0
returns-then-count-gt0 g c = all-set (λ x. HoldsStretch x c.args.transactions.now) c.args.past.now.items (c.len-count.result - 1) c.grown.result c.grown.ensures c.requires
