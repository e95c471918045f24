use Rattle.std.proofs.Common.{◌<◌, arith, length}
use Rattle.value.proofs.Basics.{all-at}
use Rattle.transactions.specs.Stretches.{HoldsStretch, none_at}
use Rattle.transactions.proofs.StretchLemmas.{ends-more}
use Rattle.transactions.proofs.kept.stretch.end_of.Goals as goal

pub loop-stretch-preserved : goal.loop-stretch-preserved
loop-stretch-preserved g c =
    let ss = c.args.past.now in
    let i = c.loop-stretch.stretch-index in
    let lt : i < length ss = omega (arith, c.loop-stretch-test.true) in
    let held = all-at (λ x. HoldsStretch x c.args.transactions.now) ss i (none_at 0) lt c.requires in
    (omega (arith, c.max-end.ensures, held.within, c.loop-stretch.invariant.0), ends-more ss i c.loop-stretch.end c.max-end.result (none_at 0) lt c.loop-stretch.invariant.1 c.max-end.ensures)
