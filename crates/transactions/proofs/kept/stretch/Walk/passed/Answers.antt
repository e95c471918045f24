use Rattle.std.proofs.Common.{◌≤◌, arith, slice_index_or}
use Rattle.value.proofs.Basics.{all-at}
use Rattle.transactions.specs.Stretches.{HoldsStretch, none_at}
use Rattle.transactions.proofs.StretchLemmas.{passed-here}
use Rattle.transactions.proofs.kept.stretch.Walk.passed.Goals as goal

pub returns-then-may_pass-clause-passed : goal.returns-then-may_pass-clause-passed
returns-then-may_pass-clause-passed g c =
    let ts = c.args.transactions.now in
    let s = slice_index_or c.args.past.now c.loop-self.self.next (none_at 0) in
    let h = c.may_pass.ensures c.if-may_pass.true in
    let behind : c.args.self.now.at ≤ s.from = omega (arith, h.0, c.loop-self.invariant) in
    passed-here s ts c.args.snapshot c.args.place c.args.self.now.at (all-at (λ x. HoldsStretch x ts) c.args.past.now c.loop-self.self.next (none_at 0) (omega (arith, c.loop-self-test.true)) c.requires.held) behind h.1 h.2 h.3
