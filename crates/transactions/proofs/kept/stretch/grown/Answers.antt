use Rattle.std.proofs.Common.{ap, subst, sym, ◌≡◌, ◌+◌, ◌<◌, ◌≤◌, length, arith}
use Rattle.history.specs.Transactions.{Txn}
use Rattle.transactions.specs.Stretches.{HoldsStretch, IsPast}
use Rattle.transactions.proofs.StretchLemmas.{held-more}
use Rattle.transactions.proofs.kept.stretch.grown.Goals as goal

pub loop-stretch-preserved : goal.loop-stretch-preserved
loop-stretch-preserved g c =
    let ts = c.args.transactions.now in
    let s = c.loop-stretch.stretch in
    let u = c.index-transactions-stretch.result in
    let m = c.max-newest.result in
    let commit : c.transaction.inside.commit ≡ u.commit = ap (λ (t : Txn _). t.commit) c.transaction.view_is in
    let snapshot : c.transaction.inside.snapshot ≡ u.snapshot = ap (λ (t : Txn _). t.snapshot) c.transaction.view_is in
    let above : u.commit ≤ m = omega (arith, c.max-newest.ensures, commit) in
    let over : u.snapshot ≤ m = omega (arith, c.max-newest.ensures, snapshot) in
    let past : IsPast c.args.snapshot (c.args.place + 1) u = c.is_past.ensures c.if-not-is_past.false in
    let within : s.to < length ts = omega (arith, c.loop-stretch-test.true, c.requires.limit) in
    subst (λ x. HoldsStretch x ts) (sym c.with-stretch.ensures) (held-more s ts c.args.snapshot c.args.place m u c.loop-stretch.invariant within c.index-transactions-stretch.is past above over)
