use Rattle.std.proofs.Common.{◌≡◌, ◌∙◌, ◌+◌, ◌++◌, ◌∷◌, [], ap, drop, sym, arith}
use Rattle.transactions.specs.Versions.{owed_snapshots}
use Rattle.history.specs.Transactions.{Txn, is_owed}
use Rattle.transactions.proofs.OwedLemmas.{owed-passed, owed-pushed}
use Rattle.transactions.proofs.ends.owed.push_owed.Goals as goal
use Rattle.transactions.proofs.ends.owed.push_owed.Goals.{then-is_owed+in_ok-push, else-is_owed}

pub loop-transaction-preserved : goal.loop-transaction-preserved
loop-transaction-preserved g c =
    let ts = c.args.transactions.now in
    let i = c.loop-transaction.transaction-index in
    let t = c.transaction-item.result in
    let made = c.loop-transaction.snapshots.items in
    let same : c.transaction.inside.snapshot ≡ t.snapshot = ap (λ (y : Txn _). y.snapshot) c.transaction.view_is in
    let owed : c.is_owed.result ≡ is_owed t.standing = c.is_owed.ensures ∙ ap (λ (y : Txn _). is_owed y.standing) c.transaction.view_is in
    elim c.if-is_owed.branch [
      | then-is_owed+in_ok-push w ↦
          owed-pushed ts i t made c.if-is_owed.snapshots.items _ (omega arith) c.transaction-item.is (sym owed ∙ w.if-is_owed.true)
          (ap (λ v. v.items) w.snapshots-is ∙ w.in_ok-push.ensures.items ∙ ap (λ s. made ++ s ∷ []) same) c.loop-transaction.invariant
      | else-is_owed w ↦
          ap (λ v. v.items ++ owed_snapshots (drop (i + 1) ts)) w.snapshots-is
          ∙ owed-passed ts i t made _ (omega arith) c.transaction-item.is (sym owed ∙ w.if-is_owed.false) c.loop-transaction.invariant
    ]
