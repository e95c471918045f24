use Rattle.std.proofs.Common.{sym, subst}
use Rattle.std.proofs.lemmas.Result.{on_ok_weaker}
use Rattle.transactions.specs.Merged.{AreMerged}
use Rattle.transactions.proofs.InstallLemmas.{installs}
use Rattle.transactions.proofs.ends.commit.Installing.install.Goals as goal

pub returns-then-is_merged-clause-ok : goal.returns-then-is_merged-clause-ok
returns-then-is_merged-clause-ok g c =
    let merged = subst (λ ys. AreMerged ys c.args.changes.now) (sym c.as_slice.ensures) (c.is_merged.ensures c.if-is_merged.true) in
    on_ok_weaker c.install.result
    (λ e. installs (record { oldest = c.args.self.now.oldest; snapshots = c.args.self.now.snapshots.now }) c.args.self.now.number c.as_slice.result.now c.args.changes.now c.args.rows.now c.install.new.self merged e c.requires.order c.requires.below)
    c.install.ensures.ok

pub returns-clause-ok : goal.returns-clause-ok
returns-clause-ok g c =
    let merged = subst (λ ys. AreMerged ys c.args.changes.now) (sym c.as_slice-2.ensures.value) c.in_ok-last.ensures.ok in
    on_ok_weaker c.install-2.result
    (λ e. installs (record { oldest = c.args.self.now.oldest; snapshots = c.args.self.now.snapshots.now }) c.args.self.now.number c.as_slice-2.result.now c.args.changes.now c.args.rows.now c.install-2.new.self merged e c.requires.order c.requires.below)
    c.install-2.ensures.ok
