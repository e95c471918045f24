use Rattle.std.proofs.Common.{◌≡◌, ap, ◌∙◌}
use Rattle.history.specs.Transactions.{Txn, is_owed}
use Rattle.transactions.specs.Ledger.{Ledger}
use Rattle.transactions.specs.Versions.{least_snapshot, lowest_of}
use Rattle.transactions.proofs.world.World.lowest.Goals as goal

pub returns : goal.returns
returns g c =
    let txns : c.as_slice.result.now ≡ c.args.self.now.txns = c.as_slice.ensures.value ∙ ap (λ (l : Ledger _). l.txns) c.self.view_is in
    c.least_owed.ensures ∙ ap (λ ts. least_snapshot (λ (t : Txn _). is_owed t.standing) c.self.inside.base.commits ts) txns
    ∙ ap (λ (l : Ledger _). lowest_of l.base.commits c.args.self.now.txns) c.self.view_is
