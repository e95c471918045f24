use Rattle.std.proofs.Common.{ap, ◌∙◌}
use Rattle.schema.specs.Plain.{put_all}
use Rattle.history.specs.Transactions.{Txn}
use Rattle.transactions.specs.Versions.{versions_at}
use Rattle.transactions.proofs.InstallLemmas.{shown_in_key_order}
use Rattle.transactions.proofs.transaction.Transaction.own.Goals as goal

pub returns-clause-ok : goal.returns-clause-ok
returns-clause-ok g c =
    c.of.ensures ∙ ap (put_all c.in_ok-own.own) c.in_ok-view.ensures.ok
    ∙ c.in_ok-own.ensures.ok.same (versions_at c.args.rows.now c.self.inside.snapshot) (shown_in_key_order c.self.inside.snapshot c.args.rows.now c.requires)
    ∙ ap (λ (t : Txn _). put_all t.changes (versions_at c.args.rows.now t.snapshot)) c.self.view_is
