use Rattle.std.proofs.Common.{ap, subst, sym, ◌∙◌, ◌≡◌, get_or, true, false, []}
use Rattle.std.specs.Result.{IfOk}
use Rattle.statement.specs.Evaluation.{outcome}
use Rattle.statement.specs.declared.reply.Reply.TheVariants as reply
use Rattle.history.specs.Transactions.{Txn, is_read_write, must_wait}
use Rattle.transactions.specs.Ledger.{Ledger, txn_at, with_own, world_on}
use Rattle.transactions.specs.Runs.{IsWeighed}
use Rattle.transactions.specs.Versions.{versions_at}
use Rattle.transactions.proofs.CommitLemmas.{if_ok_map}
use Rattle.transactions.proofs.LedgerLemmas.{txn_at-is}
use Rattle.transactions.proofs.RunLemmas.{ran_from, run_bars, run_waits}
use Rattle.transactions.proofs.world.World.ran.Goals as goal

pub returns-then-must_wait-clause-ok : goal.returns-then-must_wait-clause-ok
returns-then-must_wait-clause-ok g c = λ X.
    let now : Ledger _ = c.args.self.now in
    let found : txn_at now.txns c.args.at ≡ c.index-transaction.result.now = txn_at-is now.txns c.args.at c.index-transaction.result.now c.requires.within (c.index-transaction.ensures ∙ ap (λ (l : Ledger _). get_or l.txns c.args.at c.index-transaction.result.now) c.self.view_is) in
    run_waits (world_on c.args.catalog.now X now) (versions_at c.args.rows.now) (txn_at now.txns c.args.at) c.args.statement.now (ap must_wait found ∙ sym c.must_wait.ensures ∙ c.if-must_wait.true)
    ∙ ap reply.Refused (sym c.of_code.ensures)

pub returns-then-may_not_write-clause-ok : goal.returns-then-may_not_write-clause-ok
returns-then-may_not_write-clause-ok g c = λ X.
    let now : Ledger _ = c.args.self.now in
    let found : txn_at now.txns c.args.at ≡ c.index-transaction.result.now = txn_at-is now.txns c.args.at c.index-transaction.result.now c.requires.within (c.index-transaction.ensures ∙ ap (λ (l : Ledger _). get_or l.txns c.args.at c.index-transaction.result.now) c.self.view_is) in
    run_bars (world_on c.args.catalog.now X now) (versions_at c.args.rows.now) c.index-transaction.result.now (txn_at now.txns c.args.at) c.args.statement.now found (sym c.must_wait.ensures ∙ c.if-must_wait.false) (sym c.may_not_write.ensures ∙ c.if-may_not_write.true)
    ∙ ap reply.Refused (sym c.of_code-then-may_not_write.ensures)

pub returns-clause-ok : goal.returns-clause-ok
returns-clause-ok g c =
    let now : Ledger _ = c.args.self.now in
    let same : c.evaluate_at.new.transactions.items ≡ now.txns = c.evaluate_at.ensures.same ∙ ap (λ (l : Ledger _). l.txns) c.self.view_is in
    let found : c.index-transaction.result.now ≡ txn_at now.txns c.args.at = sym (txn_at-is now.txns c.args.at c.index-transaction.result.now c.requires.within (c.index-transaction.ensures ∙ ap (λ (l : Ledger _). get_or l.txns c.args.at c.index-transaction.result.now) c.self.view_is)) in
    let again : c.index.result.now ≡ txn_at now.txns c.args.at = sym (txn_at-is now.txns c.args.at c.index.result.now c.requires.within (c.index.ensures ∙ ap (λ ts. get_or ts c.args.at c.index.result.now) same)) in
    let weighed = subst (λ ts. IfOk c.weigh.result (IsWeighed (world_on c.args.catalog.now [] (record now { txns = ts })) c.index.result.now c.args.statement.now c.in_ok-outcome.outcome)) same c.weigh.ensures.ok in
    if_ok_map _ _ c.weigh.result
    (λ r h X. ran_from now c.args.catalog.now X (versions_at c.args.rows.now) (txn_at now.txns c.args.at) c.args.statement.now c.in_ok-outcome.outcome
    (ap must_wait (sym found) ∙ sym c.must_wait.ensures ∙ c.if-must_wait.false)
    (ap (λ (t : Txn _). Rattle.std.proofs.Common.◌&&◌ (Rattle.statement.specs.Evaluation.writes c.args.statement.now) (Rattle.std.proofs.Common.not (is_read_write t.mode))) (sym found) ∙ sym c.may_not_write.ensures ∙ c.if-may_not_write.false)
    (c.in_ok-outcome.ensures.ok ∙ ap (λ ts. outcome c.args.catalog.now c.args.statement.now (with_own (versions_at c.args.rows.now) (txn_at ts c.args.at)).own) (ap (λ (l : Ledger _). l.txns) c.self.view_is)) r
    (subst (λ (t : Txn _). IsWeighed (world_on c.args.catalog.now [] now) t c.args.statement.now c.in_ok-outcome.outcome r) again h))
    weighed
