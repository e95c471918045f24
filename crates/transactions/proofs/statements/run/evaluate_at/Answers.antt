use Rattle.std.proofs.Common.{ap, sym, subst, ◌∙◌, ◌≡◌}
use Rattle.std.proofs.Math.ListN.{set}
use Rattle.std.proofs.lemmas.List.{set-get_or}
use Rattle.statement.specs.Evaluation.{outcome}
use Rattle.history.specs.Transactions.{Txn}
use Rattle.transactions.specs.Ledger.{txn_at, with_own}
use Rattle.transactions.specs.Runs.{HoldsOwn}
use Rattle.transactions.specs.Versions.{versions_at}
use Rattle.transactions.proofs.CommitLemmas.{if_ok_map}
use Rattle.transactions.proofs.LedgerLemmas.{txn_at-is}
use Rattle.transactions.proofs.statements.run.evaluate_at.Goals as goal

pub evaluate-requires-clause-held : goal.evaluate-requires-clause-held
evaluate-requires-clause-held g c =
    let found : txn_at c.args.transactions.now.items c.args.at ≡ c.index_mut.result.now = txn_at-is c.args.transactions.now.items c.args.at c.index_mut.result.now c.requires.within c.index_mut.ensures.value in
    subst (HoldsOwn c.args.catalog.now (versions_at c.args.rows.now)) found c.requires.held

pub returns-clause-ok : goal.returns-clause-ok
returns-clause-ok g c =
    let found : txn_at c.args.transactions.now.items c.args.at ≡ c.index_mut.result.now = txn_at-is c.args.transactions.now.items c.args.at c.index_mut.result.now c.requires.within c.index_mut.ensures.value in
    if_ok_map _ _ c.evaluate.result (λ o e. e ∙ ap (λ (t : Txn _). outcome c.args.catalog.now c.args.statement.now (with_own (versions_at c.args.rows.now) t).own) (sym found)) c.evaluate.ensures.ok

pub returns-clause-same : goal.returns-clause-same
returns-clause-same g c = ap (set c.args.transactions.now.items c.args.at) (c.evaluate.ensures.same ∙ c.index_mut.ensures.value) ∙ set-get_or c.args.transactions.now.items c.args.at c.index_mut.result.now
