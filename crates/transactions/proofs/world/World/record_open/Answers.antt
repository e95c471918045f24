use Rattle.std.proofs.Common.{ap, subst, sym, ◌∙◌, ◌≡◌, get_or}
use Rattle.history.specs.Transactions.{Txn}
use Rattle.history.specs.declared.event.Action.TheVariants as action
use Rattle.transactions.specs.declared.answers.answered.Answered.{Answered}
use Rattle.transactions.specs.declared.statements.run.Ran.TheVariants as ran
use Rattle.transactions.specs.Answers.{both}
use Rattle.transactions.specs.Runs.{IsRan}
use Rattle.transactions.specs.Ledger.{Ledger, IsCounted, after_owned, txn_at, with_own, world_on}
use Rattle.transactions.specs.Versions.{versions_at}
use Rattle.transactions.proofs.LedgerLemmas.{txn_at-is}
use Rattle.transactions.proofs.RunLemmas.{after-added}
use Rattle.transactions.proofs.world.World.record_open.Goals as goal

pub ran_before-requires-clause-found : goal.ran_before-requires-clause-found
ran_before-requires-clause-found g c =
    let now : Ledger _ = c.args.self.now in
    let found : txn_at now.txns c.args.at ≡ c.index-transaction.result.now = txn_at-is now.txns c.args.at c.index-transaction.result.now c.requires.within (c.index-transaction.ensures ∙ ap (λ (l : Ledger _). get_or l.txns c.args.at c.index-transaction.result.now) c.self.view_is) in
    subst (λ (t : Txn _). Rattle.transactions.specs.Runs.IsFound c.args.versions.now.catalog.now (with_own (versions_at c.args.versions.now.rows.now) t) c.args.statement.now c.args.reply) found c.requires.found

pub returns-in-Refused-clause-ok : goal.returns-in-Refused-clause-ok
returns-in-Refused-clause-ok g c =
    let now : Ledger _ = c.args.self.now in
    let tables = versions_at c.args.versions.now.rows.now in
    let found : txn_at now.txns c.args.at ≡ c.index-transaction.result.now = txn_at-is now.txns c.args.at c.index-transaction.result.now c.requires.within (c.index-transaction.ensures ∙ ap (λ (l : Ledger _). get_or l.txns c.args.at c.index-transaction.result.now) c.self.view_is) in
    record {
      reply = λ X.
          let at_done = subst (λ r. IsRan (world_on c.args.versions.now.catalog.now X now) (with_own tables c.index-transaction.result.now) c.args.statement.now r) c.in-Refused.is (c.in_ok-refusal.ensures.ok X) in
          let h = subst (λ (t : Txn _). IsRan (world_on c.args.versions.now.catalog.now X now) (with_own tables t) c.args.statement.now (ran.Refused c.in-Refused.refusal)) (sym found) at_done in
          c.refuse.ensures.reply ∙ ap both (sym h);
      world = λ X.
          c.refuse.ensures.world c.args.versions.now.catalog.now X tables c.args.statement.now
          ∙ ap (λ r. after_owned (world_on c.args.versions.now.catalog.now X now) (action.Run c.args.statement.now) r (with_own tables (txn_at now.txns c.args.at))) (sym (ap (λ (y : Answered _). y.reply) c.refuse.ensures.reply));
      log = c.refuse.ensures.log;
    }

pub returns-in_ok-add-in-Done-clause-ok : goal.returns-in_ok-add-in-Done-clause-ok
returns-in_ok-add-in-Done-clause-ok g c =
    let now : Ledger _ = c.args.self.now in
    let tables = versions_at c.args.versions.now.rows.now in
    let added = c.in-Done.added in
    let done = ran.Done c.in-Done.reply c.in-Done.recorded added in
    let found : txn_at now.txns c.args.at ≡ c.index-transaction.result.now = txn_at-is now.txns c.args.at c.index-transaction.result.now c.requires.within (c.index-transaction.ensures ∙ ap (λ (l : Ledger _). get_or l.txns c.args.at c.index-transaction.result.now) c.self.view_is) in
    record {
      reply = λ X.
          let at_done = subst (λ r. IsRan (world_on c.args.versions.now.catalog.now X now) (with_own tables c.index-transaction.result.now) c.args.statement.now r) c.in-Done.is (c.in_ok-refusal.ensures.ok X) in
          let h = subst (λ (t : Txn _). IsRan (world_on c.args.versions.now.catalog.now X now) (with_own tables t) c.args.statement.now done) (sym found) at_done in
          rw h.1 (ap both (sym h.0));
      world = λ X.
          let at_done = subst (λ r. IsRan (world_on c.args.versions.now.catalog.now X now) (with_own tables c.index-transaction.result.now) c.args.statement.now r) c.in-Done.is (c.in_ok-refusal.ensures.ok X) in
          let h = subst (λ (t : Txn _). IsRan (world_on c.args.versions.now.catalog.now X now) (with_own tables t) c.args.statement.now done) (sym found) at_done in
          c.in_ok-add-in-Done.ensures.ok
          ∙ after-added now c.args.versions.now.catalog.now X tables c.args.statement.now c.args.at c.in-Done.reply added.reads.items added.changes.items added.marks.items
          (subst IsCounted c.self.view_is c.self.invariant.0) c.requires.within c.requires.open h.2 h.3.reads h.3.changes h.3.marks;
      log = ap (λ (l : Ledger _). l.base) c.in_ok-add-in-Done.ensures.ok;
    }
