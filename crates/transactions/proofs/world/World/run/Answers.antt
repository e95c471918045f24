use Rattle.std.proofs.Common.{ap, subst, sym, ◌∙◌, ◌+◌}
use Rattle.statement.specs.declared.reply.Reply.TheVariants as reply
use Rattle.history.specs.declared.event.Action.TheVariants as action
use Rattle.transactions.specs.declared.answers.answered.Answered.{Answered}
use Rattle.transactions.specs.Answers.{both}
use Rattle.transactions.specs.Runs.{IsRan, adds}
use Rattle.transactions.specs.Ledger.{Ledger, IsCounted, after_owned, turned_at, txn_at, with_own, world_on}
use Rattle.transactions.specs.Versions.{versions_at}
use Rattle.transactions.proofs.RunLemmas.{after-added}
use Rattle.transactions.proofs.world.World.run.Goals as goal

pub returns-in-Refused-clause-ok : goal.returns-in-Refused-clause-ok
returns-in-Refused-clause-ok g c =
    let now : Ledger _ = c.args.self.now in
    let tables = versions_at c.args.rows.now in
    record {
      reply = λ X.
          let h = subst (λ r. IsRan (world_on c.args.catalog.now X now) (with_own tables (txn_at now.txns c.args.at)) c.args.statement.now r) c.in-Refused.is (c.in_ok-refusal.ensures.ok X) in
          c.refuse.ensures.reply ∙ ap both (sym h);
      world = λ X.
          c.refuse.ensures.world c.args.catalog.now X tables c.args.statement.now
          ∙ ap (λ (l : Ledger _). after_owned (world_on c.args.catalog.now X l) (action.Run c.args.statement.now) (reply.Refused c.in-Refused.refusal) (with_own tables (txn_at l.txns c.args.at))) c.ran.ensures.same
          ∙ ap (λ r. after_owned (world_on c.args.catalog.now X now) (action.Run c.args.statement.now) r (with_own tables (txn_at now.txns c.args.at))) (sym (ap (λ (y : Answered _). y.reply) c.refuse.ensures.reply));
      log = c.refuse.ensures.log ∙ ap (λ (l : Ledger _). l.base) c.ran.ensures.same;
    }

pub returns-in_ok-add-in-Done-clause-ok : goal.returns-in_ok-add-in-Done-clause-ok
returns-in_ok-add-in-Done-clause-ok g c =
    let now : Ledger _ = c.args.self.now in
    let tables = versions_at c.args.rows.now in
    let added = c.in-Done.added in
    record {
      reply = λ X.
          let h = subst (λ r. IsRan (world_on c.args.catalog.now X now) (with_own tables (txn_at now.txns c.args.at)) c.args.statement.now r) c.in-Done.is (c.in_ok-refusal.ensures.ok X) in
          rw h.1 (ap both (sym h.0));
      world = λ X.
          let h = subst (λ r. IsRan (world_on c.args.catalog.now X now) (with_own tables (txn_at now.txns c.args.at)) c.args.statement.now r) c.in-Done.is (c.in_ok-refusal.ensures.ok X) in
          c.in_ok-add-in-Done.ensures.ok
          ∙ ap (λ (l : Ledger _). record l { txns = turned_at c.args.at (adds added.reads.items added.changes.items added.marks.items) l.txns; place = l.place + 1 }) c.ran.ensures.same
          ∙ after-added now c.args.catalog.now X tables c.args.statement.now c.args.at c.in-Done.reply added.reads.items added.changes.items added.marks.items
          (subst IsCounted c.self.view_is c.self.invariant.0) c.requires.within c.requires.open h.2 h.3.reads h.3.changes h.3.marks;
      log = ap (λ (l : Ledger _). l.base) c.in_ok-add-in-Done.ensures.ok ∙ ap (λ (l : Ledger _). l.base) c.ran.ensures.same;
    }
