use Rattle.std.proofs.Common.{ap, subst, sym, ◌∙◌, ◌≡◌, get_or}
use Rattle.history.specs.Transactions.{Txn}
use Rattle.transactions.specs.Courses.{on_course}
use Rattle.transactions.specs.Ledger.{Ledger, IsCounted, kept, txn_at}
use Rattle.transactions.proofs.LedgerLemmas.{txn_at-is}
use Rattle.transactions.proofs.CommitLemmas.{after-exported, after-unexported}
use Rattle.transactions.proofs.world.World.export.Goals as goal

pub returns-then-must_wait-clause-world : goal.returns-then-must_wait-clause-world
returns-then-must_wait-clause-world g c = λ d X.
    let now : Ledger _ = c.args.self.now in
    let found : txn_at now.txns c.args.at ≡ c.index-transaction.result.now = txn_at-is now.txns c.args.at c.index-transaction.result.now c.requires.within (c.index-transaction.ensures ∙ ap (λ (l : Ledger _). get_or l.txns c.args.at c.index-transaction.result.now) c.self.view_is) in
    c.turn.ensures ∙ after-unexported now d X c.args.at c.course-course.result c.of_code-refusal.result (subst IsCounted c.self.view_is c.self.invariant.0) c.requires.within c.requires.open
    (subst (λ (t : Txn _). on_course c.course-course.result t ≡ kept t) (sym found) c.course-course.ensures.course)

pub returns-clause-world : goal.returns-clause-world
returns-clause-world g c = λ d X.
    let now : Ledger _ = c.args.self.now in
    let found : txn_at now.txns c.args.at ≡ c.index-transaction.result.now = txn_at-is now.txns c.args.at c.index-transaction.result.now c.requires.within (c.index-transaction.ensures ∙ ap (λ (l : Ledger _). get_or l.txns c.args.at c.index-transaction.result.now) c.self.view_is) in
    c.in_ok-turn_exporter.ensures.ok ∙ after-exported now d X c.args.at c.asks-course.result c.next_identifier-id.result c.exported-exported.result (subst IsCounted c.self.view_is c.self.invariant.0) c.requires.within c.requires.open
    (subst (λ (t : Txn _). on_course c.asks-course.result t ≡ kept (record t { asked = Rattle.std.proofs.Common.true })) (sym found) c.asks-course.ensures)
    (c.exported-exported.ensures ∙ ap (λ (t : Txn _). record { id = c.next_identifier-id.result; exporter = t.number; snapshot = t.snapshot; taken = t.taken; known = t.known }) (sym found))
