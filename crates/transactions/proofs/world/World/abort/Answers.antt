use Rattle.std.proofs.Common.{ap, subst, sym, ◌∙◌, ◌+◌, ◌≡◌, get_or}
use Rattle.history.specs.Transactions.{Aborted, Txn}
use Rattle.history.specs.Answer.{of_cause}
use Rattle.transactions.specs.Courses.{on_course}
use Rattle.transactions.specs.Ledger.{Ledger, IsCounted, kept, txn_at}
use Rattle.transactions.proofs.LedgerLemmas.{txn_at-is}
use Rattle.transactions.proofs.CommitLemmas.{after-refused}
use Rattle.transactions.proofs.world.World.abort.Goals as goal

pub returns-clause-world : goal.returns-clause-world
returns-clause-world g c = λ d X.
    let now : Ledger _ = c.args.self.now in
    let same_place = ap (λ (l : Ledger _). l.place) c.self.view_is in
    let found : txn_at now.txns c.args.at ≡ c.index.result.now = txn_at-is now.txns c.args.at c.index.result.now c.requires.within (c.index.ensures ∙ ap (λ (l : Ledger _). get_or l.txns c.args.at c.index.result.now) c.self.view_is) in
    c.turn.ensures ∙ after-refused now d X c.args.at c.ends-aborted.result (of_cause c.args.cause) (subst IsCounted c.self.view_is c.self.invariant.0) c.requires.within c.requires.open
    (subst (λ (t : Txn _). on_course c.ends-aborted.result t ≡ kept (record t { standing = Aborted; end = now.place + 1 })) (sym found)
    (c.ends-aborted.ensures.course ∙ ap (λ p. kept (record c.index.result.now { standing = Aborted; end = p + 1 })) same_place))
