use Rattle.std.proofs.Common.{ap, subst, sym, ◌∙◌, ◌≡◌, get_or}
use Rattle.history.specs.Transactions.{Txn}
use Rattle.history.specs.Events.{fails}
use Rattle.transactions.specs.Courses.{on_course}
use Rattle.transactions.specs.Ledger.{Ledger, IsCounted, kept, txn_at, world_on}
use Rattle.transactions.proofs.LedgerLemmas.{txn_at-is}
use Rattle.transactions.proofs.CommitLemmas.{after-run_refused}
use Rattle.transactions.proofs.world.World.refuse.Goals as goal

pub returns-clause-world : goal.returns-clause-world
returns-clause-world g c = λ d X tables q.
    let now : Ledger _ = c.args.self.now in
    let found : txn_at now.txns c.args.at ≡ c.index.result.now = txn_at-is now.txns c.args.at c.index.result.now c.requires.within (c.index.ensures ∙ ap (λ (l : Ledger _). get_or l.txns c.args.at c.index.result.now) c.self.view_is) in
    c.turn.ensures ∙ after-run_refused now d X tables q c.args.at c.refused_course-course.result c.args.refusal (subst IsCounted c.self.view_is c.self.invariant.0) c.requires.within c.requires.open
    (subst (λ (t : Txn _). on_course c.refused_course-course.result t ≡ kept (fails (world_on d X now) c.args.refusal t)) (sym found) c.refused_course-course.ensures)
