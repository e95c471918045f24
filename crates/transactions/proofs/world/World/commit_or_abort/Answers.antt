use Rattle.std.proofs.Common.{subst, sym, ◌≡◌}
use Rattle.history.specs.Events.{numbered}
use Rattle.transactions.specs.Courses.{on_course}
use Rattle.transactions.specs.Ledger.{Ledger, txn_at, world_on}
use Rattle.transactions.specs.Versions.{AreCurrent}
use Rattle.transactions.proofs.world.World.commit_or_abort.Goals as goal

pub commit_at-requires-clause-course : goal.commit_at-requires-clause-course
commit_at-requires-clause-course g c = λ d X.
    subst (λ (l : Ledger _). on_course c.committed-committed.result (txn_at l.txns c.args.at) ≡ numbered (world_on d X l) (txn_at l.txns c.args.at)) (sym c.cause_of_commit-cause.ensures.same) (c.committed-committed.ensures.course d X)

pub commit_at-requires-clause-current : goal.commit_at-requires-clause-current
commit_at-requires-clause-current g c = subst (λ (l : Ledger _). AreCurrent l c.args.rows.now) (sym c.cause_of_commit-cause.ensures.same) c.requires.current
