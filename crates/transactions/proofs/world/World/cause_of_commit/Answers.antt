use Rattle.std.proofs.Common.{ap, sym, subst, [], ◌∙◌}
use Rattle.value.specs.Isolation.{first_cause}
use Rattle.history.specs.Transactions.{edge, node}
use Rattle.transactions.specs.Courses.{on_course}
use Rattle.transactions.specs.Ledger.{Ledger, IsCounted, turned_at, txn_at}
use Rattle.transactions.specs.Structures.{StructuresHold}
use Rattle.transactions.proofs.CommitLemmas.{cause_of-is, holds-committing}
use Rattle.transactions.proofs.world.World.cause_of_commit.Goals as goal

pub try_course-requires-clause-committer : goal.try_course-requires-clause-committer
try_course-requires-clause-committer g c =
    subst (λ (l : Ledger _). StructuresHold node edge (on_course c.args.committed (txn_at l.txns c.args.at)) (turned_at c.args.at (on_course c.args.committed) l.txns)) (sym c.self.view_is)
    (holds-committing c.args.self.now [] [] c.args.at c.args.committed (subst IsCounted c.self.view_is c.self.invariant.0) c.requires.within (c.requires.course [] []) (c.requires.committer [] []))

pub returns-clause-cause : goal.returns-clause-cause
returns-clause-cause g c = λ d X.
    c.try_course.ensures.cause ∙ ap (λ (l : Ledger _). first_cause node edge (turned_at c.args.at (on_course c.args.committed) l.txns)) c.self.view_is
    ∙ cause_of-is c.args.self.now d X c.args.at c.args.committed (subst IsCounted c.self.view_is c.self.invariant.0) c.requires.within (c.requires.course d X)
