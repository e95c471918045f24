use Rattle.std.proofs.Common.{ap, subst, sym, ◌∙◌, List}
use Rattle.value.specs.Isolation.{first_cause}
use Rattle.history.specs.Transactions.{Txn, edge, node}
use Rattle.transactions.specs.Courses.{on_course}
use Rattle.transactions.specs.Ledger.{turned_at, txn_at}
use Rattle.transactions.specs.Structures.{StructuresHold}
use Rattle.transactions.proofs.LedgerLemmas.{length-turned_at, turned_at-again, turned_at-same}
use Rattle.transactions.proofs.StretchLemmas.{at-turned, stretches-turned}
use Rattle.transactions.proofs.ends.commit.try_course.Goals as goal

pub cause_of_all-cause-requires-clause-past : goal.cause_of_all-cause-requires-clause-past
cause_of_all-cause-requires-clause-past g c =
    rw (c.as_slice.ensures.value, c.turn.ensures, c.without.ensures) (stretches-turned c.args.past.now (on_course c.args.course) c.args.transactions.now.items c.args.at c.requires.past)

pub cause_of_all-cause-requires-clause-within : goal.cause_of_all-cause-requires-clause-within
cause_of_all-cause-requires-clause-within g c = rw (c.as_slice.ensures.value, c.turn.ensures, length-turned_at) c.requires.within

pub cause_of_all-cause-requires-clause-committer : goal.cause_of_all-cause-requires-clause-committer
cause_of_all-cause-requires-clause-committer g c =
    let ts = c.args.transactions.now.items in
    let turn = on_course c.args.course in
    subst (λ (us : List (Txn _)). StructuresHold node edge (txn_at us c.args.at) us) (sym (c.as_slice.ensures.value ∙ c.turn.ensures))
    (subst (λ (y : Txn _). StructuresHold node edge y (turned_at c.args.at turn ts)) (sym (at-turned turn ts c.args.at c.requires.within)) c.requires.committer)

pub turn-requires-2 : goal.turn-requires-2
turn-requires-2 g c = rw c.turn.ensures (rw length-turned_at c.requires.within)

pub returns-clause-cause : goal.returns-clause-cause
returns-clause-cause g c = c.cause_of_all-cause.ensures ∙ ap (first_cause node edge) (c.as_slice.ensures.value ∙ c.turn.ensures)

pub returns-clause-same : goal.returns-clause-same
returns-clause-same g c =
    c.turn-2.ensures ∙ ap (turned_at c.args.at (on_course c.course-before.result)) c.turn.ensures
    ∙ turned_at-again (on_course c.args.course) (on_course c.course-before.result) c.args.transactions.now.items c.args.at
    ∙ turned_at-same c.course-before.result c.args.transactions.now.items c.args.at c.index.result.now c.requires.within c.index.ensures (c.course-before.ensures.course ∙ c.course-before.ensures.same)
