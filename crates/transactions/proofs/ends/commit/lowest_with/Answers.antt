use Rattle.std.proofs.Common.{ap, ◌∙◌}
use Rattle.transactions.specs.Courses.{on_course}
use Rattle.transactions.specs.Ledger.{turned_at}
use Rattle.transactions.specs.Versions.{lowest_of}
use Rattle.transactions.proofs.LedgerLemmas.{length-turned_at, turned_at-again, turned_at-same}
use Rattle.transactions.proofs.StretchLemmas.{stretches-turned}
use Rattle.transactions.proofs.ends.commit.lowest_with.Goals as goal

pub turn-requires-2 : goal.turn-requires-2
turn-requires-2 g c = rw c.turn.ensures (rw length-turned_at c.requires.within)

pub returns-clause-least : goal.returns-clause-least
returns-clause-least g c = c.least_owed-least.ensures ∙ ap (lowest_of c.args.most) (c.as_slice.ensures.value ∙ c.turn.ensures)

pub returns-clause-same : goal.returns-clause-same
returns-clause-same g c =
    c.turn-2.ensures ∙ ap (turned_at c.args.at (on_course c.course-before.result)) c.turn.ensures
    ∙ turned_at-again (on_course c.args.course) (on_course c.course-before.result) c.args.transactions.now.items c.args.at
    ∙ turned_at-same c.course-before.result c.args.transactions.now.items c.args.at c.index.result.now c.requires.within c.index.ensures (c.course-before.ensures.course ∙ c.course-before.ensures.same)

pub least_owed-least-requires-clause-past : goal.least_owed-least-requires-clause-past
least_owed-least-requires-clause-past g c =
    rw (c.as_slice.ensures.value, c.turn.ensures, c.without.ensures) (stretches-turned c.args.past.now (on_course c.args.course) c.args.transactions.now.items c.args.at c.requires.past)
