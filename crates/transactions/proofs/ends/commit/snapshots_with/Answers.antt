use Rattle.std.proofs.Common.{◌∙◌, ◌≡◌, ap, subst, IfOk}
use Rattle.transactions.specs.Courses.{on_course}
use Rattle.transactions.specs.Ledger.{turned_at}
use Rattle.transactions.specs.Versions.{owed_snapshots}
use Rattle.transactions.proofs.LedgerLemmas.{length-turned_at, turned_at-again, turned_at-same}
use Rattle.transactions.proofs.StretchLemmas.{stretches-turned}
use Rattle.transactions.proofs.ends.commit.snapshots_with.Goals as goal

pub turn-requires-2 : goal.turn-requires-2
turn-requires-2 g c = rw c.turn.ensures (rw length-turned_at c.requires.within)

pub returns-clause-same : goal.returns-clause-same
returns-clause-same g c =
    c.turn-2.ensures ∙ ap (turned_at c.args.at (on_course c.course-before.result)) c.turn.ensures
    ∙ turned_at-again (on_course c.args.course) (on_course c.course-before.result) c.args.transactions.now.items c.args.at
    ∙ turned_at-same c.course-before.result c.args.transactions.now.items c.args.at c.index.result.now c.requires.within c.index.ensures (c.course-before.ensures.course ∙ c.course-before.ensures.same)

pub owed_snapshots-snapshots-requires : goal.owed_snapshots-snapshots-requires
owed_snapshots-snapshots-requires g c =
    rw (c.as_slice.ensures.value, c.turn.ensures, c.without.ensures) (stretches-turned c.args.past.now (on_course c.args.course) c.args.transactions.now.items c.args.at c.requires.past)

pub returns-clause-ok : goal.returns-clause-ok
returns-clause-ok g c =
    subst (λ us. IfOk c.owed_snapshots-snapshots.result (λ snapshots. snapshots.items ≡ owed_snapshots us)) (c.as_slice.ensures.value ∙ c.turn.ensures) c.owed_snapshots-snapshots.ensures.ok
