use Rattle.std.proofs.Common.{ap, get_or, refl, subst, sym, ◌∙◌}
use Rattle.std.proofs.lemmas.List.{get_or_default}
use Rattle.explore.specs.Cursors.{AreCursors}
use Rattle.explore.specs.Explored.{after_turn}
use Rattle.explore.specs.Prepared.{ArePrepared}
use Rattle.explore.specs.Replies.{AreReplies}
use Rattle.explore.proofs.TrailLemmas.{told_before, turn_done}
use Rattle.explore.proofs.plan.Plan.do_next.Goals as goal

pub do_turn-requires-clause-prepared : goal.do_turn-requires-clause-prepared
do_turn-requires-clause-prepared g c =
    subst (λ ls. ArePrepared c.args.run.now.core.opening.catalog ls c.events.result.now) (sym c.lines.ensures)
    (subst (λ k. ArePrepared k c.args.self.now.lines c.events.result.now) (sym c.requires.saved.catalog) c.events.ensures)

pub do_turn-requires-clause-before : goal.do_turn-requires-clause-before
do_turn-requires-clause-before g c = subst (λ ls. AreCursors ls c.args.run.now.core.records c.args.run.now.cursors) (sym c.lines.ensures) c.requires.saved.cursors

pub tell_from-requires : goal.tell_from-requires
tell_from-requires g c =
    told_before c.lines.result.now c.args.run.now.core c.do_turn.new.core _ c.events_in-before.result c.records-records.result.now c.args.run.now.told c.in_ok-do_turn.ensures.done c.events_in-before.ensures (c.records-records.ensures ∙ ap (λ h. h.records) c.history.ensures) c.requires.saved.told

pub returns-clause-saved : goal.returns-clause-saved
returns-clause-saved g c =
    let turns = c.args.run.now.turns in
    let place = get_or c.args.order.now turns 0 in
    turn_done c.args.self.now c.args.order.now c.args.run.now _ place c.requires.saved c.requires.more (get_or_default c.args.order.now turns 0 place c.requires.more)
    (c.in_ok-do_turn.ensures.done ∙ ap (λ ls. after_turn ls c.args.run.now.core place) c.lines.ensures)
    (subst (λ ls. AreCursors ls c.do_turn.new.core.records c.do_turn.new.cursors) c.lines.ensures c.in_ok-do_turn.ensures.after)
    c.in_ok-do_turn.ensures.few c.in_ok-do_turn.ensures.most refl
    (subst (λ es. AreReplies es c.tell_from.new.self) (c.records-records.ensures ∙ ap (λ h. h.records) c.history.ensures) c.in_ok-tell_from.ensures)
