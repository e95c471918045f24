use Rattle.std.proofs.Common.{◌∙◌, take, ap, sym}
use Rattle.std.proofs.lemmas.Result.{IfErr-weaker, err_from_is_err_and}
use Rattle.value.proofs.Basics.{IfOk_then}
use Rattle.explore.proofs.SetupLemmas.{last_at, sets_up_at, unplanned_by_checkpoint, unplanned_by_line, unplanned_by_rest}
use Rattle.explore.proofs.setup.set_up_at.Goals as goal

pub returns-clause-sets_up : goal.returns-clause-sets_up
returns-clause-sets_up g c =
    IfOk_then c.setup_of.result c.setup_of.ensures.planned (λ s planned. sets_up_at c.args.place c.args.most_events c.args.core c.take_lines.new.core c.in_ok-next.next c.args.lines.items c.split_at.result.0.now c.in_ok-after.after.items s.plan s.turns.items
    (c.split_at.ensures.front ∙ ap (take c.args.place) c.as_slice.ensures.value) c.in_ok-after.ensures.tail c.in_ok-take_lines.ensures.taken c.in_ok-next.ensures.next planned)

pub returns-clause-last : goal.returns-clause-last
returns-clause-last g c = IfOk_then c.setup_of.result c.setup_of.ensures.last (λ s is. is ∙ sym (last_at c.args.place c.args.lines.items c.index.result.now c.requires c.index.ensures))

pub returns-in_err-take_lines-clause-none : goal.returns-in_err-take_lines-clause-none
returns-in_err-take_lines-clause-none g c =
    let p = err_from_is_err_and c.from_residual.result c.from_residual.ensures.1 in
    rw (p.1, p.2) (unplanned_by_line c.args.place c.args.most_events c.args.core c.args.lines.items c.split_at.result.0.now c.in_err-take_lines.field-0.0
    (c.split_at.ensures.front ∙ ap (take c.args.place) c.as_slice.ensures.value) c.in_err-take_lines.ensures.stopped)

pub returns-in_err-next-clause-none : goal.returns-in_err-next-clause-none
returns-in_err-next-clause-none g c =
    let p = err_from_is_err_and c.from_residual-in_err-next.result c.from_residual-in_err-next.ensures.1 in
    rw (p.1, p.2) (unplanned_by_checkpoint c.args.place c.args.most_events c.index.result.now.number c.args.core c.take_lines.new.core c.args.lines.items c.split_at.result.0.now c.in_err-next.field-0.0
    (c.split_at.ensures.front ∙ ap (take c.args.place) c.as_slice.ensures.value) (sym (last_at c.args.place c.args.lines.items c.index.result.now c.requires c.index.ensures)) c.in_ok-take_lines.ensures.taken c.in_err-next.ensures.refused)

pub returns-clause-none : goal.returns-clause-none
returns-clause-none g c =
    IfErr-weaker c.setup_of.result _ _
    (λ why lacks. unplanned_by_rest c.args.place c.args.most_events c.args.core c.take_lines.new.core c.args.lines.items c.split_at.result.0.now c.in_ok-after.after.items why
    (c.split_at.ensures.front ∙ ap (take c.args.place) c.as_slice.ensures.value) c.in_ok-after.ensures.tail c.in_ok-take_lines.ensures.taken lacks)
    c.setup_of.ensures.none
