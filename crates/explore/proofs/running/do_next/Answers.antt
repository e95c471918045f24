use Rattle.std.proofs.Common.{◌≡◌, ◌∙◌, Some, ap, get_or}
use Rattle.explore.specs.Explored.{done}
use Rattle.explore.proofs.CursorLemmas.{done_none, done_one, next_cursor}
use Rattle.explore.proofs.running.do_next.Goals as goal

pub returns-in_default-clause-done : goal.returns-in_default-clause-done
returns-in_default-clause-done g c =
    done_none c.args.lines.now c.args.core.now c.args.place c.args.cursor c.requires.before c.in_default.ensures.none

pub returns-clause-done : goal.returns-clause-done
returns-clause-done g c =
    let l = c.index-lines-at.result in
    let some = c.in-Some.ensures.some in
    let e : c.do_prepared.new.core ≡ done c.args.core.now (Some (get_or c.args.lines.now c.in-Some.at l)) = c.in_ok-do_prepared.ensures.done ∙ ap (λ x. done c.args.core.now (Some x)) c.index-lines-at.is in
    e ∙ done_one c.args.lines.now c.args.core.now c.args.place c.args.cursor c.in-Some.at l c.requires.before some.0 (c.in-Some.ensures.own l) some.1

pub returns-clause-after : goal.returns-clause-after
returns-clause-after g c =
    let l = c.index-lines-at.result in
    let some = c.in-Some.ensures.some in
    let e : c.do_prepared.new.core ≡ done c.args.core.now (Some (get_or c.args.lines.now c.in-Some.at l)) = c.in_ok-do_prepared.ensures.done ∙ ap (λ x. done c.args.core.now (Some x)) c.index-lines-at.is in
    next_cursor c.args.lines.now c.args.core.now c.do_prepared.new.core c.args.place c.args.cursor c.in-Some.at l c.requires.before some.0 (c.in-Some.ensures.own l) some.1 e
