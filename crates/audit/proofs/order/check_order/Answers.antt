use Rattle.std.proofs.Common.{◌∙◌, sym, subst, ap, map, []}
use Rattle.std.specs.List.{filter, list_all}
use Rattle.value.proofs.Basics.{IfOk_then}
use Rattle.schema.specs.Plain.{is_sound}
use Rattle.history.specs.declared.base.Base.{Base}
use Rattle.audit.specs.Course.{courses_after}
use Rattle.audit.specs.Replay.{AreInPlace, are_fit, if_committed, present, replays}
use Rattle.audit.proofs.HistoryLemmas.{courses_fit, opening_sound, order-answer}
use Rattle.audit.proofs.ToComeLemmas.{courses-in_place, present-committed}
use Rattle.audit.proofs.order.check_order.Goals as goal

pub replays-requires-clause-in_place : goal.replays-requires-clause-in_place
replays-requires-clause-in_place g c =
    subst AreInPlace (sym (c.in_ok-left.ensures.ok ∙ ap (map if_committed) (c.in_ok-courses.ensures.ok ∙ ap (λ rs. courses_after 0 rs []) c.records.ensures))) (courses-in_place c.args.history.now.records)

pub replays-requires-clause-fit : goal.replays-requires-clause-fit
replays-requires-clause-fit g c =
    let h = c.args.history.now in
    ap (λ k. list_all (λ x. are_fit k x.statements) (present c.in_ok-left.left.items)) c.catalog.ensures
    ∙ ap (list_all (λ x. are_fit h.opening.catalog x.statements))
    (ap present (c.in_ok-left.ensures.ok ∙ ap (map if_committed) (c.in_ok-courses.ensures.ok ∙ ap (λ rs. courses_after 0 rs []) c.records.ensures)) ∙ present-committed (courses_after 0 h.records []))
    ∙ courses_fit h.opening h.records c.requires

pub replays-requires-clause-sound : goal.replays-requires-clause-sound
replays-requires-clause-sound g c =
    let h = c.args.history.now in
    ap (λ k. is_sound k c.in_ok-tables.tables) c.catalog.ensures ∙ ap (is_sound h.opening.catalog) c.in_ok-tables.ensures.ok ∙ opening_sound h.opening h.records c.requires

pub returns-clause-answer : goal.returns-clause-answer
returns-clause-answer g c =
    let h = c.args.history.now in
    let ns = map (λ n. n.0) c.args.numbers.now in
    IfOk_then c.replays.result c.replays.ensures.answer (λ b e. order-answer h.opening h.records c.requires ns b
    (e ∙ ap (λ k. replays k c.base-base.result.transactions 0 (present c.in_ok-left.left.items) ns c.in_ok-tables.tables) c.catalog.ensures
    ∙ ap (λ (x : Base). replays h.opening.catalog x.transactions 0 (present c.in_ok-left.left.items) ns c.in_ok-tables.tables) c.base-base.ensures
    ∙ ap (λ xs. replays h.opening.catalog h.opening.base.transactions 0 xs ns c.in_ok-tables.tables)
    (ap present (c.in_ok-left.ensures.ok ∙ ap (map if_committed) (c.in_ok-courses.ensures.ok ∙ ap (λ rs. courses_after 0 rs []) c.records.ensures)) ∙ present-committed (courses_after 0 h.records []))
    ∙ ap (replays h.opening.catalog h.opening.base.transactions 0 (filter (λ x. x.committed) (courses_after 0 h.records [])) ns) c.in_ok-tables.ensures.ok))
