use Rattle.std.proofs.Common.{refl, ◌∙◌, ◌&&◌, ap, sym, not, eqb}
use Rattle.std.specs.List.{list_all}
use Rattle.schema.specs.Plain.{is_sound}
use Rattle.audit.specs.Replay.{are_fit, end_of, goes_next, latest_with, present, without}
use Rattle.audit.proofs.StepLemmas.{all-filter, found-passes, sound-end}
use Rattle.audit.proofs.order.Replay.go_next.Goals as goal

pub goes_after-requires-clause-fits : goal.goes_after-requires-clause-fits
goes_after-requires-clause-fits g c =
    let there = present c.args.self.now.left.items in
    found-passes (λ x. are_fit c.args.catalog.now x.statements) (λ y. eqb y.number c.args.number) there there c.in-Some.course refl c.requires.fit c.in-Some.ensures.found

pub returns-in_default-clause-fit : goal.returns-in_default-clause-fit
returns-in_default-clause-fit g c =
    ap (list_all (λ x. are_fit c.args.catalog.now x.statements)) c.take_out.ensures.others
    ∙ all-filter (λ x. are_fit c.args.catalog.now x.statements) (λ y. not (eqb y.number c.args.number)) (present c.args.self.now.left.items) c.requires.fit

pub returns-in_err-goes_after-clause-fit : goal.returns-in_err-goes_after-clause-fit
returns-in_err-goes_after-clause-fit g c =
    ap (list_all (λ x. are_fit c.args.catalog.now x.statements)) c.take_out.ensures.others
    ∙ all-filter (λ x. are_fit c.args.catalog.now x.statements) (λ y. not (eqb y.number c.args.number)) (present c.args.self.now.left.items) c.requires.fit

pub returns-then-not-branch-clause-fit : goal.returns-then-not-branch-clause-fit
returns-then-not-branch-clause-fit g c =
    ap (list_all (λ x. are_fit c.args.catalog.now x.statements)) c.take_out.ensures.others
    ∙ all-filter (λ x. are_fit c.args.catalog.now x.statements) (λ y. not (eqb y.number c.args.number)) (present c.args.self.now.left.items) c.requires.fit

pub returns-clause-fit : goal.returns-clause-fit
returns-clause-fit g c =
    ap (list_all (λ x. are_fit c.args.catalog.now x.statements)) c.take_out.ensures.others
    ∙ all-filter (λ x. are_fit c.args.catalog.now x.statements) (λ y. not (eqb y.number c.args.number)) (present c.args.self.now.left.items) c.requires.fit

pub returns-clause-goes : goal.returns-clause-goes
returns-clause-goes g c = λ rest.
    let there = present c.args.self.now.left.items in
    let left = without c.args.number there in
    let tables = end_of c.args.catalog.now c.in-Some.course.statements c.args.self.now.tables in
    ap (λ o. goes_next c.args.catalog.now c.args.self.now.latest c.args.self.now.tables o (λ l Y. rest l left Y)) (sym c.in-Some.ensures.found)
    ∙ ap (λ b. b && rest (latest_with c.args.self.now.latest c.in-Some.course) left tables) (sym c.in_ok-goes_after.ensures.same ∙ c.if-not-branch.false)
    ∙ ap (λ l. rest l left tables) (sym c.latest_with-self.ensures)
    ∙ ap (λ xs. rest c.latest_with-self.result xs tables) (sym c.take_out.ensures.others)
    ∙ ap (λ Y. rest c.latest_with-self.result (present c.take_out.new.left.items) Y) (sym (c.in_ok-goes_after.ensures.done c.if-not-branch.false))

pub returns-clause-sound : goal.returns-clause-sound
returns-clause-sound g c = λ _.
    let there = present c.args.self.now.left.items in
    ap (is_sound c.args.catalog.now) (c.in_ok-goes_after.ensures.done c.if-not-branch.false)
    ∙ sound-end c.args.catalog.now c.in-Some.course.statements c.args.self.now.tables
    (found-passes (λ x. are_fit c.args.catalog.now x.statements) (λ y. eqb y.number c.args.number) there there c.in-Some.course refl c.requires.fit c.in-Some.ensures.found)
    c.requires.sound
