use Rattle.std.proofs.Common.{refl, sym, ap, ◌∙◌, map, arith}
use Rattle.std.proofs.lemmas.List.{nil_from_length}
use Rattle.audit.specs.Replay.{answers_again, end_of}
use Rattle.audit.proofs.StepLemmas.{again-step, again-stops, first-fits}
use Rattle.audit.proofs.order.answer_again.Goals as goal

pub loop-left-init : goal.loop-left-init
loop-left-init g c = (refl, refl, c.requires.fits, c.requires.sound)

pub answers_so-requires-clause-fits : goal.answers_so-requires-clause-fits
answers_so-requires-clause-fits g c = first-fits (λ a. (a.statement, a.reply)) c.args.catalog.now c.loop-left.left.now c.answered-item.result c.in-len1-up.len_at_least c.answered-item.is c.loop-left.invariant.2

pub answers_so-requires-clause-sound : goal.answers_so-requires-clause-sound
answers_so-requires-clause-sound g c = c.loop-left.invariant.3

pub returns-then-not-branch-clause-same : goal.returns-then-not-branch-clause-same
returns-then-not-branch-clause-same g c =
    sym (again-stops (λ a. (a.statement, a.reply)) c.args.catalog.now c.loop-left.left.now c.answered-item.result c.loop-left.tables c.in-len1-up.len_at_least c.answered-item.is (sym c.in_ok-answers_so.ensures.same ∙ c.if-not-branch.true))
    ∙ c.loop-left.invariant.0

pub loop-left-preserved : goal.loop-left-preserved
loop-left-preserved g c =
    let s = again-step (λ a. (a.statement, a.reply)) c.args.catalog.now c.loop-left.left.now c.answered-item.result c.loop-left.tables c.answers_so.new.tables c.in-len1-up.len_at_least c.answered-item.is c.loop-left.invariant.2 c.loop-left.invariant.3
    (sym c.in_ok-answers_so.ensures.same ∙ c.if-not-branch.false) c.in_ok-answers_so.ensures.done in
    (s.0 ∙ c.loop-left.invariant.0, s.1 ∙ c.loop-left.invariant.1, s.2, s.3)

pub returns-clause-same : goal.returns-clause-same
returns-clause-same g c =
    let none = nil_from_length c.loop-left.left.now (omega (arith, c.in_default.len_below)) in
    ap (λ qs. answers_again c.args.catalog.now (map (λ a. (a.statement, a.reply)) qs) c.loop-left.tables) (sym none) ∙ c.loop-left.invariant.0

pub returns-clause-done : goal.returns-clause-done
returns-clause-done g c = λ _.
    let none = nil_from_length c.loop-left.left.now (omega (arith, c.in_default.len_below)) in
    ap (λ qs. end_of c.args.catalog.now (map (λ a. (a.statement, a.reply)) qs) c.loop-left.tables) (sym none) ∙ c.loop-left.invariant.1
