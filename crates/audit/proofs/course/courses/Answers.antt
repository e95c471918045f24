use Rattle.std.proofs.Common.{◌≡◌, refl, sym, ap, ◌∙◌, slice_get, Some, [], arith}
use Rattle.std.proofs.lemmas.List.{drop_all}
use Rattle.audit.specs.Course.{courses_after}
use Rattle.audit.proofs.StepLemmas.{courses-step}
use Rattle.audit.proofs.course.courses.Goals as goal

pub loop-entry-init : goal.loop-entry-init
loop-entry-init g c = (
  ap (courses_after 0 c.args.records.now) c.new-courses.ensures.items,
  refl,
  λ s i x e q. let none : slice_get [] i ≡ Some x = sym (ap (λ cs. slice_get cs i) c.new-courses.ensures.items) ∙ e in cc,
)

pub follow-requires : goal.follow-requires
follow-requires g c = c.loop-entry.invariant.2

pub loop-entry-preserved : goal.loop-entry-preserved
loop-entry-preserved g c = (
  courses-step c.loop-entry.place c.args.records.now c.loop-entry.entry-index c.entry-item.result c.loop-entry.courses.items c.follow.new.courses.items (omega arith) c.entry-item.is c.in_ok-follow.ensures.ok ∙ c.loop-entry.invariant.0,
  omega arith,
  c.in_ok-follow.ensures.latest,
)

pub returns-clause-ok : goal.returns-clause-ok
returns-clause-ok g c =
    sym (ap (λ rs. courses_after c.loop-entry.place rs c.loop-entry.courses.items) (drop_all c.loop-entry.entry-index c.args.records.now (omega arith))) ∙ c.loop-entry.invariant.0
