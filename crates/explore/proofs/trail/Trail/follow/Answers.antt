use Rattle.std.proofs.Common.{ap, subst, sym, take, ◌∙◌}
use Rattle.std.specs.List.{AllByRecursion}
use Rattle.explore.specs.Trails.{IsSaved}
use Rattle.explore.proofs.TrailLemmas.{all_follow}
use Rattle.explore.proofs.trail.Trail.follow.Goals as goal

pub returns-clause-saved : goal.returns-clause-saved
returns-clause-saved g c = λ e all.
    let n = c.common-turns.result in
    let same = ap (take n) (sym c.as_slice.ensures.value) ∙ c.common-turns.ensures.same in
    let left = all_follow e c.args.self.now.order.items c.args.order.now n c.args.self.now.saved.items same c.common-turns.ensures.within all in
    subst (λ os. AllByRecursion (IsSaved e os) c.note.new.self.saved.items) (sym c.in_ok-note.ensures.order)
    (subst (AllByRecursion (IsSaved e c.args.order.now)) (sym (c.in_ok-note.ensures.saved ∙ c.leave.ensures.saved)) left)
