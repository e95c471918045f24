use Rattle.std.proofs.Common.{subst, sym, [], ◌∷◌}
use Rattle.std.specs.List.{AllByRecursion}
use Rattle.value.proofs.Basics.{all-append}
use Rattle.explore.specs.Trails.{IsSaved}
use Rattle.explore.proofs.TrailLemmas.{all_left, last_of}
use Rattle.explore.proofs.trail.Trail.take_last.Goals as goal

pub returns-clause-last : goal.returns-clause-last
returns-clause-last g c = λ e all.
    let P = IsSaved e c.args.self.now.order.items in
    subst P (sym c.in_ok-copy.ensures) (last_of P c.args.self.now.saved.items c.pop.new.self.items c.pop.result c.in-Some.last c.pop.ensures.items c.in-Some.is all)

pub returns-clause-saved : goal.returns-clause-saved
returns-clause-saved g c = λ e all.
    let P = IsSaved e c.args.self.now.order.items in
    let left = all_left P c.args.self.now.saved.items c.pop.new.self.items c.pop.result c.pop.ensures.items all in
    let last = last_of P c.args.self.now.saved.items c.pop.new.self.items c.pop.result c.in-Some.last c.pop.ensures.items c.in-Some.is all in
    subst (AllByRecursion P) (sym c.in_ok-push.ensures.items) (all-append P c.pop.new.self.items (c.in-Some.last ∷ []) left (last, tt))
