use Rattle.std.proofs.Common.{subst, sym, arith, ◌∙◌, ◌≤◌, length}
use Rattle.explore.specs.Trails.{IsSaved}
use Rattle.explore.proofs.TrailLemmas.{all_done}
use Rattle.explore.proofs.plan.Plan.finish.Goals as goal

pub going-preserved : goal.going-preserved
going-preserved g c =
    let run = subst (λ os. IsSaved c.args.self.now os c.going.run) (sym c.going.invariant.0) c.going.invariant.2 in
    (c.keep.ensures.order ∙ c.going.invariant.0, c.in_ok-keep.ensures.saved c.args.self.now c.going.invariant.1 run, c.in_ok-go_on.ensures.saved)

pub returns-clause-ran : goal.returns-clause-ran
returns-clause-ran g c =
    let all : length c.args.order.now ≤ c.going.run.turns = omega (arith, c.going-test.false, c.turns.ensures) in
    all_done c.args.self.now c.args.order.now c.going.run c.going.invariant.2 all

pub returns-clause-told : goal.returns-clause-told
returns-clause-told g c = c.going.invariant.2.told

pub going-smaller : goal.going-smaller
going-smaller g c = omega (arith, c.in_ok-go_on.ensures.next, c.going-test.true, c.turns.ensures)
