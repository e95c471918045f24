use Rattle.std.proofs.Common.{◌≡◌, [], sym, subst, IfOk, arith}
use Rattle.explore.proofs.Drawn.{draw-at, length-draws}
use Rattle.explore.proofs.tally.sample.sampling.SampleSchedules.order_at.Goals as goal

pub returns : goal.returns
returns g c =
    let s = c.args.self.now in
    subst (λ x. IfOk c.order.result (λ order. order.items ≡ x)) (sym (draw-at s c.args.number [] (omega (arith, c.requires, length-draws s)))) c.order.ensures.drawn
