use Rattle.std.proofs.Common.{ap, sym, ◌∙◌}
use Rattle.std.proofs.lemmas.Result.{IfOk-weaker}
use Rattle.std.specs.Prelude.{option_and_then}
use Rattle.orders.specs.Symbolic.{tell}
use Rattle.orders.proofs.ways.step.seen_way.Goals as goal

pub returns-in-Some-clause-ok : goal.returns-in-Some-clause-ok
returns-in-Some-clause-ok g c =
    IfOk-weaker c.tell.result _ _ (λ w e. e ∙ ap (λ row. tell c.args.key.now c.args.projection.now row c.in-Some.chosen) c.as_slice.ensures
    ∙ ap (option_and_then (tell c.args.key.now c.args.projection.now c.args.row.now)) (sym c.in-Some.is ∙ c.in_ok-chosen.ensures.ok)) c.tell.ensures.ok
