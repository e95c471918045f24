use Rattle.std.proofs.Common.{◌≡◌, ◌∙◌, IfOk, map, slice_range, subst}
use Rattle.explore.specs.Outcomes.{outcomes, outcomes_from}
use Rattle.explore.proofs.Stretches.{whole}
use Rattle.explore.proofs.tally.workers.count_in_turn.Goals as goal

pub returns-clause-outcomes : goal.returns-clause-outcomes
returns-clause-outcomes g c =
    let f = g.R.Runs.outcome c.args.runs.now in
    let os = g.S.Schedules.orders c.args.schedules.now in
    subst (λ x. IfOk c.count_stretch.result (λ found. found.items ≡ x)) (whole f os c.count.result c.count.ensures) c.count_stretch.ensures.outcomes
