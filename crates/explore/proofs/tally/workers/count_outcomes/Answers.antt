use Rattle.std.proofs.Common.{◌≡◌, ◌∙◌, IfOk, map, slice_range, subst}
use Rattle.explore.specs.Outcomes.{outcomes, outcomes_from}
use Rattle.explore.proofs.Stretches.{whole}
use Rattle.explore.proofs.tally.workers.count_outcomes.Goals as goal

pub returns-clause-outcomes : goal.returns-clause-outcomes
returns-clause-outcomes g c =
    let f = g.R.Runs.outcome c.args.runs.now in
    let os = g.S.Schedules.orders c.args.schedules.now in
    subst (λ x. IfOk c.count_by_threads.result (λ found. found.items ≡ x)) (whole f os c.count.result c.count.ensures) c.count_by_threads.ensures.outcomes
