use Rattle.std.proofs.Common.{sym, ap, ◌∙◌, arith}
use Rattle.explore.specs.Outcomes.{all_runs, joined}
use Rattle.explore.proofs.Noted.{all_runs-merged}
use Rattle.explore.proofs.tally.outcomes.join.Goals as goal

pub loop-outcome-preserved : goal.loop-outcome-preserved
loop-outcome-preserved g c =
    let i = c.loop-outcome.invariant in
    let found = c.loop-outcome.found.items in
    let rest = c.next.new.self.rest.items in
    let taken = c.in-Some.ensures.steps.0 in (
      ap (λ x. joined x rest) c.in_ok-merge.ensures ∙ ap (joined found) (sym taken) ∙ i.0,
      omega (arith, ap all_runs c.in_ok-merge.ensures, all_runs-merged found c.in-Some.outcome, ap all_runs taken, i.1),
    )
