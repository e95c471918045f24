use Rattle.std.proofs.Common.{ap, sum, ◌∙◌}
use Rattle.explore.specs.Explored.{line_counts, sessions}
use Rattle.explore.proofs.Gathering.{moved_prepared}
use Rattle.explore.proofs.plan.Plan.made.Goals as goal

pub invariant_of-result : goal.invariant_of-result
invariant_of-result g c = (
  c.in_ok-counts.ensures ∙ ap (λ ls. line_counts ls sessions) c.as_slice.ensures.value,
  c.in-Some.ensures ∙ ap sum c.as_slice-2.ensures.value,
  moved_prepared c.catalog.result.now c.args.setup.opening.catalog c.as_slice-3.result.now c.args.lines.items c.in_ok-events.events.items (c.catalog.ensures ∙ ap (λ h. h.opening.catalog) c.history.ensures) c.as_slice-3.ensures.value (c.in_ok-events.ensures.events, c.in_ok-events.ensures.allowed),
)
