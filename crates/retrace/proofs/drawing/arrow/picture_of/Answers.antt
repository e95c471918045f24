use Rattle.std.proofs.Common.{◌∙◌, ap, List}
use Rattle.retrace.specs.Runs.{Going}
use Rattle.retrace.specs.Arrows.{arrows, drawn}
use Rattle.retrace.specs.Lives.{bars}
use Rattle.retrace.proofs.drawing.arrow.picture_of.Goals as goal

pub returns-clause-bars : goal.returns-clause-bars
returns-clause-bars g c = c.in_ok-bars.ensures.ok ∙ ap (λ es. bars es c.as_slice.result.now) c.records.ensures ∙ ap (λ (gs : List (Going _)). bars c.args.history.now.records gs) (c.as_slice.ensures.value ∙ c.in_ok-runs.ensures.ok)

pub returns-clause-arrows : goal.returns-clause-arrows
returns-clause-arrows g c = c.in_ok-arrows.ensures.ok ∙ ap (λ (gs : List (Going _)). arrows gs) (c.as_slice-2.ensures.value ∙ c.in_ok-kept.ensures.ok ∙ ap (λ es. drawn es c.args.first c.in_ok-runs.runs.items) c.records-2.ensures ∙ ap (λ (gs : List (Going _)). drawn c.args.history.now.records c.args.first gs) c.in_ok-runs.ensures.ok)
