use Rattle.std.proofs.Common.{◌∙◌, inr}
use Rattle.library.proofs.ExploreLemmas.{ends_planned}
use Rattle.library.proofs.exploring.core_output.Goals as goal

pub returns-in-Ok : goal.returns-in-Ok
returns-in-Ok g c = ends_planned c.args.exploration c.args.core c.args.lines.items c.in-Ok.setup.plan c.in-Ok.setup.turns.items _ _ c.in-Ok.ensures.sets_up c.plan_output.ensures

pub returns-in-Err : goal.returns-in-Err
returns-in-Err g c = inr (inr (c.in-Err.unplanned, c.in-Err.ensures.none, c.nothing.ensures.end ∙ c.end_of_unplanned.ensures, c.nothing.ensures.text))
