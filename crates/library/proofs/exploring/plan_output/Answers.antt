use Rattle.std.proofs.Common.{◌∙◌}
use Rattle.library.proofs.ExploreLemmas.{ends_listed, ends_unexplored}
use Rattle.library.proofs.exploring.plan_output.Goals as goal

pub returns-in-Ok : goal.returns-in-Ok
returns-in-Ok g c = ends_listed c.args.most c.args.plan.now _ _ c.in-Ok.ensures.few c.outcomes_output.ensures

pub returns-in-Err : goal.returns-in-Err
returns-in-Err g c = ends_unexplored c.args.most c.args.plan.now c.in-Err.unexplored _ _ c.in-Err.ensures.more (c.nothing.ensures.end ∙ c.end_of_unexplored.ensures) c.nothing.ensures.text
