use Rattle.library.proofs.ExploreLemmas.{ends_begun}
use Rattle.library.proofs.exploring.lines_output.Goals as goal

pub returns-in-Some : goal.returns-in-Some
returns-in-Some g c = ends_begun c.args.exploration c.args.catalog c.in-Some.core c.args.lines.items _ _ c.in-Some.ensures c.core_output.ensures
