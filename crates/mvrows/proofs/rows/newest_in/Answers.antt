use Rattle.std.proofs.Common.{ap, ◌∙◌}
use Rattle.std.specs.Option.{option_and_then}
use Rattle.mvrows.specs.Versions.{newest_version}
use Rattle.mvrows.proofs.rows.newest_in.Goals as goal

pub returns-in-Some : goal.returns-in-Some
returns-in-Some g c = c.newest.ensures ∙ ap (option_and_then newest_version) c.in-Some.ensures

pub returns-in-None : goal.returns-in-None
returns-in-None g c = ap (option_and_then newest_version) c.in-None.ensures
