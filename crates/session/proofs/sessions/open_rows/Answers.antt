use Rattle.std.proofs.Common.{ap, ◌∙◌}
use Rattle.mvrows.specs.Versions.{shown}
use Rattle.mvrows.proofs.VersionLemmas.{shown-opened}
use Rattle.session.proofs.sessions.open_rows.Goals as goal

pub returns-clause-view : goal.returns-clause-view
returns-clause-view g c = c.in_ok-view.ensures.ok ∙ ap (shown 0) c.in_ok-rows.ensures.ok ∙ shown-opened 0 c.args.tables
