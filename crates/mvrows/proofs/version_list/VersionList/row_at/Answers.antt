use Rattle.std.proofs.Common.{ap, ◌∙◌}
use Rattle.mvrows.specs.Stored.{stored_row}
use Rattle.mvrows.proofs.ChainLemmas.{found-shown}
use Rattle.mvrows.proofs.version_list.VersionList.row_at.Goals as goal

pub returns : goal.returns
returns g c =
    c.row_in.ensures ∙ ap (stored_row c.args.snapshot) c.as_slice.ensures.value
    ∙ found-shown c.args.snapshot c.self.inside.key c.self.inside.versions.items c.args.self.now c.self.invariant c.self.view_is
