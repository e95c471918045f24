use Rattle.std.proofs.Common.{ap, ◌∙◌}
use Rattle.std.specs.Prelude.{nat_lt}
use Rattle.std.specs.List.{list_any}
use Rattle.mvrows.specs.TakenBack.{was_there}
use Rattle.mvrows.specs.declared.version_list.Stored.{Stored}
use Rattle.mvrows.proofs.ChainLemmas.{any-before}
use Rattle.mvrows.proofs.version_list.VersionList.was_there.Goals as goal

pub returns : goal.returns
returns g c =
    c.any_before.ensures ∙ ap (list_any (λ (s : Stored _). nat_lt s.number c.args.commit)) c.as_slice.ensures.value
    ∙ any-before c.args.commit c.self.inside.versions.items ∙ ap (was_there c.args.commit) c.self.view_is
