use Rattle.std.proofs.Common.{subst, map, take, ◌≡◌}
use Rattle.mvrows.specs.Pruning.{pruned_versions}
use Rattle.mvrows.specs.Stored.{told}
use Rattle.mvrows.proofs.ChainLemmas.{pruned-shown, stored-take}
use Rattle.mvrows.proofs.version_list.VersionList.prune.Goals as goal

pub invariant_of-self : goal.invariant_of-self
invariant_of-self g c = stored-take c.self.inside.key c.self.inside.versions.items c.truncate.new.self.items c.kept-left.result c.truncate.ensures.items c.self.invariant

pub returns : goal.returns
returns g c =
    pruned-shown c.args.oldest c.self.inside.key c.self.inside.versions.items c.truncate.new.self.items c.args.self.now c.kept-left.result c.self.view_is c.truncate.ensures.items
    (subst (λ items. take c.kept-left.result (map told items) ≡ pruned_versions c.args.oldest (map told items)) c.as_slice.ensures.value c.kept-left.ensures)
