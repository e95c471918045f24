use Rattle.std.proofs.Common.{arith}
use Rattle.mvrows.proofs.ChainLemmas.{length-told}
use Rattle.mvrows.proofs.ThinningLemmas.{removed-shown, stored-removed}
use Rattle.mvrows.proofs.version_list.VersionList.drop_at.Goals as goal

pub remove-requires : goal.remove-requires
remove-requires g c = omega (arith, c.requires, length-told c.self.inside.key c.self.inside.versions.items c.args.self.now c.self.view_is, c.self.inside.versions.ok.0)

pub invariant_of-self : goal.invariant_of-self
invariant_of-self g c = stored-removed c.self.inside.key c.self.inside.versions.items c.remove.new.self.items c.args.place c.remove.ensures.items c.self.invariant

pub returns : goal.returns
returns g c = removed-shown c.self.inside.key c.self.inside.versions.items c.remove.new.self.items c.args.self.now c.args.place c.self.view_is c.remove.ensures.items
