use Rattle.mvrows.proofs.ChainLemmas.{newer-shown, stored-newer}
use Rattle.mvrows.proofs.version_list.VersionList.put.Goals as goal

pub invariant_of-self-2 : goal.invariant_of-self-2
invariant_of-self-2 g c = stored-newer c.self.inside.key _ c.in_ok-version.version c.self.inside.versions.items c.insert.new.self.items c.in_ok-insert.ensures.items c.in_ok-version.ensures.ok c.self.invariant

pub returns-clause-ok : goal.returns-clause-ok
returns-clause-ok g c = newer-shown c.self.inside.key _ c.in_ok-version.version c.self.inside.versions.items c.insert.new.self.items c.args.self.now c.self.view_is c.in_ok-insert.ensures.items c.in_ok-version.ensures.ok
