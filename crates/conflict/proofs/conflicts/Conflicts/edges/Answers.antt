use Rattle.conflict.proofs.Kept.{edges_proper}
use Rattle.conflict.proofs.conflicts.Conflicts.edges.Goals as goal

pub invariant_of-self : goal.invariant_of-self
invariant_of-self g c = edges_proper _ c.args.self.now c.args.pairs.now c.add_all.new.parties.items c.add_all.result c.self.view_is c.self.invariant c.requires c.add_all.ensures.ok c.add_all.ensures.err
