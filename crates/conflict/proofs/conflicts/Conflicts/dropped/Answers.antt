use Rattle.conflict.proofs.Kept.{drop_proper}
use Rattle.conflict.proofs.conflicts.Conflicts.dropped.Goals as goal

pub remove-requires : goal.remove-requires
remove-requires g c = (c.self.invariant.rising, c.self.invariant.edges)

pub invariant_of-self : goal.invariant_of-self
invariant_of-self g c = drop_proper _ c.args.txn.0 c.remove.new.parties.items c.self.invariant c.remove.ensures
