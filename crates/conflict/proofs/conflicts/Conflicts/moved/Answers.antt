use Rattle.conflict.proofs.Kept.{move_proper}
use Rattle.conflict.proofs.conflicts.Conflicts.moved.Goals as goal

pub invariant_of-self : goal.invariant_of-self
invariant_of-self g c = move_proper _ c.args.self.now c.args.txn.0 c.args.snapshot c.take_snapshot.new.parties.items c.self.view_is c.self.invariant c.requires.shown c.take_snapshot.ensures
