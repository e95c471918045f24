use Rattle.siread.proofs.HeldLemmas.{held_undone}
use Rattle.siread.proofs.held.Held.undo.Goals as goal

pub invariant_of-self : goal.invariant_of-self
invariant_of-self g c = rw c.truncate.ensures.items (held_undone c.self.inside.kept.items c.self.inside.settled c.self.invariant)
