use Rattle.conflict.proofs.Kept.{forget_alike, forget_proper}
use Rattle.conflict.proofs.conflicts.Conflicts.forget.Goals as goal

pub forget-requires : goal.forget-requires
forget-requires g c = (c.self.invariant.rising, c.self.invariant.edges)

pub invariant_of-self : goal.invariant_of-self
invariant_of-self g c = forget_proper _ c.args.oldest c.forget.new.parties.items c.self.invariant c.forget.ensures

pub returns-clause-alike : goal.returns-clause-alike
returns-clause-alike g c = forget_alike _ c.args.self.now c.args.oldest c.forget.new.parties.items c.self.view_is c.self.invariant c.requires c.forget.ensures
