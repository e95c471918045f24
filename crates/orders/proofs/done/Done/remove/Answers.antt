use Rattle.orders.proofs.DoneLemmas.{set-less}
use Rattle.std.proofs.Common.{sym, subst}
use Rattle.orders.specs.Turns.{AreSet}
use Rattle.orders.proofs.done.Done.remove.Goals as goal

pub invariant_of-self : goal.invariant_of-self
invariant_of-self g c =
    subst (AreSet c.set.new.flags.items) (sym c.min-self-inside.ensures)
    (set-less c.self.inside.flags.items c.set.new.flags.items c.args.place c.self.inside.first c.self.invariant c.set.ensures)
