use Rattle.std.proofs.Common.{arith, ap}
use Rattle.transactions.specs.Ledger.{Ledger}
use Rattle.transactions.specs.Courses.{on_course}
use Rattle.transactions.proofs.CommitLemmas.{counted-committed}
use Rattle.transactions.proofs.StretchLemmas.{stretches-doomed, stretches-turned}
use Rattle.transactions.proofs.world.World.turn_committer.Goals as goal

pub invariant_of-self : goal.invariant_of-self
invariant_of-self g c =
    let same_place = ap (λ (l : Ledger _). l.place) c.self.view_is in
    rw (c.doom_any.ensures, c.turn.ensures, c.leave_without.ensures) (
      counted-committed _ c.args.at c.args.committed _ c.args.causes.now c.self.invariant.0 (omega (arith, same_place, c.requires.room)),
      stretches-doomed _ _ c.args.causes.now _ (stretches-turned c.self.inside.past.items (on_course c.args.committed) c.self.inside.transactions.items c.args.at c.self.invariant.1),
    )
