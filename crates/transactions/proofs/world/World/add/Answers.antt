use Rattle.std.proofs.Common.{arith, ap, refl}
use Rattle.transactions.specs.Ledger.{Ledger}
use Rattle.transactions.specs.Runs.{adds}
use Rattle.transactions.proofs.CommitLemmas.{counted-added}
use Rattle.transactions.proofs.StretchLemmas.{stretches-turned}
use Rattle.transactions.proofs.world.World.add.Goals as goal

pub invariant_of-self-2 : goal.invariant_of-self-2
invariant_of-self-2 g c =
    let same_place = ap (λ (l : Ledger _). l.place) c.self.view_is in
    rw (c.in_ok-add_at.ensures.ok, c.leave_without.ensures) (
      counted-added _ c.args.at (adds c.args.added.reads.items c.args.added.changes.items c.args.added.marks.items) (λ t. refl) c.self.invariant.0 (omega (arith, same_place, c.requires.room)),
      stretches-turned c.self.inside.past.items (adds c.args.added.reads.items c.args.added.changes.items c.args.added.marks.items) c.self.inside.transactions.items c.args.at c.self.invariant.1,
    )
