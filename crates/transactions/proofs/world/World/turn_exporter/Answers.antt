use Rattle.std.proofs.Common.{arith, ap}
use Rattle.transactions.specs.Ledger.{Ledger}
use Rattle.transactions.specs.Courses.{on_course}
use Rattle.transactions.proofs.CommitLemmas.{counted-exported}
use Rattle.transactions.proofs.StretchLemmas.{stretches-turned}
use Rattle.transactions.proofs.world.World.turn_exporter.Goals as goal

pub invariant_of-self-2 : goal.invariant_of-self-2
invariant_of-self-2 g c =
    let same_place = ap (λ (l : Ledger _). l.place) c.self.view_is in
    rw (c.turn.ensures, c.in_ok-push.ensures.items, c.leave_without.ensures) (
      counted-exported _ c.args.at c.args.course c.args.exported c.self.invariant.0 (omega (arith, same_place, c.requires.room)),
      stretches-turned c.self.inside.past.items (on_course c.args.course) c.self.inside.transactions.items c.args.at c.self.invariant.1,
    )
