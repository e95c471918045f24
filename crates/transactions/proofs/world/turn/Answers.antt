use Rattle.transactions.specs.Courses.{on_course}
use Rattle.transactions.proofs.LedgerLemmas.{turned_at-set}
use Rattle.transactions.proofs.world.turn.Goals as goal

pub returns : goal.returns
returns g c = rw c.take.ensures (turned_at-set (on_course c.args.course) c.args.transactions.now.items c.args.at c.index_mut.result.now c.requires c.index_mut.ensures.value)
