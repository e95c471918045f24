use Rattle.std.proofs.Common.{arith}
use Rattle.dumpworker.proofs.CounterLemmas.{splits}
use Rattle.dumpworker.proofs.counter.Counter.another.Goals as goal

pub split_seat-requires : goal.split_seat-requires
split_seat-requires g c =
    let s = c.args.drawer.now.seat in
    let one = c.args.self.now.one in (c.requires.table, omega arith, splits s.id s.me.0 c.requires.enough)
