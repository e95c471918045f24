use Rattle.std.proofs.Common.{arith}
use Rattle.dumpworker.proofs.CounterLemmas.{draws}
use Rattle.dumpworker.proofs.counter.Counter.draw.Goals as goal

pub fetch_add-requires : goal.fetch_add-requires
fetch_add-requires g c =
    let s = c.args.drawer.now.seat in
    let t = c.args.self.now.table.shared in
    let one = c.args.self.now.one in (c.requires.table, omega arith, draws t.table_id.slots s.id s.me.0 s.me.1 c.requires.some)
