use Rattle.std.proofs.Common.{arith}
use Rattle.pass.proofs.Moves.{expects}
use Rattle.pass.proofs.steps.expect.Goals as goal

pub compare_exchange_with-requires : goal.compare_exchange_with-requires
compare_exchange_with-requires g c =
    let t = c.args.words.now.shared in
    let s = c.args.seat.now in
    let one = c.requires.one in
    (c.requires.table, omega arith, expects t.key t.table_id.slots s.id s.me.0 s.me.1 c.args.entry.now c.requires.whole.0 c.requires.whole.1)
