use Rattle.std.proofs.Common.{arith}
use Rattle.pass.proofs.Moves.{compares}
use Rattle.pass.proofs.steps.compare.Goals as goal

pub load-requires : goal.load-requires
load-requires g c =
    let t = c.args.words.now.shared in
    let s = c.args.seat.now in
    let one = c.requires.one in
    (c.requires.table, omega arith, compares t.key t.table_id.slots s.id s.me.0 s.me.1 c.requires.pass)
