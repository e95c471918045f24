use Rattle.std.proofs.Common.{arith}
use Rattle.pass.proofs.Moves.{checks}
use Rattle.pass.proofs.steps.check.Goals as goal

pub load-requires : goal.load-requires
load-requires g c =
    let t = c.args.words.now.shared in
    let s = c.args.seat.now in
    let one = c.requires.one in
    (c.requires.table, omega arith, checks t.key t.table_id.slots s.id s.me.0 s.me.1 c.requires.whole.0 c.requires.whole.1)
