use Rattle.std.proofs.Common.{arith}
use Rattle.pass.proofs.Moves.{parts}
use Rattle.pass.proofs.steps.give.Goals as goal

pub split_seat-requires : goal.split_seat-requires
split_seat-requires g c =
    let t = c.args.words.now.shared in
    let s = c.args.seat.now in
    let one = c.requires.one in
    (c.requires.table, omega arith, parts t.key s.id s.me.0)
