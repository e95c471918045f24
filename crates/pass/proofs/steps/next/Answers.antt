use Rattle.std.proofs.Common.{arith}
use Rattle.pass.proofs.Moves.{nexts}
use Rattle.pass.proofs.steps.next.Goals as goal

pub split_seat-requires : goal.split_seat-requires
split_seat-requires g c =
    let t = c.args.words.now.shared in
    let s = c.args.seat.now in
    let one = c.requires.one in
    (c.requires.table, omega arith, nexts t.key s.id s.me.0 c.requires.whole)
