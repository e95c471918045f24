use Rattle.std.proofs.Common.{arith}
use Rattle.pass.proofs.Moves.{hears}
use Rattle.pass.proofs.steps.hear.Goals as goal

pub join_seat-requires : goal.join_seat-requires
join_seat-requires g c =
    let t = c.args.words.now.shared in
    let s = c.args.seat.now in
    let one = c.requires.one in
    (c.requires.table.0, c.requires.table.1, c.requires.free, omega arith, hears t.key s.id s.me.0 c.args.other.id c.args.other.me.0)
