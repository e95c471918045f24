use Rattle.std.proofs.Common.{arith}
use Rattle.pass.proofs.Moves.{adds}
use Rattle.pass.proofs.steps.add.Goals as goal

pub fetch_add-requires : goal.fetch_add-requires
fetch_add-requires g c =
    let t = c.args.words.now.shared in
    let s = c.args.seat.now in
    let one = c.requires.one in
    (c.requires.table, omega arith, adds t.key t.table_id.slots s.id s.me.0 s.me.1 c.requires.whole.0 c.requires.whole.1 c.requires.session c.requires.allowed c.requires.answer c.requires.room)
