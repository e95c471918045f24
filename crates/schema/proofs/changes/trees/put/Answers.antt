use Rattle.std.proofs.Common.{arith}
use Rattle.schema.proofs.ChangingLemmas.{put_done}
use Rattle.schema.proofs.changes.trees.put.Goals as goal

pub returns-clause-ok : goal.returns-clause-ok
returns-clause-ok g c =
    put_done c.put.result c.make_room.new.tables.items c.args.tables.now.items c.place-place.result c.args.table c.args.key _ c.index_mut-changes.result.now c.put.new.self
    (omega (arith, c.in_ok-make_room.ensures.ok, c.make_room.new.tables.ok.0)) c.place-place.ensures c.make_room.ensures.same c.index_mut-changes.ensures.value c.put.ensures.ok
