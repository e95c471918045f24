use Rattle.std.proofs.Common.{◌∙◌, ◌-◌, length, take}
use Rattle.orders.proofs.UndoLemmas.{last-and-rest, put-last}
use Rattle.orders.proofs.undo.take_back.Goals as goal

pub loop-left-preserved : goal.loop-left-preserved
loop-left-preserved g c =
    put-last c.loop-left.left.now (take (length c.loop-left.left.now - 1) c.loop-left.left.now) c.change-item.result c.loop-left.tables c.put_one.new.tables
    (last-and-rest c.loop-left.left.now c.change-item.result c.in-len1-up.len_at_least c.change-item.is) c.in_ok-put_one.ensures.ok
    ∙ c.loop-left.invariant
