use Rattle.mvrows.specs.HeldRows.{Held}
use Rattle.mvrows.proofs.HeldLemmas.{same-set}
use Rattle.mvrows.proofs.table.share_at.Goals as goal

pub returns : goal.returns
returns g c = same-set (λ (h : Held _). h.rows) c.args.leaves.now.items c.args.place c.share.new.self c.index_mut-leaf.result.now c.index_mut-leaf.ensures.value c.share.ensures
