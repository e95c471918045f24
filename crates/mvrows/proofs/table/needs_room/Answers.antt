use Rattle.std.proofs.Common.{subst, length, ◌≤◌}
use Rattle.mvrows.proofs.LeavesLemmas.{long-page}
use Rattle.mvrows.proofs.table.needs_room.Goals as goal

pub returns : goal.returns
returns g c = λ full. long-page c.args.leaves.now c.args.place c.index-leaves-place.result c.requires c.index-leaves-place.is (subst (λ rows. 2 ≤ length rows) c.page.ensures (c.needs_room.ensures full))
