use Rattle.std.proofs.Common.{replicate, subst, sym}
use Rattle.explore.specs.Cursors.{AreCursors}
use Rattle.explore.specs.Explored.{sessions}
use Rattle.explore.proofs.CursorLemmas.{begin}
use Rattle.explore.proofs.running.do_turns.Goals as goal

pub do_each-requires : goal.do_each-requires
do_each-requires g c = record {
  room = c.requires.room;
  prepared = c.requires.prepared;
  before = subst (λ es. AreCursors c.args.lines.now es (replicate sessions 0)) (sym c.requires.unbegun) (begin c.args.lines.now sessions);
}
