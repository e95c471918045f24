use Rattle.std.proofs.Common.{◌∙◌, arith}
use Rattle.conflict.proofs.Places.{edges_next}
use Rattle.conflict.proofs.edges.note_edges.Goals as goal

pub loop-pair-preserved : goal.loop-pair-preserved
loop-pair-preserved g c = (
  edges_next c.args.begun c.args.pairs.now c.loop-pair.pair-index c.args.parties.now.items c.loop-pair.parties.items c.note_edge.new.parties.items (omega arith) c.loop-pair.invariant.0 c.in_ok-note_edge.ensures.ok,
  c.note_edge.ensures.back ∙ c.loop-pair.invariant.1,
  c.note_edge.ensures.sorted,
)
