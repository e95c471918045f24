use Rattle.std.proofs.Common.{◌∙◌, sym, ap, Some, arith}
use Rattle.value.specs.Isolation.{edge_of, is_dangerous}
use Rattle.transactions.specs.Earliest.{first_of}
use Rattle.transactions.proofs.CauseLemmas.{earliest-next, earliest-same}
use Rattle.transactions.proofs.conflicts.isolation.last_among.Goals as goal
use Rattle.transactions.proofs.conflicts.isolation.last_among.Goals.{then-is_dangerous, else-is_dangerous}

pub loop-candidate-preserved : goal.loop-candidate-preserved
loop-candidate-preserved g c =
    let node = g.T.Party.node in
    let edge = edge_of g.T.Party.node g.T.Party.reads in
    let test = is_dangerous node edge c.args.first.now c.args.pivot.now in
    elim c.if-is_dangerous.branch [
      | then-is_dangerous w ↦
          w.last-is ∙ ap Some (w.first_of.ensures ∙ ap (first_of c.loop-candidate.last) w.facts.ensures)
          ∙ earliest-next node edge test c.args.transactions.now c.loop-candidate.candidate-index c.candidate-item.result (omega arith) c.candidate-item.is (sym c.is_dangerous.ensures ∙ w.if-is_dangerous.true) c.loop-candidate.last c.loop-candidate.invariant
      | else-is_dangerous w ↦
          w.last-is
          ∙ earliest-same node edge test c.args.transactions.now c.loop-candidate.candidate-index c.candidate-item.result (omega arith) c.candidate-item.is (sym c.is_dangerous.ensures ∙ w.if-is_dangerous.false) c.loop-candidate.last c.loop-candidate.invariant
    ]
