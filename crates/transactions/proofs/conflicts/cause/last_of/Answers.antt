use Rattle.std.proofs.Common.{ap, arith, ◌∙◌}
use Rattle.transactions.specs.Earliest.{first_of_both}
use Rattle.transactions.proofs.PieceLemmas.{closing-begun, closing-ended, closing-further, seen-alike}
use Rattle.transactions.proofs.conflicts.cause.last_of.Goals as goal

pub loop-walk-init : goal.loop-walk-init
loop-walk-init g c = (omega (arith, c.new-walk.ensures), closing-begun c.args.first.now c.args.pivot.now c.args.all.now c.new-walk.result.at c.new-walk.ensures)

pub loop-walk-preserved : goal.loop-walk-preserved
loop-walk-preserved g c =
    let around = seen-alike c.pivot.view_is c.piece-piece.ensures.around in
    (c.piece-piece.ensures.within, closing-further c.args.first.now c.args.pivot.now c.loop-walk.last around (c.first_of_both-last.ensures ∙ ap (first_of_both c.loop-walk.last) c.last_among.ensures) c.loop-walk.invariant.1)

pub returns : goal.returns
returns g c = closing-ended c.args.first.now c.args.pivot.now c.args.all.now c.loop-walk.walk.at c.loop-walk.last (omega (arith, c.loop-walk-test.false)) c.loop-walk.invariant.1
