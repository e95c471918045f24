use Rattle.std.proofs.Common.{ap, sym, ◌∙◌, ◌+◌, map, drop}
use Rattle.orders.specs.Symbolic.{steps_from}
use Rattle.orders.proofs.CoverLemmas.{steps_more}
use Rattle.orders.proofs.ways.cover.ways_from.Goals as goal

pub loop-number-preserved : goal.loop-number-preserved
loop-number-preserved g c =
    c.loop-number.invariant
    ∙ steps_more (λ a. (a.statement, a.reply)) c.args.table c.args.key.now c.loop-number.number c.args.statements.now c.loop-number.number c.index-statements-number.result c.loop-number.ways.items c.loop-number-test.true c.index-statements-number.is
    ∙ ap (steps_from c.args.table c.args.key.now (c.loop-number.number + 1) (map (λ a. (a.statement, a.reply)) (drop (c.loop-number.number + 1) c.args.statements.now))) (sym c.in_ok-ways.ensures.ok)
