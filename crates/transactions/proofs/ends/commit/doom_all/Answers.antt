use Rattle.std.proofs.Common.{◌∙◌, ap, sym, arith}
use Rattle.std.proofs.lemmas.List.Edits.{map_over_more}
use Rattle.std.proofs.Math.ListN.{set}
use Rattle.history.specs.Events.{doomed_by}
use Rattle.transactions.proofs.ends.commit.doom_all.Goals as goal

pub loop-transaction-preserved : goal.loop-transaction-preserved
loop-transaction-preserved g c =
    ap (set c.loop-transaction.transactions c.loop-transaction.transaction-index) (c.doom.ensures ∙ ap (doomed_by c.args.place c.args.causes.now) (sym c.transaction-item.is))
    ∙ map_over_more (doomed_by c.args.place c.args.causes.now) c.args.transactions.now c.loop-transaction.transactions c.loop-transaction.transaction-index c.transaction-item.result (omega arith) c.loop-transaction.invariant c.transaction-item.is
