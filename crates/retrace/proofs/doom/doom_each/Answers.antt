use Rattle.std.proofs.Common.{◌∙◌, ap, sym, arith}
use Rattle.std.proofs.lemmas.List.Edits.{map_over_more}
use Rattle.std.proofs.Math.ListN.{set}
use Rattle.retrace.specs.Dooms.{doomed_by}
use Rattle.retrace.proofs.doom.doom_each.Goals as goal

pub loop-run-preserved : goal.loop-run-preserved
loop-run-preserved g c =
    ap (set c.loop-run.runs c.loop-run.run-index) (c.doom.ensures ∙ ap (doomed_by c.args.causes.now) (sym c.run-item.is))
    ∙ map_over_more (doomed_by c.args.causes.now) c.args.runs.now c.loop-run.runs c.loop-run.run-index c.run-item.result (omega arith) c.loop-run.invariant c.run-item.is
