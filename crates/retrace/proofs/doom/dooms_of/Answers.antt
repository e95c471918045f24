use Rattle.std.proofs.Common.{◌∙◌, [], ap, arith, sym, fold, take}
use Rattle.std.proofs.lemmas.List.{take_all}
use Rattle.std.proofs.lemmas.List.Sums.{fold_more}
use Rattle.value.specs.Isolation.{with_doom}
use Rattle.retrace.specs.Dooms.{node, reads}
use Rattle.retrace.proofs.doom.dooms_of.Goals as goal

pub loop-pivot-preserved : goal.loop-pivot-preserved
loop-pivot-preserved g c =
    let step = with_doom node reads c.args.runs.now c.args.committer.now in
    c.in_ok-push_doom.ensures.ok ∙ ap (λ cs. step cs c.pivot-item.result) c.loop-pivot.invariant ∙ ap (step (fold step [] (take c.loop-pivot.pivot-index c.args.runs.now))) c.pivot-item.is ∙ sym (fold_more step [] c.args.runs.now c.loop-pivot.pivot-index c.pivot-item.result (omega arith))

pub returns-clause-ok : goal.returns-clause-ok
returns-clause-ok g c = c.loop-pivot.invariant ∙ ap (fold (with_doom node reads c.args.runs.now c.args.committer.now) []) (take_all c.loop-pivot.pivot-index c.args.runs.now (omega arith))
