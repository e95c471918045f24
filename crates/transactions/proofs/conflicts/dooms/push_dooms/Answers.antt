use Rattle.std.proofs.Common.{ap, sym, ◌∙◌, fold, take, arith}
use Rattle.std.proofs.lemmas.List.{take_all}
use Rattle.std.proofs.lemmas.List.Sums.{fold_more}
use Rattle.value.specs.Isolation.{with_doom}
use Rattle.history.specs.Transactions.{node, reads_from}
use Rattle.transactions.proofs.conflicts.dooms.push_dooms.Goals as goal

pub loop-pivot-preserved : goal.loop-pivot-preserved
loop-pivot-preserved g c =
    let f = with_doom node reads_from c.args.all.now c.args.committer.now in
    let i = c.loop-pivot.pivot-index in
    c.in_ok-push_doom.ensures.ok
    ∙ ap (λ causes. f causes c.pivot-item.result) c.loop-pivot.invariant
    ∙ ap (f (fold f c.args.causes.now.items (take i c.args.pivots.now))) c.pivot-item.is
    ∙ sym (fold_more f c.args.causes.now.items c.args.pivots.now i c.pivot-item.result (omega arith))

pub returns-clause-ok : goal.returns-clause-ok
returns-clause-ok g c =
    c.loop-pivot.invariant
    ∙ ap (fold (with_doom node reads_from c.args.all.now c.args.committer.now) c.args.causes.now.items) (take_all c.loop-pivot.pivot-index c.args.pivots.now (omega arith))
