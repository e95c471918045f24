use Rattle.std.proofs.Common.{ap, arith, sym, ◌∙◌, ◌++◌, drop, find}
use Rattle.std.specs.Option.{option_map}
use Rattle.value.specs.Isolation.{is_first}
use Rattle.history.specs.Transactions.{node, reads_from}
use Rattle.transactions.proofs.PieceLemmas.{find-ended}
use Rattle.transactions.proofs.StretchLemmas.{firsts-further, front-first, none-found}
use Rattle.transactions.proofs.conflicts.dooms.first_before.Goals as goal

pub returns-then-is_some : goal.returns-then-is_some
returns-then-is_some g c =
    let q = is_first node reads_from c.args.committer.now c.args.causes.now c.args.pivot.now in
    let around = c.piece-piece.ensures.around in
    front-first node q c.piece-piece.result.now (around.between ++ drop c.piece-piece.new.self.at c.args.all.now) c.first_among-first.result c.first_among-first.ensures (sym c.is_some.ensures ∙ c.if-is_some.true)
    ∙ ap (λ us. option_map node (find q us)) (sym around.whole) ∙ ap (option_map node) c.loop-walk.invariant.1

pub loop-walk-preserved : goal.loop-walk-preserved
loop-walk-preserved g c =
    let q = is_first node reads_from c.args.committer.now c.args.causes.now c.args.pivot.now in
    let none = none-found node (find q c.piece-piece.result.now) c.first_among-first.result c.first_among-first.ensures (sym c.is_some.ensures ∙ c.if-is_some.false) in
    (c.piece-piece.ensures.within, firsts-further c.args.committer.now c.args.pivot.now c.args.causes.now _ _ c.loop-walk.walk.at c.args.all.now _ _ (find q c.args.all.now) c.requires.committer c.piece-piece.ensures.around none c.loop-walk.invariant.1)

pub returns : goal.returns
returns g c =
    let q = is_first node reads_from c.args.committer.now c.args.causes.now c.args.pivot.now in
    ap (option_map node) (sym (find-ended q c.args.all.now c.loop-walk.walk.at (omega (arith, c.loop-walk-test.false)) c.loop-walk.invariant.1))
