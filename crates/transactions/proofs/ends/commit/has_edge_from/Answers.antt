use Rattle.std.proofs.Common.{ap, arith, sym, ◌∙◌}
use Rattle.std.specs.List.{list_any}
use Rattle.transactions.proofs.PieceLemmas.{any-ended, any-found, any-further, seen-alike}
use Rattle.history.specs.Transactions.{edge}
use Rattle.transactions.proofs.LedgerLemmas.{txn_at-is}
use Rattle.transactions.proofs.StretchLemmas.{past-edge}
use Rattle.transactions.proofs.ends.commit.has_edge_from.Goals as goal

pub returns-then-has_any_edge : goal.returns-then-has_any_edge
returns-then-has_any_edge g c =
    let t = c.index-transactions-at.result in
    let around = seen-alike c.reader.view_is c.piece-piece.ensures.around in
    any-found (edge t) (past-edge t _) around (sym c.has_any_edge.ensures ∙ c.if-has_any_edge.true) c.loop-walk.invariant.1
    ∙ ap (λ y. list_any (edge y) c.args.transactions.now) (sym (txn_at-is c.args.transactions.now c.args.at t c.requires.within c.index-transactions-at.is))

pub loop-walk-preserved : goal.loop-walk-preserved
loop-walk-preserved g c =
    let t = c.index-transactions-at.result in
    let around = seen-alike c.reader.view_is c.piece-piece.ensures.around in
    (c.piece-piece.ensures.within, any-further (edge t) (past-edge t _) around (sym c.has_any_edge.ensures ∙ c.if-has_any_edge.false) c.loop-walk.invariant.1)

pub returns : goal.returns
returns g c =
    let t = c.index-transactions-at.result in
    any-ended (edge t) c.args.transactions.now c.loop-walk.walk.at (omega (arith, c.loop-walk-test.false)) c.loop-walk.invariant.1
    ∙ ap (λ y. list_any (edge y) c.args.transactions.now) (sym (txn_at-is c.args.transactions.now c.args.at t c.requires.within c.index-transactions-at.is))
