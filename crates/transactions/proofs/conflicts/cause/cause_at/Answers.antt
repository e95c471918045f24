use Rattle.std.proofs.Common.{arith, sym, ◌∙◌}
use Rattle.history.specs.Transactions.{Txn, edge, node}
use Rattle.transactions.proofs.PieceLemmas.{ended-alike, some-ended, some-found, some-further}
use Rattle.transactions.specs.Ledger.{txn_at}
use Rattle.transactions.specs.Structures.{BeginHold, begun_cause}
use Rattle.transactions.proofs.AroundLemmas.{firsts-none}
use Rattle.transactions.proofs.LedgerLemmas.{txn_at-is}
use Rattle.transactions.proofs.StretchLemmas.{all-passed, all-piece}
use Rattle.transactions.proofs.conflicts.cause.cause_at.Goals as goal

pub cause_of_firsts-cause-requires-clause-committer : goal.cause_of_firsts-cause-requires-clause-committer
cause_of_firsts-cause-requires-clause-committer g c =
    let P = λ (a : Txn _). BeginHold node edge (txn_at c.args.all.now c.args.at) a c.args.all.now in
    all-piece P _ _ c.loop-walk.walk.at c.args.all.now _ _ c.piece-piece.ensures.around c.requires.committer

pub returns-then-is_some : goal.returns-then-is_some
returns-then-is_some g c =
    let same = sym (txn_at-is c.args.all.now c.args.at c.index-all-at.result c.requires.within c.index-all-at.is) in
    let around = ended-alike (c.committer.view_is ∙ same) c.piece-piece.ensures.around in
    some-found (begun_cause node edge c.args.all.now) around c.cause_of_firsts-cause.result c.cause_of_firsts-cause.ensures (sym c.is_some.ensures ∙ c.if-is_some.true) c.loop-walk.invariant.1

pub loop-walk-preserved : goal.loop-walk-preserved
loop-walk-preserved g c =
    let ts = c.args.all.now in
    let same = sym (txn_at-is ts c.args.at c.index-all-at.result c.requires.within c.index-all-at.is) in
    let around = ended-alike (c.committer.view_is ∙ same) c.piece-piece.ensures.around in
    let holds = all-passed (λ (a : Txn _). BeginHold node edge (txn_at ts c.args.at) a ts) _ _ c.loop-walk.walk.at ts _ _ around c.requires.committer in
    (c.piece-piece.ensures.within, some-further (begun_cause node edge ts) around (firsts-none ts c.args.at c.requires.within around.between around.past holds) c.cause_of_firsts-cause.result c.cause_of_firsts-cause.ensures (sym c.is_some.ensures ∙ c.if-is_some.false) c.loop-walk.invariant.1)

pub returns : goal.returns
returns g c = some-ended (begun_cause node edge c.args.all.now) c.args.all.now c.loop-walk.walk.at (omega (arith, c.loop-walk-test.false)) c.loop-walk.invariant.1
