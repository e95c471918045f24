use Rattle.std.proofs.Common.{◌∙◌, sym, arith}
use Rattle.value.proofs.Basics.{all-get}
use Rattle.history.specs.Transactions.{edge, node}
use Rattle.transactions.specs.Ledger.{txn_at}
use Rattle.transactions.specs.Structures.{BeginHold, begun_cause}
use Rattle.transactions.proofs.CauseLemmas.{first_some-here, first_some-next}
use Rattle.transactions.proofs.conflicts.cause.cause_of_firsts.Goals as goal

pub cause_through-cause-requires-clause-committer : goal.cause_through-cause-requires-clause-committer
cause_through-cause-requires-clause-committer g c =
    all-get (λ a. BeginHold node edge (txn_at c.args.all.now c.args.at) a c.args.all.now) c.args.firsts.now c.loop-first.first-index c.first-item.result (omega arith) c.first-item.is c.requires.committer

pub returns-then-is_some : goal.returns-then-is_some
returns-then-is_some g c =
    first_some-here (begun_cause node edge c.args.all.now) c.args.firsts.now c.loop-first.first-index c.first-item.result (omega arith) c.first-item.is c.loop-first.invariant c.cause_through-cause.result c.cause_through-cause.ensures (sym c.is_some.ensures ∙ c.if-is_some.true)

pub loop-first-preserved : goal.loop-first-preserved
loop-first-preserved g c =
    first_some-next (begun_cause node edge c.args.all.now) c.args.firsts.now c.loop-first.first-index c.first-item.result (omega arith) c.first-item.is c.loop-first.invariant c.cause_through-cause.result c.cause_through-cause.ensures (sym c.is_some.ensures ∙ c.if-is_some.false)
