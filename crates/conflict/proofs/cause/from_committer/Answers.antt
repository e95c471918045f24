use Rattle.std.proofs.Common.{◌∙◌, sym, arith}
use Rattle.conflict.specs.Walks.{from_own}
use Rattle.conflict.proofs.Found.{none_so_far, some_here}
use Rattle.conflict.proofs.cause.from_committer.Goals as goal

pub returns-then-is_some : goal.returns-then-is_some
returns-then-is_some g c =
    some_here (from_own c.args.commit.txn c.args.commit.number c.args.parties.now c.args.committer.now) c.args.numbers.now c.loop-writer.writer-index c.args.parties.now c.from_own-cause.result (omega arith) c.loop-writer.invariant c.from_own-cause.ensures (sym c.is_some.ensures ∙ c.if-is_some.true)

pub loop-writer-preserved : goal.loop-writer-preserved
loop-writer-preserved g c =
    none_so_far (from_own c.args.commit.txn c.args.commit.number c.args.parties.now c.args.committer.now) c.args.numbers.now c.loop-writer.writer-index c.args.parties.now c.from_own-cause.result (omega arith) c.loop-writer.invariant c.from_own-cause.ensures (sym c.is_some.ensures ∙ c.if-is_some.false)
