use Rattle.std.proofs.Common.{◌∙◌, sym, Some, arith}
use Rattle.conflict.specs.Walks.{from_other}
use Rattle.conflict.proofs.Found.{none_so_far, some_here}
use Rattle.conflict.proofs.cause.from_numbers.Goals as goal

pub returns-then-is_some : goal.returns-then-is_some
returns-then-is_some g c =
    some_here (from_other c.args.commit.txn c.args.commit.number c.args.committer.now (Some c.args.last)) c.args.numbers.now c.loop-reader.reader-index c.args.parties.now c.from_other-cause.result (omega arith) c.loop-reader.invariant c.from_other-cause.ensures (sym c.is_some.ensures ∙ c.if-is_some.true)

pub loop-reader-preserved : goal.loop-reader-preserved
loop-reader-preserved g c =
    none_so_far (from_other c.args.commit.txn c.args.commit.number c.args.committer.now (Some c.args.last)) c.args.numbers.now c.loop-reader.reader-index c.args.parties.now c.from_other-cause.result (omega arith) c.loop-reader.invariant c.from_other-cause.ensures (sym c.is_some.ensures ∙ c.if-is_some.false)
