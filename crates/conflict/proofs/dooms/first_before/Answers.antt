use Rattle.std.proofs.Common.{◌∙◌, sym, arith}
use Rattle.conflict.specs.Tracked.{node}
use Rattle.conflict.specs.Walks.{may_be_first}
use Rattle.conflict.proofs.Found.{found_here, found_none}
use Rattle.conflict.proofs.dooms.first_before.Goals as goal

pub returns-then-is_some : goal.returns-then-is_some
returns-then-is_some g c =
    found_here (may_be_first c.args.committer.now c.args.causes.now c.args.pivot.now) node c.args.numbers.now c.loop-reader.reader-index c.args.parties.now c.first_found-first.result (omega arith) c.loop-reader.invariant c.first_found-first.ensures (sym c.is_some.ensures ∙ c.if-is_some.true)

pub loop-reader-preserved : goal.loop-reader-preserved
loop-reader-preserved g c =
    found_none (may_be_first c.args.committer.now c.args.causes.now c.args.pivot.now) node c.args.numbers.now c.loop-reader.reader-index c.args.parties.now c.first_found-first.result (omega arith) c.loop-reader.invariant c.first_found-first.ensures (sym c.is_some.ensures ∙ c.if-is_some.false)
