use Rattle.std.proofs.Common.{◌∙◌, ◌&&◌, sym, arith}
use Rattle.conflict.specs.Tracked.{is_recent}
use Rattle.conflict.specs.Walks.{is_unseen}
use Rattle.conflict.proofs.Forgetting.{holding_is}
use Rattle.conflict.proofs.Found.{any_here, any_next, one_of}
use Rattle.std.proofs.Common.{get_or}
use Rattle.conflict.proofs.parties.is_held_by.Goals as goal

pub returns-then-holds : goal.returns-then-holds
returns-then-holds g c =
    any_here (λ q. is_recent c.args.oldest q && is_unseen q c.args.writer.now) c.args.numbers.now c.loop-reader.reader-index c.args.parties.now (omega arith) c.loop-reader.invariant
    (sym (holding_is c.args.oldest c.args.writer.now (one_of (get_or c.args.numbers.now c.loop-reader.reader-index 0) c.args.parties.now)) ∙ sym c.holds.ensures ∙ c.if-holds.true)

pub loop-reader-preserved : goal.loop-reader-preserved
loop-reader-preserved g c =
    any_next (λ q. is_recent c.args.oldest q && is_unseen q c.args.writer.now) c.args.numbers.now c.loop-reader.reader-index c.args.parties.now (omega arith) c.loop-reader.invariant
    (sym (holding_is c.args.oldest c.args.writer.now (one_of (get_or c.args.numbers.now c.loop-reader.reader-index 0) c.args.parties.now)) ∙ sym c.holds.ensures ∙ c.if-holds.false)
