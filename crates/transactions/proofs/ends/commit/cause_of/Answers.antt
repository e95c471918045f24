use Rattle.std.proofs.Common.{sym, arith}
use Rattle.std.specs.Prelude.{◌==◌}
use Rattle.std.proofs.lemmas.List.{get_or_default}
use Rattle.value.proofs.Basics.{find-next}
use Rattle.transactions.proofs.WalkLemmas.{find-here}
use Rattle.transactions.proofs.ends.commit.cause_of.Goals as goal

pub returns-then-cause-number : goal.returns-then-cause-number
returns-then-cause-number c =
    sym (find-here (λ x. x.b.0 == c.args.number) c.args.causes.now c.loop-cause.cause-index _ (omega arith) (get_or_default c.args.causes.now c.loop-cause.cause-index _ _ (omega arith)) c.loop-cause.invariant (grind (arith, c.if-cause-number.true)))

pub loop-cause-preserved : goal.loop-cause-preserved
loop-cause-preserved c =
    find-next (λ x. x.b.0 == c.args.number) c.args.causes.now c.loop-cause.cause-index (Rattle.std.proofs.Common.get_or c.args.causes.now c.loop-cause.cause-index record { a = record { 0 = 0 }; b = record { 0 = 0 }; c = record { 0 = 0 } }) (omega arith) (get_or_default c.args.causes.now c.loop-cause.cause-index _ _ (omega arith)) c.loop-cause.invariant (grind (arith, c.if-cause-number.false))
