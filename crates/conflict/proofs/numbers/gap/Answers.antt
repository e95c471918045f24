use Rattle.std.proofs.Common.{◌∙◌, sym}
use Rattle.conflict.proofs.Ordered.{is_gap, put_there}
use Rattle.conflict.proofs.numbers.gap.Goals as goal

pub returns-then-is_at-clause-none : goal.returns-then-is_at-clause-none
returns-then-is_at-clause-none c = put_there c.args.number c.args.numbers.now c.start-place.result c.requires c.start-place.ensures.before c.start-place.ensures.after (sym c.is_at.ensures ∙ c.if-is_at.true)

pub returns-else-is_at-clause-some : goal.returns-else-is_at-clause-some
returns-else-is_at-clause-some c = is_gap c.args.number c.args.numbers.now c.start-place.result c.requires c.start-place.ensures.before c.start-place.ensures.after c.start-place.ensures.bound (sym c.is_at.ensures ∙ c.if-is_at.false)
