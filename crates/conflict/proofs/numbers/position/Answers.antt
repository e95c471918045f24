use Rattle.std.proofs.Common.{◌∙◌, sym}
use Rattle.conflict.proofs.Ordered.{is_place, taken_none}
use Rattle.conflict.proofs.numbers.position.Goals as goal

pub returns-then-is_at-clause-some : goal.returns-then-is_at-clause-some
returns-then-is_at-clause-some c = is_place c.args.number c.args.numbers.now c.start-place.result c.requires c.start-place.ensures.before c.start-place.ensures.after (sym c.is_at.ensures ∙ c.if-is_at.true)

pub returns-else-is_at-clause-none : goal.returns-else-is_at-clause-none
returns-else-is_at-clause-none c = taken_none c.args.number c.args.numbers.now c.start-place.result c.requires c.start-place.ensures.before c.start-place.ensures.after (sym c.is_at.ensures ∙ c.if-is_at.false)
