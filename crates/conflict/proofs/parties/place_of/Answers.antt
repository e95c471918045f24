use Rattle.std.proofs.Common.{◌∙◌, sym}
use Rattle.conflict.proofs.Places.{at_stands, none_stands}
use Rattle.conflict.proofs.parties.place_of.Goals as goal

pub returns-then-is_at-clause-some : goal.returns-then-is_at-clause-some
returns-then-is_at-clause-some g c = at_stands c.args.number c.args.parties.now c.start-place.result (sym c.is_at.ensures ∙ c.if-is_at.true)

pub returns-else-is_at-clause-none : goal.returns-else-is_at-clause-none
returns-else-is_at-clause-none g c = none_stands c.args.number c.args.parties.now c.start-place.result c.requires c.start-place.ensures.before c.start-place.ensures.after (sym c.is_at.ensures ∙ c.if-is_at.false)
