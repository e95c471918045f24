use Rattle.std.proofs.Common.{sym, subst}
use Rattle.schema.specs.Changing.{TakesPlace}
use Rattle.schema.proofs.changes.Changes.put.Goals as goal

pub put_over-requires : goal.put_over-requires
put_over-requires g c = subst (λ k. TakesPlace c.args.table k c.in-OfOne.listed c.in-Some.place) (sym c.said_of-said.ensures.key) c.in-Some.ensures
