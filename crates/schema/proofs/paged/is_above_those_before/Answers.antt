use Rattle.std.proofs.Common.{arith, sym, ◌∙◌}
use Rattle.schema.proofs.PagedLemmas.{place-above}
use Rattle.schema.proofs.paged.is_above_those_before.Goals as goal

pub returns-else-place-eq0 : goal.returns-else-place-eq0
returns-else-place-eq0 g c = λ early.
    place-above g.P.Item.Keyed.key_of g.P.Paged.items_of c.args.key c.args.pages.now c.args.place c.requires (omega (arith, c.if-place-eq0.false)) (sym c.is_before_at.ensures ∙ early)
