use Rattle.std.proofs.Common.{ap, sym, ◌∙◌}
use Rattle.std.specs.Prelude.{not}
use Rattle.schema.specs.Rows.{is_within}
use Rattle.schema.proofs.PageLemmas.{before-last, before-none}
use Rattle.schema.proofs.paged.is_before.Goals as goal

pub returns-in-Some : goal.returns-in-Some
returns-in-Some g c =
    c.comes_before.ensures
    ∙ ap (λ k. not (is_within c.args.bound k)) (c.value.ensures.value ∙ c.key.ensures)
    ∙ before-last g.T.Keyed.key_of c.args.bound c.args.items.now c.in-Some.item.now c.requires (sym c.in-Some.ensures.value)

pub returns-in-None : goal.returns-in-None
returns-in-None g c = before-none g.T.Keyed.key_of c.args.bound c.args.items.now (sym c.in-None.ensures.value)
