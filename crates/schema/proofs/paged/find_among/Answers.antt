use Rattle.std.proofs.Common.{ap, ◌∙◌}
use Rattle.std.specs.Prelude.{find}
use Rattle.schema.specs.Plain.{same}
use Rattle.schema.proofs.FindLemmas.{find-in}
use Rattle.schema.proofs.paged.find_among.Goals as goal

pub returns : goal.returns
returns g c =
    let key = g.P.Item.Keyed.key_of in
    c.find.ensures
    ∙ ap (find (λ x. same c.args.key.now (key x))) c.items.ensures.items
    ∙ find-in key g.P.Paged.items_of c.args.key.now c.args.pages.now c.place_near.result c.index-pages-place_near.result c.place_near.ensures.range c.index-pages-place_near.is c.place_near.ensures.placed
