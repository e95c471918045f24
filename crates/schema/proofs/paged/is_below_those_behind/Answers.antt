use Rattle.std.proofs.Common.{sym, ◌∙◌}
use Rattle.std.proofs.lemmas.Bool.{not-true}
use Rattle.schema.proofs.PagedLemmas.{place-below}
use Rattle.schema.proofs.paged.is_below_those_behind.Goals as goal

pub returns-else-place-pages : goal.returns-else-place-pages
returns-else-place-pages g c = λ late.
    place-below g.P.Item.Keyed.key_of g.P.Paged.items_of c.args.key c.args.pages.now c.args.place c.requires.laid_out c.requires.range (sym c.is_before_at.ensures ∙ not-true c.is_before_at.result late)
