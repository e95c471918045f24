use Rattle.std.proofs.Common.{arith, length, ◌-◌}
use Rattle.schema.proofs.PagedLemmas.{place-first, place-last}
use Rattle.schema.proofs.paged.place_of.Goals as goal

pub returns-then-from-pages-clause-placed : goal.returns-then-from-pages-clause-placed
returns-then-from-pages-clause-placed g c =
    place-first g.P.Item.Keyed.key_of g.P.Paged.items_of c.args.key c.args.pages.now c.first_page-from.result c.requires.laid_out (omega (arith, c.if-from-pages.true)) c.first_page-from.ensures.before c.first_page-from.ensures.within

pub returns-else-from-pages-clause-placed : goal.returns-else-from-pages-clause-placed
returns-else-from-pages-clause-placed g c =
    place-last g.P.Item.Keyed.key_of g.P.Paged.items_of c.args.key c.args.pages.now (length c.args.pages.now - 1) c.first_page-from.result (omega (arith, c.if-from-pages.false)) (omega (arith, c.requires.some)) c.first_page-from.ensures.before
