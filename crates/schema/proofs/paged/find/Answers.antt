use Rattle.std.proofs.Common.{sym}
use Rattle.schema.proofs.FindLemmas.{find-here, find-missing, find-past}
use Rattle.schema.proofs.paged.find.Goals as goal

pub returns-then-is_of : goal.returns-then-is_of
returns-then-is_of g c = sym (find-here g.T.Keyed.key_of c.args.key.now c.start.result c.args.items.now c.in-Some.item.now c.start.ensures.before (sym c.in-Some.ensures) (sym c.if-is_of.ensures))

pub returns-else-is_of : goal.returns-else-is_of
returns-else-is_of g c = find-missing g.T.Keyed.key_of c.args.key.now c.start.result c.args.items.now c.in-Some.item.now c.requires c.start.ensures.before c.start.ensures.within (sym c.in-Some.ensures) (sym c.if-is_of.ensures)

pub returns-in-None : goal.returns-in-None
returns-in-None g c = find-past g.T.Keyed.key_of c.args.key.now c.start.result c.args.items.now c.start.ensures.before (sym c.in-None.ensures)
