use Rattle.std.proofs.Common.{ap, sym, subst, length, is_some, ◌∙◌}
use Rattle.schema.specs.Rows.{row_of, IsInKeyOrder}
use Rattle.schema.proofs.NextLemmas.{count-over, found-some, counted}
use Rattle.schema.proofs.table.Table.count_with.Goals as goal

pub returns-then-is_some-clause-ok : goal.returns-then-is_some-clause-ok
returns-then-is_some-clause-ok g c = λ row key.
    let there = ap (λ k. is_some (row_of c.args.self.now k)) key ∙ sym (found-some c.find.result c.args.self.now c.args.key.now c.find.ensures) ∙ sym c.if-is_some.ensures in
    c.self.invariant.1 ∙ ap length c.self.view_is ∙ sym (count-over row c.args.self.now there (subst IsInKeyOrder c.self.view_is c.self.invariant.0.0))

pub returns-else-is_some-clause-ok : goal.returns-else-is_some-clause-ok
returns-else-is_some-clause-ok g c =
    counted c.one_more.result c.self.inside.count c.args.self.now c.args.key.now c.one_more.ensures.ok (c.self.invariant.1 ∙ ap length c.self.view_is) (sym (found-some c.find.result c.args.self.now c.args.key.now c.find.ensures) ∙ sym c.if-is_some.ensures)
