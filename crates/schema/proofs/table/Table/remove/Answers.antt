use Rattle.std.proofs.Common.{arith, ap, sym, length, ◌≡◌, ◌+◌, ◌∙◌, is_some, true, None}
use Rattle.std.specs.FinMap.{find}
use Rattle.value.specs.Order.{value_cmp}
use Rattle.schema.specs.Plain.{changed}
use Rattle.schema.specs.Paged.{joined}
use Rattle.schema.proofs.NextLemmas.{count-gone, gone-absent}
use Rattle.schema.proofs.table.Table.remove.Goals as goal

pub invariant_of-self : goal.invariant_of-self
invariant_of-self g c =
    let there : is_some (find value_cmp c.value-then-has.result.now (joined c.self.inside.pages.items)) ≡ true =
    (λ i. is_some (find value_cmp (c.value-then-has.ensures.value i) (c.self.view_is i))) ∙ (λ i. is_some (find value_cmp (sym c.value.ensures.value i) c.args.self.now)) ∙ sym c.if-has.ensures in
    let fewer : length (changed c.value-then-has.result.now None (joined c.self.inside.pages.items)) + 1 ≡ length (joined c.self.inside.pages.items) = count-gone c.value-then-has.result.now (joined c.self.inside.pages.items) there c.self.invariant.0.0 in
    (c.remove.ensures.laid_out, omega (arith, fewer, c.self.invariant.1, ap length c.remove.ensures.rows))

pub returns-else-has : goal.returns-else-has
returns-else-has g c = gone-absent c.args.key.now c.args.self.now (ap (λ k. is_some (find value_cmp k c.args.self.now)) (sym c.value.ensures.value) ∙ sym c.if-has.ensures)
