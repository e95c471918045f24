use Rattle.std.proofs.Common.{ap, sym, subst, ◌∙◌}
use Rattle.schema.specs.Paged.{is_before}
use Rattle.schema.specs.Rows.{IsInKeyOrder}
use Rattle.schema.proofs.table.page.Page.is_before.Goals as goal

pub is_before-requires : goal.is_before-requires
is_before-requires g c = subst IsInKeyOrder (sym c.as_slice.ensures.value) c.self.invariant

pub returns : goal.returns
returns g c = c.is_before.ensures ∙ ap (is_before c.args.bound) (c.as_slice.ensures.value ∙ c.self.view_is)
