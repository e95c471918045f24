use Rattle.std.proofs.Common.{sym, subst, ◌≡◌, true, false, take, drop, ◌∙◌}
use Rattle.std.specs.List.{AllByRecursion}
use Rattle.std.specs.Ordering.{is_le}
use Rattle.value.specs.Order.{value_cmp}
use Rattle.schema.specs.declared.row.Row.{Row}
use Rattle.schema.specs.Rows.{IsInKeyOrder}
use Rattle.schema.specs.Paged.{row_key}
use Rattle.schema.proofs.PagedLemmas.{local-keeps}
use Rattle.schema.proofs.PutLemmas.{put-local}
use Rattle.schema.proofs.table.page.Page.put.Goals as goal

pub start-place-requires : goal.start-place-requires
start-place-requires g c = subst IsInKeyOrder (sym c.as_slice.ensures.value) c.self.invariant

pub put-requires-clause-before : goal.put-requires-clause-before
put-requires-clause-before g c =
    subst (λ rs. AllByRecursion (λ (r : Row _). is_le (value_cmp c.args.row.0 r.0) ≡ false) (take c.start-place.result rs)) c.as_slice.ensures.value
    (subst (λ x. AllByRecursion (λ (r : Row _). is_le (value_cmp x r.0) ≡ false) (take c.start-place.result c.as_slice.result.now)) (c.value.ensures.value ∙ c.key.ensures) c.start-place.ensures.before)

pub put-requires-clause-within : goal.put-requires-clause-within
put-requires-clause-within g c =
    subst (λ rs. AllByRecursion (λ (r : Row _). is_le (value_cmp c.args.row.0 r.0) ≡ true) (drop c.start-place.result rs)) c.as_slice.ensures.value
    (subst (λ x. AllByRecursion (λ (r : Row _). is_le (value_cmp x r.0) ≡ true) (drop c.start-place.result c.as_slice.result.now)) (c.value.ensures.value ∙ c.key.ensures) c.start-place.ensures.within)

pub invariant_of-self : goal.invariant_of-self
invariant_of-self g c = local-keeps row_key c.put.result c.args.row.0 _ c.self.inside.rows.items c.put.new.rows.items (put-local c.args.row) c.put.ensures.ok c.put.ensures.err c.self.invariant
