use Rattle.std.proofs.Common.{ap, ◌++◌, ◌∷◌, [], ◌∙◌}
use Rattle.schema.specs.Paged.{row_key}
use Rattle.schema.proofs.PageLemmas.{one-in_order}
use Rattle.schema.proofs.table.page.Page.of.Goals as goal

pub invariant_of-result : goal.invariant_of-result
invariant_of-result g c = one-in_order row_key c.args.row c.push.new.self.items (c.in_ok-push.ensures.items ∙ ap (λ xs. xs ++ c.args.row ∷ []) c.in_ok-rows.ensures.items)
