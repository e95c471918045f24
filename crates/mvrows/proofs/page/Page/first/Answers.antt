use Rattle.std.proofs.Common.{ap, ◌++◌, ◌∷◌, [], ◌∙◌}
use Rattle.mvrows.specs.HeldRows.{chain_key}
use Rattle.schema.proofs.PageLemmas.{one-in_order}
use Rattle.mvrows.proofs.page.Page.first.Goals as goal

pub invariant_of-result : goal.invariant_of-result
invariant_of-result g c = one-in_order chain_key c.in_ok-of.field-0 c.push.new.self.items (c.in_ok-push.ensures.items ∙ ap (λ xs. xs ++ c.in_ok-of.field-0 ∷ []) c.new-chains.ensures.items)
