use Rattle.std.proofs.Common.{rules, of_calls, ◌∙◌}
use Rattle.std.proofs.lemmas.Fn.{always_returns_same}
use Rattle.value.specs.Order.{value_cmp}
use Rattle.statement.proofs.DeleteLemmas.{searched_key}
use Rattle.statement.proofs.evaluate.delete.has_key.Goals as goal

pub returns : goal.returns
returns g c =
    let found = c.binary_search_by.ensures.position (λ row. value_cmp row.now.0 c.args.key.now) (always_returns_same _ _ _ (λ a r f k. search (rules, of_calls))) in
    c.is_ok.ensures.value ∙ searched_key c.args.key.now c.args.rows.now c.binary_search_by.result c.requires c.binary_search_by.ensures.bound found
