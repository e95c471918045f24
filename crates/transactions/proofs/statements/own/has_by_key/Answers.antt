use Rattle.std.proofs.Common.{rules, of_calls, ◌∙◌}
use Rattle.std.proofs.lemmas.Fn.{always_returns_same}
use Rattle.schema.specs.Changing.{change_cmp}
use Rattle.transactions.proofs.RisingLemmas.{searched}
use Rattle.transactions.proofs.statements.own.has_by_key.Goals as goal

pub returns : goal.returns
returns g c =
    let found = c.binary_search_by.ensures.position (λ own. change_cmp own c.args.change.now) (always_returns_same _ _ _ (λ a r f k. search (rules, of_calls))) in
    c.is_ok.ensures.value ∙ searched c.args.change.now c.args.written.now c.binary_search_by.result c.requires c.binary_search_by.ensures.bound found
