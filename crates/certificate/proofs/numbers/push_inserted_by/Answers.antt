use Rattle.std.proofs.Common.{◌≡◌, ◌∙◌, ◌++◌, ap, sym, subst, map, option_to_list, OnOk}
use Rattle.std.proofs.lemmas.List.Folds.{flat_map-map}
use Rattle.std.specs.List.{flat_map}
use Rattle.orders.specs.Counts.{inserted_key}
use Rattle.certificate.specs.Recorded.{inserted_keys}
use Rattle.certificate.proofs.numbers.push_inserted_by.Goals as goal

pub returns-clause-ok : goal.returns-clause-ok
returns-clause-ok g c =
    subst (λ keys. OnOk c.push_inserted.result (c.push_inserted.new.keys.items ≡ c.args.keys.now.items ++ keys))
    (ap (flat_map (λ a. option_to_list (inserted_key c.args.table a.statement))) c.as_slice.ensures.value
    ∙ sym (flat_map-map (λ q. option_to_list (inserted_key c.args.table q.0)) (λ a. (a.statement, a.reply)) c.transaction.inside.statements.items)
    ∙ ap (inserted_keys c.args.table) c.transaction.view_is)
    c.push_inserted.ensures.ok
