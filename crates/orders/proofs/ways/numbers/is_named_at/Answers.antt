use Rattle.std.proofs.Common.{◌∙◌, ap, sym, false}
use Rattle.std.specs.Option.{option_map_or}
use Rattle.orders.specs.Counts.{names_key}
use Rattle.orders.proofs.NumberLemmas.{named-at}
use Rattle.orders.proofs.ways.numbers.is_named_at.Goals as goal

pub returns-in-Some : goal.returns-in-Some
returns-in-Some g c = c.names_key.ensures ∙ ap (λ o. option_map_or (λ a. names_key c.args.key.now a.statement) o false) c.in-Some.ensures ∙ sym (named-at c.args.key.now c.args.statements.now c.args.number)

pub returns-in-None : goal.returns-in-None
returns-in-None g c = ap (λ o. option_map_or (λ a. names_key c.args.key.now a.statement) o false) c.in-None.ensures ∙ sym (named-at c.args.key.now c.args.statements.now c.args.number)
