use Rattle.std.proofs.Common.{◌∙◌, ap, sym, option_map, Some}
use Rattle.orders.specs.Counts.{table_of}
use Rattle.orders.proofs.NumberLemmas.{table-at}
use Rattle.orders.proofs.ways.numbers.table_at.Goals as goal

pub returns-in-Some : goal.returns-in-Some
returns-in-Some g c = ap Some c.table_of.ensures ∙ ap (option_map (λ a. table_of a.statement)) c.in-Some.ensures ∙ sym (table-at c.args.statements.now c.args.number)

pub returns-in-None : goal.returns-in-None
returns-in-None g c = ap (option_map (λ a. table_of a.statement)) c.in-None.ensures ∙ sym (table-at c.args.statements.now c.args.number)
