use Rattle.std.proofs.Common.{◌∙◌, ap, sym, option_and_then}
use Rattle.orders.specs.Counts.{number_told}
use Rattle.orders.proofs.NumberLemmas.{number-at}
use Rattle.orders.proofs.ways.numbers.number_at.Goals as goal

pub returns-in-Some : goal.returns-in-Some
returns-in-Some g c = c.number_told.ensures ∙ ap (option_and_then (λ a. number_told c.args.table a.statement a.reply)) c.in-Some.ensures ∙ sym (number-at c.args.table c.args.statements.now c.args.number)

pub returns-in-None : goal.returns-in-None
returns-in-None g c = ap (option_and_then (λ a. number_told c.args.table a.statement a.reply)) c.in-None.ensures ∙ sym (number-at c.args.table c.args.statements.now c.args.number)
