use Rattle.orders.proofs.NumberLemmas.{told_at_least, told_at_most}
use Rattle.orders.proofs.ways.laws.answers_tell_numbers.Goals as goal

pub returns-clause-least : goal.returns-clause-least
returns-clause-least g c = told_at_least

pub returns-clause-most : goal.returns-clause-most
returns-clause-most g c = told_at_most
