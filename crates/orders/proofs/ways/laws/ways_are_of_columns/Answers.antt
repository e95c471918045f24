use Rattle.orders.proofs.WayLemmas.{holds_allows, holds_effect}
use Rattle.orders.proofs.ways.laws.ways_are_of_columns.Goals as goal

pub returns-clause-before : goal.returns-clause-before
returns-clause-before g c = λ k w before now h n. holds_allows k w before now n h

pub returns-clause-after : goal.returns-clause-after
returns-clause-after g c = λ k w before now h n. holds_effect k w before now n h
