use Rattle.std.proofs.Common.{◌<◌, length}
use Rattle.std.proofs.lemmas.List.Elements.{All-weaker}
use Rattle.explore.specs.Outcomes.{IsFirst, outcomes}
use Rattle.explore.proofs.Counts.{counted, first_each, once_each, some_each}
use Rattle.explore.proofs.Stretches.{every_run}
use Rattle.explore.proofs.tally.laws.outcomes_are_counted.Goals as goal

pub returns-clause-counted : goal.returns-clause-counted
returns-clause-counted c = counted

pub returns-clause-once : goal.returns-clause-once
returns-clause-once c = once_each

pub returns-clause-some : goal.returns-clause-some
returns-clause-some c = some_each

pub returns-clause-first : goal.returns-clause-first
returns-clause-first c = first_each

pub returns-clause-all : goal.returns-clause-all
returns-clause-all c = λ texts. (every_run texts, All-weaker (IsFirst texts) (λ o. o.first < length texts) (λ o f. f.0) (outcomes texts) (first_each texts))
