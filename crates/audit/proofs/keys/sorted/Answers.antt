use Rattle.std.proofs.Common.{of_calls, rules, subst}
use Rattle.std.proofs.lemmas.Fn.{always_returns_same}
use Rattle.std.specs.List.Sorted.{IsStableBy}
use Rattle.audit.specs.Sorting.{comes_before}
use Rattle.audit.proofs.SortingLemmas.{keys_order}
use Rattle.audit.proofs.keys.sorted.Goals as goal

pub returns-clause-order : goal.returns-clause-order
returns-clause-order g c = c.in_ok-sort_by.ensures.sorted comes_before keys_order (always_returns_same _ _ _ (λ a r f k. search (rules, of_calls)))

pub returns-clause-stable : goal.returns-clause-stable
returns-clause-stable g c =
    subst (λ es. IsStableBy comes_before es c.sort_by.new.self.items) c.in_ok-order.ensures.items
    (c.in_ok-sort_by.ensures.stable comes_before keys_order (always_returns_same _ _ _ (λ a r f k. search (rules, of_calls))))
