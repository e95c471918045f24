use Rattle.std.proofs.Common.{◌≡◌, ◌≤◌, length}
use Rattle.std.proofs.lemmas.List.Filters.{FiltersInPlace}
use Rattle.transactions.specs.Forgetting.{is_left, least_of_recent}
use Rattle.transactions.proofs.kept.forgetting.keep_needed.Given as goal

-- those so far that matter are kept, and all that are passed
abbrev pub invariant-loop-at : goal.invariant-loop-at
invariant-loop-at g l =
    FiltersInPlace (is_left l.from l.oldest l.initial.transactions.items) l.initial.transactions.items l.transactions.items l.kept l.at
    × (l.at-end ≡ length l.initial.transactions.items)
    × (l.reach ≤ least_of_recent l.oldest l.initial.transactions.items)
    × (l.from ≤ l.at)
