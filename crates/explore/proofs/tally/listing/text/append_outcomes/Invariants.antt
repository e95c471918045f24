use Rattle.std.proofs.Common.{◌≡◌, ◌+◌, ◌++◌, drop}
use Rattle.explore.specs.Listing.{outcomes_text}
use Rattle.explore.proofs.tally.listing.text.append_outcomes.Given as goal

-- the outcomes so far, and those that are left
abbrev pub invariant-loop-place : goal.invariant-loop-place
invariant-loop-place g l =
    let orders = g.S.Schedules.orders l.schedules in
    l.text.items ++ outcomes_text l.shows orders (l.place + 1) (drop l.place l.all) ≡ l.fn.text.items ++ outcomes_text l.shows orders 1 l.all
