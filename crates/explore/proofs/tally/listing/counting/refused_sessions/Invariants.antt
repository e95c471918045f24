use Rattle.std.proofs.Common.{◌≡◌, ◌-◌, nat_lt}
use Rattle.std.specs.List.{filter, range_with_len}
use Rattle.explore.specs.declared.tally.listing.counting.Which.TheVariants.{Session}
use Rattle.explore.specs.Listing.{runs_with}
use Rattle.explore.proofs.tally.listing.counting.refused_sessions.Given as goal

-- the sessions so far
abbrev pub invariant-loop-session : goal.invariant-loop-session
invariant-loop-session g l = l.refused.items ≡ filter (λ s. nat_lt 0 (runs_with (Session s) l.all)) (range_with_len 1 (l.session - 1))
