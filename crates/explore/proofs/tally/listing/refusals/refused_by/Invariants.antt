use Rattle.std.proofs.Common.{◌≡◌, ◌-◌, map}
use Rattle.std.specs.List.{filter, range_with_len}
use Rattle.explore.specs.Refusals.{refuses}
use Rattle.explore.proofs.tally.listing.refusals.refused_by.Given as goal

-- the sessions so far
abbrev pub invariant-loop-session : goal.invariant-loop-session
invariant-loop-session g l = l.refused.items ≡ filter (refuses (map (λ x. x.now) l.found)) (range_with_len 1 (l.session - 1))
