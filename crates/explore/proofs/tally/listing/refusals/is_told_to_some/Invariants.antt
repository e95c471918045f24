use Rattle.std.proofs.Common.{◌≡◌, ◌-◌, false, map}
use Rattle.std.specs.List.{list_any, range_with_len}
use Rattle.explore.specs.Refusals.{is_told}
use Rattle.explore.proofs.tally.listing.refusals.is_told_to_some.Given as goal

-- no session so far
abbrev pub invariant-loop-session : goal.invariant-loop-session
invariant-loop-session g l = list_any (is_told l.reply (map (λ x. x.now) l.found)) (range_with_len 1 (l.session - 1)) ≡ false
