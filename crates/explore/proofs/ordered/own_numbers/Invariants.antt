use Rattle.std.proofs.Common.{◌≡◌, take}
use Rattle.explore.specs.Ordered as spec
use Rattle.explore.proofs.ordered.own_numbers.Given as goal

-- the session's turns so far
abbrev pub invariant-loop-turn : goal.invariant-loop-turn
invariant-loop-turn g l = l.numbers.items ≡ spec.own_numbers l.session (take l.turn-index l.turns)
