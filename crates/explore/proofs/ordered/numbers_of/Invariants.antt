use Rattle.std.proofs.Common.{◌≡◌, ◌++◌, [], drop, map, take, Some}
use Rattle.explore.specs.Ordered.{numbers_from}
use Rattle.explore.proofs.ordered.numbers_of.Given as goal

-- the sessions before this place have gone
abbrev pub invariant-loop-place : goal.invariant-loop-place
invariant-loop-place g l = numbers_from l.turns [] l.order ≡ map Some l.numbers.items ++ numbers_from l.turns (take l.place l.order) (drop l.place l.order)
