use Rattle.std.proofs.Common.{◌≡◌, take}
use Rattle.orders.proofs.ways.way.copy_numbers.Given as goal

-- those copied so far
abbrev pub invariant-loop-number : goal.invariant-loop-number
invariant-loop-number g l = l.copy.items ≡ take l.number-index l.numbers
