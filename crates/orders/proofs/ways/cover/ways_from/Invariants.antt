use Rattle.std.proofs.Common.{◌≡◌, map, drop}
use Rattle.orders.specs.Symbolic.{steps_from}
use Rattle.orders.proofs.ways.cover.ways_from.Given as goal

abbrev pub invariant-loop-number : goal.invariant-loop-number
invariant-loop-number g l =
    steps_from l.table l.key 0 (map (λ a. (a.statement, a.reply)) l.statements) l.fn.first.items ≡ steps_from l.table l.key l.number (map (λ a. (a.statement, a.reply)) (drop l.number l.statements)) l.ways.items
