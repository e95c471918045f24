use Rattle.std.proofs.Common.{◌≡◌, None, take}
use Rattle.value.specs.Isolation.{first_some}
use Rattle.history.specs.Transactions.{edge, node}
use Rattle.transactions.specs.Structures.{closed_pair}
use Rattle.transactions.proofs.conflicts.cause.cause_of_pivots.Given as goal

-- no pivot so far
abbrev pub invariant-loop-pivot : goal.invariant-loop-pivot
invariant-loop-pivot g l = first_some (closed_pair node edge l.all l.first) (take l.pivot-index l.pivots) ≡ None
