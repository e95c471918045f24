use Rattle.std.proofs.Common.{◌≡◌, None, take}
use Rattle.value.specs.Isolation.{first_some}
use Rattle.history.specs.Transactions.{edge, node}
use Rattle.transactions.specs.Structures.{begun_cause}
use Rattle.transactions.proofs.conflicts.cause.cause_of_firsts.Given as goal

-- none so far is the first of a structure
abbrev pub invariant-loop-first : goal.invariant-loop-first
invariant-loop-first g l = first_some (begun_cause node edge l.all) (take l.first-index l.firsts) ≡ None
