use Rattle.std.proofs.Common.{◌≡◌, fold, take}
use Rattle.value.specs.Isolation.{with_doom}
use Rattle.history.specs.Transactions.{node, reads_from}
use Rattle.transactions.proofs.conflicts.dooms.push_dooms.Given as goal

-- the causes of those so far
abbrev pub invariant-loop-pivot : goal.invariant-loop-pivot
invariant-loop-pivot g l = l.causes.items ≡ fold (with_doom node reads_from l.all l.committer) l.initial.causes.items (take l.pivot-index l.pivots)
