use Rattle.std.proofs.Common.{◌≡◌, ◌≤◌, length, min}
use Rattle.std.specs.List.{filter}
use Rattle.value.specs.Isolation.{edge_of, first_part}
use Rattle.transactions.proofs.conflicts.keys.first_committed.Given as goal

-- the least so far, and of the committed ones left
abbrev pub invariant-loop-left : goal.invariant-loop-left
invariant-loop-left g l =
    let node = g.T.Party.node in
    let edge = edge_of g.T.Party.node g.T.Party.reads in
    (min l.least (first_part node edge l.transaction (filter (λ t. (node t).committed) l.left))
    ≡ first_part node edge l.transaction (filter (λ t. (node t).committed) l.transactions))
    × (l.least ≤ (node l.transaction).commit)

abbrev pub decreases-loop-left : goal.decreases-loop-left
decreases-loop-left g l = length l.left
