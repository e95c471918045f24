use Rattle.std.proofs.Common.{◌≡◌, ◌≤◌, length, min}
use Rattle.value.specs.Isolation.{edge_of, first_part}
use Rattle.transactions.proofs.conflicts.isolation.first_part.Given as goal

-- the least so far, and of those left
abbrev pub invariant-loop-left : goal.invariant-loop-left
invariant-loop-left g l =
    (min l.least (first_part g.T.Party.node (edge_of g.T.Party.node g.T.Party.reads) l.transaction l.left)
    ≡ first_part g.T.Party.node (edge_of g.T.Party.node g.T.Party.reads) l.transaction l.transactions)
    × (l.least ≤ (g.T.Party.node l.transaction).commit)

abbrev pub decreases-loop-left : goal.decreases-loop-left
decreases-loop-left g l = length l.left
