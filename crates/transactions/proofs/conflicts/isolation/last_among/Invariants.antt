use Rattle.std.proofs.Common.{◌≡◌, take}
use Rattle.std.specs.List.{filter}
use Rattle.std.specs.Option.{option_map}
use Rattle.value.specs.Isolation.{earliest, edge_of, is_dangerous}
use Rattle.transactions.proofs.conflicts.isolation.last_among.Given as goal

-- the first to commit of those so far that close it
abbrev pub invariant-loop-candidate : goal.invariant-loop-candidate
invariant-loop-candidate g l =
    l.last ≡ option_map g.T.Party.node (earliest g.T.Party.node (edge_of g.T.Party.node g.T.Party.reads)
    (filter (is_dangerous g.T.Party.node (edge_of g.T.Party.node g.T.Party.reads) l.first l.pivot) (take l.candidate-index l.transactions)))
