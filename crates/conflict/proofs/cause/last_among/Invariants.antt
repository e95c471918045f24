use Rattle.std.proofs.Common.{◌≡◌, take}
use Rattle.std.specs.List.{filter}
use Rattle.std.specs.Option.{option_map}
use Rattle.value.specs.Isolation.{earliest, edge_of}
use Rattle.conflict.specs.Tracked.{node_after, reads}
use Rattle.conflict.specs.Walks.{found, is_last}
use Rattle.conflict.proofs.cause.last_among.Given as goal

-- the first to commit of those so far
abbrev pub invariant-loop-writer : goal.invariant-loop-writer
invariant-loop-writer g l =
    l.last ≡ option_map (node_after l.commit.txn l.commit.number) (earliest (node_after l.commit.txn l.commit.number) (edge_of (node_after l.commit.txn l.commit.number) reads)
    (filter (is_last l.commit.txn l.commit.number l.pivot) (found (take l.writer-index l.numbers) l.parties)))
