use Rattle.std.proofs.Common.{◌≡◌, take}
use Rattle.std.specs.List.{filter}
use Rattle.std.specs.Option.{option_map}
use Rattle.value.specs.Isolation.{earliest}
use Rattle.conflict.specs.Tracked.{edge, node}
use Rattle.conflict.specs.Walks.{found, is_unseen}
use Rattle.conflict.proofs.parties.first_written.Given as goal

-- the first to commit of those so far
abbrev pub invariant-loop-writer : goal.invariant-loop-writer
invariant-loop-writer g l = l.first ≡ option_map node (earliest node edge (filter (is_unseen l.reader) (found (take l.writer-index l.numbers) l.parties)))
