use Rattle.std.proofs.Common.{◌≡◌, ◌≤◌, [], fold, length, take}
use Rattle.std.specs.List.{filter}
use Rattle.value.specs.Isolation.{is_live}
use Rattle.conflict.specs.Tracked.{node, reads}
use Rattle.conflict.specs.Walks.{found, with_walked}
use Rattle.conflict.proofs.dooms.walked_dooms.Given as goal

-- the causes of those so far, no more than those that live
abbrev pub invariant-loop-reader : goal.invariant-loop-reader
invariant-loop-reader g l =
    (l.dooms ≡ fold (with_walked l.parties l.committer) [] (found (take l.reader-index l.numbers) l.parties))
    × (length l.dooms ≤ length (filter (is_live node reads l.committer) (found (take l.reader-index l.numbers) l.parties)))
