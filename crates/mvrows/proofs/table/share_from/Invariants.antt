use Rattle.std.proofs.Common.{◌≡◌}
use Rattle.mvrows.specs.HeldRows.{pages_of}
use Rattle.mvrows.proofs.table.share_from.Given as goal

-- the pages are as they were
abbrev pub invariant-loop-place : goal.invariant-loop-place
invariant-loop-place g l = pages_of l.leaves.items ≡ pages_of l.initial.leaves.items
