use Rattle.std.proofs.Common.{◌≡◌, take}
use Rattle.mvrows.specs.HeldRows.{pages_of}
use Rattle.mvrows.proofs.table.TableCopied.copy.Given as goal

-- the pages so far
abbrev pub invariant-loop-leaf : goal.invariant-loop-leaf
invariant-loop-leaf g l = pages_of l.leaves.items ≡ pages_of (take l.leaf-index l.leaf-items)
