use Rattle.std.proofs.Common.{◌≡◌, ◌≤◌, ◌^◌, ◌+◌, ◌++◌, length}
use Rattle.schema.specs.Changing.{changes_from}
use Rattle.schema.proofs.changes.trees.Trees.into_list.Given as goal

-- the changes moved so far, and those left; each place left is the number of a table
abbrev pub invariant-loop-changes : goal.invariant-loop-changes
invariant-loop-changes g l =
    (l.list.items ++ changes_from l.place l.changes-iterator.rest.items ≡ l.fn.self) × (l.place + length l.changes-iterator.rest.items ≤ 2 ^ 32)
