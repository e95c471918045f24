use Rattle.std.proofs.Common.{◌≡◌, ◌++◌}
use Rattle.schema.specs.Changing.{changes_in}
use Rattle.schema.specs.KeyedChange.{shown_changes}
use Rattle.schema.proofs.changes.table.ChangedTable.move_into.Given as goal

-- the changes moved so far, and those left
abbrev pub invariant-loop-key : goal.invariant-loop-key
invariant-loop-key g l = l.list.items ++ changes_in l.table (shown_changes l.key-iterator) ≡ l.initial.list.items ++ changes_in l.table l.fn.self
