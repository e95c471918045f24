use Rattle.std.proofs.Common.{◌≡◌, map, take}
use Rattle.transactions.specs.Keys.{keyed}
use Rattle.audit.specs.Orders.{key_lines}
use Rattle.audit.proofs.ordering.lines_of.Given as goal

-- the lines so far
abbrev pub invariant-loop-entry : goal.invariant-loop-entry
invariant-loop-entry g l = l.text.items ≡ key_lines (map keyed (take l.entry-index l.keys))
