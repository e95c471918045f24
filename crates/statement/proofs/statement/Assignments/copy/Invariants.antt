use Rattle.std.proofs.Common.{◌≡◌, take}
use Rattle.statement.proofs.statement.Assignments.copy.Given as goal

-- those copied so far
abbrev pub invariant-loop-assignment : goal.invariant-loop-assignment
invariant-loop-assignment g l = l.assignments.items ≡ take l.assignment-index l.assignment-items
