use Rattle.std.proofs.Common.{◌≡◌, ◌++◌, map}
use Rattle.audit.specs.Replay.{if_committed}
use Rattle.audit.proofs.order.to_come.Given as goal

-- those so far, and those left
abbrev pub invariant-loop-course : goal.invariant-loop-course
invariant-loop-course g l = l.left.items ++ map if_committed l.course-iterator.rest.items ≡ map if_committed l.fn.courses.items
