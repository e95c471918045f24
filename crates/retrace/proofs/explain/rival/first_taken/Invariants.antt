use Rattle.std.proofs.Common.{◌≡◌, None, take}
use Rattle.std.specs.List.{find}
use Rattle.retrace.specs.Why.{is_taken}
use Rattle.retrace.proofs.explain.rival.first_taken.Given as goal

-- none so far
abbrev pub invariant-loop-change : goal.invariant-loop-change
invariant-loop-change g l = find (is_taken l.runs l.trace) (take l.change-index l.changes) ≡ None
