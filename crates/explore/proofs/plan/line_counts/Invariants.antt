use Rattle.std.proofs.Common.{◌≡◌}
use Rattle.explore.specs.Explored.{line_counts}
use Rattle.explore.proofs.plan.line_counts.Given as goal

abbrev pub invariant-loop-place : goal.invariant-loop-place
invariant-loop-place g l = l.counts.items ≡ line_counts l.lines l.place
