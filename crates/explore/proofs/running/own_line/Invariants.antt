use Rattle.std.proofs.Common.{◌≡◌, length}
use Rattle.explore.specs.Explored.{own_line}
use Rattle.explore.proofs.running.own_line.Given as goal

-- what is left has the line after those that are still to be passed over
abbrev pub invariant-loop-left : goal.invariant-loop-left
invariant-loop-left g l = own_line l.place l.others l.left ≡ own_line l.place l.fn.others l.lines

abbrev pub decreases-loop-left : goal.decreases-loop-left
decreases-loop-left g l = length l.left
