use Rattle.std.proofs.Common.{◌≡◌, ◌≤◌, take}
use Rattle.explore.specs.Explored.{lines_of}
use Rattle.explore.proofs.plan.lines_of.Given as goal

-- the lines so far
abbrev pub invariant-loop-line : goal.invariant-loop-line
invariant-loop-line g l = (l.count ≡ lines_of l.place (take l.line-index l.lines)) × (l.count ≤ l.line-index)
