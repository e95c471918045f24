use Rattle.std.proofs.Common.{◌≡◌, ◌++◌}
use Rattle.explore.specs.Setups.{AreExplored}
use Rattle.explore.proofs.setup.explored_lines.Given as goal

-- the lines so far are explored
abbrev pub invariant-loop-line : goal.invariant-loop-line
invariant-loop-line g l = (l.yielded ++ l.line-iterator.rest.items ≡ l.fn.lines.items) × AreExplored l.yielded l.explored.items l.turns.items
