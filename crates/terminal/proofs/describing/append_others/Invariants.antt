use Rattle.std.proofs.Common.{◌≡◌, ◌++◌, take}
use Rattle.std.specs.List.{flat_map}
use Rattle.terminal.specs.Described.{other_line}
use Rattle.terminal.proofs.describing.append_others.Given as goal

-- the lines of the columns so far
abbrev pub invariant-loop-column : goal.invariant-loop-column
invariant-loop-column g l = l.text.items ≡ l.initial.text.items ++ flat_map (other_line l.catalog) (take l.column-index l.columns)
