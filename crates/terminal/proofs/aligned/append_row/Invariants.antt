use Rattle.std.proofs.Common.{◌≡◌}
use Rattle.terminal.specs.Tables.{cells}
use Rattle.terminal.proofs.aligned.append_row.Given as goal

-- the cells so far
abbrev pub invariant-loop-column : goal.invariant-loop-column
invariant-loop-column g l = l.line.items ≡ cells l.widths l.row l.column
