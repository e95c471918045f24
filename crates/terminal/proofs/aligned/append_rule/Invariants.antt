use Rattle.std.proofs.Common.{◌≡◌}
use Rattle.terminal.specs.Tables.{rules}
use Rattle.terminal.proofs.aligned.append_rule.Given as goal

-- the rule below the names so far
abbrev pub invariant-loop-column : goal.invariant-loop-column
invariant-loop-column g l = l.line.items ≡ rules l.widths l.column
