use Rattle.std.proofs.Common.{◌≡◌, map}
use Rattle.terminal.specs.Tables.{first_widths}
use Rattle.terminal.proofs.aligned.widths_of.Given as goal

-- the widths of the columns so far
abbrev pub invariant-loop-column : goal.invariant-loop-column
invariant-loop-column g l = l.widths.items ≡ first_widths l.names (map (λ r. r.now) l.rows) l.column
