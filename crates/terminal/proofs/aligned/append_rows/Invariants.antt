use Rattle.std.proofs.Common.{◌≡◌, ◌++◌, map, take}
use Rattle.std.specs.List.{flat_map}
use Rattle.terminal.specs.Tables.{row_text}
use Rattle.terminal.proofs.aligned.append_rows.Given as goal

-- the lines of the rows so far
abbrev pub invariant-loop-row : goal.invariant-loop-row
invariant-loop-row g l = l.text.items ≡ l.initial.text.items ++ flat_map (row_text l.widths) (map (λ r. r.now) (take l.row-index l.rows))
