use Rattle.std.proofs.Common.{◌≡◌, ◌++◌, take}
use Rattle.std.specs.List.{flat_map}
use Rattle.script.specs.Printing.{row_line}
use Rattle.judgement.proofs.replies.append_rows.Given as goal

-- the rows so far
abbrev pub invariant-loop-row : goal.invariant-loop-row
invariant-loop-row g l = l.text.items ≡ l.fn.text.items ++ flat_map (row_line l.session) (take l.row-index l.row-items)
