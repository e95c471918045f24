use Rattle.std.proofs.Common.{◌≡◌, ◌++◌, map, take}
use Rattle.dumpplan.specs.Lines.{written, create_line}
use Rattle.dumpplan.specs.Parts.{ended}
use Rattle.dumpplan.proofs.text.append_create_lines.Given as goal

-- the tables so far
abbrev pub invariant-loop-place : goal.invariant-loop-place
invariant-loop-place g l = l.text.items ≡ l.fn.text.items ++ ended (map (λ d. create_line (written l.catalog d)) (take l.place l.catalog))
