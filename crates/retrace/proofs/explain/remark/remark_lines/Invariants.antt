use Rattle.std.proofs.Common.{◌≡◌, map, take}
use Rattle.retrace.specs.Remarks.{remark_lines}
use Rattle.retrace.proofs.explain.remark.remark_lines.Given as goal

-- the remarks so far
abbrev pub invariant-loop-remark : goal.invariant-loop-remark
invariant-loop-remark g l = l.text.items ≡ remark_lines l.session (map (λ r. r.items) (take l.remark-index l.remarks))
