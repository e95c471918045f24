use Rattle.std.proofs.Common.{◌≡◌, ◌++◌, map, take}
use Rattle.explore.specs.Ordered.{text_of}
use Rattle.explore.proofs.ordered.append_lines.Given as goal

-- the lines so far
abbrev pub invariant-loop-line : goal.invariant-loop-line
invariant-loop-line g l = l.text.items ≡ l.fn.text.items ++ text_of (map (λ x. x.now) (take l.line-index l.lines))
