use Rattle.std.proofs.Common.{◌≡◌, ◌++◌, map, take}
use Rattle.script.specs.Transcribing.{line_at}
use Rattle.explore.specs.Ordered.{text_of}
use Rattle.explore.proofs.ordered.append_numbered.Given as goal

-- the numbers so far
abbrev pub invariant-loop-number : goal.invariant-loop-number
invariant-loop-number g l = l.text.items ≡ l.fn.text.items ++ text_of (map (line_at (map (λ x. x.now) l.lines)) (take l.number-index l.numbers))
