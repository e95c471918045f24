use Rattle.std.proofs.Common.{◌≡◌, ◌++◌, length, map}
use Rattle.script.specs.Transcribing.{lines}
use Rattle.script.proofs.transcribing.lines_of.Given as goal

-- behind those so far come those that are left
abbrev pub invariant-loop-line : goal.invariant-loop-line
invariant-loop-line g l = map (λ x. x.now) l.lines.items ++ lines l.rest ≡ lines l.text

abbrev pub decreases-loop-line : goal.decreases-loop-line
decreases-loop-line g l = length l.rest
