use Rattle.std.proofs.Common.{◌≡◌, ◌+◌, ◌==◌, ◌≤◌, length}
use Rattle.std.specs.List.{slice_split}
use Rattle.script.specs.Scripts.{nothing, said_from}
use Rattle.script.proofs.script.read_script.Given as goal

-- the lines left are said after those before them
abbrev pub invariant-loop-line : goal.invariant-loop-line
invariant-loop-line g l =
    (said_from l.schedule l.script l.number (slice_split (λ b. b == 10) l.rest) ≡ said_from l.schedule nothing 1 (slice_split (λ b. b == 10) l.text))
    × (l.number + length l.rest ≤ 1 + length l.text)

abbrev pub decreases-loop-line : goal.decreases-loop-line
decreases-loop-line g l = length l.rest
