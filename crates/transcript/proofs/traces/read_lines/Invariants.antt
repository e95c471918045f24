use Rattle.std.proofs.Common.{◌≡◌, ◌+◌, ◌==◌, ◌≤◌, length}
use Rattle.std.specs.List.{slice_split}
use Rattle.transcript.specs.Lines.{read_from, read_text}
use Rattle.transcript.specs.Reading.{with_line}
use Rattle.transcript.proofs.traces.read_lines.Given as goal

-- as many lines are left as the text has, less those that were read, and they are read after those
abbrev pub invariant-loop-line : goal.invariant-loop-line
invariant-loop-line g l =
    (l.number + length (slice_split (λ b. b == 10) l.rest) ≡ 1 + length (slice_split (λ b. b == 10) l.text))
    × (l.number + length l.rest ≤ 1 + length l.text) × (1 ≤ l.number)
    × (read_from (with_line l.catalog) l.reader l.number (slice_split (λ b. b == 10) l.rest) ≡ read_text (with_line l.catalog) l.initial.reader l.text)

abbrev pub decreases-loop-line : goal.decreases-loop-line
decreases-loop-line g l = length l.rest
