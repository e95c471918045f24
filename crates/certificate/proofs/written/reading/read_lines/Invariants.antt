use Rattle.std.proofs.Common.{◌≡◌, length}
use Rattle.certificate.specs.Reading.{lines_in}
use Rattle.certificate.proofs.LineLemmas.{behind_read}
use Rattle.certificate.proofs.written.reading.read_lines.Given as goal

-- the text's lines are those that were read, and those of what is left
abbrev pub invariant-loop-line : goal.invariant-loop-line
invariant-loop-line g l = lines_in l.naming l.text ≡ behind_read l.naming l.lines.items l.number l.rest

abbrev pub decreases-loop-line : goal.decreases-loop-line
decreases-loop-line g l = length l.rest
