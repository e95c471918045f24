use Rattle.std.proofs.Common.{◌≡◌, drop}
use Rattle.certificate.specs.Certificates.{beginning, judged}
use Rattle.certificate.proofs.checking.check.Given as goal

-- what is judged of all lines is judged of the rest from here
abbrev pub invariant-loop-place : goal.invariant-loop-place
invariant-loop-place g l = judged l.recording 0 beginning l.lines ≡ judged l.recording l.place l.standing (drop l.place l.lines)
