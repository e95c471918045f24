use Rattle.std.proofs.Common.{◌≡◌, take}
use Rattle.certificate.proofs.known.copy_findings.Given as goal

-- those copied so far
abbrev pub invariant-loop-finding : goal.invariant-loop-finding
invariant-loop-finding g l = l.copy.items ≡ take l.finding-index l.findings
