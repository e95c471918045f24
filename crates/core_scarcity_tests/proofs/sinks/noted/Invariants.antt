use Rattle.std.proofs.Common.{◌≡◌, map, take}
use Rattle.core_scarcity_tests.proofs.sinks.noted.Given as goal

-- the bytes so far are noted
abbrev pub invariant-loop-byte : goal.invariant-loop-byte
invariant-loop-byte l = map (λ p. p.0) l.log.items ≡ take l.byte-index l.bytes
