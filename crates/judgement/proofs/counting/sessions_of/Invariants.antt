use Rattle.std.proofs.Common.{◌≡◌, map, take}
use Rattle.judgement.specs.Telling.{names_of}
use Rattle.judgement.proofs.counting.sessions_of.Given as goal

-- the sessions so far
abbrev pub invariant-loop-name : goal.invariant-loop-name
invariant-loop-name g l = l.numbers.items ≡ map (λ x. x.session) (names_of (take l.name-index l.names))
