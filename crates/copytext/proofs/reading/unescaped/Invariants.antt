use Rattle.std.proofs.Common.{◌≡◌, ◌++◌, List, ℕ, length}
use Rattle.std.specs.Option.{option_map}
use Rattle.copytext.specs.Reading.{content}
use Rattle.copytext.proofs.reading.unescaped.Given as goal

-- the bytes so far, in front of the content of the rest
abbrev pub invariant-loop-rest : goal.invariant-loop-rest
invariant-loop-rest g l = content l.raw ≡ option_map (λ (more : List ℕ). l.bytes.items ++ more) (content l.rest)

abbrev pub decreases-loop-rest : goal.decreases-loop-rest
decreases-loop-rest g l = length l.rest
