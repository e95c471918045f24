use Rattle.std.proofs.Common.{◌≡◌, length}
use Rattle.std.specs.Option.{is_some}
use Rattle.copytext.specs.Reading.{content}
use Rattle.copytext.proofs.fields.has_right_escapes.Given as goal

-- the rest has a content where the whole has
abbrev pub invariant-loop-rest : goal.invariant-loop-rest
invariant-loop-rest l = is_some (content l.rest) ≡ is_some (content l.raw)

abbrev pub decreases-loop-rest : goal.decreases-loop-rest
decreases-loop-rest l = length l.rest
