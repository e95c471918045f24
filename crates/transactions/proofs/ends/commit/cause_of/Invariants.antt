use Rattle.std.proofs.Common.{◌≡◌, None, take}
use Rattle.std.specs.Prelude.{◌==◌}
use Rattle.std.specs.List.{find}
use Rattle.transactions.proofs.ends.commit.cause_of.Given as goal

-- none so far has the number in its middle
abbrev pub invariant-loop-cause : goal.invariant-loop-cause
invariant-loop-cause l = find (λ x. x.b.0 == l.number) (take l.cause-index l.causes) ≡ None
