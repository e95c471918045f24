use Rattle.std.proofs.Common.{◌≡◌, ◌++◌, ◌∷◌, [], List, ℕ, sum}
use Rattle.explore.specs.Numbers.{IsNumber}
use Rattle.explore.proofs.tally.interleave.steps.with_session.Given as goal

abbrev pub invariant-loop-line : goal.invariant-loop-line
invariant-loop-line l = (before : List ℕ) → sum before ≡ l.fn.earlier → IsNumber l.fn.number before → IsNumber l.number (before ++ l.line ∷ [])
