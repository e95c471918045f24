-- Where the next line of each session stands: a way to find it without counting.
use Rattle.std.specs.Prelude.{◌≡◌, ℕ, ◌+◌, ◌<◌, ◌≤◌, List, drop, get_or, length}
use Rattle.history.specs.declared.event.Record.{Record}
use Rattle.explore.specs.declared.plan.Line.{Line}
use Rattle.explore.specs.Explored.{events_of, own_line}

module _ {A : Type 0} where
  -- The lines of the session at place p, after the first k of its own, are those from the line at c on.
  abbrev pub IsCursor : List (Line A) → ℕ → ℕ → ℕ → Type 0
  IsCursor lines p k c = (c ≤ length lines) × ((j : ℕ) → own_line p j (drop c lines) ≡ own_line p (k + j) lines)

  -- each of these is the cursor of the session at its place, after as many lines as that has done
  abbrev pub AreCursors : List (Line A) → List (Record A) → List ℕ → Type 0
  AreCursors lines es cs = (p : ℕ) → p < length cs → IsCursor lines p (events_of p es) (get_or cs p 0)
