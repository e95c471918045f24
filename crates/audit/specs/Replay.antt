-- Transactions run again alone, one after the other, by their courses.
use Rattle.std.specs.Prelude.{ℕ, ◌≡◌, ◌+◌, ◌-◌, slice_get, nat_lt, max, ◌==◌, Bool, true, false, not, ◌&&◌, if◌then◌else◌, Option, Some, None, List, [], ◌∷◌}
use Rattle.std.specs.List.{filter, find, list_all}
use Rattle.schema.specs.Definition.{Catalog}
use Rattle.schema.specs.declared.tables.Tables.{Tables}
use Rattle.statement.specs.declared.statement.Statement.{Statement}
use Rattle.statement.specs.declared.reply.Reply.{Reply}
use Rattle.statement.specs.Evaluation.{outcome, after}
use Rattle.statement.specs.Fits.{fits}
use Rattle.audit.specs.Course.{Track}
use Rattle.audit.specs.Same.{same_answer}

module _ {A : Type 0} where
  -- the statements, done one after the other, get the same answers
  abbrev pub answers_again : Catalog → List (Statement A × Reply A) → Tables A → Bool
  answers_again c [] X = true
  answers_again c (q ∷ qs) X = same_answer (outcome c q.0 X).reply q.1 && answers_again c qs (after c q.0 X)

  -- the statements fit the catalog
  abbrev pub are_fit : Catalog → List (Statement A × Reply A) → Bool
  are_fit c qs = list_all (λ q. fits c q.0) qs

  -- the tables that they end at
  abbrev pub end_of : Catalog → List (Statement A × Reply A) → Tables A → Tables A
  end_of c [] X = X
  end_of c (q ∷ qs) X = end_of c qs (after c q.0 X)

  -- the latest BEGIN after one more, of those that haven't imported
  abbrev pub latest_with : ℕ → Track A → ℕ
  latest_with latest x = if x.imported then latest else max latest x.begin

  -- One more, if it is there: it hadn't ended before the latest BEGIN, it gets its answers, and the rest follows.
  abbrev pub goes_next : Catalog → ℕ → Tables A → Option (Track A) → (ℕ → Tables A → Bool) → Bool
  goes_next c latest X None rest = false
  goes_next c latest X (Some x) rest = not (nat_lt x.end latest) && answers_again c x.statements X && rest (latest_with latest x) (end_of c x.statements X)

  -- those without this number
  abbrev pub without : ℕ → List (Track A) → List (Track A)
  without n xs = filter (λ y. not (y.number == n)) xs

  -- a course, if its transaction committed
  abbrev pub if_committed : Track A → Option (Track A)
  if_committed x = if x.committed then Some x else None

  -- those that are there
  abbrev pub present : List (Option (Track A)) → List (Track A)
  present [] = []
  present (None ∷ xs) = present xs
  present (Some x ∷ xs) = x ∷ present xs

  -- each that is there stands at the place before its number
  abbrev pub AreInPlace : List (Option (Track A)) → Type 0
  AreInPlace xs = (i : ℕ) (x : Track A) → slice_get xs i ≡ Some (Some x) → x.number ≡ i + 1

  abbrev pub is_empty : List (Track A) → Bool
  is_empty [] = true
  is_empty (x ∷ xs) = false

  -- The courses with these numbers, above a base, are all of them, each once; and in that order they go one after the other.
  abbrev pub replays : Catalog → ℕ → ℕ → List (Track A) → List ℕ → Tables A → Bool
  replays c base latest xs [] X = is_empty xs
  replays c base latest xs (n ∷ ns) X = goes_next c latest X (find (λ y. y.number == n - base) xs) (λ l Y. replays c base l (without (n - base) xs) ns Y)
