-- Which transactions met, and where. Transactions have their numbers, counted with those before the base.
use Rattle.std.specs.Prelude.{ℕ, ◌-◌, nat_lt, ◌==◌, Bool, not, ◌&&◌, ◌||◌, Option, Some, None, List}
use Rattle.std.specs.List.{find, list_any}
use Rattle.value.specs.declared.refusal.Cause.{Cause}
use Rattle.schema.specs.declared.changes.Change.{Change}
use Rattle.schema.specs.Plain.{same}
use Rattle.retrace.specs.Edges.{edge_between}
use Rattle.retrace.specs.Trails.{Trail}
use Rattle.retrace.specs.declared.witness.edge.Edge.{Edge}
use Rattle.retrace.specs.Runs.{Going}
use Rattle.retrace.specs.declared.explain.danger.Danger.{Danger}

module _ {A : Type 0} where
  -- ---- a dangerous structure

  -- a transaction has this number
  abbrev pub is_numbered : ℕ → ℕ → Going A → Bool
  is_numbered base n g = nat_lt base n && g.trace.number == n - base

  abbrev pub numbered : ℕ → ℕ → List (Going A) → Option (Going A)
  numbered base n gs = find (is_numbered base n) gs

  abbrev pub edge_to : Trail A → Option (Going A) → Option (Edge A)
  edge_to t None = None
  edge_to t (Some h) = edge_between t h.trace

  abbrev pub edge_from : Option (Going A) → Option (Going A) → Option (Edge A)
  edge_from None h = None
  edge_from (Some g) h = edge_to g.trace h

  -- what shows that transaction m has covered what transaction n wrote, and doesn't see it
  abbrev pub edge_of : ℕ → List (Going A) → ℕ → ℕ → Option (Edge A)
  edge_of base gs m n = edge_from (numbered base m gs) (numbered base n gs)

  -- a structure, with what shows each of its two conflicts
  abbrev pub danger_of : ℕ → List (Going A) → Cause → Danger A
  danger_of base gs k = record { cause = k; first = edge_of base gs k.a.0 k.b.0; second = edge_of base gs k.b.0 k.c.0 }

  -- ---- a row that another transaction has written

  abbrev pub is_of_key : Change A → Change A → Bool
  is_of_key x y = x.table == y.table && same x.key y.key

  -- a transaction has written the key of the change
  abbrev pub has_written : Change A → Going A → Bool
  has_written x g = list_any (is_of_key x) g.trace.changes

  -- a transaction goes on, or committed after t's snapshot
  abbrev pub is_unseen : Trail A → Going A → Bool
  is_unseen t g = g.active || nat_lt t.snapshot g.trace.commit

  -- a transaction is another one, of which t sees nothing, and has written the key that t would write
  abbrev pub is_rival : Trail A → Change A → Going A → Bool
  is_rival t x g = not (g.trace.number == t.number) && is_unseen t g && has_written x g

  unfoldable pub is_taken : List (Going A) → Trail A → Change A → Bool
  is_taken gs t x = list_any (is_rival t x) gs

  -- of what a transaction's refused statement would have written the first that another has
  abbrev pub taken : List (Going A) → Going A → Option (Change A)
  taken gs g = find (is_taken gs g.trace) g.refused

  -- the first that has it
  abbrev pub rival : List (Going A) → Trail A → Change A → Option (Going A)
  rival gs t x = find (is_rival t x) gs
