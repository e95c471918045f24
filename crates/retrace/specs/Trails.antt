-- What a transaction did, event by event.
use Rattle.std.specs.Prelude.{ℕ, Bool, List, take}
use Rattle.schema.specs.declared.changes.Change.{Change}
use Rattle.statement.specs.declared.reading.Reading.{Reading}
use Rattle.statement.specs.declared.outcome.Mark.{Mark}
use Rattle.retrace.specs.declared.witness.trace.Moment.{Moment}

pub record Trail (A : Type 0) : Type 0 where
  pub session : ℕ
  pub number : ℕ
  pub read_write : Bool
  pub begin : ℕ  -- the place of its BEGIN among the events
  pub snapshot : ℕ  -- it sees the commits up to this number
  pub commit : ℕ  -- the number of its commit; 0 where it has none
  pub reads : List (Reading A)  -- what its statements read
  pub changes : List (Change A)  -- what they wrote
  pub marks : List (Mark A)  -- the references of the rows that they wrote
  pub moments : List Moment  -- those after its statements, in their order

module _ {A : Type 0} where
  -- what it had read, written and marked at a moment
  abbrev pub read_by : Trail A → Moment → List (Reading A)
  read_by t m = take m.reads t.reads

  abbrev pub changed_by : Trail A → Moment → List (Change A)
  changed_by t m = take m.changes t.changes

  abbrev pub marked_by : Trail A → Moment → List (Mark A)
  marked_by t m = take m.marks t.marks
