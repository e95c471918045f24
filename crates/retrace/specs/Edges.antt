-- Conflicts between two transactions by what they did so far, and what shows them.
-- Ports and Grittner, "Serializable Snapshot Isolation in PostgreSQL" (VLDB 2012), section 3.1.
use Rattle.std.specs.Prelude.{nat_lt, ◌==◌, Bool, not, ◌&&◌, ◌||◌, if◌then◌else◌, Option, Some, None}
use Rattle.std.specs.List.{find}
use Rattle.std.specs.Option.{option_map}
use Rattle.retrace.specs.declared.witness.trace.Moment.{Moment}
use Rattle.retrace.specs.declared.witness.item.Item.{Item}
use Rattle.retrace.specs.declared.witness.edge.Edge.{Edge}
use Rattle.retrace.specs.Trails.{Trail, read_by, changed_by, marked_by}
use Rattle.retrace.specs.Items.{cover_written, least_item, wrote}
use Rattle.retrace.specs.Holds.{hold_of}

module _ {A : Type 0} where
  -- t doesn't see u: u has committed after t's snapshot, or hasn't committed
  abbrev pub is_unseen : Trail A → Trail A → Bool
  is_unseen t u = u.commit == 0 || nat_lt t.snapshot u.commit

  -- t -> u: another transaction, which wrote what t has covered, and which t doesn't see. One that hasn't committed counts as if it did now.
  abbrev pub is_edge : Trail A → Trail A → Bool
  is_edge t u = not (t.number == u.number) && is_unseen t u && cover_written t.reads u.changes u.marks

  -- at this moment t covered something that u has written so far
  abbrev pub covers_by : Trail A → Trail A → Moment → Bool
  covers_by t u m = cover_written (read_by t m) u.changes u.marks

  -- the first moment of t at which it did
  abbrev pub first_read : Trail A → Trail A → Option Moment
  first_read t u = find (covers_by t u) t.moments

  -- at this moment u had written the item
  abbrev pub had_written : Item A → Trail A → Moment → Bool
  had_written i u m = wrote i (changed_by u m) (marked_by u m)

  -- the first moment of u at which it had
  abbrev pub first_written : Item A → Trail A → Option Moment
  first_written i u = find (had_written i u) u.moments

  abbrev pub edge_told : Trail A → Trail A → Moment → Item A → Option (Edge A)
  edge_told t u m i = option_map (λ w. record { read = m; hold = hold_of (read_by t m) i; item = i; written = w }) (first_written i u)

  abbrev pub edge_at : Trail A → Trail A → Moment → Option (Item A) → Option (Edge A)
  edge_at t u m None = None
  edge_at t u m (Some i) = edge_told t u m i

  abbrev pub edge_from : Trail A → Trail A → Option Moment → Option (Edge A)
  edge_from t u None = None
  edge_from t u (Some m) = edge_at t u m (least_item (read_by t m) u.changes u.marks)

  -- What shows t -> u, where it is one: the first moment of t that covers something that u wrote; the least of that, and what held it then; and the first moment of u that had written it.
  abbrev pub edge_between : Trail A → Trail A → Option (Edge A)
  edge_between t u = if is_edge t u then edge_from t u (first_read t u) else None
