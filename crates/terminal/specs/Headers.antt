-- The names of the columns that a SELECT shows.
use Rattle.std.specs.Prelude.{ℕ, Option, Some, None, List, [], ◌∷◌, codes, drop, slice_get}
use Rattle.std.specs.List.{flat_map, last_or}
use Rattle.schema.specs.Definition.{Catalog, Column, TableSchema}
use Rattle.statement.specs.declared.statement.Projection.{Projection}
use Rattle.statement.specs.declared.statement.Projection.TheVariants as projection
use Rattle.statement.specs.declared.statement.Statement.TheVariants as statement
use Rattle.history.specs.Opening.{Recorded}
use Rattle.history.specs.declared.event.Record.{Record}
use Rattle.history.specs.declared.event.Action.{Action}
use Rattle.history.specs.declared.event.Action.TheVariants as action
use Rattle.shell.specs.Shells.{Held}
use Rattle.terminal.specs.Drawn.{Header}

-- the names of these, parted by tabs
abbrev pub parted : {X : Type 0} → (X → List ℕ) → List X → List ℕ
parted name xs = drop 1 (flat_map (λ x. 9 ∷ name x) xs)

-- the name of a column, where there is one
abbrev pub name_in : Option Column → List ℕ
name_in None = []
name_in (Some c) = c.name

abbrev pub name_at : List Column → ℕ → List ℕ
name_at cs j = name_in (slice_get cs j)

-- the header of these names, where there are some
abbrev pub headed_by : ℕ → Option (List ℕ) → Option Header
headed_by s None = None
headed_by s (Some names) = Some (record { session = s; names = names })

-- the columns of a table, where there is one
abbrev pub columns_in : Option TableSchema → List Column
columns_in None = []
columns_in (Some d) = d.columns

module _ {A : Type 0} where
  -- the names of what is shown of a table's columns
  abbrev pub shown_names : List Column → Projection A → List ℕ
  shown_names cs projection.All = parted (λ c. c.name) cs
  shown_names cs projection.Count = codes "count"
  shown_names cs (projection.Columns js) = parted (name_at cs) js

  -- the names of the columns that an action shows
  abbrev pub action_names : Catalog → Action A → Option (List ℕ)
  action_names c (action.Run (statement.Select t p conditions)) = Some (shown_names (columns_in (slice_get c t)) p)
  action_names c (action.Run (statement.Insert t values)) = None
  action_names c (action.Run (statement.Update t sets conditions)) = None
  action_names c (action.Run (statement.Delete t conditions)) = None
  action_names c (action.Begin m) = None
  action_names c (action.Broken r) = None
  action_names c action.Poll = None
  action_names c action.Export = None
  action_names c (action.Import n) = None
  action_names c action.Commit = None
  action_names c action.Rollback = None
  action_names c action.Prune = None

  -- the header of the rows that an event shows
  abbrev pub header_from : Catalog → Option (Record A) → Option Header
  header_from c None = None
  header_from c (Some e) = headed_by e.session (action_names c e.action)

  -- the header of the rows that the last of some events shows
  abbrev pub last_header : Catalog → List (Record A) → Option Header
  last_header c es = header_from c (last_or None es)

  abbrev pub header_on : Option (Recorded A) → Option Header
  header_on None = None
  header_on (Some h) = last_header h.opening.catalog h.records

  -- the header of the rows that the last event shows, once the server runs
  abbrev pub header_of : Held A → Option Header
  header_of p = header_on p.core
