-- What a line asks for that a shell alone doesn't do, and how the tables are printed.
use Rattle.std.specs.Prelude.{◌≡◌, ℕ, Option, Some, None, Result, Ok, Err, List, [], ◌∷◌, ◌++◌, length, codes, drop}
use Rattle.std.specs.Fmt.{decimal}
use Rattle.schema.specs.Definition.{Catalog}
use Rattle.dumpplan.specs.Parts.{head_text}
use Rattle.history.specs.Opening.{Recorded}
use Rattle.script.specs.Scripts.{Said, said}
use Rattle.script.specs.declared.command.Command.TheVariants.{Ask, Wait, Dump}
use Rattle.script.specs.declared.script.Step.{Step}
use Rattle.script.specs.declared.script.Step.TheVariants.{Session, Checkpoint}
use Rattle.script.specs.declared.script.Line.{Line}
use Rattle.script.specs.declared.schedule.Schedule.TheVariants.{InOrder}
use Rattle.shell.specs.declared.told.SessionDump.{SessionDump}
use Rattle.shell.specs.Shells.{Held, ended}

-- how the tables are printed: their CREATE TABLE lines, which follow the first line of a dump, and how many they are
abbrev pub tables_text : Catalog → List ℕ
tables_text c = drop 10 (head_text c) ++ codes "TABLES " ++ decimal (length c) ++ codes "\n"

module _ {A : Type 0} where
  -- what a text says as a script, where it says anything
  abbrev pub IsSaid : Option (Said A) → Result (Said A) ℕ → Type 0
  IsSaid (Some s) r = r ≡ Ok s
  IsSaid None r = (n : ℕ) × (r ≡ Err n)

  -- the dump that a step asks for
  abbrev pub dump_of_step : Step A → Option (SessionDump A)
  dump_of_step (Session s (Dump d)) = Some (record { session = s; request = d })
  dump_of_step (Session s (Ask q)) = None
  dump_of_step (Session s Wait) = None
  dump_of_step Checkpoint = None

  abbrev pub dump_of_lines : List (Line A) → Option (SessionDump A)
  dump_of_lines [] = None
  dump_of_lines (line ∷ more) = dump_of_step line.step

  -- the dump that the first step of a script asks for
  abbrev pub dump_of : Result (Said A) ℕ → Option (SessionDump A)
  dump_of (Ok s) = dump_of_lines s.lines
  dump_of (Err n) = None

  -- the path of the dump that a script opens
  abbrev pub opened_by : Result (Said A) ℕ → Option (List ℕ)
  opened_by (Ok s) = s.opens
  opened_by (Err n) = None

  -- the tables that a script creates
  abbrev pub tables_of : Result (Said A) ℕ → Catalog
  tables_of (Ok s) = s.catalog
  tables_of (Err n) = []

  abbrev pub opens_in : Option (Recorded A) → List ℕ → Option (List ℕ)
  opens_in None whole = opened_by (said InOrder whole)
  opens_in (Some h) whole = None

  -- the path of the dump that a line opens after the lines so far, before the server runs
  abbrev pub opens_by : Held A → List ℕ → Option (List ℕ)
  opens_by p line = opens_in p.core (p.created ++ ended line)

  abbrev pub catalog_in : Option (Recorded A) → List ℕ → Catalog
  catalog_in None created = tables_of (said InOrder created)
  catalog_in (Some h) created = h.opening.catalog

  -- the tables: those that the lines so far create, or those of the server once it runs
  abbrev pub catalog_of : Held A → Catalog
  catalog_of p = catalog_in p.core p.created
