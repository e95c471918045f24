-- What a kept server is that was opened on a dump.
use Rattle.std.specs.Prelude.{◌≡◌, ◌⊎◌, ℕ, Ok, Err, List, [], ◌++◌, codes}
use Rattle.std.specs.Fmt.{decimal}
use Rattle.value.specs.Codes.{sqlstate}
use Rattle.schema.specs.Definition.{Catalog}
use Rattle.schema.specs.declared.tables.Tables.{Tables}
use Rattle.history.specs.Opening.{Recorded, zero_base}
use Rattle.restore.specs.Reading.{read_dump}
use Rattle.restore.specs.Steps.{no_memory as no_line}
use Rattle.restore.specs.declared.error.RestoreFault.{RestoreFault}
use Rattle.shell.specs.Shells.{Held, running}

-- the line that tells of a dump's first faulty line
abbrev pub fault_text : RestoreFault → List ℕ
fault_text fault = codes "ERROR " ++ sqlstate fault.code ++ codes " line " ++ decimal fault.line ++ codes "\n"

-- that there was no memory
abbrev pub no_memory : RestoreFault
no_memory = no_line

module _ {A : Type 0} where
  -- the history of some tables before any event
  abbrev pub begun_on : Catalog → Tables A → ℕ → Recorded A
  begun_on c X most = record { opening = record { catalog = c; tables = X; base = zero_base }; records = []; most = most }

  -- The dump reads as some tables, on which the server runs.
  abbrev pub RestoresAs : List ℕ → ℕ → Held A → Type 0
  RestoresAs dump most p = (c : Catalog) × (X : Tables A) × (read_dump dump ≡ Ok (c, X)) × (p ≡ running (begun_on c X most) most)

-- The dump's first faulty line is this, or memory was refused.
abbrev pub IsUnrestored : (A : Type 0) → List ℕ → RestoreFault → Type 0
IsUnrestored A dump fault = (read_dump {A = A} dump ≡ Err fault) ⊎ (fault ≡ no_memory)
