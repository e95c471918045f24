-- What a history starts from, and what it holds.
use Rattle.std.specs.Prelude.{ℕ, Bool, if◌then◌else◌, List}
use Rattle.value.specs.declared.refusal.Refusal.{Refusal}
use Rattle.value.specs.declared.refusal.Code.TheVariants.{ProgramLimitExceeded}
use Rattle.value.specs.Refusals.{of_code, out_of_memory}
use Rattle.schema.specs.Definition.{Catalog}
use Rattle.schema.specs.declared.tables.Tables.{Tables}
use Rattle.history.specs.declared.base.Base.{Base}
use Rattle.history.specs.declared.event.Record.{Record}

-- Where nothing was counted before.
abbrev pub zero_base : Base
zero_base = record { transactions = 0; commits = 0; identifiers = 0; events = 0 }

-- Why nothing was opened: a number is outside its limits; else a growth was refused.
abbrev pub opening_refusal : Bool → Refusal
opening_refusal outside = if outside then of_code ProgramLimitExceeded else out_of_memory

-- The catalog and the tables that a history starts from, and the numbers that were used up before it: all 0 at the start of a server, more after a checkpoint.
pub record Opening (A : Type 0) : Type 0 where
  pub catalog : Catalog
  pub tables : Tables A
  pub base : Base

-- An opening, the events since, and the greatest number of events that there may be.
pub record Recorded (A : Type 0) : Type 0 where
  pub opening : Opening A
  pub records : List (Record A)
  pub most : ℕ
