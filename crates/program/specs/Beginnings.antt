-- What a script begins with, and why it doesn't begin.
use Rattle.std.specs.Prelude.{◌≡◌, ◌⊎◌, ℕ, List, Option, Some, None, Ok, Err}
use Rattle.schema.specs.Definition.{Catalog}
use Rattle.schema.specs.Inserting.{empty_tables}
use Rattle.schema.specs.declared.tables.Tables.{Tables}
use Rattle.restore.specs.Reading.{read_dump}
use Rattle.restore.specs.declared.error.RestoreFault.{RestoreFault}
use Rattle.program.specs.Ends.{dump_fault}
use Rattle.program.specs.Files.{IsAllOf, IsFileFault}
use Rattle.program.specs.declared.fault.Fault.{Fault}
use Rattle.program.specs.declared.fault.Fault.TheVariants as fault

module _ {A : Type 0} where
  -- The tables that a script begins with: what the dump that it opens reads as; or those that it creates, without rows.
  abbrev pub BeginsWith : (List ℕ → Option (List ℕ)) → Option (List ℕ) → Catalog → Catalog → Tables A → Type 0
  BeginsWith held None created c X = (c ≡ created) × (X ≡ empty_tables created)
  BeginsWith held (Some path) created c X = (bytes : List ℕ) × IsAllOf (held path) bytes × (read_dump bytes ≡ Ok (c, X))

-- what was read is no dump: its first faulty line, with its code
abbrev pub IsFaulty : (A : Type 0) → Option (List ℕ) → Fault → Type 0
IsFaulty A known f = (bytes : List ℕ) × IsAllOf known bytes × (e : RestoreFault) × (read_dump {A = A} bytes ≡ Err e) × (f ≡ dump_fault e)

-- Why the dump of a path wasn't read, of which this is known: its file couldn't be read, or it is faulty, or it was out of memory.
abbrev pub IsUnread : (A : Type 0) → Option (List ℕ) → List ℕ → Fault → Type 0
IsUnread A known path f = IsFileFault path f ⊎ IsFaulty A known f ⊎ (f ≡ fault.DumpOutOfMemory)

-- Why a script's tables weren't opened: the dump that it opens wasn't read; or there was no memory for those that it creates.
abbrev pub IsUnopened : (A : Type 0) → (List ℕ → Option (List ℕ)) → Option (List ℕ) → Fault → Type 0
IsUnopened A held None f = f ≡ fault.ScriptOutOfMemory
IsUnopened A held (Some path) f = IsUnread A (held path) path f

-- The tables are there, and no core was opened on them: it was out of memory, or there is to be room for no event.
abbrev pub IsWithoutCore : (A : Type 0) → (List ℕ → Option (List ℕ)) → Option (List ℕ) → Catalog → Fault → Type 0
IsWithoutCore A held opens created f = (c : Catalog) × (X : Tables A) × BeginsWith held opens created c X × (f ≡ fault.ScriptOutOfMemory)

-- Why a script hasn't begun: its tables weren't opened, or no core on them.
abbrev pub IsUnbegun : (A : Type 0) → (List ℕ → Option (List ℕ)) → Option (List ℕ) → Catalog → Fault → Type 0
IsUnbegun A held opens created f = IsUnopened A held opens f ⊎ IsWithoutCore A held opens created f
