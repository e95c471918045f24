-- The result of `restore`, and what it prints.
use Rattle.std.specs.Prelude.{◌≡◌, ℕ, ◌^◌, ◌-◌, List, ◌++◌, Option, Ok, codes, length, min}
use Rattle.std.specs.Fmt.{decimal}
use Rattle.std.specs.List.{sum_by}
use Rattle.schema.specs.Definition.{Catalog}
use Rattle.schema.specs.declared.tables.Tables.{Tables}
use Rattle.dumpplan.specs.Lines.{dump_text}
use Rattle.restore.specs.Reading.{read_dump}
use Rattle.program.specs.Files.{IsAllOf, Writing, read_of}
use Rattle.program.specs.Printed.{Adds, IsFlushed, Printed}

module _ {A : Type 0} where
  -- how many rows there are in all tables, as far as 64 bits can say
  abbrev pub rows_in : Tables A → ℕ
  rows_in X = min (sum_by (λ rows. length rows) X) (2 ^ 64 - 1)

  -- the line of a restored dump: how many tables and how many rows it has
  abbrev pub restored_text : Catalog → Tables A → List ℕ
  restored_text c X = codes "RESTORE " ++ decimal (length c) ++ (codes " tables " ++ decimal (rows_in X)) ++ codes " rows\n"

-- What a path's file has reads as a catalog and tables, their dump was written to the file of another path, and their line was printed.
abbrev pub IsRestored : (A : Type 0) → Writing → (List ℕ → Option (List ℕ)) → Option (List ℕ) → List ℕ → List ℕ → Printed → Printed → Type 0
IsRestored A writes held input path out p q = (bytes : List ℕ) × (c : Catalog) × (X : Tables A)
    × IsAllOf (read_of held input path) bytes × (read_dump bytes ≡ Ok (c, X))
    × writes.writes out (dump_text c X) × Adds p q (restored_text c X) × IsFlushed q
