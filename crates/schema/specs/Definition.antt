-- What a table is called and what its columns are: as it is written, and as the catalog keeps it.
-- Source: PostgreSQL manual, CREATE TABLE.
use Rattle.std.specs.Prelude.{ℕ, zero, suc, Bool, Option, List, [], ◌∷◌, position}
use Rattle.std.specs.Str.{bytes_eq}
use Rattle.value.specs.declared.kind.Kind.{Kind}

-- a column as it is written: a reference is the name of a table
pub record ColumnDef : Type 0 where
  pub name : List ℕ
  pub kind : Kind
  pub not_null : Bool
  pub references : Option (List ℕ)

-- a table as it is written: its name and columns, of which the first is the key
pub record TableDef : Type 0 where
  pub name : List ℕ
  pub columns : List ColumnDef

-- a column as the catalog keeps it: a reference is the place of a table
pub record Column : Type 0 where
  pub name : List ℕ
  pub kind : Kind
  pub not_null : Bool
  pub references : Option ℕ  -- the place of a table, counted from 0

-- a table as the catalog keeps it: its name and columns, of which the first is the key
pub record TableSchema : Type 0 where
  pub name : List ℕ
  pub columns : List Column

-- the tables in the order of their creation
abbrev pub Catalog : Type 0
Catalog = List TableSchema

-- the columns of a table, counted from 0; none where there is no such table
abbrev pub columns_of : Catalog → ℕ → List Column
columns_of [] t = []
columns_of (d ∷ ds) zero = d.columns
columns_of (d ∷ ds) (suc t) = columns_of ds t

-- the place of the table of a name, counted from 0
abbrev pub table_named : Catalog → List ℕ → Option ℕ
table_named c name = position (λ d. bytes_eq name d.name) c

-- the place of the column of a name, counted from 0
abbrev pub column_named : List Column → List ℕ → Option ℕ
column_named columns name = position (λ d. bytes_eq name d.name) columns
