-- Which definitions of a table are well made, and what the catalog makes of them.
-- Source: PostgreSQL manual, CREATE TABLE, its error codes, and limits; the order of the refusals and the limits are this project's own.
use Rattle.std.specs.Prelude.{ℕ, nat_le, nat_lt, Bool, true, false, not, ◌&&◌, ◌||◌, if◌then◌else◌, Option, Some, None, is_some, option_and_then, List, [], ◌∷◌, ◌++◌, length, map, Result, Ok, Err}
use Rattle.std.specs.List.{list_any, list_all}
use Rattle.std.specs.Option.{option_map_or}
use Rattle.std.specs.Str.{bytes_eq}
use Rattle.value.specs.declared.kind.Kind.{Kind}
use Rattle.value.specs.declared.kind.Kind.TheVariants as kind
use Rattle.value.specs.declared.refusal.Code.{Code}
use Rattle.value.specs.declared.refusal.Code.TheVariants.{SyntaxError, DuplicateTable, UndefinedTable, DatatypeMismatch, ProgramLimitExceeded}
use Rattle.schema.specs.Definition.{ColumnDef, TableDef, Column, TableSchema, Catalog, columns_of, table_named}
use Rattle.schema.specs.Names.{is_name}

-- ---- as it is written

abbrev pub is_well_named : ColumnDef → Bool
is_well_named d = is_name d.name && option_map_or is_name d.references true

-- no column has one of these names, nor that of a column before it
abbrev pub have_new_names : List (List ℕ) → List ColumnDef → Bool
have_new_names names [] = true
have_new_names names (d ∷ ds) = not (list_any (bytes_eq d.name) names) && have_new_names (names ++ d.name ∷ []) ds

-- no two columns have one name
abbrev pub are_distinct : List ColumnDef → Bool
are_distinct columns = have_new_names [] columns

-- the first column is the key, which is never null: it carries no mark of its own
abbrev pub without_key_mark : List ColumnDef → List ColumnDef
without_key_mark [] = []
without_key_mark (d ∷ ds) = record d { not_null = false } ∷ ds

-- names that are names, each column's its own, and at least one column
abbrev pub is_well_made : List ℕ → List ColumnDef → Bool
is_well_made name columns = is_name name && nat_lt 0 (length columns) && list_all is_well_named columns && are_distinct columns

-- the table of a name and columns, or the refusal
abbrev pub defined : List ℕ → List ColumnDef → Result TableDef Code
defined name columns = if is_well_made name columns then Ok (record { name = name; columns = without_key_mark columns }) else Err SyntaxError

-- ---- as the catalog keeps it

abbrev pub same_kind : Kind → Kind → Bool
same_kind kind.Bigint kind.Bigint = true
same_kind kind.Text kind.Text = true
same_kind kind.Bytea kind.Bytea = true
same_kind _ _ = false

-- the kind of a table's key is this one
abbrev pub key_has_kind : Catalog → ℕ → Kind → Bool
key_has_kind c t k = key_is (columns_of c t)
  where
    key_is : List Column → Bool
    key_is [] = false
    key_is (d ∷ ds) = same_kind k d.kind

-- the table that a column references is there
abbrev pub finds_table : Catalog → ColumnDef → Bool
finds_table c d = option_map_or (λ name. is_some (table_named c name)) d.references true

-- the key of the table that it references has its kind
abbrev pub matches_key : Catalog → ColumnDef → Bool
matches_key c d = option_map_or (λ name. option_map_or (λ t. key_has_kind c t d.kind) (table_named c name) true) d.references true

abbrev pub resolved_column : Catalog → ColumnDef → Column
resolved_column c d = record { name = d.name; kind = d.kind; not_null = d.not_null; references = option_and_then (table_named c) d.references }

-- the table with its references resolved
abbrev pub resolved : Catalog → TableDef → TableSchema
resolved c d = record { name = d.name; columns = map (resolved_column c) d.columns }

-- the catalog has all the tables that it may have, or the table more columns
abbrev pub is_over_limit : Catalog → TableDef → Bool
is_over_limit c d = nat_le 256 (length c) || nat_lt 32 (length d.columns)

-- why a table isn't added: the first of these
abbrev pub adding_fault : Catalog → TableDef → Option Code
adding_fault c d =
    if is_some (table_named c d.name) then Some DuplicateTable
    else (if not (list_all (finds_table c) d.columns) then Some UndefinedTable
    else (if not (list_all (matches_key c) d.columns) then Some DatatypeMismatch
    else (if is_over_limit c d then Some ProgramLimitExceeded
    else None)))

-- the catalog with one table more, as its last, or the refusal
abbrev pub added : Catalog → TableDef → Result Catalog Code
added c d = by_fault (adding_fault c d)
  where
    by_fault : Option Code → Result Catalog Code
    by_fault (Some code) = Err code
    by_fault None = Ok (c ++ resolved c d ∷ [])
