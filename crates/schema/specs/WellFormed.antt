-- What every catalog is: the tables that CREATE TABLE can have made, one after another.
-- Source: PostgreSQL manual, CREATE TABLE; the limits and the reserved words are this project's own.
use Rattle.std.specs.Prelude.{ℕ, nat_le, nat_lt, Bool, true, not, ◌&&◌, is_some, List, [], ◌∷◌, ◌++◌, length, map}
use Rattle.std.specs.List.{list_any, list_all}
use Rattle.std.specs.Option.{option_map_or}
use Rattle.std.specs.Str.{bytes_eq}
use Rattle.schema.specs.Adding.{key_has_kind}
use Rattle.schema.specs.Definition.{Column, TableSchema, Catalog, table_named}
use Rattle.schema.specs.Names.{is_name}

-- no word of the second list is one of the first, nor one before it in its own
abbrev pub are_new : List (List ℕ) → List (List ℕ) → Bool
are_new words [] = true
are_new words (w ∷ ws) = not (list_any (bytes_eq w) words) && are_new (words ++ w ∷ []) ws

-- each column's name is a name, and its own
abbrev pub are_named : List Column → Bool
are_named columns = list_all (λ d. is_name d.name) columns && are_new [] (map (λ d. d.name) columns)

-- the first column, the key, has no mark of its own
abbrev pub is_key_unmarked : List Column → Bool
is_key_unmarked [] = true
is_key_unmarked (d ∷ ds) = not d.not_null

-- what a column references, if anything, is the key, of its kind, of one of these tables
abbrev pub references_key : Catalog → Column → Bool
references_key c d = option_map_or (λ t. key_has_kind c t d.kind) d.references true

-- a table may stand after these: its name is a name and new, it has 1 to 32 columns, the key's without a mark, and it references these alone
abbrev pub is_table_after : Catalog → TableSchema → Bool
is_table_after before d =
    is_name d.name && not (is_some (table_named before d.name))
    && (nat_lt 0 (length d.columns) && nat_le (length d.columns) 32)
    && are_named d.columns && is_key_unmarked d.columns && list_all (references_key before) d.columns

-- each table may stand after those before it
abbrev pub are_tables_after : Catalog → List TableSchema → Bool
are_tables_after before [] = true
are_tables_after before (d ∷ ds) = is_table_after before d && are_tables_after (before ++ d ∷ []) ds

-- at most 256 tables, each of which may stand after those before it
abbrev pub is_catalog : Catalog → Bool
is_catalog c = nat_le (length c) 256 && are_tables_after [] c
