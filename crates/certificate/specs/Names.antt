-- How a certificate's file names transactions, tables and columns.
use Rattle.std.specs.Prelude.{ℕ, ◌==◌, List, [], Option, slice_get, slice_index_or, position}
use Rattle.std.specs.Option.{option_map, option_map_or}
use Rattle.value.specs.declared.kind.Kind.{Kind}
use Rattle.schema.specs.Definition.{Catalog, columns_of}

-- the transactions' numbers, by their places, and the tables
pub record Naming : Type 0 where
  pub numbers : List ℕ
  pub catalog : Catalog

module _ (n : Naming) where
  -- the number of the transaction at a place; 0, which is nobody's, where there is none
  abbrev pub number_at : ℕ → ℕ
  number_at x = slice_index_or n.numbers x 0

  -- the place of the first transaction with a number
  abbrev pub place_of : ℕ → Option ℕ
  place_of m = position (λ k. k == m) n.numbers

  -- the name of a table; empty, where there is no such table
  abbrev pub table_name : ℕ → List ℕ
  table_name t = option_map_or (λ d. d.name) (slice_get n.catalog t) []

  -- the name of a table's column, counted from 0; empty, where there is no such column
  abbrev pub column_name : ℕ → ℕ → List ℕ
  column_name t k = option_map_or (λ d. d.name) (slice_get (columns_of n.catalog t) k) []

  -- the kind of a table's column
  abbrev pub kind_of : ℕ → ℕ → Option Kind
  kind_of t k = option_map (λ d. d.kind) (slice_get (columns_of n.catalog t) k)
