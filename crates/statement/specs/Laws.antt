-- What the laws of statements speak of.
use Rattle.std.specs.Prelude.{◌≡◌, ℕ, ◌==◌, Bool, true, false, not, ◌&&◌, is_some, Option, Some, None, List, length, slice_get}
use Rattle.std.specs.FinMap.{is_sorted}
use Rattle.std.specs.List.{list_any, list_all}
use Rattle.value.specs.Order.{value_cmp}
use Rattle.value.specs.declared.value.Value.{Value}
use Rattle.schema.specs.Definition.{Column, Catalog}
use Rattle.schema.specs.declared.changes.Change.{Change}
use Rattle.schema.specs.declared.row.Row.{Row}
use Rattle.schema.specs.declared.tables.Tables.{Tables}
use Rattle.schema.specs.Plain.{same, is_null, columns_of}
use Rattle.statement.specs.declared.statement.Statement.{Statement}
use Rattle.statement.specs.declared.reading.Reading.{Reading}
use Rattle.statement.specs.Fits.{Fits}
use Rattle.statement.specs.Footprint.{footprint}
use Rattle.statement.specs.Cover.{same_extent}
use Rattle.statement.specs.Agreement.{Agree, row_naming}

-- a column has REFERENCES
abbrev pub refers_at : Option Column → Bool
refers_at None = false
refers_at (Some d) = is_some d.references

-- column j of table t has REFERENCES
abbrev pub refers : Catalog → ℕ → ℕ → Bool
refers c t j = refers_at (slice_get (columns_of c t) j)

module _ {A : Type 0} where
  -- A table is a finite map from keys that aren't null: they rise, so that each stands once.
  abbrev pub is_keyed : List (Row A) → Bool
  is_keyed rows = is_sorted value_cmp rows && list_all (λ row. not (is_null row.0)) rows

  -- A statement that fits the catalog, and two sets of as many tables that agree where it reads. Of their rows nothing is
  -- asked but keys: they may be of any kinds, and refer to rows that aren't there.
  pub record AgreeFor (c : Catalog) (q : Statement A) (X Y : Tables A) : Type 0 where
    pub fits : Fits c q
    pub keyed_X : list_all is_keyed X ≡ true
    pub keyed_Y : list_all is_keyed Y ≡ true
    pub as_many : length X ≡ length Y
    pub agree : Agree (footprint c q) X Y

  -- one of the changes is of key k in table t
  abbrev pub writes_key : List (Change A) → ℕ → Value A → Bool
  writes_key xs t k = list_any (λ x. x.table == t && same k x.key) xs

  -- the row of key p in table t has the reference k in column j: the column has REFERENCES, and k isn't null
  abbrev pub names_reference : Catalog → Tables A → ℕ → ℕ → Value A → Value A → Bool
  names_reference c X t j k p = refers c t j && not (is_null k) && is_some (row_naming X t j k p)

  -- readings of the same extent of the same table
  abbrev pub same_reading : Reading A → Reading A → Bool
  same_reading r s = s.table == r.table && same_extent r.extent s.extent

  -- Each reading is in the one list exactly where it is in the other: the same set, in whatever order and however often.
  abbrev pub HasSameReadings : List (Reading A) → List (Reading A) → Type 0
  HasSameReadings rs qs = (r : Reading A) → list_any (same_reading r) rs ≡ list_any (same_reading r) qs
