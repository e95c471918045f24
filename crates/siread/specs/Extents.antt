-- Tests of single readings, by which the cover of a table is found without a list of its extents.
use Rattle.std.specs.Prelude.{◌≡◌, ℕ, ◌==◌, Bool, true, false, ◌&&◌, List, [], ◌∷◌}
use Rattle.std.specs.List.{list_any}
use Rattle.std.specs.Ordering.{is_lt, is_le, is_gt, is_ge}
use Rattle.value.specs.declared.value.Value.{Value}
use Rattle.value.specs.Order.{value_cmp}
use Rattle.schema.specs.Plain.{same}
use Rattle.statement.specs.declared.reading.Extent.{Extent}
use Rattle.statement.specs.declared.reading.Extent.TheVariants.{Whole, One, Range, Referencing}
use Rattle.statement.specs.declared.reading.Reading.{Reading}
use Rattle.statement.specs.Cover.{distinct, extents_in, is_from, is_to, same_extent}
use Rattle.siread.specs.declared.extent.Form.{Form}
use Rattle.siread.specs.declared.extent.Form.TheVariants as form
use Rattle.siread.specs.declared.extent.Sought.{Sought}
use Rattle.siread.specs.declared.extent.Sought.TheVariants as sought

module _ {A : Type 0} where
  -- the extent has this form
  abbrev pub has_form : Form → Extent A → Bool
  has_form form.Whole Whole = true
  has_form form.Key (One v) = true
  has_form form.Range (Range a b) = true
  has_form form.Reference (Referencing j v) = true
  has_form _ _ = false

  -- the extent is what is sought for a key
  abbrev pub is_sought : Sought → Value A → Extent A → Bool
  is_sought sought.RangeAround k (Range a b) = is_from a k && is_to b k
  is_sought sought.KeyItself k (One v) = same v k
  is_sought sought.KeyAtMost k (One v) = is_le (value_cmp v k)
  is_sought sought.KeyAtLeast k (One v) = is_ge (value_cmp v k)
  is_sought sought.KeyBelow k (One v) = is_lt (value_cmp v k)
  is_sought sought.KeyAbove k (One v) = is_gt (value_cmp v k)
  is_sought (sought.ReferenceIn j) k (Referencing i v) = i == j && same v k
  is_sought _ _ _ = false

  -- the reading is of the table, and its extent passes the test
  abbrev pub is_read : ℕ → (Extent A → Bool) → Reading A → Bool
  is_read t test r = r.table == t && test r.extent

  -- the different extents that were read in a table
  abbrev pub read_in : ℕ → List (Reading A) → List (Extent A)
  read_in t rs = distinct (extents_in t rs)

  -- no two readings are the same
  abbrev pub IsEachOnce : List (Reading A) → Type 0
  IsEachOnce [] = Unit {0}
  IsEachOnce (r ∷ rs) = (list_any (is_read r.table (same_extent r.extent)) rs ≡ false) × IsEachOnce rs
