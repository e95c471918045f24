-- What a transaction's reads cover: few keys, ranges and references as they were read; many keys as the range that holds them; many ranges, or many references, as the whole table (coarser locks for many, as in Ports and Grittner, 5.2.1; the numbers are this project's choice). A function of the set of what was read.
use Rattle.std.specs.Prelude.{ℕ, ◌+◌, ◌==◌, nat_lt, Bool, true, false, ◌&&◌, ◌||◌, if◌then◌else◌, List, [], ◌∷◌, length}
use Rattle.std.specs.List.{list_any}
use Rattle.std.specs.Ordering.{is_lt, is_le, is_gt, is_ge}
use Rattle.value.specs.declared.value.Value.{Value}
use Rattle.value.specs.Order.{value_cmp}
use Rattle.schema.specs.Plain.{same}
use Rattle.statement.specs.declared.reading.End.{End}
use Rattle.statement.specs.declared.reading.End.TheVariants.{Open, Closed, Without}
use Rattle.statement.specs.declared.reading.Extent.{Extent}
use Rattle.statement.specs.declared.reading.Extent.TheVariants.{Whole, One, Range, Referencing}
use Rattle.statement.specs.declared.reading.Reading.{Reading}

module _ {A : Type 0} where
  -- ---- extents

  -- a key is not below a lower end
  abbrev pub is_from : End A → Value A → Bool
  is_from Open k = true
  is_from (Closed v) k = is_le (value_cmp v k)
  is_from (Without v) k = is_lt (value_cmp v k)

  -- a key is not above an upper end
  abbrev pub is_to : End A → Value A → Bool
  is_to Open k = true
  is_to (Closed v) k = is_ge (value_cmp v k)
  is_to (Without v) k = is_gt (value_cmp v k)

  -- an extent has a key
  abbrev pub has_key : Value A → Extent A → Bool
  has_key k Whole = true
  has_key k (One v) = same v k
  has_key k (Range a b) = is_from a k && is_to b k
  has_key k (Referencing j v) = false

  -- an extent is the rows with key k in column j
  abbrev pub has_reference : ℕ → Value A → Extent A → Bool
  has_reference j k (Referencing i v) = i == j && same v k
  has_reference j k _ = false

  abbrev pub same_end : End A → End A → Bool
  same_end Open Open = true
  same_end (Closed v) (Closed w) = same v w
  same_end (Without v) (Without w) = same v w
  same_end _ _ = false

  -- ranges are the same where their ends are, as they were written
  abbrev pub same_extent : Extent A → Extent A → Bool
  same_extent Whole Whole = true
  same_extent (One v) (One w) = same v w
  same_extent (Range a b) (Range c d) = same_end a c && same_end b d
  same_extent (Referencing i v) (Referencing j w) = i == j && same v w
  same_extent _ _ = false

  -- the extents, each once
  abbrev pub distinct : List (Extent A) → List (Extent A)
  distinct [] = []
  distinct (e ∷ es) = if list_any (same_extent e) es then distinct es else e ∷ distinct es

  -- those of one table
  abbrev pub extents_in : ℕ → List (Reading A) → List (Extent A)
  extents_in t [] = []
  extents_in t (r ∷ rs) = if r.table == t then r.extent ∷ extents_in t rs else extents_in t rs

  -- ---- the four kinds

  abbrev pub is_whole : Extent A → Bool
  is_whole Whole = true
  is_whole _ = false

  abbrev pub keys_of : List (Extent A) → List (Value A)
  keys_of [] = []
  keys_of (One v ∷ es) = v ∷ keys_of es
  keys_of (_ ∷ es) = keys_of es

  abbrev pub ranges_of : List (Extent A) → List (Extent A)
  ranges_of [] = []
  ranges_of (Range a b ∷ es) = Range a b ∷ ranges_of es
  ranges_of (_ ∷ es) = ranges_of es

  -- the references, of all columns
  abbrev pub references_read : List (Extent A) → List (Extent A)
  references_read [] = []
  references_read (Referencing j v ∷ es) = Referencing j v ∷ references_read es
  references_read (_ ∷ es) = references_read es

  -- ---- the cover of a table, of the extents read in it, each once

  -- more than 8 keys count as a range
  abbrev pub has_many_keys : List (Value A) → Bool
  has_many_keys keys = nat_lt 8 (length keys)

  -- more than 4 ranges
  abbrev pub has_many_ranges : List (Extent A) → Bool
  has_many_ranges es = nat_lt 4 (length (ranges_of es) + (if has_many_keys (keys_of es) then 1 else 0))

  -- more than 8 references
  abbrev pub has_many_references : List (Extent A) → Bool
  has_many_references es = nat_lt 8 (length (references_read es))

  -- The table is covered whole: it was read whole, or of too many ranges or references.
  abbrev pub covers_whole : List (Extent A) → Bool
  covers_whole es = list_any is_whole es || has_many_ranges es || has_many_references es

  -- a key that was read, or, where many were, one between the least and the greatest
  abbrev pub among : List (Value A) → Value A → Bool
  among keys k =
      if has_many_keys keys
      then list_any (λ v. is_le (value_cmp v k)) keys && list_any (λ v. is_ge (value_cmp v k)) keys
      else list_any (λ v. same v k) keys

  abbrev pub covers_key : List (Extent A) → Value A → Bool
  covers_key es k = covers_whole es || list_any (has_key k) (ranges_of es) || among (keys_of es) k

  abbrev pub covers_reference : List (Extent A) → ℕ → Value A → Bool
  covers_reference es j k = covers_whole es || list_any (has_reference j k) es

  -- ---- the cover of what was read

  -- the reads cover key k of table t
  abbrev pub covers : List (Reading A) → ℕ → Value A → Bool
  covers rs t k = covers_key (distinct (extents_in t rs)) k

  -- the reads cover the rows of table t with key k in column j
  abbrev pub covers_value : List (Reading A) → ℕ → ℕ → Value A → Bool
  covers_value rs t j k = covers_reference (distinct (extents_in t rs)) j k
