-- How many readings are kept of each table: as few as show what covers it.
use Rattle.std.specs.Prelude.{ℕ, ◌≤◌, List, take, drop, length, count_by}
use Rattle.statement.specs.declared.reading.Reading.{Reading}
use Rattle.siread.specs.declared.extent.Form.{Form}
use Rattle.siread.specs.declared.extent.Form.TheVariants as form
use Rattle.siread.specs.Extents.{has_form, is_read, IsEachOnce}

module _ {A : Type 0} where
  -- how many readings of a form there are in table t
  abbrev pub count_in : ℕ → Form → List (Reading A) → ℕ
  count_in t f rs = count_by (is_read t (has_form f)) rs

  -- of each table at most nine single keys: eight, and one that shows that there are more
  abbrev pub HasFewKeys : List (Reading A) → Type 0
  HasFewKeys rs = (t : ℕ) → count_in t form.Key rs ≤ 9

  -- Of each table at most the whole, five ranges and nine references: by that many it is covered whole.
  pub record HasFewOthers (rs : List (Reading A)) : Type 0 where
    pub whole : (t : ℕ) → count_in t form.Whole rs ≤ 1
    pub ranges : (t : ℕ) → count_in t form.Range rs ≤ 5
    pub references : (t : ℕ) → count_in t form.Reference rs ≤ 9

  -- No two readings are the same, and few are of one table: the first `settled` have few keys, and so have those after them.
  pub record AreHeld (settled : ℕ) (rs : List (Reading A)) : Type 0 where
    pub within : settled ≤ length rs
    pub once : IsEachOnce rs
    pub before : HasFewKeys (take settled rs)
    pub last : HasFewKeys (drop settled rs)
    pub others : HasFewOthers rs
