-- The references that written rows had before and have after. Whoever relied on the rows with a reference conflicts with a statement that marks it. This project's choice: so a DELETE by key conflicts with those alone who wrote a row that named its key.
use Rattle.std.specs.Prelude.{ℕ, suc, ◌==◌, Bool, not, ◌&&◌, if◌then◌else◌, is_some, Option, Some, None, List, [], ◌∷◌, ◌++◌}
use Rattle.std.specs.List.{list_any}
use Rattle.value.specs.declared.value.Value.{Value}
use Rattle.schema.specs.Definition.{Column, Catalog}
use Rattle.schema.specs.declared.changes.Change.{Change}
use Rattle.schema.specs.declared.tables.Tables.{Tables}
use Rattle.schema.specs.Plain.{same, is_null, row_at, columns_of}
use Rattle.statement.specs.declared.outcome.Mark.{Mark}

-- one of the columns has REFERENCES
abbrev pub have_references : List Column → Bool
have_references ds = list_any (λ d. is_some d.references) ds

module _ {A : Type 0} where
  -- a value in a column names a row: the column has REFERENCES, and the value isn't null
  abbrev pub is_reference : Column → Value A → Bool
  is_reference d v = is_some d.references && not (is_null v)

  -- the references among the values of a row of table u, whose columns are counted from j on
  abbrev pub references_among : ℕ → ℕ → List Column → List (Value A) → List (Mark A)
  references_among u j (d ∷ ds) (v ∷ vs) =
      if is_reference d v then record { table = u; column = j; key = v } ∷ references_among u (suc j) ds vs else references_among u (suc j) ds vs
  references_among u j _ _ = []

  -- the references of a row, or of none
  abbrev pub references_of : ℕ → List Column → Value A → Option (List (Value A)) → List (Mark A)
  references_of u ds k (Some fields) = references_among u 0 ds (k ∷ fields)
  references_of u ds k None = []

  -- those of the row before a change, and those of the row after it
  abbrev pub marks_of_change : Catalog → Tables A → Change A → List (Mark A)
  marks_of_change c X x =
      references_of x.table (columns_of c x.table) x.key (row_at X x.table x.key)
      ++ references_of x.table (columns_of c x.table) x.key x.fields

  -- those of all rows that a statement changes, on the tables before it
  abbrev pub marks_of : Catalog → Tables A → List (Change A) → List (Mark A)
  marks_of c X [] = []
  marks_of c X (x ∷ xs) = marks_of_change c X x ++ marks_of c X xs

  -- a mark is of this reference: its table, its column and the key that it names
  abbrev pub is_mark : ℕ → ℕ → Value A → Mark A → Bool
  is_mark u j k m = m.table == u && m.column == j && same m.key k

  -- the reference is marked
  abbrev pub marks_reference : List (Mark A) → ℕ → ℕ → Value A → Bool
  marks_reference ms u j k = list_any (is_mark u j k) ms
