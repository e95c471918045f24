-- What a statement reads: a function of its text and the catalog alone, so that rows that aren't there are read as well (predicate reads as in Ports and Grittner, 5.2.1; which statement reads what is this project's choice).
use Rattle.std.specs.Prelude.{ℕ, zero, suc, if◌then◌else◌, Option, Some, None, List, [], ◌∷◌, ◌++◌}
use Rattle.std.specs.Option.{option_map_or}
use Rattle.std.specs.List.{list_any}
use Rattle.std.specs.Ordering.{is_lt, is_gt}
use Rattle.value.specs.declared.value.Value.{Value}
use Rattle.value.specs.Order.{value_cmp}
use Rattle.schema.specs.Definition.{Column, Catalog}
use Rattle.schema.specs.Plain.{same, is_null, columns_of}
use Rattle.statement.specs.declared.condition.Comparison.{Comparison}
use Rattle.statement.specs.declared.condition.Comparison.TheVariants as is
use Rattle.statement.specs.declared.condition.Condition.{Condition}
use Rattle.statement.specs.declared.condition.Condition.TheVariants.{Compare, Between, IsNull}
use Rattle.statement.specs.declared.statement.Source.{Source}
use Rattle.statement.specs.declared.statement.Source.TheVariants.{Literal, Sum}
use Rattle.statement.specs.declared.statement.Assignment.{Assignment}
use Rattle.statement.specs.declared.statement.Statement.{Statement}
use Rattle.statement.specs.declared.statement.Statement.TheVariants.{Select, Insert, Update, Delete}
use Rattle.statement.specs.declared.reading.End.{End}
use Rattle.statement.specs.declared.reading.End.TheVariants.{Open, Closed, Without}
use Rattle.statement.specs.declared.reading.Extent.{Extent}
use Rattle.statement.specs.declared.reading.Extent.TheVariants.{Whole, One, Range, Referencing}
use Rattle.statement.specs.declared.reading.Reading.{Reading}
pub use Rattle.statement.specs.declared.interval.Interval.{Interval}
pub use Rattle.statement.specs.declared.interval.Interval.TheVariants.{Nothing, Span}
use Rattle.statement.specs.Evaluation.{references}

-- the column of a place, counted from 0, as a list of one, or of none
abbrev pub column_at : List Column → ℕ → List Column
column_at [] n = []
column_at (d ∷ ds) zero = d ∷ []
column_at (d ∷ ds) (suc n) = column_at ds n

module _ {A : Type 0} where
  -- no key where the value is null
  abbrev pub at_value : Value A → Interval A → Interval A
  at_value v i = if is_null v then Nothing else i

  -- the keys that compare so with a value; `<>` gives no interval
  abbrev pub by_comparison : Comparison → Value A → Option (Interval A)
  by_comparison is.Equal v = Some (at_value v (Span (Closed v) (Closed v)))
  by_comparison is.NotEqual v = if is_null v then Some Nothing else None
  by_comparison is.Less v = Some (at_value v (Span Open (Without v)))
  by_comparison is.LessOrEqual v = Some (at_value v (Span Open (Closed v)))
  by_comparison is.Greater v = Some (at_value v (Span (Without v) Open))
  by_comparison is.GreaterOrEqual v = Some (at_value v (Span (Closed v) Open))

  -- the interval that a condition on the key gives, if it gives one
  abbrev pub interval : Condition A → Option (Interval A)
  interval (Compare zero how v) = by_comparison how v
  interval (Between zero low high) = Some (at_value low (at_value high (Span (Closed low) (Closed high))))
  interval (IsNull zero) = Some Nothing
  interval _ = None

  -- the greater of two lower ends
  abbrev pub later : End A → End A → End A
  later Open e = e
  later e Open = e
  later (Closed v) (Closed w) = if is_lt (value_cmp v w) then Closed w else Closed v
  later (Closed v) (Without w) = if is_gt (value_cmp v w) then Closed v else Without w
  later (Without v) (Closed w) = if is_lt (value_cmp v w) then Closed w else Without v
  later (Without v) (Without w) = if is_lt (value_cmp v w) then Without w else Without v

  -- the lesser of two upper ends
  abbrev pub sooner : End A → End A → End A
  sooner Open e = e
  sooner e Open = e
  sooner (Closed v) (Closed w) = if is_gt (value_cmp v w) then Closed w else Closed v
  sooner (Closed v) (Without w) = if is_lt (value_cmp v w) then Closed v else Without w
  sooner (Without v) (Closed w) = if is_gt (value_cmp v w) then Closed w else Without v
  sooner (Without v) (Without w) = if is_gt (value_cmp v w) then Without w else Without v

  -- the keys in both
  abbrev pub meet : Interval A → Interval A → Interval A
  meet Nothing i = Nothing
  meet (Span a b) Nothing = Nothing
  meet (Span a b) (Span c d) = Span (later a c) (sooner b d)

  abbrev pub meet_both : Option (Interval A) → Option (Interval A) → Option (Interval A)
  meet_both None o = o
  meet_both (Some i) None = Some i
  meet_both (Some i) (Some j) = Some (meet i j)

  -- the keys in the intervals of all conditions, where one of them gives an interval
  abbrev pub intersection : List (Condition A) → Option (Interval A)
  intersection [] = None
  intersection (c ∷ cs) = meet_both (interval c) (intersection cs)

  -- what is read between two ends: nothing, one key, or a range
  abbrev pub extent_of : End A → End A → List (Extent A)
  extent_of (Closed v) (Closed w) =
      if is_gt (value_cmp v w) then []
      else (if same v w then One v ∷ [] else Range (Closed v) (Closed w) ∷ [])
  extent_of (Closed v) (Without w) = if is_lt (value_cmp v w) then Range (Closed v) (Without w) ∷ [] else []
  extent_of (Without v) (Closed w) = if is_lt (value_cmp v w) then Range (Without v) (Closed w) ∷ [] else []
  extent_of (Without v) (Without w) = if is_lt (value_cmp v w) then Range (Without v) (Without w) ∷ [] else []
  extent_of a b = Range a b ∷ []

  -- all of the table where no condition gives an interval
  abbrev pub extents : Option (Interval A) → List (Extent A)
  extents None = Whole ∷ []
  extents (Some Nothing) = []
  extents (Some (Span a b)) = extent_of a b

  -- ---- readings

  -- these extents of a table
  abbrev pub in_table : ℕ → List (Extent A) → List (Reading A)
  in_table t [] = []
  in_table t (e ∷ es) = record { table = t; extent = e } ∷ in_table t es

  -- what a WHERE reads of its table: nothing, one key, a range of keys, or all of it
  abbrev pub extents_of : List (Condition A) → List (Extent A)
  extents_of conditions = extents (intersection conditions)

  -- the key that a value names, where the column has REFERENCES and the value isn't null
  abbrev pub reads_named : Column → Value A → List (Reading A)
  reads_named d v = if is_null v then [] else option_map_or (λ u. in_table u (One v ∷ [])) d.references []

  -- the keys that the values of a row name
  abbrev pub reads_fields : List Column → List (Value A) → List (Reading A)
  reads_fields (d ∷ ds) (v ∷ vs) = reads_named d v ++ reads_fields ds vs
  reads_fields _ _ = []

  -- ---- INSERT

  abbrev pub reads_inserted : ℕ → List (Value A) → List (Reading A)
  reads_inserted t [] = []
  reads_inserted t (k ∷ fields) = if is_null k then [] else in_table t (One k ∷ [])

  -- ---- UPDATE

  -- What an assignment to a column reads of the table that it references: the key that a literal names; all of it for a sum, whose value the text doesn't tell.
  abbrev pub reads_assigned : List Column → Source A → List (Reading A)
  reads_assigned [] s = []
  reads_assigned (d ∷ ds) (Literal v) = reads_named d v
  reads_assigned (d ∷ ds) (Sum n m) = option_map_or (λ u. in_table u (Whole ∷ [])) d.references []

  abbrev pub reads_assignments : List Column → List (Assignment A) → List (Reading A)
  reads_assignments ds [] = []
  reads_assignments ds (a ∷ more) = reads_assigned (column_at ds a.column) a.source ++ reads_assignments ds more

  -- ---- DELETE

  -- the rows with key k in one of the columns that reference t, for each such column, counted from j on
  abbrev pub rows_naming : Value A → ℕ → ℕ → List Column → List (Extent A)
  rows_naming k t j [] = []
  rows_naming k t j (d ∷ ds) = if references t d then Referencing j k ∷ rows_naming k t (suc j) ds else rows_naming k t (suc j) ds

  -- What is read of a table with these columns where the keys that may go from t are these: nothing where none may, the rows that name the key where it is one, else all of it where a column references t.
  abbrev pub reads_columns : List (Extent A) → ℕ → List Column → List (Extent A)
  reads_columns [] t ds = []
  reads_columns (One k ∷ []) t ds = rows_naming k t 0 ds
  reads_columns es t ds = if list_any (references t) ds then Whole ∷ [] else []

  -- so in each table, counted from u on
  abbrev pub reads_referencing : List (Extent A) → ℕ → ℕ → Catalog → List (Reading A)
  reads_referencing es t u [] = []
  reads_referencing es t u (d ∷ ds) = in_table u (reads_columns es t d.columns) ++ reads_referencing es t (suc u) ds

  -- ---- any statement

  abbrev pub footprint : Catalog → Statement A → List (Reading A)
  footprint c (Select t p conditions) = in_table t (extents_of conditions)
  footprint c (Insert t values) = reads_inserted t values ++ reads_fields (columns_of c t) values
  footprint c (Update t more conditions) = in_table t (extents_of conditions) ++ reads_assignments (columns_of c t) more
  footprint c (Delete t conditions) = in_table t (extents_of conditions) ++ reads_referencing (extents_of conditions) t 0 c
