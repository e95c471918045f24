-- Which statements of a run choose the row of a key, and what a way tells of it.
use Rattle.std.specs.Prelude.{◌≡◌, ℕ, zero, suc, ◌==◌, pos, Bool, true, false, not, ◌&&◌, ◌||◌, Option, Some, None, option_map, List, [], ◌∷◌, length, slice_get, if◌then◌else◌}
use Rattle.std.specs.List.{list_any}
use Rattle.std.specs.Option.{option_map_or}
use Rattle.value.specs.declared.value.Value.{Value}
use Rattle.value.specs.declared.value.Value.TheVariants.{Int}
use Rattle.schema.specs.Definition.{Catalog}
use Rattle.schema.specs.declared.tables.Tables.{Tables}
use Rattle.schema.specs.Plain.{same, row_at}
use Rattle.statement.specs.declared.condition.Condition.{Condition}
use Rattle.statement.specs.declared.statement.Projection.{Projection}
use Rattle.statement.specs.declared.statement.Projection.TheVariants as shown
use Rattle.statement.specs.declared.statement.Statement.{Statement}
use Rattle.statement.specs.declared.statement.Statement.TheVariants.{Select, Insert, Update, Delete}
use Rattle.statement.specs.declared.reply.Reply.{Reply}
use Rattle.statement.specs.declared.reply.Reply.TheVariants.{Updated, Deleted, Rows}
use Rattle.statement.specs.Conditions.{satisfies}
use Rattle.statement.specs.Evaluation.{after}
use Rattle.orders.specs.declared.ways.way.Way.{Way}
use Rattle.orders.specs.Symbolic.{pins}
use Rattle.orders.specs.Ways.{Holds, IsOneOf}

-- a number stands in a list
abbrev pub has : ℕ → List ℕ → Bool
has j numbers = list_any (λ i. i == j) numbers

-- a number, where it is of this table
abbrev pub of_table : ℕ → ℕ → ℕ → Option ℕ
of_table t u n = if u == t then Some n else None

module _ {A : Type 0} where
  -- the row of a key is there and satisfies the conditions
  abbrev pub is_chosen : Value A → List (Condition A) → Option (List (Value A)) → Bool
  is_chosen k cs None = false
  is_chosen k cs (Some fields) = satisfies cs (k, fields)

  -- a statement chooses the row of key k in table t
  abbrev pub chooses : ℕ → Value A → Statement A → Tables A → Bool
  chooses t k (Select u p cs) X = u == t && is_chosen k cs (row_at X t k)
  chooses t k (Insert u values) X = false
  chooses t k (Update u more cs) X = u == t && is_chosen k cs (row_at X t k)
  chooses t k (Delete u cs) X = u == t && is_chosen k cs (row_at X t k)

  -- the key that a statement puts into table t
  abbrev pub inserted_key : ℕ → Statement A → Option (Value A)
  inserted_key t (Insert u (v ∷ fields)) = if u == t then Some v else None
  inserted_key t q = None

  -- it is k
  abbrev pub inserts : ℕ → Value A → Statement A → Bool
  inserts t k (Insert u (v ∷ fields)) = u == t && same k v
  inserts t k q = false

  -- statement j does, counted from 0, in the run of the statements from X on
  abbrev pub chosen_in : Catalog → ℕ → Value A → List (Statement A × Reply A) → Tables A → ℕ → Bool
  chosen_in c t k [] X j = false
  chosen_in c t k (q ∷ qs) X zero = chooses t k q.0 X
  chosen_in c t k (q ∷ qs) X (suc j) = chosen_in c t k qs (after c q.0 X) j

  abbrev pub shows_key : Projection A → Bool
  shows_key shown.All = true
  shows_key shown.Count = false
  shows_key (shown.Columns ns) = list_any (λ n. n == 0) ns

  -- the answer of a statement tells of the key by itself, not only by a number of rows or by rows without their keys
  abbrev pub names_key : Value A → Statement A → Bool
  names_key k (Select u p cs) = pins k cs || shows_key p
  names_key k (Insert u values) = true
  names_key k (Update u more cs) = pins k cs
  names_key k (Delete u cs) = pins k cs

  abbrev pub named_at : Value A → List (Statement A × Reply A) → ℕ → Bool
  named_at k qs j = option_map_or (λ q. names_key k q.0) (slice_get qs j) false

  -- What a way tells of the statements of a run that choose the row is so: each that it counts does; and each that does and whose answer tells only of all rows together is one that it counts or may count.
  pub record CountsRight (c : Catalog) (t : ℕ) (k : Value A) (qs : List (Statement A × Reply A)) (X : Tables A) (w : Way A) : Type 0 where
    pub sure : (j : ℕ) → has j w.counted ≡ true → chosen_in c t k qs X j ≡ true
    pub all : (j : ℕ) → chosen_in c t k qs X j ≡ true → (has j w.counted || has j w.may_count || named_at k qs j) ≡ true

  -- one of the ways is what happened, and counts right
  abbrev pub OneCounts : Catalog → ℕ → Value A → List (Statement A × Reply A) → Tables A → Tables A → List (Way A) → Type 0
  OneCounts c t k qs X Y ws = (w : Way A) × IsOneOf w ws × Holds k w (row_at X t k) (row_at Y t k) × CountsRight c t k qs X w

  -- ---- numbers of rows

  -- a key stands in a list
  abbrev pub has_key : Value A → List (Value A) → Bool
  has_key k ks = list_any (same k) ks

  -- no key stands twice
  abbrev pub are_apart : List (Value A) → Bool
  are_apart [] = true
  are_apart (k ∷ ks) = not (has_key k ks) && are_apart ks

  -- the number that a row of one bigint, which isn't negative, tells
  abbrev pub number_in : List (List (Value A)) → Option ℕ
  number_in ((Int (pos n) ∷ []) ∷ []) = Some n
  number_in _ = None

  -- how many rows of table t a statement chose, as its answer tells
  abbrev pub number_told : ℕ → Statement A → Reply A → Option ℕ
  number_told t (Select u shown.Count cs) (Rows rows) = if u == t then number_in rows else None
  number_told t (Select u p cs) (Rows rows) = of_table t u (length rows)
  number_told t (Update u more cs) (Updated n) = of_table t u n
  number_told t (Delete u cs) (Deleted n) = of_table t u n
  number_told t q r = None

  -- how many rows of table t statement j chose, counted from 0
  abbrev pub number_at : ℕ → List (Statement A × Reply A) → ℕ → Option ℕ
  number_at t [] j = None
  number_at t (q ∷ qs) zero = number_told t q.0 q.1
  number_at t (q ∷ qs) (suc j) = number_at t qs j

  -- the table of a statement
  abbrev pub table_of : Statement A → ℕ
  table_of (Select t p cs) = t
  table_of (Insert t values) = t
  table_of (Update t more cs) = t
  table_of (Delete t cs) = t

  -- the table of statement j, counted from 0
  abbrev pub table_at : List (Statement A × Reply A) → ℕ → Option ℕ
  table_at qs j = option_map (λ q. table_of q.0) (slice_get qs j)
