-- What a way says of the row of a key before a transaction and after it, and of one column of it.
use Rattle.std.specs.Prelude.{◌≡◌, ◌⊎◌, ℕ, zero, suc, ℤ, ◌==◌, Bool, true, false, not, ◌&&◌, if◌then◌else◌, Option, Some, None, List, [], ◌∷◌, slice_get}
use Rattle.std.specs.List.{list_all}
use Rattle.value.specs.declared.value.Value.{Value}
use Rattle.schema.specs.declared.row.Row.{Row}
use Rattle.schema.specs.Plain.{is_null, field}
use Rattle.statement.specs.declared.condition.Comparison.TheVariants as is
use Rattle.statement.specs.declared.condition.Condition.{Condition}
use Rattle.statement.specs.declared.condition.Condition.TheVariants.{Compare, Between, IsNull, IsNotNull}
use Rattle.statement.specs.Conditions.{is_so, holds}
pub use Rattle.statement.specs.Select.{column_of}
use Rattle.statement.specs.Evaluation.{added}
use Rattle.orders.specs.declared.ways.way.Atom.{Atom}
use Rattle.orders.specs.declared.ways.way.Field.{Field}
use Rattle.orders.specs.declared.ways.way.Field.TheVariants as becomes
use Rattle.orders.specs.declared.ways.way.After.{After}
use Rattle.orders.specs.declared.ways.way.After.TheVariants as comes
use Rattle.orders.specs.declared.ways.way.Way.{Way}

-- a test came out as is said of it
abbrev pub as_said : Bool → Bool → Bool
as_said truth b = if truth then b else not b

-- What becomes of one column: it keeps what it had, is left in a state (no row, or a value), has what a column had and a number more, or isn't known.
pub data Effect (A : Type 0) : Type 0 where
  Keeps : Effect A
  Leaves : Option (Value A) → Effect A
  Adds : ℕ → ℤ → Effect A
  Unknown : Effect A

module _ {A : Type 0} where
  -- ---- the row before

  -- a value of the condition's column meets it
  abbrev pub value_meets : Value A → Condition A → Bool
  value_meets x (Compare n how v) = is_so x how v
  value_meets x (Between n low high) = is_so x is.GreaterOrEqual low && is_so x is.LessOrEqual high
  value_meets x (IsNull n) = is_null x
  value_meets x (IsNotNull n) = not (is_null x)

  -- a row is as is asked
  abbrev pub is_met : Row A → Atom A → Bool
  is_met row a = as_said a.truth (holds row a.condition)

  -- there is what the way asks for: no row, or one that is as is asked
  abbrev pub starts : Value A → Way A → Option (List (Value A)) → Bool
  starts k w None = w.is_absent
  starts k w (Some fields) = not w.is_absent && list_all (is_met (k, fields)) w.atoms

  -- ---- the row after

  -- the row that what is said afterwards speaks of; one without fields where there was none
  abbrev pub row_before : Value A → Option (List (Value A)) → Row A
  row_before k None = (k, [])
  row_before k (Some fields) = (k, fields)

  -- column n has a value that is as said, of the row before
  abbrev pub FieldIs : Row A → ℕ → Field A → Value A → Type 0
  FieldIs row n becomes.Kept v = v ≡ field row n
  FieldIs row n (becomes.Given w) v = v ≡ w
  FieldIs row n (becomes.Sum m d) v = v ≡ added (field row m) d
  FieldIs row n becomes.Anything v = Unit {0}

  -- as many columns, from n on, and each as said
  abbrev pub FieldsAre : Row A → ℕ → List (Field A) → List (Value A) → Type 0
  FieldsAre row n [] [] = Unit {0}
  FieldsAre row n (f ∷ fs) (v ∷ vs) = FieldIs row n f v × FieldsAre row (suc n) fs vs
  FieldsAre row n [] (v ∷ vs) = ⊥
  FieldsAre row n (f ∷ fs) [] = ⊥

  abbrev pub Ends : Row A → After A → Option (List (Value A)) → Type 0
  Ends row comes.Gone None = Unit {0}
  Ends row comes.Gone (Some fields) = ⊥
  Ends row (comes.Row fs) None = ⊥
  Ends row (comes.Row fs) (Some fields) = FieldsAre row 1 fs fields
  Ends row comes.Anything now = Unit {0}

  -- The way is what happened to the row of a key: before there was what it asks for, and now there is what it says.
  pub record Holds (k : Value A) (w : Way A) (before now : Option (List (Value A))) : Type 0 where
    pub start : starts k w before ≡ true
    pub end : Ends (row_before k before) w.after now

  -- ---- several ways

  -- a way stands in a list
  abbrev pub IsOneOf : Way A → List (Way A) → Type 0
  IsOneOf w [] = ⊥
  IsOneOf w (u ∷ ws) = (w ≡ u) ⊎ IsOneOf w ws

  -- one of these ways is what happened
  abbrev pub OneHolds : Value A → List (Way A) → Option (List (Value A)) → Option (List (Value A)) → Type 0
  OneHolds k ws before now = (w : Way A) × IsOneOf w ws × Holds k w before now

  -- ---- one column

  -- The state of a column, counted from 0: none where the row isn't there, else its value. Column 0 is the key, and so tells whether there is a row.
  abbrev pub cell : Value A → Option (List (Value A)) → ℕ → Option (Value A)
  cell k None n = None
  cell k (Some fields) n = Some (field (k, fields) n)

  -- what is asked of column n holds of a value
  abbrev pub allows_value : ℕ → Value A → Atom A → Bool
  allows_value n v a = if column_of a.condition == n then as_said a.truth (value_meets v a.condition) else true

  -- the way may hold where column n is in this state before
  abbrev pub allows : Way A → ℕ → Option (Value A) → Bool
  allows w n None = w.is_absent
  allows w n (Some v) = not w.is_absent && list_all (allows_value n v) w.atoms

  -- what becomes of a column of a row that was there
  abbrev pub effect_on_field : Option (Field A) → Effect A
  effect_on_field (Some becomes.Kept) = Keeps
  effect_on_field (Some (becomes.Given v)) = Leaves (Some v)
  effect_on_field (Some (becomes.Sum m d)) = Adds m d
  effect_on_field _ = Unknown

  -- what a column of a row that wasn't there has now
  abbrev pub effect_of_field : Option (Field A) → Effect A
  effect_of_field (Some (becomes.Given v)) = Leaves (Some v)
  effect_of_field _ = Unknown

  abbrev pub effect_from : Value A → Bool → After A → ℕ → Effect A
  effect_from k true comes.Gone n = Keeps
  effect_from k false comes.Gone n = Leaves None
  effect_from k true (comes.Row fs) zero = Leaves (Some k)
  effect_from k true (comes.Row fs) (suc n) = effect_of_field (slice_get fs n)
  effect_from k false (comes.Row fs) zero = Keeps
  effect_from k false (comes.Row fs) (suc n) = effect_on_field (slice_get fs n)
  effect_from k absent comes.Anything n = Unknown

  -- What the way does to column n of the row of key k. A row that comes or goes writes every column; one that stays keeps its key.
  abbrev pub effect : Value A → Way A → ℕ → Effect A
  effect k w n = effect_from k w.is_absent w.after n

  -- a number added to a column's state; none stays none
  abbrev pub plus : ℤ → Option (Value A) → Option (Value A)
  plus d None = None
  plus d (Some v) = Some (added v d)

  -- what an effect says of column n, of the states of all columns before
  abbrev pub Comes : Effect A → (ℕ → Option (Value A)) → ℕ → Option (Value A) → Type 0
  Comes Keeps before n now = now ≡ before n
  Comes (Leaves state) before n now = now ≡ state
  Comes (Adds m d) before n now = now ≡ plus d (before m)
  Comes Unknown before n now = Unit {0}
