-- An UPDATE by its assignments: what a column gets of them, and the first fault of each of its stages.
use Rattle.std.specs.Prelude.{◌≡◌, ◌<◌, ◌≤◌, length, ℕ, suc, ℤ, ◌==◌, Bool, false, ◌||◌, if◌then◌else◌, Option, Some, None, List, [], ◌∷◌, find, slice_get}
use Rattle.std.specs.List.{AllByRecursion}
use Rattle.std.specs.Option.{option_map_or}
use Rattle.value.specs.declared.value.Value.{Value}
use Rattle.value.specs.declared.value.Value.TheVariants.{Int}
use Rattle.value.specs.declared.refusal.Code.{Code}
use Rattle.value.specs.declared.refusal.Code.TheVariants as code
use Rattle.value.specs.declared.refusal.Refusal.{Refusal}
use Rattle.value.specs.Isolation.{first_some}
use Rattle.schema.specs.Definition.{Column}
use Rattle.schema.specs.declared.row.Row.{Row}
use Rattle.schema.specs.declared.tables.Tables.{Tables}
use Rattle.statement.specs.declared.statement.Assignment.{Assignment}
use Rattle.statement.specs.declared.evaluate.stage.Stage.{Stage}
use Rattle.statement.specs.declared.evaluate.stage.Stage.TheVariants as stage
use Rattle.statement.specs.Evaluation.{at_column, given, lacks_value, out_of_range, lacks_row}

-- the code of a stage's fault
abbrev pub code_of : Stage → Code
code_of stage.Value = code.NotNullViolation
code_of stage.Range = code.NumericValueOutOfRange
code_of stage.Reference = code.ForeignKeyViolation

module _ {A : Type 0} where
  -- the number that a value is
  abbrev pub number_of : Value A → Option ℤ
  number_of (Int n) = Some n
  number_of _ = None

  -- the assignment to a column
  abbrev pub assignment_to : List (Assignment A) → ℕ → Option (Assignment A)
  assignment_to more n = find (λ a. a.column == n) more

  -- what a stage refuses: null where none may be, a sum out of range, a reference to a row that isn't there
  abbrev pub refuses : Stage → Tables A → ℕ → Column → Value A → Bool
  refuses stage.Value X n d v = lacks_value n d v
  refuses stage.Range X n d v = out_of_range v
  refuses stage.Reference X n d v = lacks_row X n d v

  -- a column is assigned what is bad there
  abbrev pub is_given : (ℕ → Column → Value A → Bool) → List (Assignment A) → Row A → ℕ → Column → Bool
  is_given bad more row n d = option_map_or (λ a. bad n d (given row a.source)) (assignment_to more n) false

  -- the least column, counted from n on, that is assigned what is bad there
  abbrev pub least_given : (ℕ → Column → Value A → Bool) → List (Assignment A) → Row A → ℕ → List Column → Option ℕ
  least_given bad more row n [] = None
  least_given bad more row n (d ∷ ds) = if is_given bad more row n d then Some n else least_given bad more row (suc n) ds

  -- the bad column of a stage: of the row with the least key that has one, the least
  abbrev pub first_given : (ℕ → Column → Value A → Bool) → List (Assignment A) → List Column → List (Row A) → Option ℕ
  first_given bad more columns rows = first_some (λ row. least_given bad more row 0 columns) rows

  -- a stage's fault
  abbrev pub fault_of : Stage → Tables A → List (Assignment A) → List Column → List (Row A) → Option Refusal
  fault_of s X more columns rows = at_column (code_of s) (first_given (refuses s X) more columns rows)

  -- the fault of the first stage that has one
  abbrev pub first_fault : Tables A → List (Assignment A) → List Column → List (Row A) → Option Refusal
  first_fault X more columns rows = first_some (λ s. fault_of s X more columns rows) (stage.Value ∷ stage.Range ∷ stage.Reference ∷ [])

  -- some stage refuses it
  abbrev pub is_refused : Tables A → ℕ → Column → Value A → Bool
  is_refused X n d v = lacks_value n d v || out_of_range v || lacks_row X n d v

  -- some stage refuses what an assignment gives to its column
  abbrev pub is_faulty : Tables A → List Column → Row A → Assignment A → Bool
  is_faulty X columns row a = option_map_or (λ d. is_refused X a.column d (given row a.source)) (slice_get columns a.column) false

  -- An assignment to a row with so many fields beside its key: it gives no sum out of range, and its column is one of these fields'.
  pub record IsAssignable (row : Row A) (count : ℕ) (a : Assignment A) : Type 0 where
    pub small : out_of_range (given row a.source) ≡ false
    pub counted : 0 < a.column
    pub within : a.column ≤ count

  abbrev pub AreAssignable : List (Assignment A) → Row A → Type 0
  AreAssignable more row = AllByRecursion (λ a. IsAssignable row (length row.1) a) more
