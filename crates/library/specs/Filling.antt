-- The literals of what a session asks for, and what it asks for with values in their place.
use Rattle.std.specs.Prelude.{ℕ, Bool, true, false, not, List, [], ◌∷◌, ◌++◌, length, drop}
use Rattle.value.specs.declared.value.Value.{Value}
use Rattle.value.specs.declared.value.Value.TheVariants.{Null, Int}
use Rattle.value.specs.declared.refusal.Code.{Code}
use Rattle.value.specs.declared.refusal.Code.TheVariants.{OutOfMemory}
use Rattle.schema.specs.Definition.{Catalog}
use Rattle.statement.specs.declared.condition.Condition.{Condition}
use Rattle.statement.specs.declared.condition.Condition.TheVariants.{Compare, Between, IsNull, IsNotNull}
use Rattle.statement.specs.declared.statement.Source.{Source}
use Rattle.statement.specs.declared.statement.Source.TheVariants.{Literal, Sum}
use Rattle.statement.specs.declared.statement.Assignment.{Assignment}
use Rattle.statement.specs.declared.statement.Statement.{Statement}
use Rattle.statement.specs.declared.statement.Statement.TheVariants.{Select, Insert, Update, Delete}
use Rattle.statement.specs.Fits.{fits}
use Rattle.history.specs.declared.event.Action.{Action}
use Rattle.history.specs.declared.event.Action.TheVariants.{Run, Broken}

-- What a session asks for, and a value for each of its literals.
pub record Asked (A : Type 0) : Type 0 where
  pub session : ℕ
  pub template : Action A
  pub given : List (Value A)

abbrev pub is_memory : Code → Bool
is_memory OutOfMemory = true
is_memory _ = false

module _ {A : Type 0} where
  -- ---- literals, in the order in which they are written

  abbrev pub condition_literals : Condition A → List (Value A)
  condition_literals (Compare n how v) = v ∷ []
  condition_literals (Between n low high) = low ∷ high ∷ []
  condition_literals (IsNull n) = []
  condition_literals (IsNotNull n) = []

  abbrev pub literals_in : List (Condition A) → List (Value A)
  literals_in [] = []
  literals_in (c ∷ cs) = condition_literals c ++ literals_in cs

  -- of a sum the number that is added
  abbrev pub source_literal : Source A → Value A
  source_literal (Literal v) = v
  source_literal (Sum n m) = Int m

  abbrev pub assigned_in : List (Assignment A) → List (Value A)
  assigned_in [] = []
  assigned_in (a ∷ more) = source_literal a.source ∷ assigned_in more

  abbrev pub literals_in_statement : Statement A → List (Value A)
  literals_in_statement (Select t p cs) = literals_in cs
  literals_in_statement (Insert t vs) = vs
  literals_in_statement (Update t xs cs) = assigned_in xs ++ literals_in cs
  literals_in_statement (Delete t cs) = literals_in cs

  abbrev pub literals_of : Action A → List (Value A)
  literals_of (Run q) = literals_in_statement q
  literals_of _ = []

  -- ---- values in their place

  abbrev pub first_or_null : List (Value A) → Value A
  first_or_null [] = Null
  first_or_null (v ∷ vs) = v

  abbrev pub filled_values : List (Value A) → List (Value A) → List (Value A)
  filled_values [] vs = []
  filled_values (l ∷ ls) vs = first_or_null vs ∷ filled_values ls (drop 1 vs)

  -- how many literals a condition has
  abbrev pub places : Condition A → ℕ
  places (Compare n how v) = 1
  places (Between n low high) = 2
  places (IsNull n) = 0
  places (IsNotNull n) = 0

  abbrev pub filled_condition : Condition A → List (Value A) → Condition A
  filled_condition (Compare n how v) vs = Compare n how (first_or_null vs)
  filled_condition (Between n low high) vs = Between n (first_or_null vs) (first_or_null (drop 1 vs))
  filled_condition (IsNull n) vs = IsNull n
  filled_condition (IsNotNull n) vs = IsNotNull n

  abbrev pub filled_conditions : List (Condition A) → List (Value A) → List (Condition A)
  filled_conditions [] vs = []
  filled_conditions (c ∷ cs) vs = filled_condition c vs ∷ filled_conditions cs (drop (places c) vs)

  -- to a column's number a number is added; what is none stands alone
  abbrev pub summed : ℕ → Value A → Source A
  summed n (Int m) = Sum n m
  summed n v = Literal v

  abbrev pub filled_source : Source A → Value A → Source A
  filled_source (Literal l) v = Literal v
  filled_source (Sum n m) v = summed n v

  abbrev pub filled_assignments : List (Assignment A) → List (Value A) → List (Assignment A)
  filled_assignments [] vs = []
  filled_assignments (a ∷ more) vs = record { column = a.column; source = filled_source a.source (first_or_null vs) } ∷ filled_assignments more (drop 1 vs)

  abbrev pub filled_statement : Statement A → List (Value A) → Statement A
  filled_statement (Select t p cs) vs = Select t p (filled_conditions cs vs)
  filled_statement (Insert t ls) vs = Insert t (filled_values ls vs)
  filled_statement (Update t xs cs) vs = Update t (filled_assignments xs vs) (filled_conditions cs (drop (length xs) vs))
  filled_statement (Delete t cs) vs = Delete t (filled_conditions cs vs)

  -- what a session asks for with these values in the place of its literals
  abbrev pub filled : Action A → List (Value A) → Action A
  filled (Run q) vs = Run (filled_statement q vs)
  filled a vs = a

  -- ---- what is read once

  -- with its literals as they stand
  abbrev pub read_once : ℕ → Action A → Asked A
  read_once s a = record { session = s; template = a; given = literals_of a }

  abbrev pub action_in : Asked A → Action A
  action_in p = filled p.template p.given

  -- whether sessions may ask for this on a catalog's tables
  abbrev pub may_ask : Catalog → Action A → Bool
  may_ask c (Run q) = fits c q
  may_ask c (Broken r) = not (is_memory r.code)
  may_ask c _ = true
