-- The board of a recording: what its transactions, each by its place, may have done to each row.
use Rattle.std.specs.Prelude.{ℕ, ℤ, ◌==◌, Bool, true, false, not, ◌&&◌, ◌||◌, if◌then◌else◌, Option, Some, None, is_some, option_to_list, List, [], ◌++◌, length, find, map, slice_get}
use Rattle.std.specs.List.{flat_map, list_any}
use Rattle.std.specs.Option.{option_and_then, option_map_or}
use Rattle.value.specs.declared.value.Value.{Value}
use Rattle.value.specs.declared.value.Value.TheVariants.{Int}
use Rattle.schema.specs.Definition.{Catalog}
use Rattle.schema.specs.declared.tables.Tables.{Tables}
use Rattle.schema.specs.declared.row.Row.{Row}
use Rattle.schema.specs.Plain.{same, row_at, rows_of}
use Rattle.statement.specs.Evaluation.{added, out_of_range}
use Rattle.statement.specs.declared.condition.Comparison.TheVariants as is
use Rattle.statement.specs.declared.condition.Condition.{Condition}
use Rattle.statement.specs.declared.condition.Condition.TheVariants.{Compare}
use Rattle.orders.specs.Explains.{Trace, precedes}
use Rattle.orders.specs.declared.ways.way.Atom.{Atom}
use Rattle.orders.specs.declared.ways.way.Way.{Way}
use Rattle.orders.specs.Ways as way
use Rattle.orders.specs.Counts.{has, inserted_key, named_at, number_at}
use Rattle.orders.specs.Ways.{allows, cell, column_of}
use Rattle.orders.specs.Symbolic.{ways_of}
use Rattle.certificate.specs.declared.known.Spot.{Spot}
use Rattle.certificate.specs.Additions.{Numbers}
use Rattle.certificate.specs.Board.{Board, Effect, Keeps, Leaves, Adds, Unknown}
use Rattle.certificate.specs.Cells.{same_spot}

module _ {A : Type 0} where
  -- the first is known to have ended before the second began
  abbrev pub precedes_so : Option (Trace A) → Option (Trace A) → Bool
  precedes_so (Some a) (Some b) = precedes a b
  precedes_so (Some a) None = false
  precedes_so None o = false

  -- two states of a cell are the same
  abbrev pub same_state : Option (Value A) → Option (Value A) → Bool
  same_state None None = true
  same_state None (Some w) = false
  same_state (Some v) None = false
  same_state (Some v) (Some w) = same v w

  abbrev pub effect_of : way.Effect A → Effect (Option (Value A))
  effect_of way.Keeps = Keeps
  effect_of (way.Leaves s) = Leaves s
  effect_of (way.Adds m d) = Adds m d
  effect_of way.Unknown = Unknown

  abbrev pub one_allows : List (Way A) → ℕ → Option (Value A) → Bool
  one_allows ws n state = list_any (λ w. allows w n state) ws

  -- a sum is out of range
  abbrev pub overflows : Option (Value A) → ℤ → Bool
  overflows state d = option_map_or (λ v. out_of_range (added v d)) state false

  -- what is left by an effect passes, where it is this that is asked; of what a transaction found in its spot this is known
  abbrev pub passes_sum : List (Way A) → ℕ → ℤ → Option (Option (Value A)) → Bool
  passes_sum ws n d None = true
  passes_sum ws n d (Some s) = overflows s d || one_allows ws n (way.plus d s)

  abbrev pub passes : List (Way A) → ℕ → (ℕ → Option (Option (Value A))) → Effect (Option (Value A)) → Bool
  passes ws n found Keeps = false
  passes ws n found (Leaves s) = one_allows ws n s
  passes ws n found (Adds m d) = passes_sum ws n d (found m)
  passes ws n found Unknown = true

  -- what is left by an effect is this state; of what a transaction found in its spot this is known
  abbrev pub is_sum : Option (Value A) → ℤ → Option (Option (Value A)) → Bool
  is_sum v d None = false
  is_sum v d (Some s) = not (overflows s d) && same_state (way.plus d s) v

  abbrev pub leaves_same : Option (Value A) → (ℕ → Option (Option (Value A))) → Effect (Option (Value A)) → Bool
  leaves_same v found Keeps = false
  leaves_same v found (Leaves s) = same_state s v
  leaves_same v found (Adds m d) = is_sum v d (found m)
  leaves_same v found Unknown = false

  -- ---- numbers

  -- a state that is a bigint
  abbrev pub number_of : Option (Value A) → Option ℤ
  number_of (Some (Int n)) = Some n
  number_of _ = None

  -- the number to which a condition holds its column
  abbrev pub number_in : Condition A → Option ℤ
  number_in (Compare n is.Equal v) = number_of (Some v)
  number_in _ = None

  -- an atom holds column n to a number
  abbrev pub is_held : ℕ → Atom A → Bool
  is_held n a = a.truth && column_of a.condition == n && is_some (number_in a.condition)

  -- the number that column n must have before a way, where a row must be there
  abbrev pub wants : Way A → ℕ → Option ℤ
  wants w n = if w.is_absent then None else option_and_then (λ a. number_in a.condition) (find (is_held n) w.atoms)

  abbrev pub numbers : Numbers (Way A) (Option (Value A))
  numbers = record { number = λ s. number_of s; wants = λ w n. wants w n }

  -- ---- rows that statements choose

  -- by a way of a transaction at a key, statement j may have chosen the row
  abbrev pub may_count : Value A → Way A → ℕ → Trace A → Bool
  may_count k w j t = has j w.counted || has j w.may_count || named_at k t.statements j

  -- statement j chose so many rows of table u, by its answer
  abbrev pub tells : ℕ → ℕ → ℕ → Trace A → Bool
  tells u j n t = option_map_or (λ m. m == n) (number_at u t.statements j) false

  -- the keys that a transaction puts into table u
  abbrev pub inserted_keys : ℕ → Trace A → List (Value A)
  inserted_keys u t = flat_map (λ q. option_to_list (inserted_key u q.0)) t.statements

  -- the keys that table u may ever have: those before all transactions, and those put in
  abbrev pub keys_of : Tables A → List (Trace A) → ℕ → List (Value A)
  keys_of X ts u = map (λ (row : Row A). row.0) (rows_of X u) ++ flat_map (inserted_keys u) ts

  abbrev pub board_of : Catalog → Tables A → List (Trace A) → Board (Way A) (Option (Value A)) (Spot A)
  board_of c X ts = record {
    count = length ts;
    precedes = λ x y. precedes_so (slice_get ts x) (slice_get ts y);
    committed = λ x. option_map_or (λ t. is_some t.end) (slice_get ts x) false;
    ways = λ x s. option_map_or (λ t. ways_of c s.table s.key t.statements) (slice_get ts x) [];
    allows = λ w n state. allows w n state;
    effect = λ s w n. effect_of (way.effect s.key w n);
    opening = λ s n. cell s.key (row_at X s.table s.key) n;
    plus = λ state d. way.plus d state;
    overflows = λ state d. overflows state d;
    counts = λ w j. has j w.counted;
    may_count = λ x s w j. option_map_or (may_count s.key w j) (slice_get ts x) false;
    tells = λ x s j n. option_map_or (tells s.table j n) (slice_get ts x) false;
    keys = λ s. map (λ k. record { table = s.table; key = k }) (keys_of X ts s.table);
    same_table = λ s t. s.table == t.table;
    same_spot = λ s t. same_spot s t;
    same_state = λ s t. same_state s t;
  }

-- a recording: the catalog, the tables before all transactions, and what was recorded of these
pub record Recording (A : Type 0) : Type 0 where
  pub catalog : Catalog
  pub opening : Tables A
  pub transactions : List (Trace A)

abbrev pub board : {A : Type 0} → Recording A → Board (Way A) (Option (Value A)) (Spot A)
board r = board_of r.catalog r.opening r.transactions
