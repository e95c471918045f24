-- Statements that fit a catalog.
use Rattle.std.specs.Prelude.{◌≡◌, ℕ, nat_lt, Bool, true, false, not, ◌&&◌, List, [], ◌∷◌, length, slice_get}
use Rattle.std.specs.List.{list_all}
use Rattle.std.specs.Option.{option_map_or}
use Rattle.value.specs.declared.kind.Kind.{Kind}
use Rattle.value.specs.declared.kind.Kind.TheVariants as kind
use Rattle.value.specs.declared.value.Value.{Value}
use Rattle.schema.specs.Definition.{Column, Catalog}
use Rattle.schema.specs.Plain.{columns_of, has_kind}
use Rattle.statement.specs.declared.condition.Condition.{Condition}
use Rattle.statement.specs.declared.condition.Condition.TheVariants.{Compare, Between, IsNull, IsNotNull}
use Rattle.statement.specs.declared.statement.Projection.{Projection}
use Rattle.statement.specs.declared.statement.Projection.TheVariants.{All, Count, Columns}
use Rattle.statement.specs.declared.statement.Source.{Source}
use Rattle.statement.specs.declared.statement.Source.TheVariants.{Literal, Sum}
use Rattle.statement.specs.declared.statement.Assignment.{Assignment}
use Rattle.statement.specs.declared.statement.Statement.{Statement}
use Rattle.statement.specs.declared.statement.Statement.TheVariants.{Select, Insert, Update, Delete}
use Rattle.statement.specs.Evaluation.{is_assigned}

-- there is a column of this place, counted from 0, and it passes the test
abbrev pub column_passes : (Column → Bool) → List Column → ℕ → Bool
column_passes test columns n = option_map_or test (slice_get columns n) false

abbrev pub has_table : Catalog → ℕ → Bool
has_table c t = nat_lt t (length c)

abbrev pub is_bigint : Kind → Bool
is_bigint kind.Bigint = true
is_bigint _ = false

module _ {A : Type 0} where
  -- a literal is null or of the column's kind, a text without the zero byte
  abbrev pub takes : Value A → Column → Bool
  takes v d = has_kind d.kind v

  -- the condition's column is there, and its literals are of that column's kind
  abbrev pub condition_fits : List Column → Condition A → Bool
  condition_fits columns (Compare n how v) = column_passes (takes v) columns n
  condition_fits columns (Between n low high) = column_passes (λ d. takes low d && takes high d) columns n
  condition_fits columns (IsNull n) = column_passes (λ d. true) columns n
  condition_fits columns (IsNotNull n) = column_passes (λ d. true) columns n

  -- the columns shown are there
  abbrev pub projection_fits : List Column → Projection A → Bool
  projection_fits columns All = true
  projection_fits columns Count = true
  projection_fits columns (Columns ns) = list_all (column_passes (λ d. true) columns) ns

  -- one literal for each column, of its kind
  abbrev pub literals_fit : List Column → List (Value A) → Bool
  literals_fit [] [] = true
  literals_fit (d ∷ ds) (v ∷ vs) = takes v d && literals_fit ds vs
  literals_fit _ _ = false

  -- a column may be set so: a literal is of its kind, and a sum is of bigint columns alone
  abbrev pub source_fits : List Column → Source A → Column → Bool
  source_fits columns (Literal v) d = takes v d
  source_fits columns (Sum n m) d = is_bigint d.kind && column_passes (λ e. is_bigint e.kind) columns n

  -- the column is there and isn't the key, which is column 0
  abbrev pub assignment_fits : List Column → Assignment A → Bool
  assignment_fits columns a = nat_lt 0 a.column && column_passes (source_fits columns a.source) columns a.column

  -- no column is assigned twice
  abbrev pub assigns_once : List (Assignment A) → Bool
  assigns_once [] = true
  assigns_once (a ∷ more) = not (is_assigned more a.column) && assigns_once more

  -- Its tables and columns are the catalog's, and its literals, assignments and sums are as those ask.
  abbrev pub fits : Catalog → Statement A → Bool
  fits c (Select t p conditions) = has_table c t && projection_fits (columns_of c t) p && list_all (condition_fits (columns_of c t)) conditions
  fits c (Insert t values) = has_table c t && literals_fit (columns_of c t) values
  fits c (Update t more conditions) =
      has_table c t && list_all (assignment_fits (columns_of c t)) more && assigns_once more && list_all (condition_fits (columns_of c t)) conditions
  fits c (Delete t conditions) = has_table c t && list_all (condition_fits (columns_of c t)) conditions

  abbrev pub Fits : Catalog → Statement A → Type 0
  Fits c q = fits c q ≡ true
