-- The statement that a tree says of the catalog's tables, or the first refusal from left to right.
use Rattle.std.specs.Prelude.{ℕ, ℤ, neg_ℤ, ◌==◌, ◌||◌, if◌then◌else◌, List, [], ◌∷◌, ◌++◌, length, Option, Some, None, Result, Ok, Err, slice_get}
use Rattle.std.specs.Option.{option_map_or}
use Rattle.value.specs.declared.kind.Kind.{Kind}
use Rattle.value.specs.declared.kind.Kind.TheVariants as of
use Rattle.value.specs.declared.refusal.Refusal.{Refusal}
use Rattle.value.specs.declared.refusal.Code.{Code}
use Rattle.value.specs.declared.refusal.Code.TheVariants.{SyntaxError, UndefinedColumn, UndefinedTable, DatatypeMismatch, NumericValueOutOfRange}
use Rattle.value.specs.declared.value.Value.{Value}
use Rattle.value.specs.declared.value.Value.TheVariants.{Null}
use Rattle.value.specs.Literal.{bigint_of, literal_of}
use Rattle.schema.specs.Definition.{Column, Catalog, columns_of, column_named, table_named}
use Rattle.schema.specs.Plain.{in_range}
use Rattle.statement.specs.declared.condition.Condition.{Condition}
use Rattle.statement.specs.declared.condition.Condition.TheVariants as c
use Rattle.statement.specs.declared.statement.Projection.{Projection}
use Rattle.statement.specs.declared.statement.Projection.TheVariants as p
use Rattle.statement.specs.declared.statement.Source.{Source}
use Rattle.statement.specs.declared.statement.Source.TheVariants as s
use Rattle.statement.specs.declared.statement.Assignment.{Assignment}
use Rattle.statement.specs.declared.statement.Statement.{Statement}
use Rattle.statement.specs.declared.statement.Statement.TheVariants as q
use Rattle.statement.specs.Evaluation.{is_assigned}
use Rattle.sqltext.specs.declared.token.Token.{Token}
use Rattle.sqltext.specs.declared.token.TokenKind.TheVariants.{Minus}
use Rattle.sqltext.specs.declared.tree.Name.{Name}
use Rattle.sqltext.specs.declared.tree.Literal.{Literal}
use Rattle.sqltext.specs.declared.tree.Literal.TheVariants as l
use Rattle.sqltext.specs.declared.tree.Test.{Test}
use Rattle.sqltext.specs.declared.tree.Test.TheVariants as test
use Rattle.sqltext.specs.declared.tree.Setting.{Setting}
use Rattle.sqltext.specs.declared.tree.Setting.TheVariants as set
use Rattle.sqltext.specs.declared.tree.Shown.{Shown}
use Rattle.sqltext.specs.declared.tree.Shown.TheVariants as shown
use Rattle.sqltext.specs.declared.tree.Tree.{Tree}
use Rattle.sqltext.specs.declared.tree.Tree.TheVariants as tree
use Rattle.sqltext.specs.Tokens.{same_kind}
use Rattle.sqltext.specs.Reading.{◌>>=◌, refusal_at}
use Rattle.sqltext.specs.Source.{bytes_of, unquoted}

-- a refusal at the beginning of a token
abbrev pub refused : Code → Token → Refusal
refused code t = refusal_at code t.start

-- ---- names

-- a column's place, and its kind
abbrev pub with_kind : List Column → Option ℕ → Option (ℕ × Kind)
with_kind columns None = None
with_kind columns (Some n) = option_map_or (λ d. Some (n, d.kind)) (slice_get columns n) None

-- the column of a name and its kind
unfoldable pub column : List Column → List ℕ → Name → Result (ℕ × Kind) Refusal
column columns text name = option_map_or (λ found. Ok found) (with_kind columns (column_named columns (bytes_of name.0 text))) (Err (refused UndefinedColumn name.0))

-- the place of the column of a name
unfoldable pub place_of : List Column → List ℕ → Name → Result ℕ Refusal
place_of columns text name = column columns text name >>= λ found. Ok found.0

-- the table of a name
unfoldable pub table : Catalog → List ℕ → Name → Result ℕ Refusal
table catalog text name = option_map_or (λ t. Ok t) (table_named catalog (bytes_of name.0 text)) (Err (refused UndefinedTable name.0))

-- the kind of the first column, and the columns after it
abbrev pub first_kind : List Column → Option (Kind × List Column)
first_kind [] = None
first_kind (d ∷ columns) = Some (d.kind, columns)

-- ---- lists

-- what a step makes of each item, or the first refusal
unfoldable pub each : {X Y : Type 0} → (X → Result Y Refusal) → List X → Result (List Y) Refusal
each step [] = Ok []
each step (x ∷ xs) = step x >>= λ y. each step xs >>= λ ys. Ok (y ∷ ys)

-- ---- literals

-- a value, or its refusal at a token
abbrev pub at_token : {T : Type 0} → Token → Result T Code → Result T Refusal
at_token t (Ok v) = Ok v
at_token t (Err code) = Err (refused code t)

-- the kind is of numbers
abbrev pub require_bigint : Kind → Name → Result (Unit {0}) Refusal
require_bigint of.Bigint name = Ok tt
require_bigint of.Text name = Err (refused DatatypeMismatch name.0)
require_bigint of.Bytea name = Err (refused DatatypeMismatch name.0)

-- the number of digits
abbrev pub whole_number : List ℕ → Token → Result ℤ Refusal
whole_number text digits = at_token digits (bigint_of (bytes_of digits text))

-- a number taken away, as one that is added, where there is such a number
abbrev pub negated : ℤ → Token → Result ℤ Refusal
negated n digits = if in_range (neg_ℤ n) then Ok (neg_ℤ n) else Err (refused NumericValueOutOfRange digits)

-- the number that is added: for a minus the number after it is taken away
unfoldable pub addend : List ℕ → Token → Token → Result ℤ Refusal
addend text sign digits = whole_number text digits >>= λ n. if same_kind sign.kind Minus then negated n digits else Ok n

module _ {A : Type 0} where
  -- what a kind makes of the bytes of a literal that begins with a token
  unfoldable pub value_of : Kind → List ℕ → Token → Result (Value A) Refusal
  value_of kind bytes token = at_token token (literal_of kind bytes)

  -- a number fits a column of numbers alone
  unfoldable pub number : Kind → List ℕ → Token → Result (Value A) Refusal
  number of.Bigint bytes token = value_of of.Bigint bytes token
  number of.Text bytes token = Err (refused DatatypeMismatch token)
  number of.Bytea bytes token = Err (refused DatatypeMismatch token)

  -- a quoted text fits any other column
  unfoldable pub content : Kind → List ℕ → Token → Result (Value A) Refusal
  content of.Bigint text token = Err (refused DatatypeMismatch token)
  content of.Text text token = value_of of.Text (unquoted (bytes_of token text)) token
  content of.Bytea text token = value_of of.Bytea (unquoted (bytes_of token text)) token

  -- the value of a literal for a column of a kind; null fits any
  unfoldable pub value : List ℕ → Kind → Literal → Result (Value A) Refusal
  value text kind (l.Null token) = Ok Null
  value text kind (l.Number digits) = number kind (bytes_of digits text) digits
  value text kind (l.Signed sign digits) = number kind (bytes_of sign text ++ bytes_of digits text) sign
  value text kind (l.Quoted token) = content kind text token

  -- ---- conditions

  unfoldable pub condition : List Column → List ℕ → Test → Result (Condition A) Refusal
  condition columns text (test.Compare name how literal) =
      column columns text name >>= λ found. value text found.1 literal >>= λ v. Ok (c.Compare found.0 how v)
  condition columns text (test.Between name low high) =
      column columns text name >>= λ found. value text found.1 low >>= λ v. value text found.1 high >>= λ w. Ok (c.Between found.0 v w)
  condition columns text (test.IsNull name) = column columns text name >>= λ found. Ok (c.IsNull found.0)
  condition columns text (test.IsNotNull name) = column columns text name >>= λ found. Ok (c.IsNotNull found.0)

  -- ---- what is shown

  unfoldable pub projection : List Column → List ℕ → Shown A → Result (Projection A) Refusal
  projection columns text shown.All = Ok p.All
  projection columns text shown.Count = Ok p.Count
  projection columns text (shown.Columns names) = each (place_of columns text) names >>= λ places. Ok (p.Columns places)

  -- ---- the literals of an INSERT

  -- each literal for its column
  unfoldable pub values : List ℕ → List Column → List Literal → Result (List (Value A)) Refusal
  values text columns [] = Ok []
  values text columns (literal ∷ literals) =
      option_map_or (λ first. value text first.0 literal >>= λ v. values text first.1 literals >>= λ vs. Ok (v ∷ vs)) (first_kind columns) (Ok [])

  -- as many literals as columns, or a refusal at VALUES
  unfoldable pub inserted : List Column → List ℕ → Token → List Literal → Result (List (Value A)) Refusal
  inserted columns text word literals = if length literals == length columns then values text columns literals else Err (refused SyntaxError word)

  -- ---- assignments

  -- the column that is assigned: not the key, and not assigned before
  unfoldable pub target : List Column → List ℕ → List (Assignment A) → Name → Result (ℕ × Kind) Refusal
  target columns text before name = column columns text name >>= λ found. if found.0 == 0 || is_assigned before found.0 then Err (refused SyntaxError name.0) else Ok found

  -- a column of numbers, and the number added to it
  unfoldable pub sum : List Column → List ℕ → Name → Token → Token → Result (Source A) Refusal
  sum columns text operand sign digits = column columns text operand >>= λ found. require_bigint found.1 operand >>= λ fits.
      addend text sign digits >>= λ n. Ok (s.Sum found.0 n)

  unfoldable pub assignment : List Column → List ℕ → List (Assignment A) → Setting → Result (Assignment A) Refusal
  assignment columns text before (set.Literal name literal) =
      target columns text before name >>= λ found. value text found.1 literal >>= λ v. Ok (record { column = found.0; source = s.Literal v })
  assignment columns text before (set.Sum name operand sign digits) =
      target columns text before name >>= λ found. require_bigint found.1 name >>= λ fits.
      sum columns text operand sign digits >>= λ source. Ok (record { column = found.0; source = source })

  -- each assignment, after those before
  unfoldable pub assignments : List Column → List ℕ → List (Assignment A) → List Setting → Result (List (Assignment A)) Refusal
  assignments columns text before [] = Ok []
  assignments columns text before (x ∷ xs) =
      assignment columns text before x >>= λ a. assignments columns text (before ++ a ∷ []) xs >>= λ more. Ok (a ∷ more)

  -- ---- statements

  -- first the table, and then from left to right
  unfoldable pub resolved : Catalog → List ℕ → Tree A → Result (Statement A) Refusal
  resolved catalog text (tree.Select what name tests) =
      table catalog text name >>= λ t. projection (columns_of catalog t) text what >>= λ shown.
      each (condition (columns_of catalog t) text) tests >>= λ conditions. Ok (q.Select t shown conditions)
  resolved catalog text (tree.Insert name word literals) =
      table catalog text name >>= λ t. inserted (columns_of catalog t) text word literals >>= λ vs. Ok (q.Insert t vs)
  resolved catalog text (tree.Update name settings tests) =
      table catalog text name >>= λ t. assignments (columns_of catalog t) text [] settings >>= λ more.
      each (condition (columns_of catalog t) text) tests >>= λ conditions. Ok (q.Update t more conditions)
  resolved catalog text (tree.Delete name tests) =
      table catalog text name >>= λ t. each (condition (columns_of catalog t) text) tests >>= λ conditions. Ok (q.Delete t conditions)
