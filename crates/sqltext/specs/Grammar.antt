-- The rules of the grammar of statements, each as what it reads from the front of the tokens.
use Rattle.std.specs.Prelude.{if◌then◌else◌, List, [], ◌∷◌, Option, Some, None, is_some, Result, Ok, Err}
use Rattle.std.specs.Option.{option_map_or}
use Rattle.value.specs.declared.refusal.Refusal.{Refusal}
use Rattle.statement.specs.declared.condition.Comparison.{Comparison}
use Rattle.statement.specs.declared.condition.Comparison.TheVariants as how
use Rattle.sqltext.specs.declared.token.TokenKind.{TokenKind}
use Rattle.sqltext.specs.declared.token.TokenKind.TheVariants as kind
use Rattle.sqltext.specs.declared.token.Token.{Token}
use Rattle.sqltext.specs.declared.tree.Name.{Name}
use Rattle.sqltext.specs.declared.tree.Literal.{Literal}
use Rattle.sqltext.specs.declared.tree.Literal.TheVariants.{Null, Number, Signed, Quoted}
use Rattle.sqltext.specs.declared.tree.Test.{Test}
use Rattle.sqltext.specs.declared.tree.Test.TheVariants.{Compare, Between, IsNull, IsNotNull}
use Rattle.sqltext.specs.declared.tree.Setting.{Setting}
use Rattle.sqltext.specs.declared.tree.Setting.TheVariants as set
use Rattle.sqltext.specs.declared.tree.Shown.{Shown}
use Rattle.sqltext.specs.declared.tree.Shown.TheVariants.{All, Count, Columns}
use Rattle.sqltext.specs.declared.tree.Tree.{Tree}
use Rattle.sqltext.specs.declared.tree.Tree.TheVariants.{Select, Insert, Update, Delete}
use Rattle.sqltext.specs.Tokens.{same_kind}
use Rattle.sqltext.specs.Reading.{◌>>=◌, syntax_error, past, expect, nothing_left, list_of}

-- what a rule reads from the front of the tokens, and the tokens after it; or the refusal
abbrev pub Rule : Type 0 → Type 0
Rule T = List Token → Result (T × List Token) Refusal

unfoldable pub name : Rule Name
name ts = expect kind.Name ts >>= λ t. Ok (record { 0 = t.0 }, t.1)

-- ---- literals

unfoldable pub sign : Rule Token
sign ts = if is_some (past kind.Plus ts) then expect kind.Plus ts else expect kind.Minus ts

unfoldable pub signed : Rule Literal
signed ts = sign ts >>= λ s. expect kind.Number s.1 >>= λ n. Ok (Signed s.0 n.0, n.1)

unfoldable pub literal : Rule Literal
literal [] = signed []
literal (t ∷ ts) =
    if same_kind t.kind kind.Null then Ok (Null t, ts)
    else (if same_kind t.kind kind.Number then Ok (Number t, ts)
    else (if same_kind t.kind kind.Quoted then Ok (Quoted t, ts)
    else signed (t ∷ ts)))

-- ---- conditions

abbrev pub comparison_of : TokenKind → Option Comparison
comparison_of kind.Equal = Some how.Equal
comparison_of kind.NotEqual = Some how.NotEqual
comparison_of kind.Less = Some how.Less
comparison_of kind.LessOrEqual = Some how.LessOrEqual
comparison_of kind.Greater = Some how.Greater
comparison_of kind.GreaterOrEqual = Some how.GreaterOrEqual
comparison_of _ = None

unfoldable pub comparison : Rule Comparison
comparison [] = Err (syntax_error [])
comparison (t ∷ ts) = option_map_or (λ c. Ok (c, ts)) (comparison_of t.kind) (Err (syntax_error (t ∷ ts)))

unfoldable pub between : Name → Rule Test
between column ts = literal ts >>= λ low. expect kind.And low.1 >>= λ word. literal word.1 >>= λ high. Ok (Between column low.0 high.0, high.1)

unfoldable pub nullness : Name → Rule Test
nullness column ts =
    option_map_or (λ rest. expect kind.Null rest >>= λ word. Ok (IsNotNull column, word.1)) (past kind.Not ts)
    (expect kind.Null ts >>= λ word. Ok (IsNull column, word.1))

unfoldable pub compared : Name → Rule Test
compared column ts = comparison ts >>= λ how. literal how.1 >>= λ l. Ok (Compare column how.0 l.0, l.1)

unfoldable pub condition : Rule Test
condition ts = name ts >>= λ column.
    option_map_or (between column.0) (past kind.Between column.1)
    (option_map_or (nullness column.0) (past kind.Is column.1) (compared column.0 column.1))

-- ---- assignments

unfoldable pub sum : Name → Rule Setting
sum column ts = name ts >>= λ source. sign source.1 >>= λ s. expect kind.Number s.1 >>= λ n. Ok (set.Sum column source.0 s.0 n.0, n.1)

unfoldable pub set_to : Name → Rule Setting
set_to column ts = if is_some (past kind.Name ts) then sum column ts else (literal ts >>= λ l. Ok (set.Literal column l.0, l.1))

unfoldable pub setting : Rule Setting
setting ts = name ts >>= λ column. expect kind.Equal column.1 >>= λ word. set_to column.0 word.1

-- ---- statements

unfoldable pub conditions : Rule (List Test)
conditions ts = option_map_or (list_of kind.And condition) (past kind.Where ts) (Ok ([], ts))

module _ {A : Type 0} where
  unfoldable pub count : Rule (Shown A)
  count ts = expect kind.Open ts >>= λ open_. expect kind.Star open_.1 >>= λ star. expect kind.Close star.1 >>= λ close. Ok (Count, close.1)

  unfoldable pub shown : Rule (Shown A)
  shown ts =
      option_map_or (λ rest. Ok (All, rest)) (past kind.Star ts)
      (option_map_or count (past kind.Count ts)
      (list_of kind.Comma name ts >>= λ names. Ok (Columns names.0, names.1)))

  unfoldable pub select : Rule (Tree A)
  select ts = shown ts >>= λ what. expect kind.From what.1 >>= λ word. name word.1 >>= λ table. conditions table.1 >>= λ tests.
      Ok (Select what.0 table.0 tests.0, tests.1)

  unfoldable pub insert : Rule (Tree A)
  insert ts = expect kind.Into ts >>= λ word. name word.1 >>= λ table. expect kind.Values table.1 >>= λ values. expect kind.Open values.1 >>= λ open_.
      list_of kind.Comma literal open_.1 >>= λ literals. expect kind.Close literals.1 >>= λ close. Ok (Insert table.0 values.0 literals.0, close.1)

  unfoldable pub update : Rule (Tree A)
  update ts = name ts >>= λ table. expect kind.Set table.1 >>= λ word. list_of kind.Comma setting word.1 >>= λ settings. conditions settings.1 >>= λ tests.
      Ok (Update table.0 settings.0 tests.0, tests.1)

  unfoldable pub delete : Rule (Tree A)
  delete ts = expect kind.From ts >>= λ word. name word.1 >>= λ table. conditions table.1 >>= λ tests. Ok (Delete table.0 tests.0, tests.1)

  unfoldable pub statement : Rule (Tree A)
  statement ts =
      option_map_or select (past kind.Select ts)
      (option_map_or insert (past kind.Insert ts)
      (option_map_or update (past kind.Update ts)
      (expect kind.Delete ts >>= λ word. delete word.1)))

unfoldable pub ending : Rule Token
ending ts = option_map_or (expect kind.End) (past kind.Semicolon ts) (expect kind.End ts)

module _ {A : Type 0} where
  -- the statement that all of the tokens say
  unfoldable pub whole : List Token → Result (Tree A) Refusal
  whole ts = statement ts >>= λ tree. ending tree.1 >>= λ end. nothing_left end.1 >>= λ left. Ok tree.0
