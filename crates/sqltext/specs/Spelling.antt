-- The grammar of statements: which tokens spell which tree. It doesn't read: each form of a tree is the phrases that it is made of, one after the other.
use Rattle.std.specs.Prelude.{◌≡◌, ◌⊎◌, List, [], ◌∷◌, ◌++◌}
use Rattle.statement.specs.declared.condition.Comparison.{Comparison}
use Rattle.statement.specs.declared.condition.Comparison.TheVariants as how
use Rattle.sqltext.specs.declared.token.TokenKind.{TokenKind}
use Rattle.sqltext.specs.declared.token.TokenKind.TheVariants as kind
use Rattle.sqltext.specs.declared.token.Token.{Token}
use Rattle.sqltext.specs.declared.tree.Name.{Name}
use Rattle.sqltext.specs.declared.tree.Literal.{Literal}
use Rattle.sqltext.specs.declared.tree.Literal.TheVariants.{Null, Number, Signed, Quoted}
use Rattle.sqltext.specs.declared.tree.Test.{Test}
use Rattle.sqltext.specs.declared.tree.Test.TheVariants.{Compare, Between, IsNull, IsNotNull}
use Rattle.sqltext.specs.declared.tree.Setting.{Setting}
use Rattle.sqltext.specs.declared.tree.Setting.TheVariants as set
use Rattle.sqltext.specs.declared.tree.Shown.{Shown}
use Rattle.sqltext.specs.declared.tree.Shown.TheVariants.{All, Count, Columns}
use Rattle.sqltext.specs.declared.tree.Tree.{Tree}
use Rattle.sqltext.specs.declared.tree.Tree.TheVariants.{Select, Insert, Update, Delete}

-- ---- phrases

-- which tokens are a phrase
abbrev pub Phrase : Type 1
Phrase = List Token → Type 0

-- no tokens
abbrev pub nothing : Phrase
nothing ts = ts ≡ []

-- one token, this one, of a kind
abbrev pub this : TokenKind → Token → Phrase
this kind t ts = (t.kind ≡ kind) × (ts ≡ t ∷ [])

-- one token of a kind
abbrev pub word : TokenKind → Phrase
word kind ts = (t : Token) × this kind t ts

-- a phrase, and after it another
infixr 30 ◌then◌
abbrev pub ◌then◌ : Phrase → Phrase → Phrase
(p then q) ts = (front : List Token) × (rest : List Token) × p front × q rest × (ts ≡ front ++ rest)

-- one of two phrases
infixr 20 ◌or◌
abbrev pub ◌or◌ : Phrase → Phrase → Phrase
(p or q) ts = p ts ⊎ q ts

module _ {T : Type 0} (separator : TokenKind) (item : T → Phrase) where
  -- items, each with a separator before it
  abbrev pub more : List T → Phrase
  more [] = nothing
  more (x ∷ xs) = word separator then item x then more xs

  -- one or more items, with separators between
  abbrev pub separated : List T → Phrase
  separated [] = λ ts. ⊥
  separated (x ∷ xs) = item x then more xs

-- ---- the forms of a statement

abbrev pub name : Name → Phrase
name n = this kind.Name n.0

abbrev pub sign : Token → Phrase
sign t = this kind.Plus t or this kind.Minus t

abbrev pub literal : Literal → Phrase
literal (Null t) = this kind.Null t
literal (Number digits) = this kind.Number digits
literal (Signed s digits) = sign s then this kind.Number digits
literal (Quoted t) = this kind.Quoted t

abbrev pub comparison_sign : Comparison → TokenKind
comparison_sign how.Equal = kind.Equal
comparison_sign how.NotEqual = kind.NotEqual
comparison_sign how.Less = kind.Less
comparison_sign how.LessOrEqual = kind.LessOrEqual
comparison_sign how.Greater = kind.Greater
comparison_sign how.GreaterOrEqual = kind.GreaterOrEqual

abbrev pub comparison : Comparison → Phrase
comparison c = word (comparison_sign c)

abbrev pub condition : Test → Phrase
condition (Compare column how value) = name column then comparison how then literal value
condition (Between column low high) = name column then word kind.Between then literal low then word kind.And then literal high
condition (IsNull column) = name column then word kind.Is then word kind.Null
condition (IsNotNull column) = name column then word kind.Is then word kind.Not then word kind.Null

abbrev pub setting : Setting → Phrase
setting (set.Literal column value) = name column then word kind.Equal then literal value
setting (set.Sum column source s digits) = name column then word kind.Equal then name source then sign s then this kind.Number digits

abbrev pub conditions : List Test → Phrase
conditions [] = nothing
conditions (c ∷ cs) = word kind.Where then separated kind.And condition (c ∷ cs)

module _ {A : Type 0} where
  abbrev pub shown : Shown A → Phrase
  shown All = word kind.Star
  shown Count = word kind.Count then word kind.Open then word kind.Star then word kind.Close
  shown (Columns names) = separated kind.Comma name names

  abbrev pub statement : Tree A → Phrase
  statement (Select what table tests) = word kind.Select then shown what then word kind.From then name table then conditions tests
  statement (Insert table values literals) = word kind.Insert then word kind.Into then name table then this kind.Values values then word kind.Open
      then separated kind.Comma literal literals then word kind.Close
  statement (Update table settings tests) = word kind.Update then name table then word kind.Set then separated kind.Comma setting settings then conditions tests
  statement (Delete table tests) = word kind.Delete then word kind.From then name table then conditions tests

  -- all of the tokens, their end too, spell a tree
  abbrev pub Spells : Tree A → Phrase
  Spells tree = statement tree then (nothing or word kind.Semicolon) then word kind.End
