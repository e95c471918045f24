-- The grammar of CREATE TABLE: which tokens spell which table.
use Rattle.std.specs.Prelude.{◌≡◌, Bool, true, false, Option, Some, None}
use Rattle.value.specs.declared.kind.Kind.{Kind}
use Rattle.value.specs.declared.kind.Kind.TheVariants as of
use Rattle.sqltext.specs.declared.token.TokenKind.{TokenKind}
use Rattle.sqltext.specs.declared.token.TokenKind.TheVariants as kind
use Rattle.sqltext.specs.declared.tree.Name.{Name}
use Rattle.sqltext.specs.declared.tree.ColumnTree.{ColumnTree}
use Rattle.sqltext.specs.Creating.{TableParts}
use Rattle.sqltext.specs.Spelling.{Phrase, nothing, word, ◌then◌, more, name}

abbrev pub kind_token : Kind → TokenKind
kind_token of.Bigint = kind.Bigint
kind_token of.Text = kind.Text
kind_token of.Bytea = kind.Bytea

abbrev pub kind_word : Kind → Phrase
kind_word k = word (kind_token k)

-- NOT NULL, where a column is marked so
abbrev pub mark : Bool → Phrase
mark true = word kind.Not then word kind.Null
mark false = nothing

-- the table that a column references, if any
abbrev pub reference : Option Name → Phrase
reference (Some table) = word kind.References then name table
reference None = nothing

-- the key is never null, and carries no mark
abbrev pub key : ColumnTree → Phrase
key c ts = (c.not_null ≡ false) × (name c.name then kind_word c.kind then word kind.Primary then word kind.Key then reference c.references) ts

abbrev pub column : ColumnTree → Phrase
column c = name c.name then kind_word c.kind then mark c.not_null then reference c.references

abbrev pub table : TableParts → Phrase
table t = name t.name then word kind.Open then key t.key then more kind.Comma column t.others then word kind.Close

-- all of the tokens, their end too, spell a table
abbrev pub SpellsTable : TableParts → Phrase
SpellsTable t = word kind.Create then word kind.Table then table t then word kind.Semicolon then word kind.End
