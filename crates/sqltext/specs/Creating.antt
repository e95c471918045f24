-- What the text of a CREATE TABLE says: a table, or that it is none.
-- Source: PostgreSQL manual, CREATE TABLE; the forms that are read are ours.
use Rattle.std.specs.Prelude.{ℕ, Bool, true, false, if◌then◌else◌, List, [], ◌∷◌, Option, Some, None, Result, Ok, Err}
use Rattle.std.specs.Option.{option_map_or}
use Rattle.std.specs.Str.{is_utf8}
use Rattle.value.specs.declared.kind.Kind.{Kind}
use Rattle.value.specs.declared.kind.Kind.TheVariants as of
use Rattle.value.specs.declared.refusal.Refusal.{Refusal}
use Rattle.value.specs.declared.refusal.Code.TheVariants.{SyntaxError}
use Rattle.value.specs.Refusals.{of_code, pointing_nowhere}
use Rattle.schema.specs.Definition.{ColumnDef, TableDef}
use Rattle.schema.specs.Adding.{defined}
use Rattle.sqltext.specs.declared.token.TokenKind.{TokenKind}
use Rattle.sqltext.specs.declared.token.TokenKind.TheVariants as kind
use Rattle.sqltext.specs.declared.token.Token.{Token}
use Rattle.sqltext.specs.declared.tree.Name.{Name}
use Rattle.sqltext.specs.declared.tree.ColumnTree.{ColumnTree}
use Rattle.sqltext.specs.declared.tree.TableTree.{TableTree}
use Rattle.sqltext.specs.Tokens.{tokens}
use Rattle.sqltext.specs.Reading.{◌>>=◌, syntax_error, past, expect, nothing_left, list_of}
use Rattle.sqltext.specs.Grammar.{Rule, name}
use Rattle.sqltext.specs.Source.{in_small_letters, bytes_of}
use Rattle.sqltext.specs.Resolving.{refused, each}

-- ---- the grammar

abbrev pub kind_of : TokenKind → Option Kind
kind_of kind.Bigint = Some of.Bigint
kind_of kind.Text = Some of.Text
kind_of kind.Bytea = Some of.Bytea
kind_of _ = None

unfoldable pub kind_word : Rule Kind
kind_word [] = Err (syntax_error [])
kind_word (t ∷ ts) = option_map_or (λ k. Ok (k, ts)) (kind_of t.kind) (Err (syntax_error (t ∷ ts)))

-- the table that a column references, if any
unfoldable pub reference : Rule (Option Name)
reference ts = option_map_or (λ rest. name rest >>= λ table. Ok (Some table.0, table.1)) (past kind.References ts) (Ok (None, ts))

-- whether NOT NULL comes
unfoldable pub mark : Rule Bool
mark ts = option_map_or (λ rest. expect kind.Null rest >>= λ word. Ok (true, word.1)) (past kind.Not ts) (Ok (false, ts))

unfoldable pub key : Rule ColumnTree
key ts = name ts >>= λ n. kind_word n.1 >>= λ k. expect kind.Primary k.1 >>= λ primary. expect kind.Key primary.1 >>= λ word. reference word.1 >>= λ r.
    Ok (record { name = n.0; kind = k.0; not_null = false; references = r.0 }, r.1)

unfoldable pub column : Rule ColumnTree
column ts = name ts >>= λ n. kind_word n.1 >>= λ k. mark k.1 >>= λ m. reference m.1 >>= λ r.
    Ok (record { name = n.0; kind = k.0; not_null = m.0; references = r.0 }, r.1)

-- the columns after the key
unfoldable pub others : Rule (List ColumnTree)
others ts = option_map_or (list_of kind.Comma column) (past kind.Comma ts) (Ok ([], ts))

-- a table as it is written
pub record TableParts : Type 0 where
  pub name : Name
  pub key : ColumnTree
  pub others : List ColumnTree

abbrev pub parts : {A : Type 0} → TableTree A → TableParts
parts tree = record { name = tree.name; key = tree.key; others = tree.others }

unfoldable pub table : Rule TableParts
table ts = name ts >>= λ n. expect kind.Open n.1 >>= λ open_. key open_.1 >>= λ k. others k.1 >>= λ more. expect kind.Close more.1 >>= λ close.
    Ok (record { name = n.0; key = k.0; others = more.0 }, close.1)

unfoldable pub whole : List Token → Result TableParts Refusal
whole ts = expect kind.Create ts >>= λ create. expect kind.Table create.1 >>= λ word. table word.1 >>= λ tree. expect kind.Semicolon tree.1 >>= λ semicolon.
    expect kind.End semicolon.1 >>= λ end. nothing_left end.1 >>= λ left. Ok tree.0

-- ---- the definition

-- the word of a name; what isn't text is none
abbrev pub word_of : List ℕ → Name → Result (List ℕ) Refusal
word_of text n = if is_utf8 (bytes_of n.0 text) then Ok (bytes_of n.0 text) else Err (refused SyntaxError n.0)

unfoldable pub referenced : List ℕ → Option Name → Result (Option (List ℕ)) Refusal
referenced text None = Ok None
referenced text (Some n) = word_of text n >>= λ word. Ok (Some word)

unfoldable pub definition : List ℕ → ColumnTree → Result ColumnDef Refusal
definition text column = word_of text column.name >>= λ word. referenced text column.references >>= λ table.
    Ok (record { name = word; kind = column.kind; not_null = column.not_null; references = table })

-- a column, and those after it
unfoldable pub definitions : List ℕ → ColumnDef → List ColumnTree → Result (List ColumnDef) Refusal
definitions text first others = each (definition text) others >>= λ ds. Ok (first ∷ ds)

abbrev pub defined_table : List ℕ → List ColumnDef → Result TableDef Refusal
defined_table name columns = pointing_nowhere (defined name columns)

-- letters in small letters, except those between quotes
abbrev pub small : List ℕ → List ℕ
small = in_small_letters false

-- any refusal, as one that points nowhere
abbrev pub nowhere : {T : Type 0} → Result T Refusal → Result T Refusal
nowhere (Ok x) = Ok x
nowhere (Err refusal) = Err (of_code SyntaxError)

unfoldable pub table_of : List ℕ → TableParts → Result TableDef Refusal
table_of text tree = word_of text tree.name >>= λ word. definition text tree.key >>= λ first.
    definitions text first tree.others >>= λ columns. defined_table word columns

-- what a text in small letters says
unfoldable pub created_small : List ℕ → Result TableDef Refusal
created_small text = whole (tokens text) >>= λ tree. table_of text tree

-- the table of a text that is a CREATE TABLE, or a syntax error that points nowhere
abbrev pub created : List ℕ → Result TableDef Refusal
created text = nowhere (created_small (small text))
