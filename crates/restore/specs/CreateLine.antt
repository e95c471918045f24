-- What a CREATE TABLE line of a dump says: a table, or that it is none. There is one spelling for each table.
-- Source: PostgreSQL manual, CREATE TABLE; that there is one spelling is ours.
use Rattle.std.specs.Prelude.{ℕ, ◌==◌, Bool, true, false, if◌then◌else◌, Option, Some, None, List, [], ◌∷◌, codes, Result, Ok, Err}
use Rattle.std.specs.List.{slice_split}
use Rattle.std.specs.Option.{option_map, option_map_or}
use Rattle.std.specs.Str.{bytes_eq}
use Rattle.value.specs.declared.kind.Kind.{Kind}
use Rattle.value.specs.declared.kind.Kind.TheVariants as kind
use Rattle.value.specs.declared.refusal.Code.{Code}
use Rattle.value.specs.declared.refusal.Code.TheVariants.{BadCopyFileFormat}
use Rattle.schema.specs.Definition.{ColumnDef, TableDef}
use Rattle.schema.specs.Names.{is_name}
use Rattle.schema.specs.Adding.{defined}
use Rattle.dumpplan.specs.Lines.{comma, space}
use Rattle.restore.specs.Steps.{◌>>=◌}

-- ---- parts of a text

-- what follows some bytes, where the text begins with them
abbrev pub behind : List ℕ → List ℕ → Option (List ℕ)
behind [] text = Some text
behind (b ∷ bytes) [] = None
behind (b ∷ bytes) (c ∷ text) = if b == c then behind bytes text else None

-- what stands before and after the first occurrence of a byte, where the text has it
abbrev pub parted : ℕ → List ℕ → Option (List ℕ × List ℕ)
parted c [] = None
parted c (b ∷ text) = if b == c then Some ([], text) else option_map (λ parts. (b ∷ parts.0, parts.1)) (parted c text)

-- what must be there
abbrev pub present : {T : Type 0} → Option T → Result T Code
present (Some x) = Ok x
present None = Err BadCopyFileFormat

-- a name
abbrev pub name_of : List ℕ → Result (List ℕ) Code
name_of word = if is_name word then Ok word else Err BadCopyFileFormat

-- ---- columns, each spelled as it is written

-- a kind's word, and what follows it
unfoldable pub kind_at : List ℕ → Result (Kind × List ℕ) Code
kind_at text =
    option_map_or (λ rest. Ok (kind.Bigint, rest))
    (behind (codes "bigint") text)
    (option_map_or (λ rest. Ok (kind.Text, rest)) (behind (codes "text") text) (option_map_or (λ rest. Ok (kind.Bytea, rest)) (behind (codes "bytea") text) (Err BadCopyFileFormat)))

-- a column's name and kind, and its marks, which follow them
unfoldable pub named : List ℕ → Result (List ℕ × Kind × List ℕ) Code
named text = present (parted space text) >>= λ parts. name_of parts.0 >>= λ name. kind_at parts.1 >>= λ k. Ok (name, k.0, k.1)

-- the table that a column's last marks reference, if any
unfoldable pub referenced : List ℕ → Result (Option (List ℕ)) Code
referenced [] = Ok None
referenced (b ∷ text) = present (behind (codes " REFERENCES ") (b ∷ text)) >>= λ word. name_of word >>= λ name. Ok (Some name)

-- the key's column
unfoldable pub key_column : List ℕ → Result ColumnDef Code
key_column text = named text >>= λ n. present (behind (codes " PRIMARY KEY") n.2) >>= λ marks. referenced marks >>= λ r.
    Ok (record { name = n.0; kind = n.1; not_null = false; references = r })

-- whether a column is marked NOT NULL, and what follows that
abbrev pub not_null_at : List ℕ → Bool × List ℕ
not_null_at marks = option_map_or (λ rest. (true, rest)) (behind (codes " NOT NULL") marks) (false, marks)

-- any other column, after the space after a comma
unfoldable pub other_column : List ℕ → Result ColumnDef Code
other_column text = present (behind (space ∷ []) text) >>= λ column. named column >>= λ n. referenced (not_null_at n.2).1 >>= λ r.
    Ok (record { name = n.0; kind = n.1; not_null = (not_null_at n.2).0; references = r })

unfoldable pub other_columns : List (List ℕ) → Result (List ColumnDef) Code
other_columns [] = Ok []
other_columns (text ∷ texts) = other_column text >>= λ d. other_columns texts >>= λ ds. Ok (d ∷ ds)

-- the columns between commas, of which the first is the key
unfoldable pub columns : List (List ℕ) → Result (List ColumnDef) Code
columns [] = Err BadCopyFileFormat
columns (text ∷ texts) = key_column text >>= λ d. other_columns texts >>= λ ds. Ok (d ∷ ds)

-- the parts after a comma, where there is one
abbrev pub parts_of : Option (List ℕ) → List (List ℕ)
parts_of None = []
parts_of (Some text) = slice_split (λ b. b == comma) text

-- ---- the line

abbrev pub close : ℕ
close = 41

-- what stands in the parentheses, where nothing but a semicolon follows them
unfoldable pub in_parentheses : List ℕ → Result (List ℕ) Code
in_parentheses text = present (behind (codes "(") text) >>= λ inner. present (parted close inner) >>= λ parts.
    if bytes_eq parts.1 (codes ";") then Ok parts.0 else Err BadCopyFileFormat

-- a definition that is none is a line of wrong form
abbrev pub well_formed : Result TableDef Code → Result TableDef Code
well_formed (Ok d) = Ok d
well_formed (Err code) = Err BadCopyFileFormat

-- the table of what follows the words CREATE TABLE
unfoldable pub table_of : List ℕ → Result TableDef Code
table_of text = present (parted space text) >>= λ parts. name_of parts.0 >>= λ name. in_parentheses parts.1 >>= λ inner. columns (slice_split (λ b. b == comma) inner) >>= λ ds.
    well_formed (defined name ds)
