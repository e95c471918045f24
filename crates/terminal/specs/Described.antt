-- What a terminal shows of a table.
use Rattle.std.specs.Prelude.{ℕ, Bool, true, false, List, [], ◌∷◌, ◌++◌, Option, Some, None, codes, map, slice_get, option_and_then}
use Rattle.std.specs.Char.{to_ascii_lowercase}
use Rattle.std.specs.List.{flat_map}
use Rattle.schema.specs.Definition.{Catalog, Column, TableSchema, table_named}
use Rattle.dumpplan.specs.Lines.{kind_word, name_of_table}
use Rattle.terminal.specs.Tables as aligned
use Rattle.terminal.specs.Drawn.{rows_in}

-- what is shown where there is no such table
abbrev pub no_table_text : List ℕ
no_table_text = codes "no such table: \\d lists the tables\n"

-- whether a column may be null, in words
abbrev pub null_word : Bool → List ℕ
null_word true = codes "not null"
null_word false = []

abbrev pub or_nothing : Option (List ℕ) → List ℕ
or_nothing None = []
or_nothing (Some name) = name

-- the name of the table that a column references; an empty one where it references none
abbrev pub referenced : Catalog → Option ℕ → List ℕ
referenced c t = or_nothing (option_and_then (name_of_table c) t)

-- the line of a column: its name, its kind, whether it may be null, and the table that it references, parted by tabs
abbrev pub column_line : Catalog → List ℕ → Column → List ℕ
column_line c null d = d.name ++ codes "\t" ++ kind_word d.kind ++ codes "\t" ++ null ++ codes "\t" ++ referenced c d.references ++ codes "\n"

abbrev pub other_line : Catalog → Column → List ℕ
other_line c d = column_line c (null_word d.not_null) d

-- the lines of a table's columns, of which the first is the key
abbrev pub column_lines : Catalog → List Column → List ℕ
column_lines c [] = []
column_lines c (key ∷ others) = column_line c (codes "primary key") key ++ flat_map (other_line c) others

-- a table as an answer has it: its name, followed by a line for each column
abbrev pub columns_text : Catalog → TableSchema → List ℕ
columns_text c d = d.name ++ codes "\n" ++ column_lines c d.columns

abbrev pub drawn_columns : Catalog → TableSchema → List ℕ
drawn_columns c d = aligned.table_text (codes "column\tkind\tnull\treferences") (rows_in 0 (columns_text c d))

-- what is shown of a table, where there is one
abbrev pub described : Catalog → Option TableSchema → List ℕ
described c None = no_table_text
described c (Some d) = drawn_columns c d

abbrev pub table_at : Catalog → Option ℕ → Option TableSchema
table_at c None = None
table_at c (Some t) = slice_get c t

-- what is shown of the table of a name, in letters of any case
abbrev pub table_described : Catalog → List ℕ → List ℕ
table_described c name = described c (table_at c (table_named c (map to_ascii_lowercase name)))
