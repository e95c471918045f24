-- The parts of a dump: what stands before the tables, each table, and what stands after them.
use Rattle.std.specs.Prelude.{ℕ, true, List, [], ◌∷◌, ◌++◌, map}
use Rattle.std.specs.List.{flat_map}
use Rattle.schema.specs.Definition.{TableSchema, Catalog}
use Rattle.schema.specs.declared.row.Row.{Row}
use Rattle.dumpplan.specs.Lines.{written, create_line, first_line, table_lines, last_line}

-- lines, each ended by a newline
abbrev pub ended : List (List ℕ) → List ℕ
ended lines = flat_map (λ line. line ++ 10 ∷ []) lines

-- the first line and the CREATE TABLE lines
abbrev pub head_text : Catalog → List ℕ
head_text c = ended (first_line true ∷ map (λ d. create_line (written c d)) c)

-- a table: its COPY line, its rows, and what ends them
abbrev pub table_text : {A : Type 0} → TableSchema → List (Row A) → List ℕ
table_text d rows = ended (table_lines true d rows)

-- the last line
abbrev pub end_text : List ℕ
end_text = ended (last_line ∷ [])
