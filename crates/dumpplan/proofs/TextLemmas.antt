-- The parts of a dump, written piece by piece.
use Rattle.std.proofs.Common.{◌≡◌, ℕ, ◌+◌, ◌<◌, List, [], ◌∷◌, ◌++◌, length, take, map, Some, sym, ap, ◌∙◌, append_assoc}
use Rattle.std.specs.List.{flat_map, join_with_byte, slice_get}
use Rattle.std.proofs.lemmas.List.{append-nil, take_more, map-append}
use Rattle.std.proofs.lemmas.List.Concat.{flat_map-append}
use Rattle.std.proofs.lemmas.List.Folds.{flat_map-map}
use Rattle.std.proofs.lemmas.Option.{get_or_from_slice_get}
use Rattle.schema.specs.Definition.{Column, TableSchema, Catalog}
use Rattle.schema.specs.declared.row.Row.{Row}
use Rattle.copytext.specs.Writing.{row_text}
use Rattle.dumpplan.specs.Lines.{written_column, key_text, column_text, column_texts, comma_separated, copy_line, row_line, end_of_rows, rows_line}
use Rattle.dumpplan.specs.Parts.{ended, table_text}

-- a table's columns: the key's, and the others, each after a comma and a space
pub columns_text : (c : Catalog) (d : Column) (ds : List Column) → comma_separated (column_texts (map (written_column c) (d ∷ ds))) ≡ key_text (written_column c d) ++ flat_map (λ e. 44 ∷ 32 ∷ column_text (written_column c e)) ds
columns_text c d ds = parted (key_text (written_column c d)) ds
  where
    parted : (x : List ℕ) (es : List Column) → comma_separated (x ∷ map column_text (map (written_column c) es)) ≡ x ++ flat_map (λ e. 44 ∷ 32 ∷ column_text (written_column c e)) es
    parted x [] = sym (append-nil x)
    parted x (e ∷ es) = ap (λ (rest : List ℕ). x ++ 44 ∷ rest) (more e es)
      where
        more : (y : Column) (ys : List Column) → join_with_byte 44 ((32 ∷ column_text (written_column c y)) ∷ map (λ t. 32 ∷ t) (map column_text (map (written_column c) ys))) ≡ 32 ∷ column_text (written_column c y) ++ flat_map (λ z. 44 ∷ 32 ∷ column_text (written_column c z)) ys
        more y [] = ap (λ (rest : List ℕ). 32 ∷ rest) (sym (append-nil (column_text (written_column c y))))
        more y (z ∷ zs) = ap (λ (rest : List ℕ). 32 ∷ column_text (written_column c y) ++ 44 ∷ rest) (more z zs)

-- ---- texts appended one after another

pub three_on : {X : Type 0} (old a b c : List X) → ((old ++ a) ++ b) ++ c ≡ old ++ (a ++ (b ++ c))
three_on old a b c = append_assoc (old ++ a) b c ∙ append_assoc old a (b ++ c)

pub four_on : {X : Type 0} (old a b c d : List X) → (((old ++ a) ++ b) ++ c) ++ d ≡ old ++ (a ++ (b ++ (c ++ d)))
four_on old a b c d = append_assoc ((old ++ a) ++ b) c d ∙ three_on old a b (c ++ d)

-- as a CREATE TABLE line is put together
pub five_on : {X : Type 0} (old a b c d e : List X) → ((((old ++ a) ++ b) ++ c) ++ d) ++ e ≡ old ++ ((((a ++ b) ++ c) ++ d) ++ e)
five_on old a b c d e =
    four_on (old ++ a) b c d e ∙ append_assoc old a (b ++ (c ++ (d ++ e))) ∙ ap (λ rest. old ++ rest) (sym (four_on a b c d e))

-- one more table
pub one_more_table : (c : Catalog) (f : TableSchema → List ℕ) (i : ℕ) (d : TableSchema) → i < length c → slice_get c i ≡ Some d → ended (map f (take (i + 1) c)) ≡ ended (map f (take i c)) ++ (f d ++ 10 ∷ [])
one_more_table c f i d lt at =
    ap (λ (ds : Catalog). ended (map f ds)) (take_more c i d lt ∙ ap (λ (x : TableSchema). take i c ++ x ∷ []) (get_or_from_slice_get c i d d at))
    ∙ ap ended (map-append f (take i c) (d ∷ []))
    ∙ flat_map-append (λ (line : List ℕ). line ++ 10 ∷ []) (map f (take i c)) (f d ∷ [])
    ∙ ap (λ (last : List ℕ). ended (map f (take i c)) ++ last) (append-nil (f d ++ 10 ∷ []))

module _ {A : Type 0} where
  rows_ended : (rows : List (Row A)) → ended (map row_line rows) ≡ flat_map (λ row. row_text (row.0 ∷ row.1)) rows
  rows_ended rows = flat_map-map (λ (line : List ℕ). line ++ 10 ∷ []) row_line rows

  -- a table's text: its COPY line, its rows, and what ends them
  pub table_split : (d : TableSchema) (rows : List (Row A)) → table_text d rows ≡ (copy_line d ++ 10 ∷ []) ++ (flat_map (λ row. row_text (row.0 ∷ row.1)) rows ++ ended (end_of_rows ∷ rows_line (length rows) ∷ []))
  table_split d rows =
      flat_map-append (λ (line : List ℕ). line ++ 10 ∷ []) (copy_line d ∷ map row_line rows) (end_of_rows ∷ rows_line (length rows) ∷ [])
      ∙ append_assoc (copy_line d ++ 10 ∷ []) (ended (map row_line rows)) (ended (end_of_rows ∷ rows_line (length rows) ∷ []))
      ∙ ap (λ (t : List ℕ). (copy_line d ++ 10 ∷ []) ++ (t ++ ended (end_of_rows ∷ rows_line (length rows) ∷ []))) (rows_ended rows)
