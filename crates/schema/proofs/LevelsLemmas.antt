-- A table's level rests on the levels of earlier tables alone.
use Rattle.std.proofs.Common.{◌≡◌, ℕ, zero, suc, ◌+◌, ◌≤◌, ◌<◌, true, true≢false, List, [], ◌∷◌, ◌++◌, length, map, take, Option, Some, None, get_or, refl, sym, ap, ◌∙◌, arith, ◌⊎◌, inl, inr, slice_get}
use Rattle.std.proofs.Math.ListN.{get_or-append}
use Rattle.std.proofs.lemmas.Bool.{and_parts}
use Rattle.std.proofs.lemmas.List.{map-append, length-append, length-take}
use Rattle.std.specs.Prelude.{max, fold}
use Rattle.std.specs.List.{list_all}
use Rattle.std.specs.Option.{option_map_or}
use Rattle.value.specs.declared.kind.Kind.{Kind}
use Rattle.value.proofs.Basics.{cases_le}
use Rattle.schema.specs.Adding.{key_has_kind}
use Rattle.schema.specs.Definition.{Column, TableSchema, Catalog, columns_of}
use Rattle.schema.specs.Levels.{level_above, level_over, AreLevels}
use Rattle.schema.specs.WellFormed.{references_key, is_table_after, are_tables_after, is_catalog}
use Rattle.schema.proofs.WellFormedLemmas.{take-next, table_at}

no_columns : (c : Catalog) (t : ℕ) → length c ≤ t → columns_of c t ≡ []
no_columns [] t h = refl
no_columns (d ∷ ds) zero h = absurd (omega arith)
no_columns (d ∷ ds) (suc t) h = no_columns ds t (omega arith)

-- a table whose key has a kind is there
has_table : (c : Catalog) (t : ℕ) (k : Kind) → key_has_kind c t k ≡ true → t < length c
has_table c t k e = go (cases_le (length c) t)
  where
    go : (length c ≤ t) ⊎ (t < length c) → t < length c
    go (inl past) = absurd (true≢false (sym (rw (no_columns c t past) at e)))
    go (inr here) = here

-- the level above what a column references is that of the levels before, whatever follows them
above_same : (before : Catalog) (levels more : List ℕ) (column : Column) → references_key before column ≡ true → length before ≤ length levels → level_above (levels ++ more) column ≡ level_above levels column
above_same before levels more column e few = go column.references e
  where
    go : (o : Option ℕ) → option_map_or (λ t. key_has_kind before t column.kind) o true ≡ true → option_map_or (λ t. get_or (levels ++ more) t 0 + 1) o 0 ≡ option_map_or (λ t. get_or levels t 0 + 1) o 0
    go None h = refl
    go (Some t) h =
        let here : t < length before = has_table before t column.kind h in
        ap (λ n. n + 1) (get_or-append levels more 0 t (omega arith))

over_same : (before : Catalog) (levels more : List ℕ) (n : ℕ) (columns : List Column) → list_all (references_key before) columns ≡ true → length before ≤ length levels
    → fold (λ n column. max n (level_above (levels ++ more) column)) n columns ≡ fold (λ n column. max n (level_above levels column)) n columns
over_same before levels more n [] all few = refl
over_same before levels more n (column ∷ columns) all few =
    let p = and_parts (references_key before column) (list_all (references_key before) columns) all in
    ap (λ m. fold (λ n column. max n (level_above (levels ++ more) column)) (max n m) columns) (above_same before levels more column p.0 few)
    ∙ over_same before levels more (max n (level_above levels column)) columns p.1 few

references_before : (before : Catalog) (d : TableSchema) → is_table_after before d ≡ true → list_all (references_key before) d.columns ≡ true
references_before before d e = (and_parts _ (list_all (references_key before) d.columns) e).1

-- the levels of the tables before a place, by longer levels
levels_same : (before c : Catalog) (i : ℕ) (levels more : List ℕ) → are_tables_after before c ≡ true → length before + i ≤ length levels + 1
    → map (λ d. level_over (levels ++ more) d.columns) (take i c) ≡ map (λ d. level_over levels d.columns) (take i c)
levels_same before c zero levels more all few = refl
levels_same before [] (suc i) levels more all few = refl
levels_same before (d ∷ ds) (suc i) levels more all few =
    let p = and_parts (is_table_after before d) (are_tables_after (before ++ d ∷ []) ds) all in
    let longer : length (before ++ d ∷ []) ≡ length before + 1 = length-append before (d ∷ []) in
    (λ j. over_same before levels more 0 d.columns (references_before before d p.0) (omega arith) j ∷ levels_same (before ++ d ∷ []) ds i levels more p.1 (omega arith) j)

-- one table more
pub levels-next : (c : Catalog) (i : ℕ) (d : TableSchema) (levels : List ℕ) (level : ℕ) → is_catalog c ≡ true → slice_get c i ≡ Some d → length levels ≡ i → AreLevels (take i c) levels → level ≡ level_over levels d.columns
    → AreLevels (take (i + 1) c) (levels ++ level ∷ [])
levels-next c i d levels level well is count before e =
    let more = level ∷ [] in
    let all : are_tables_after [] c ≡ true = (and_parts _ (are_tables_after [] c) well).1 in
    let last : is_table_after (take i c) d ≡ true = table_at c i d well is in
    let short : length (take i c) ≤ length levels = omega (arith, length-take i c, count) in
    let earlier = levels_same [] c i levels more all (omega (arith, count)) in
    let own = over_same (take i c) levels more 0 d.columns (references_before (take i c) d last) short in
    (λ j. before j ++ e j ∷ [])
    ∙ (λ j. sym earlier j ++ sym own j ∷ [])
    ∙ sym (map-append (λ d. level_over (levels ++ more) d.columns) (take i c) (d ∷ []))
    ∙ ap (map (λ d. level_over (levels ++ more) d.columns)) (take-next c i d is)

-- none is above a number, and so none of one more is above the next
pub low-next : (levels : List ℕ) (level n : ℕ) → ((k : ℕ) → get_or levels k 0 ≤ n) → level ≤ n + 1 → (k : ℕ) → get_or (levels ++ level ∷ []) k 0 ≤ n + 1
low-next [] level n low last zero = last
low-next [] level n low last (suc k) = omega arith
low-next (x ∷ xs) level n low last zero = let first : x ≤ n = low zero in omega arith
low-next (x ∷ xs) level n low last (suc k) = low-next xs level n (λ j. low (suc j)) last k
