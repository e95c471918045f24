-- Catalogs are well formed: a table that is added may stand after those before it.
use Rattle.std.proofs.Common.{◌≡◌, ℕ, zero, suc, ◌+◌, ◌≤◌, nat_le, nat_lt, Bool, true, false, true≢false, not, ◌&&◌, ◌||◌, List, [], ◌∷◌, ◌++◌, length, map, take, Option, Some, None, is_some, option_and_then, slice_get, refl, sym, ap, ◌∙◌, arith, append_assoc, append-nil, add-one}
use Rattle.std.proofs.lemmas.Bool.{and_parts}
use Rattle.std.proofs.lemmas.Bool.Decides.{nat_tests}
use Rattle.std.proofs.lemmas.List.{length-map}
use Rattle.std.specs.List.{list_any, list_all}
use Rattle.std.specs.Option.{option_map_or}
use Rattle.std.specs.Str.{bytes_eq}
use Rattle.schema.specs.Adding.{is_well_named, have_new_names, is_well_made, without_key_mark, key_has_kind, finds_table, matches_key, resolved_column, resolved, is_over_limit, adding_fault}
use Rattle.schema.specs.Definition.{ColumnDef, TableDef, TableSchema, Catalog, table_named}
use Rattle.schema.specs.Names.{is_name}
use Rattle.schema.specs.WellFormed.{are_new, are_named, is_key_unmarked, references_key, is_table_after, are_tables_after, is_catalog}
use Rattle.schema.proofs.AddingLemmas.{no_fault}

all_seven : (a b c d e f g : Bool) → a ≡ true → b ≡ false → c ≡ true → d ≡ true → e ≡ true → f ≡ true → g ≡ true → (a && not b && (c && d) && e && f && g) ≡ true
all_seven a b c d e f g p q r s t u v = rw (p, q, r, s, t, u, v) refl

-- ---- what a definition keeps

pub unmarked_twice : (columns : List ColumnDef) → without_key_mark (without_key_mark columns) ≡ without_key_mark columns
unmarked_twice [] = refl
unmarked_twice (d ∷ ds) = refl

pub made_unmarked : (name : List ℕ) (columns : List ColumnDef) → is_well_made name columns ≡ true → is_well_made name (without_key_mark columns) ≡ true
made_unmarked name [] made = made
made_unmarked name (d ∷ ds) made = made

-- ---- a table that is added

are_names : (columns : List ColumnDef) (c : Catalog) → list_all is_well_named columns ≡ true → list_all (λ d. is_name d.name) (map (resolved_column c) columns) ≡ true
are_names [] c all = refl
are_names (d ∷ ds) c all =
    let p = and_parts (is_well_named d) (list_all is_well_named ds) all in
    rw ((and_parts (is_name d.name) (option_map_or is_name d.references true) p.0).0) (are_names ds c p.1)

same_words : (c : Catalog) (words : List (List ℕ)) (columns : List ColumnDef) → are_new words (map (λ d. d.name) (map (resolved_column c) columns)) ≡ have_new_names words columns
same_words c words [] = refl
same_words c words (d ∷ ds) = ap (λ b. not (list_any (bytes_eq d.name) words) && b) (same_words c (words ++ d.name ∷ []) ds)

unmarked : (c : Catalog) (columns : List ColumnDef) → without_key_mark columns ≡ columns → is_key_unmarked (map (resolved_column c) columns) ≡ true
unmarked c [] same = refl
unmarked c (d ∷ ds) same = let bare : d ≡ record d { not_null = false } = cc in ap (λ x. not x.not_null) bare

references_one : (c : Catalog) (d : ColumnDef) → references_key c (resolved_column c d) ≡ matches_key c d
references_one c d = by_name d.references
  where
    by_name : (o : Option (List ℕ)) → option_map_or (λ t. key_has_kind c t d.kind) (option_and_then (table_named c) o) true ≡ option_map_or (λ name. option_map_or (λ t. key_has_kind c t d.kind) (table_named c name) true) o true
    by_name None = refl
    by_name (Some name) = refl

references_all : (c : Catalog) (columns : List ColumnDef) → list_all (references_key c) (map (resolved_column c) columns) ≡ list_all (matches_key c) columns
references_all c [] = refl
references_all c (d ∷ ds) = (λ i. references_one c d i && references_all c ds i)

few_columns : (n m : ℕ) → (nat_le 256 n || nat_lt 32 m) ≡ false → nat_le m 32 ≡ true
few_columns n m e = grind (arith, nat_tests)

-- a table against which nothing stands may stand after those of the catalog
pub resolved_table : (c : Catalog) (d : TableDef) → adding_fault c d ≡ None → is_well_made d.name d.columns ≡ true → without_key_mark d.columns ≡ d.columns → is_table_after c (resolved c d) ≡ true
resolved_table c d none made same =
    let n = no_fault (is_some (table_named c d.name)) (list_all (finds_table c) d.columns) (list_all (matches_key c) d.columns) (is_over_limit c d) _ _ _ _ none in
    let p = and_parts (is_name d.name && nat_lt 0 (length d.columns) && list_all is_well_named d.columns) (have_new_names [] d.columns) made in
    let q = and_parts (is_name d.name && nat_lt 0 (length d.columns)) (list_all is_well_named d.columns) p.0 in
    let r = and_parts (is_name d.name) (nat_lt 0 (length d.columns)) q.0 in
    let count = length-map d.columns (resolved_column c) in
    all_seven (is_name d.name) (is_some (table_named c d.name)) _ _ _ _ _ r.0 n.0
    (ap (nat_lt 0) count ∙ r.1)
    (ap (λ m. nat_le m 32) count ∙ few_columns (length c) (length d.columns) n.2)
    (rw (are_names d.columns c q.1) (same_words c [] d.columns ∙ p.1))
    (unmarked c d.columns same)
    (references_all c d.columns ∙ n.1)

-- ---- tables one after another

and_assoc : (a b c : Bool) → (a && (b && c)) ≡ (a && b && c)
and_assoc true b c = refl
and_assoc false b c = refl

tables-append : (before ds : Catalog) (d : TableSchema) → are_tables_after before (ds ++ d ∷ []) ≡ (are_tables_after before ds && is_table_after (before ++ ds) d)
tables-append before [] d = by_test (is_table_after before d) ∙ ap (λ c. is_table_after c d) (sym (append-nil before))
  where
    by_test : (b : Bool) → (b && true) ≡ b
    by_test true = refl
    by_test false = refl
tables-append before (e ∷ ds) d =
    ap (λ b. is_table_after before e && b) (tables-append (before ++ e ∷ []) ds d)
    ∙ ap (λ c. is_table_after before e && (are_tables_after (before ++ e ∷ []) ds && is_table_after c d)) (append_assoc before (e ∷ []) ds)
    ∙ and_assoc (is_table_after before e) (are_tables_after (before ++ e ∷ []) ds) (is_table_after (before ++ e ∷ ds) d)

-- with one more that may stand last, all still may
pub tables-push : (c : Catalog) (d : TableSchema) → are_tables_after [] c ≡ true → is_table_after c d ≡ true → are_tables_after [] (c ++ d ∷ []) ≡ true
tables-push c d all last = tables-append [] c d ∙ rw (all, last) refl

table_from : (before c : Catalog) (i : ℕ) (d : TableSchema) → are_tables_after before c ≡ true → slice_get c i ≡ Some d → is_table_after (before ++ take i c) d ≡ true
table_from before [] i d all is = cc
table_from before (e ∷ c) zero d all is =
    let same : e ≡ d = cc in
    ap (λ b. is_table_after b d) (append-nil before) ∙ ap (is_table_after before) (sym same) ∙ (and_parts (is_table_after before e) (are_tables_after (before ++ e ∷ []) c) all).0
table_from before (e ∷ c) (suc i) d all is =
    ap (λ b. is_table_after b d) (sym (append_assoc before (e ∷ []) (take i c))) ∙ table_from (before ++ e ∷ []) c i d (and_parts (is_table_after before e) (are_tables_after (before ++ e ∷ []) c) all).1 is

catalog_of : (n : ℕ) (b : Bool) → n ≤ 256 → b ≡ true → (nat_le n 256 && b) ≡ true
catalog_of n b few all = rw all (grind (arith, nat_tests))

pub catalog_from : (c : Catalog) → length c ≤ 256 → are_tables_after [] c ≡ true → is_catalog c ≡ true
catalog_from c few all = catalog_of (length c) (are_tables_after [] c) few all

-- each table of a catalog may stand after those before it
pub table_at : (c : Catalog) (i : ℕ) (d : TableSchema) → is_catalog c ≡ true → slice_get c i ≡ Some d → is_table_after (take i c) d ≡ true
table_at c i d well is = table_from [] c i d (and_parts (nat_le (length c) 256) (are_tables_after [] c) well).1 is

second_of : (a b c d e f : Bool) → (a && not b && c && d && e && f) ≡ true → b ≡ false
second_of true true c d e f h = absurd (true≢false (sym h))
second_of true false c d e f h = refl
second_of false b c d e f h = absurd (true≢false (sym h))

-- and its name is new
pub name_is_new : (before : Catalog) (d : TableSchema) → is_table_after before d ≡ true → is_some (table_named before d.name) ≡ false
name_is_new before d well = second_of (is_name d.name) (is_some (table_named before d.name)) (nat_lt 0 (length d.columns) && nat_le (length d.columns) 32) (are_named d.columns) (is_key_unmarked d.columns) (list_all (references_key before) d.columns) well

one_further : (c : Catalog) (i : ℕ) (d : TableSchema) → slice_get c i ≡ Some d → take i c ++ d ∷ [] ≡ take (suc i) c
one_further [] i d is = cc
one_further (e ∷ c) zero d is = let same : e ≡ d = cc in ap (λ x. x ∷ []) (sym same)
one_further (e ∷ c) (suc i) d is = ap (λ rest. e ∷ rest) (one_further c i d is)

-- the tables before one, and it
pub take-next : (c : Catalog) (i : ℕ) (d : TableSchema) → slice_get c i ≡ Some d → take i c ++ d ∷ [] ≡ take (i + 1) c
take-next c i d is = one_further c i d is ∙ ap (λ n. take n c) (sym (add-one i))
