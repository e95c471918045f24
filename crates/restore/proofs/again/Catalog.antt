-- The tables of a catalog, defined and added again as they are written.
use Rattle.std.proofs.Common.{◌≡◌, ◌⊎◌, ℕ, zero, suc, ◌+◌, ◌<◌, nat_le, nat_lt, Bool, true, false, cond, inl, inr, Ok, not, ◌&&◌, ◌||◌, List, [], ◌∷◌, ◌++◌, length, map, Option, Some, None, is_some, slice_get, refl, sym, ap, ◌∙◌, arith}
use Rattle.std.specs.Prelude.{position, option_and_then}
use Rattle.std.specs.List.{list_any, list_all, prefix_len}
use Rattle.std.specs.Option.{option_map, option_map_or}
use Rattle.std.specs.Str.{bytes_eq}
use Rattle.std.proofs.lemmas.Bool.{and_parts, and_from, not-true}
use Rattle.std.proofs.lemmas.Bool.Decides.{nat_tests}
use Rattle.value.specs.declared.kind.Kind.{Kind}
use Rattle.value.proofs.Basics.{nat_lt-suc, nat_lt-zero, bytes_eq-self, None-from_some}
use Rattle.schema.specs.Definition.{ColumnDef, TableDef, Column, TableSchema, Catalog, table_named}
use Rattle.schema.specs.Names.{is_name}
use Rattle.schema.specs.Adding.{is_well_named, have_new_names, are_distinct, without_key_mark, is_well_made, defined, key_has_kind, finds_table, matches_key, resolved_column, resolved, adding_fault, added}
use Rattle.dumpplan.specs.Lines.{name_of_table, written_column, written}
use Rattle.schema.specs.WellFormed.{are_new, are_named, is_key_unmarked, references_key, is_table_after, are_tables_after}

-- ---- what is_table_after says, one by one

pub record IsTableAfter (before : Catalog) (d : TableSchema) : Type 0 where
  pub name : is_name d.name ≡ true
  pub new : table_named before d.name ≡ None
  pub some : nat_lt 0 (length d.columns) ≡ true
  pub few : nat_le (length d.columns) 32 ≡ true
  pub names : list_all (λ e. is_name e.name) d.columns ≡ true
  pub apart : are_new [] (map (λ e. e.name) d.columns) ≡ true
  pub unmarked : is_key_unmarked d.columns ≡ true
  pub references : list_all (references_key before) d.columns ≡ true

pub table_after : (before : Catalog) (d : TableSchema) → is_table_after before d ≡ true → IsTableAfter before d
table_after before d h =
    let named : Bool = is_name d.name in
    let new : Bool = not (is_some (table_named before d.name)) in
    let sized : Bool = nat_lt 0 (length d.columns) && nat_le (length d.columns) 32 in
    let columns : Bool = are_named d.columns in
    let unmarked : Bool = is_key_unmarked d.columns in
    let a = and_parts (named && new && sized && columns && unmarked) (list_all (references_key before) d.columns) h in
    let b = and_parts (named && new && sized && columns) unmarked a.0 in
    let c = and_parts (named && new && sized) columns b.0 in
    let e = and_parts (named && new) sized c.0 in
    let f = and_parts named new e.0 in
    let few = and_parts (nat_lt 0 (length d.columns)) (nat_le (length d.columns) 32) e.1 in
    let names = and_parts (list_all (λ x. is_name x.name) d.columns) (are_new [] (map (λ x. x.name) d.columns)) c.1 in
    record {
      name = f.0;
      new = None-from_some (table_named before d.name) (not-true (is_some (table_named before d.name)) f.1);
      some = few.0;
      few = few.1;
      names = names.0;
      apart = names.1;
      unmarked = b.1;
      references = a.1;
    }

-- ---- a table is found by its name

-- the places of the names are those of the tables
abbrev pub IsFound : Catalog → Type 0
IsFound c = (t : ℕ) (d : TableSchema) → slice_get c t ≡ Some d → table_named c d.name ≡ Some t

-- ---- places

-- the place in a list with one more at its front
position-cons : {X : Type 0} (p : X → Bool) (x : X) (xs : List X) → position p (x ∷ xs) ≡ cond (p x) (Some 0) (option_map suc (position p xs))
position-cons p x xs = by_test (p x)
  where
    later : (b : Bool) (n : ℕ) → cond b (Some (1 + n)) None ≡ option_map suc (cond b (Some n) None)
    later true n = let q : 1 + n ≡ suc n = omega arith in ap Some q
    later false n = refl

    by_test : (b : Bool) → cond (nat_lt (cond (not b) (1 + prefix_len (λ y. not (p y)) xs) 0) (suc (length xs))) (Some (cond (not b) (1 + prefix_len (λ y. not (p y)) xs) 0)) None ≡ cond b (Some 0) (option_map suc (position p xs))
    by_test true = rw (nat_lt-zero (length xs)) refl
    by_test false = rw (nat_lt-suc (prefix_len (λ y. not (p y)) xs) (length xs)) (later (nat_lt (prefix_len (λ y. not (p y)) xs) (length xs)) (prefix_len (λ y. not (p y)) xs))

-- a table that is found is found among more
named-front : (c more : Catalog) (name : List ℕ) (t : ℕ) → table_named c name ≡ Some t → table_named (c ++ more) name ≡ Some t
named-front [] more name t h = cc
named-front (d ∷ c) more name t h = position-cons (λ e. bytes_eq name e.name) d (c ++ more) ∙ by_test (bytes_eq name d.name) (sym (position-cons (λ e. bytes_eq name e.name) d c) ∙ h) (named-front c more name)
  where
    deeper : (o : Option ℕ) → table_named c name ≡ o → option_map suc o ≡ Some t → ((u : ℕ) → table_named c name ≡ Some u → table_named (c ++ more) name ≡ Some u) → option_map suc (table_named (c ++ more) name) ≡ Some t
    deeper None e q more_of = cc
    deeper (Some u) e q more_of = ap (option_map suc) (more_of u e) ∙ q

    by_test : (b : Bool) → cond b (Some 0) (option_map suc (table_named c name)) ≡ Some t → ((u : ℕ) → table_named c name ≡ Some u → table_named (c ++ more) name ≡ Some u)
        → cond b (Some 0) (option_map suc (table_named (c ++ more) name)) ≡ Some t
    by_test true q more_of = q
    by_test false q more_of = deeper (table_named c name) refl q more_of

-- a new table is found as the last
named-last : (c : Catalog) (d : TableSchema) → table_named c d.name ≡ None → table_named (c ++ d ∷ []) d.name ≡ Some (length c)
named-last [] d h = position-cons (λ e. bytes_eq d.name e.name) d [] ∙ ap (λ b. cond b (Some 0) None) (bytes_eq-self d.name)
named-last (e ∷ c) d h = position-cons (λ x. bytes_eq d.name x.name) e (c ++ d ∷ []) ∙ by_test (bytes_eq d.name e.name) (sym (position-cons (λ x. bytes_eq d.name x.name) e c) ∙ h) (named-last c d)
  where
    nothing : (o : Option ℕ) → option_map suc o ≡ None → o ≡ None
    nothing None q = refl
    nothing (Some u) q = cc

    by_test : (b : Bool) → cond b (Some 0) (option_map suc (table_named c d.name)) ≡ None → (table_named c d.name ≡ None → table_named (c ++ d ∷ []) d.name ≡ Some (length c))
        → cond b (Some 0) (option_map suc (table_named (c ++ d ∷ []) d.name)) ≡ Some (suc (length c))
    by_test true q last = cc
    by_test false q last = ap (option_map suc) (last (nothing (table_named c d.name) q))

-- a place in a list with one more at its end
at_end : (c : Catalog) (d : TableSchema) (t : ℕ) (x : TableSchema) → slice_get (c ++ d ∷ []) t ≡ Some x → (slice_get c t ≡ Some x) ⊎ ((t ≡ length c) × (d ≡ x))
at_end [] d zero x h = inr (refl, cc)
at_end [] d (suc t) x h = cc
at_end (e ∷ c) d zero x h = inl h
at_end (e ∷ c) d (suc t) x h = deeper (at_end c d t x h)
  where
    deeper : (slice_get c t ≡ Some x) ⊎ ((t ≡ length c) × (d ≡ x)) → (slice_get c t ≡ Some x) ⊎ ((suc t ≡ suc (length c)) × (d ≡ x))
    deeper (inl a) = inl a
    deeper (inr b) = inr (ap suc b.0, b.1)

pub IsFound-push : (c : Catalog) (d : TableSchema) → IsFound c → table_named c d.name ≡ None → IsFound (c ++ d ∷ [])
IsFound-push c d found new t x at = by_place (at_end c d t x at)
  where
    by_place : (slice_get c t ≡ Some x) ⊎ ((t ≡ length c) × (d ≡ x)) → table_named (c ++ d ∷ []) x.name ≡ Some t
    by_place (inl a) = named-front c (d ∷ []) x.name t (found t x a)
    by_place (inr b) = ap (λ (y : TableSchema). table_named (c ++ d ∷ []) y.name) (sym b.1) ∙ named-last c d new ∙ ap Some (sym b.0)

-- ---- each name is a name

abbrev pub IsNamed : Catalog → Type 0
IsNamed c = (t : ℕ) (d : TableSchema) → slice_get c t ≡ Some d → is_name d.name ≡ true

pub named_tables : (before c : Catalog) → are_tables_after before c ≡ true → IsNamed c
named_tables before [] h t d at = cc
named_tables before (e ∷ c) h zero d at =
    let first = table_after before e (and_parts (is_table_after before e) (are_tables_after (before ++ e ∷ []) c) h).0 in
    let same : e ≡ d = cc in
    ap (λ (x : TableSchema). is_name x.name) (sym same) ∙ first.name
named_tables before (e ∷ c) h (suc t) d at = named_tables (before ++ e ∷ []) c (and_parts (is_table_after before e) (are_tables_after (before ++ e ∷ []) c) h).1 t d at

name_named : (c : Catalog) → IsNamed c → (t : ℕ) → option_map_or is_name (name_of_table c t) true ≡ true
name_named c named t = by_table (slice_get c t) refl
  where
    by_table : (o : Option TableSchema) → slice_get c t ≡ o → option_map_or is_name (option_map (λ d. d.name) o) true ≡ true
    by_table None e = refl
    by_table (Some d) e = named t d e

reference_named : (c : Catalog) → IsNamed c → (o : Option ℕ) → option_map_or is_name (option_and_then (name_of_table c) o) true ≡ true
reference_named c named None = refl
reference_named c named (Some t) = name_named c named t

pub columns_named : (c : Catalog) → IsNamed c → (ds : List Column) → list_all (λ e. is_name e.name) ds ≡ true → list_all is_well_named (map (written_column c) ds) ≡ true
columns_named c named [] h = refl
columns_named c named (d ∷ ds) h =
    let p = and_parts (is_name d.name) (list_all (λ e. is_name e.name) ds) h in
    and_from (is_well_named (written_column c d)) (list_all is_well_named (map (written_column c) ds))
    (and_from (is_name d.name) (option_map_or is_name (option_and_then (name_of_table c) d.references) true) p.0 (reference_named c named d.references)) (columns_named c named ds p.1)

-- ---- a table is defined again as it is written

names_apart : (c : Catalog) (words : List (List ℕ)) (ds : List Column) → have_new_names words (map (written_column c) ds) ≡ are_new words (map (λ e. e.name) ds)
names_apart c words [] = refl
names_apart c words (d ∷ ds) = ap (λ b. not (list_any (bytes_eq d.name) words) && b) (names_apart c (words ++ d.name ∷ []) ds)

no_mark : (c : Catalog) (ds : List Column) → is_key_unmarked ds ≡ true → without_key_mark (map (written_column c) ds) ≡ map (written_column c) ds
no_mark c [] h = refl
no_mark c (d ∷ ds) h =
    ap (λ (b : Bool). record { name = d.name; kind = d.kind; not_null = b; references = option_and_then (name_of_table c) d.references } ∷ map (written_column c) ds) (sym (not-true d.not_null h))

some_columns : (c : Catalog) (ds : List Column) → nat_lt 0 (length ds) ≡ true → nat_lt 0 (length (map (written_column c) ds)) ≡ true
some_columns c [] h = h
some_columns c (d ∷ ds) h = nat_lt-zero (length (map (written_column c) ds))

defined_by : (name : List ℕ) (columns : List ColumnDef) → is_well_made name columns ≡ true → defined name columns ≡ Ok (record { name = name; columns = without_key_mark columns })
defined_by name columns made = rw made refl

pub defined_again : (c before : Catalog) (d : TableSchema) → IsNamed c → IsTableAfter before d → defined d.name (map (written_column c) d.columns) ≡ Ok (written c d)
defined_again c before d named after =
    let columns : List ColumnDef = map (written_column c) d.columns in
    let two : (is_name d.name && nat_lt 0 (length columns)) ≡ true = and_from (is_name d.name) (nat_lt 0 (length columns)) after.name (some_columns c d.columns after.some) in
    let three : (is_name d.name && nat_lt 0 (length columns) && list_all is_well_named columns) ≡ true =
    and_from (is_name d.name && nat_lt 0 (length columns)) (list_all is_well_named columns) two (columns_named c named d.columns after.names) in
    let made : is_well_made d.name columns ≡ true =
    and_from (is_name d.name && nat_lt 0 (length columns) && list_all is_well_named columns) (are_distinct columns) three (names_apart c [] d.columns ∙ after.apart) in
    defined_by d.name columns made ∙ ap (λ (ds : List ColumnDef). Ok (record { name = d.name; columns = ds })) (no_mark c d.columns after.unmarked)

-- ---- and is added again

-- a table of some is among more
get-front : (c more : Catalog) (t : ℕ) (x : TableSchema) → slice_get c t ≡ Some x → slice_get (c ++ more) t ≡ Some x
get-front [] more t x h = cc
get-front (d ∷ c) more zero x h = h
get-front (d ∷ c) more (suc t) x h = get-front c more t x h

-- where a key has a kind there is a table
pub key_there : (c : Catalog) (t : ℕ) (k : Kind) → key_has_kind c t k ≡ true → (x : TableSchema) × (slice_get c t ≡ Some x)
key_there [] t k h = absurd cc
key_there (d ∷ c) zero k h = (d, refl)
key_there (d ∷ c) (suc t) k h = key_there c t k h

-- what is written of a reference is found again
record IsReference (c before : Catalog) (k : Kind) (o : Option ℕ) : Type 0 where
  resolves : option_and_then (table_named before) (option_and_then (name_of_table c) o) ≡ o
  finds : option_map_or (λ name. is_some (table_named before name)) (option_and_then (name_of_table c) o) true ≡ true
  matches : option_map_or (λ name. option_map_or (λ t. key_has_kind before t k) (table_named before name) true) (option_and_then (name_of_table c) o) true ≡ true

reference_again : (before more : Catalog) → IsFound before → (k : Kind) (o : Option ℕ) → option_map_or (λ t. key_has_kind before t k) o true ≡ true → IsReference (before ++ more) before k o
reference_again before more found k None h = record { resolves = refl; finds = refl; matches = refl }
reference_again before more found k (Some t) h =
    let there = key_there before t k h in
    let name : name_of_table (before ++ more) t ≡ Some there.0.name = ap (option_map (λ (d : TableSchema). d.name)) (get-front before more t there.0 there.1) in
    let back : table_named before there.0.name ≡ Some t = found t there.0 there.1 in
    record { resolves = rw (name, back) refl; finds = rw (name, back) refl; matches = rw (name, back) h }

column_again : (before more : Catalog) → IsFound before → (d : Column) → references_key before d ≡ true → IsReference (before ++ more) before d.kind d.references
column_again before more found d h = reference_again before more found d.kind d.references h

module _ (before more : Catalog) (found : IsFound before) where
  all_found : (ds : List Column) → list_all (references_key before) ds ≡ true → list_all (finds_table before) (map (written_column (before ++ more)) ds) ≡ true
  all_found [] h = refl
  all_found (d ∷ ds) h =
      let p = and_parts (references_key before d) (list_all (references_key before) ds) h in
      let q = column_again before more found d p.0 in
      and_from (finds_table before (written_column (before ++ more) d)) (list_all (finds_table before) (map (written_column (before ++ more)) ds)) q.finds (all_found ds p.1)

  all_matched : (ds : List Column) → list_all (references_key before) ds ≡ true → list_all (matches_key before) (map (written_column (before ++ more)) ds) ≡ true
  all_matched [] h = refl
  all_matched (d ∷ ds) h =
      let p = and_parts (references_key before d) (list_all (references_key before) ds) h in
      let q = column_again before more found d p.0 in
      and_from (matches_key before (written_column (before ++ more) d)) (list_all (matches_key before) (map (written_column (before ++ more)) ds)) q.matches (all_matched ds p.1)

  all_resolved : (ds : List Column) → list_all (references_key before) ds ≡ true → map (resolved_column before) (map (written_column (before ++ more)) ds) ≡ ds
  all_resolved [] h = refl
  all_resolved (d ∷ ds) h =
      let p = and_parts (references_key before d) (list_all (references_key before) ds) h in
      let q = column_again before more found d p.0 in
      ap (λ (o : Option ℕ). record { name = d.name; kind = d.kind; not_null = d.not_null; references = o } ∷ map (resolved_column before) (map (written_column (before ++ more)) ds)) q.resolves
      ∙ ap (λ (es : List Column). d ∷ es) (all_resolved ds p.1)

within : (n m : ℕ) → n < 256 → nat_le m 32 ≡ true → (nat_le 256 n || nat_lt 32 m) ≡ false
within n m a b = grind (arith, nat_tests)

same_length : (c : Catalog) (ds : List Column) → length (map (written_column c) ds) ≡ length ds
same_length c [] = refl
same_length c (d ∷ ds) = ap suc (same_length c ds)

added_by : (c : Catalog) (d : TableDef) → adding_fault c d ≡ None → added c d ≡ Ok (c ++ resolved c d ∷ [])
added_by c d h = rw h refl

pub added_again : (before more : Catalog) (d : TableSchema) → IsFound before → IsTableAfter before d → length before < 256 → added before (written (before ++ more) d) ≡ Ok (before ++ d ∷ [])
added_again before more d found after room =
    let c : Catalog = before ++ more in
    let none : adding_fault before (written c d) ≡ None =
    rw (
      after.new,
      all_found before more found d.columns after.references,
      all_matched before more found d.columns after.references,
      within (length before) (length (map (written_column c) d.columns)) room (ap (λ n. nat_le n 32) (same_length c d.columns) ∙ after.few),
    ) refl in
    added_by before (written c d) none
    ∙ ap (λ (ds : List Column). Ok (before ++ record { name = d.name; columns = ds } ∷ [])) (all_resolved before more found d.columns after.references)
