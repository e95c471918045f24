-- Which definitions are well made, and what follows where nothing stands against adding a table.
use Rattle.std.proofs.Common.{◌≡◌, ℕ, ◌+◌, ◌<◌, ◌≤◌, nat_le, nat_lt, Bool, true, false, true≢false, inl, inr, Ok, Err, not, ◌&&◌, ◌||◌, List, [], ◌∷◌, ◌++◌, length, map, get_or, drop, Some, None, is_some, if◌then◌else◌, Bor, Ordering, refl, sym, ap, ◌∙◌, arith}
use Rattle.std.proofs.lemmas.Bool.Decides.{nat_tests}
use Rattle.std.proofs.lemmas.List.{at_drop_more}
use Rattle.std.specs.List.{list_any, list_all}
use Rattle.std.specs.Str.{bytes_eq}
use Rattle.std.specs.Ordering.{is_eq, match_ordering, nat_cmp}
use Rattle.std.specs.declared.cmp.Ordering.TheVariants.{Less, Equal, Greater}
use Rattle.std.specs.Cmp.Lexicographic.{slice_cmp}
use Rattle.std.specs.BTreeSet.{insert_key}
use Rattle.std.proofs.lemmas.Map.Text.{is_eq-slice_cmp}
use Rattle.value.specs.declared.refusal.Code.{Code}
use Rattle.schema.specs.Definition.{ColumnDef, TableDef, Catalog, table_named}
use Rattle.value.specs.declared.refusal.Code.TheVariants.{SyntaxError}
use Rattle.value.specs.Refusals.{AnswersOrNoMemory, pointing_nowhere}
use Rattle.schema.specs.Names.{is_name}
use Rattle.schema.specs.Adding.{is_well_made, without_key_mark, defined, have_new_names, finds_table, matches_key, is_over_limit, adding_fault}

both : {X Y Z : Type 0} (f : X → Y → Z) {x x' : X} {y y' : Y} → x ≡ x' → y ≡ y' → f x y ≡ f x' y'
both f {x} {x'} {y} {y'} e h = ap (λ a. f a y) e ∙ ap (f x') h

-- names in the order of their bytes, as the set of a function keeps them
abbrev pub by_bytes : Bor (List ℕ) → Bor (List ℕ) → Ordering
by_bytes x y = slice_cmp nat_cmp x.now y.now

abbrev pub names_of : List (Bor (List ℕ)) → List (List ℕ)
names_of texts = map (λ text. text.now) texts

-- two lists with the same names
abbrev pub HaveSame : List (List ℕ) → List (List ℕ) → Type 0
HaveSame names others = (q : List ℕ) → list_any (bytes_eq q) names ≡ list_any (bytes_eq q) others

texts_any : (name : Bor (List ℕ)) (texts : List (Bor (List ℕ))) → list_any (λ text. is_eq (by_bytes name text)) texts ≡ list_any (bytes_eq name.now) (names_of texts)
texts_any name [] = refl
texts_any name (text ∷ texts) = both (λ a b. a || b) (is_eq-slice_cmp name.now text.now) (texts_any name texts)

any_behind : (q : List ℕ) (names : List (List ℕ)) (name : List ℕ) → list_any (bytes_eq q) (names ++ name ∷ []) ≡ (bytes_eq q name || list_any (bytes_eq q) names)
any_behind q [] name = refl
any_behind q (n ∷ names) name = ap (λ b. bytes_eq q n || b) (any_behind q names name) ∙ or_swap (bytes_eq q n) (bytes_eq q name) (list_any (bytes_eq q) names)
  where
    or_swap : (a b c : Bool) → (a || (b || c)) ≡ (b || (a || c))
    or_swap true true c = refl
    or_swap true false c = refl
    or_swap false b c = refl

-- a name that is put at its place in the order is there, beside those that were
any_put : (q : List ℕ) (texts : List (Bor (List ℕ))) (name : Bor (List ℕ)) → list_any (bytes_eq name.now) (names_of texts) ≡ false
    → list_any (bytes_eq q) (names_of (insert_key by_bytes texts name)) ≡ (bytes_eq q name.now || list_any (bytes_eq q) (names_of texts))
any_put q [] name absent = refl
any_put q (text ∷ texts) name absent = at (by_bytes name text) (is_eq-slice_cmp name.now text.now) (any_put q texts name)
  where
    swapped : (a b c d : Bool) → d ≡ (b || c) → (a || d) ≡ (b || (a || c))
    swapped true true c d e = refl
    swapped true false c d e = refl
    swapped false b c d e = e

    behind : (a b : Bool) → (a || b) ≡ false → b ≡ false
    behind false b e = e
    behind true b e = cc

    front : (a b : Bool) → (a || b) ≡ false → a ≡ false
    front false b e = refl
    front true b e = cc

    at : (o : Ordering) → is_eq o ≡ bytes_eq name.now text.now → (list_any (bytes_eq name.now) (names_of texts) ≡ false → list_any (bytes_eq q) (names_of (insert_key by_bytes texts name)) ≡ (bytes_eq q name.now || list_any (bytes_eq q) (names_of texts)))
        → list_any (bytes_eq q) (names_of (match_ordering o (name ∷ text ∷ texts) (text ∷ texts) (text ∷ insert_key by_bytes texts name))) ≡ (bytes_eq q name.now || (bytes_eq q text.now || list_any (bytes_eq q) (names_of texts)))
    at Less e rest = refl
    at Equal e rest = absurd (true≢false (e ∙ front (bytes_eq name.now text.now) (list_any (bytes_eq name.now) (names_of texts)) absent))
    at Greater e rest = swapped (bytes_eq q text.now) (bytes_eq q name.now) (list_any (bytes_eq q) (names_of texts)) _ (rest (behind (bytes_eq name.now text.now) (list_any (bytes_eq name.now) (names_of texts)) absent))

-- whether columns have new names rests on which names are there, not on their order
same_names : (names others : List (List ℕ)) (columns : List ColumnDef) → HaveSame names others → have_new_names names columns ≡ have_new_names others columns
same_names names others [] same = refl
same_names names others (d ∷ ds) same =
    both (λ a b. not a && b) (same d.name)
    (same_names (names ++ d.name ∷ []) (others ++ d.name ∷ []) ds (λ q. any_behind q names d.name ∙ ap (λ b. bytes_eq q d.name || b) (same q) ∙ sym (any_behind q others d.name)))

-- the names of the columns before one, and the columns from it on
names_from : (names : List (List ℕ)) (columns : List ColumnDef) (i : ℕ) (d : ColumnDef) → i < length columns → d ≡ get_or columns i d
    → have_new_names names (drop i columns) ≡ (not (list_any (bytes_eq d.name) names) && have_new_names (names ++ d.name ∷ []) (drop (i + 1) columns))
names_from names columns i d within is =
    at_drop_more (have_new_names names) columns i d within
    ∙ ap (λ e. not (list_any (bytes_eq e.name) names) && have_new_names (names ++ e.name ∷ []) (drop (i + 1) columns)) (sym is)

module _ (texts : List (Bor (List ℕ))) (name : Bor (List ℕ)) (columns : List ColumnDef) (i : ℕ) (d : ColumnDef) (within : i < length columns) (is : d ≡ get_or columns i d) (same : name.now ≡ d.name) where
  -- a column with a name that was there ends the search
  pub not_distinct : list_any (λ text. is_eq (by_bytes name text)) texts ≡ true → have_new_names (names_of texts) (drop i columns) ≡ false
  not_distinct there =
      names_from (names_of texts) columns i d within is
      ∙ ap (λ n. not (list_any (bytes_eq n) (names_of texts)) && have_new_names (names_of texts ++ d.name ∷ []) (drop (i + 1) columns)) (sym same)
      ∙ ap (λ b. not b && have_new_names (names_of texts ++ d.name ∷ []) (drop (i + 1) columns)) (sym (texts_any name texts) ∙ there)

  -- one with a new name leaves it open, with a name more
  pub distinct_so_far : (more : List (Bor (List ℕ))) → list_any (λ text. is_eq (by_bytes name text)) texts ≡ false → more ≡ insert_key by_bytes texts name
      → have_new_names (names_of more) (drop (i + 1) columns) ≡ have_new_names (names_of texts) (drop i columns)
  distinct_so_far more absent made =
      let new : list_any (bytes_eq name.now) (names_of texts) ≡ false = sym (texts_any name texts) ∙ absent in
      let of_column : list_any (bytes_eq d.name) (names_of texts) ≡ false = ap (λ n. list_any (bytes_eq n) (names_of texts)) (sym same) ∙ new in
      let put : HaveSame (names_of more) (names_of texts ++ d.name ∷ []) = λ q. ap (λ ks. list_any (bytes_eq q) (names_of ks)) made ∙ any_put q texts name new ∙ ap (λ n. bytes_eq q n || list_any (bytes_eq q) (names_of texts)) same ∙ sym (any_behind q (names_of texts) d.name) in
      same_names (names_of more) (names_of texts ++ d.name ∷ []) (drop (i + 1) columns) put
      ∙ sym (names_from (names_of texts) columns i d within is ∙ ap (λ b. not b && have_new_names (names_of texts ++ d.name ∷ []) (drop (i + 1) columns)) of_column)

-- no fault: none of the four
pub no_fault : (a b c d : Bool) (w x y z : Code) → (if a then Some w else (if not b then Some x else (if not c then Some y else (if d then Some z else None)))) ≡ None → (a ≡ false) × (c ≡ true) × (d ≡ false)
no_fault true b c d w x y z e = cc
no_fault false false c d w x y z e = cc
no_fault false true false d w x y z e = cc
no_fault false true true true w x y z e = cc
no_fault false true true false w x y z e = (refl, refl, refl)

within_limits : (n : ℕ) (m : ℕ) → (nat_le 256 n || nat_lt 32 m) ≡ false → (n < 256) × (m ≤ 32)
within_limits n m e = grind (arith, nat_tests)

-- where nothing stands against it, there is room
pub room : (c : Catalog) (d : TableDef) → adding_fault c d ≡ None → length c < 256
room c d none = (within_limits (length c) (length d.columns) (no_fault (is_some (table_named c d.name)) (list_all (finds_table c) d.columns) (list_all (matches_key c) d.columns) (is_over_limit c d) _ _ _ _ none).2).0

-- and it has few enough columns
pub few_columns : (c : Catalog) (d : TableDef) → adding_fault c d ≡ None → length d.columns ≤ 32
few_columns c d none = (within_limits (length c) (length d.columns) (no_fault (is_some (table_named c d.name)) (list_all (finds_table c) d.columns) (list_all (matches_key c) d.columns) (is_over_limit c d) _ _ _ _ none).2).1

-- what an insertion into a set told of the name
pub was_there : (added there : Bool) → added ≡ not there → added ≡ false → there ≡ true
was_there true there e h = cc
was_there false true e h = refl
was_there false false e h = cc

pub was_new : (added there : Bool) → added ≡ not there → added ≡ true → there ≡ false
was_new true true e h = cc
was_new true false e h = refl
was_new false there e h = cc

-- a test that was answered
pub answered : (b well : Bool) → AnswersOrNoMemory (Ok b) (Ok well) → b ≡ true → well ≡ true
answered b well (inl e) h = cc
answered b well (inr e) h = cc

-- a table that is well made has a column
pub has_column : (name : List ℕ) (columns : List ColumnDef) → is_well_made name columns ≡ true → 0 < length columns
has_column name [] made = absurd (true≢false (sym made ∙ none (is_name name)))
  where
    none : (b : Bool) → (b && nat_lt 0 0 && true && true) ≡ false
    none true = refl
    none false = refl
has_column name (d ∷ columns) made = omega arith

-- and is the table that is defined
pub defined_so : (name : List ℕ) (columns : List ColumnDef) → is_well_made name columns ≡ true → pointing_nowhere (defined name columns) ≡ Ok (record { name = name; columns = without_key_mark columns })
defined_so name columns made = ap (λ b. pointing_nowhere (if b then Ok (record { name = name; columns = without_key_mark columns }) else Err SyntaxError)) made
