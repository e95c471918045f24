-- Tables beside their names: a look-up by name is a search through the tables.
use Rattle.std.proofs.Common.{◌≡◌, ℕ, zero, suc, ◌+◌, ◌<◌, Bool, true, false, nat_lt, cond, not, ◌||◌, List, [], ◌∷◌, ◌++◌, map, take, add-one, length, Some, None, is_some, slice_get, refl, sym, ap, subst, ◌∙◌, arith}
use Rattle.std.specs.List.{position, prefix_len, list_any}
use Rattle.std.proofs.lemmas.List.{length-map, map-append}
use Rattle.std.proofs.lemmas.Map.Made.{is_some-lookup}
use Rattle.std.specs.Map.{lookup, keys_of, values_of}
use Rattle.std.proofs.lemmas.Slice.Eq.{bytes_eq-Decides}
use Rattle.std.proofs.lemmas.Str.{IsUtf8-string_bytes}
use Rattle.std.specs.Str.{bytes_eq, IsUtf8}
use Rattle.std.specs.String.{string_bytes}
use Rattle.std.specs.declared.string.String.{String}
use Rattle.value.proofs.Basics.{None-from_some, nat_lt-suc, nat_lt-zero}
use Rattle.schema.specs.Definition.{TableSchema, Catalog, columns_of, table_named}
use Rattle.schema.specs.Named.{IsByName}

prefix_len-map : {X Y : Type 0} (f : X → Y) (p : Y → Bool) (xs : List X) → prefix_len p (map f xs) ≡ prefix_len (λ x. p (f x)) xs
prefix_len-map f p [] = refl
prefix_len-map f p (x ∷ xs) = ap (λ n. cond (p (f x)) (1 + n) 0) (prefix_len-map f p xs)

-- a place in a list that is mapped is the place in the list
pub position-map : {X Y : Type 0} (f : X → Y) (p : Y → Bool) (xs : List X) → position p (map f xs) ≡ position (λ x. p (f x)) xs
position-map f p xs = rw (prefix_len-map f (λ y. not (p y)) xs, length-map) refl

-- the columns of a table that is there
pub columns_of-get : (c : Catalog) (t : ℕ) (d : TableSchema) → slice_get c t ≡ Some d → columns_of c t ≡ d.columns
columns_of-get [] t d is = cc
columns_of-get (e ∷ c) zero d is = let same : e ≡ d = cc in ap (λ x. x.columns) same
columns_of-get (e ∷ c) (suc t) d is = columns_of-get c t d is

module _ {A : Type 0} where
  -- the place of a name among the keys is its place among the tables
  pub position-named : (name : List ℕ) (entries : List (String A × TableSchema)) → IsByName entries → position (λ k. bytes_eq name (string_bytes k)) (keys_of entries) ≡ table_named (values_of entries) name
  position-named name entries by_name =
      sym (position-map (λ k. string_bytes k) (bytes_eq name) (keys_of entries))
      ∙ ap (position (bytes_eq name)) by_name
      ∙ position-map (λ d. d.name) (bytes_eq name) (values_of entries)

is_some-cond : {X : Type 0} (b : Bool) (x : X) → is_some (cond b (Some x) None) ≡ b
is_some-cond true x = refl
is_some-cond false x = refl

-- a place is found where an element passes
is_some-position : {X : Type 0} (p : X → Bool) (xs : List X) → is_some (position p xs) ≡ list_any p xs
is_some-position p [] = refl
is_some-position p (x ∷ xs) = is_some-cond _ (prefix_len (λ y. not (p y)) (x ∷ xs)) ∙ by_test (p x) (sym (is_some-cond _ (prefix_len (λ y. not (p y)) xs)) ∙ is_some-position p xs)
  where
    by_test : (b : Bool) → nat_lt (prefix_len (λ y. not (p y)) xs) (length xs) ≡ list_any p xs → nat_lt (cond (not b) (1 + prefix_len (λ y. not (p y)) xs) 0) (suc (length xs)) ≡ (b || list_any p xs)
    by_test true rest = nat_lt-zero (length xs)
    by_test false rest = nat_lt-suc (prefix_len (λ y. not (p y)) xs) (length xs) ∙ rest

module _ {A : Type 0} where
  -- a name that no table has isn't found
  pub lookup-absent : (name : List ℕ) (entries : List (String A × TableSchema)) → IsByName entries → is_some (table_named (values_of entries) name) ≡ false → lookup (λ k. bytes_eq name (string_bytes k)) entries ≡ None
  lookup-absent name entries by_name absent =
      None-from_some _ (is_some-lookup (λ k. bytes_eq name (string_bytes k)) entries ∙ sym (is_some-position (λ k. bytes_eq name (string_bytes k)) (keys_of entries)) ∙ ap is_some (position-named name entries by_name) ∙ absent)

  -- a table that is put last
  pub values_of-push : (entries : List (String A × TableSchema)) (e : String A × TableSchema) → values_of (entries ++ e ∷ []) ≡ values_of entries ++ e.1 ∷ []
  values_of-push [] e = refl
  values_of-push (x ∷ entries) e = ap (λ rest. x.1 ∷ rest) (values_of-push entries e)

  keys_of-push : (entries : List (String A × TableSchema)) (e : String A × TableSchema) → keys_of (entries ++ e ∷ []) ≡ keys_of entries ++ e.0 ∷ []
  keys_of-push [] e = refl
  keys_of-push (x ∷ entries) e = ap (λ rest. x.0 ∷ rest) (keys_of-push entries e)

  pub IsByName-push : (entries : List (String A × TableSchema)) (name : String A) (table : TableSchema) → IsByName entries → string_bytes name ≡ table.name → IsByName (entries ++ (name, table) ∷ [])
  IsByName-push entries name table by_name same =
      ap (map (λ k. string_bytes k)) (keys_of-push entries (name, table)) ∙ map-append (λ k. string_bytes k) (keys_of entries) (name ∷ [])
      ∙ (λ i. by_name i ++ same i ∷ [])
      ∙ sym (ap (map (λ d. d.name)) (values_of-push entries (name, table)) ∙ map-append (λ d. d.name) (values_of entries) (table ∷ []))

same-more : {X : Type 0} (x : X) (c : Catalog) (i : ℕ) → i < length c → map (λ d. x) (take i c) ++ x ∷ [] ≡ map (λ d. x) (take (suc i) c)
same-more x [] i within = absurd (omega arith)
same-more x (d ∷ c) zero within = refl
same-more x (d ∷ c) (suc i) within = ap (λ rest. x ∷ rest) (same-more x c i (omega arith))

-- one more of the same for each table
pub one_more : {X : Type 0} (x : X) (c : Catalog) (i : ℕ) → i < length c → map (λ d. x) (take i c) ++ x ∷ [] ≡ map (λ d. x) (take (i + 1) c)
one_more x c i within = rw add-one (same-more x c i within)

no_text : {A : Type 0} (name : List ℕ) (keys : List (String A)) → ¬ (IsUtf8 name) → list_any (λ k. bytes_eq name (string_bytes k)) keys ≡ false
no_text name [] invalid = refl
no_text name (k ∷ keys) invalid = by_test (bytes_eq name (string_bytes k)) refl (no_text name keys invalid)
  where
    by_test : (b : Bool) → bytes_eq name (string_bytes k) ≡ b → list_any (λ k. bytes_eq name (string_bytes k)) keys ≡ false → (b || list_any (λ k. bytes_eq name (string_bytes k)) keys) ≡ false
    by_test true is rest = absurd (invalid (subst IsUtf8 (sym ((bytes_eq-Decides name (string_bytes k)).0 is)) (IsUtf8-string_bytes k)))
    by_test false is rest = rest

-- what isn't UTF-8 names no table
pub nothing_named : {A : Type 0} (name : List ℕ) (entries : List (String A × TableSchema)) → IsByName entries → ¬ (IsUtf8 name) → table_named (values_of entries) name ≡ None
nothing_named name entries by_name invalid =
    None-from_some _ (ap is_some (sym (position-named name entries by_name)) ∙ is_some-position (λ k. bytes_eq name (string_bytes k)) (keys_of entries) ∙ no_text name (keys_of entries) invalid)
