-- Sound tables, key by key, and changes that keep them sound.
use Rattle.std.proofs.Common.{◌≡◌, refl, sym, ap, subst, ◌∙◌, ℕ, zero, suc, ◌<◌, ◌≤◌, Bool, true, false, true≢false, cond, not, ◌&&◌, ◌||◌, ◌⊎◌, inl, inr, List, [], ◌∷◌, length, slice_get, Option, Some, None, is_some, unwrap_or, arith}
use Rattle.std.proofs.lemmas.Bool.{and_from, and_parts}
use Rattle.std.proofs.lemmas.Cmp.{tied_itself}
use Rattle.std.specs.Ordering.{is_eq, is_lt}
use Rattle.std.specs.declared.cmp.Ordering.{Ordering}
use Rattle.std.specs.declared.cmp.Ordering.TheVariants.{Less, Equal, Greater}
use Rattle.std.specs.List.{list_all}
use Rattle.std.specs.Option.{option_map_or}
use Rattle.std.specs.FinMap.{find, is_sorted}
use Rattle.std.specs.FinMap.Entries.{below_all}
use Rattle.value.specs.declared.value.Value.{Value}
use Rattle.value.specs.Order.{value_cmp, value_cmp-total}
use Rattle.value.proofs.IsolationLemmas.{In}
use Rattle.value.proofs.Basics.{true_from_T}
use Rattle.schema.specs.Definition.{Column, TableSchema, Catalog}
use Rattle.schema.specs.declared.row.Row.{Row}
use Rattle.schema.specs.declared.changes.Change.{Change}
use Rattle.schema.specs.declared.tables.Tables.{Tables}
use Rattle.schema.specs.Plain.{same, is_null, cells, rows_of, row_at, is_there, has_kind, fits_columns, is_sound_table, sound_tables, is_sound, put_all}
use Rattle.schema.proofs.PlainLemmas.{same_value, IsOrdered, put_all-ordered, length-put_all, row_at-put_all, left_by, rows_of-past}

less_apart : (o : Ordering) → is_lt o ≡ true → is_eq o ≡ false
less_apart Less e = refl
less_apart Equal e = absurd (true≢false (sym e))
less_apart Greater e = refl

module _ {A : Type 0} where
  -- a value may stand in a column
  abbrev pub is_ok : Tables A → Column → Value A → Bool
  is_ok X d v = has_kind d.kind v && not (d.not_null && is_null v) && is_there X d v

  abbrev pub row_ok : Tables A → TableSchema → Value A → List (Value A) → Bool
  row_ok X d k fields = not (is_null k) && fits_columns X d.columns (k ∷ fields)

  -- sound tables, key by key
  pub record Sound (c : Catalog) (X : Tables A) : Type 0 where
    pub count : length X ≡ length c
    pub ordered : IsOrdered X
    pub rows : (t : ℕ) (d : TableSchema) → slice_get c t ≡ Some d → (k : Value A) (fields : List (Value A)) → row_at X t k ≡ Some fields → row_ok X d k fields ≡ true

  -- ---- from the test and back

  find_all : (p : Row A → Bool) (rows : List (Row A)) (k : Value A) (fields : List (Value A)) → list_all p rows ≡ true → find value_cmp k rows ≡ Some fields → p (k, fields) ≡ true
  find_all p [] k fields h e = cc
  find_all p (r ∷ rows) k fields h e = go (same k r.0) refl (find_all p rows k fields (and_parts (p r) (list_all p rows) h).1) e
    where
      go : (b : Bool) → same k r.0 ≡ b → (find value_cmp k rows ≡ Some fields → p (k, fields) ≡ true) → cond b (Some r.1) (find value_cmp k rows) ≡ Some fields → p (k, fields) ≡ true
      go true s rest q = let f : r.1 ≡ fields = cc in subst (λ x. p (x, fields) ≡ true) (sym (same_value k r.0 s)) (subst (λ f. p (r.0, f) ≡ true) f (and_parts (p r) (list_all p rows) h).0)
      go false s rest q = rest q

  below_in : (k : Value A) (rows : List (Row A)) (r : Row A) → below_all value_cmp k rows ≡ true → In r rows → is_lt (value_cmp k r.0) ≡ true
  below_in k [] r h i = absurd i
  below_in k (x ∷ rows) r h (inl p) = subst (λ (y : Row A). is_lt (value_cmp k y.0) ≡ true) (sym p) (and_parts (is_lt (value_cmp k x.0)) (below_all value_cmp k rows) h).0
  below_in k (x ∷ rows) r h (inr i) = below_in k rows r (and_parts (is_lt (value_cmp k x.0)) (below_all value_cmp k rows) h).1 i

  below_none : (k q : Value A) (rows : List (Row A)) (fields : List (Value A)) → below_all value_cmp k rows ≡ true → same q k ≡ true → find value_cmp q rows ≡ Some fields → ⊥
  below_none k q [] fields h s e = true≢false (cc)
  below_none k q (x ∷ rows) fields h s e = go (same q x.0) refl (below_none k q rows fields (and_parts (is_lt (value_cmp k x.0)) (below_all value_cmp k rows) h).1 s) e
    where
      go : (b : Bool) → same q x.0 ≡ b → (find value_cmp q rows ≡ Some fields → ⊥) → cond b (Some x.1) (find value_cmp q rows) ≡ Some fields → ⊥
      go true m rest f = true≢false (sym (sym (ap (λ y. same y x.0) (same_value q k s)) ∙ m) ∙ less_apart (value_cmp k x.0) (and_parts (is_lt (value_cmp k x.0)) (below_all value_cmp k rows) h).0)
      go false m rest f = rest f

  -- a row that a sorted table has is found by its key
  pub found_row : (rows : List (Row A)) (r : Row A) → is_sorted value_cmp rows ≡ true → In r rows → find value_cmp r.0 rows ≡ Some r.1
  found_row [] r h i = absurd i
  found_row (x ∷ rows) r h (inl p) = subst (λ (y : Row A). find value_cmp y.0 (x ∷ rows) ≡ Some y.1) (sym p) (ap (λ o. cond (is_eq o) (Some x.1) (find value_cmp x.0 rows)) (tied_itself value_cmp-total x.0))
  found_row (x ∷ rows) r h (inr i) = go (same r.0 x.0) refl (found_row rows r (and_parts (below_all value_cmp x.0 rows) (is_sorted value_cmp rows) h).1 i)
    where
      below : is_lt (value_cmp x.0 r.0) ≡ true
      below = below_in x.0 rows r (and_parts (below_all value_cmp x.0 rows) (is_sorted value_cmp rows) h).0 i

      go : (b : Bool) → same r.0 x.0 ≡ b → find value_cmp r.0 rows ≡ Some r.1 → cond b (Some x.1) (find value_cmp r.0 rows) ≡ Some r.1
      go false m rest = rest
      go true m rest = absurd (below_none x.0 r.0 rows r.1 (and_parts (below_all value_cmp x.0 rows) (is_sorted value_cmp rows) h).0 m rest)

  all_found : (p : Row A → Bool) (rows : List (Row A)) → ((r : Row A) → In r rows → p r ≡ true) → list_all p rows ≡ true
  all_found p [] f = refl
  all_found p (r ∷ rows) f = and_from (p r) (list_all p rows) (f r (inl refl)) (all_found p rows (λ x i. f x (inr i)))

  pub sound_at : (X : Tables A) (c : Catalog) (Y : List (List (Row A))) (t : ℕ) (d : TableSchema) → sound_tables X c Y ≡ true → slice_get c t ≡ Some d → is_sound_table X d (rows_of Y t) ≡ true
  sound_at X [] Y t d h e = cc
  sound_at X (b ∷ c) [] t d h e = absurd (true≢false (sym h))
  sound_at X (b ∷ c) (rows ∷ Y) zero d h e = let p : b ≡ d = cc in subst (λ x. is_sound_table X x rows ≡ true) p (and_parts (is_sound_table X b rows) (sound_tables X c Y) h).0
  sound_at X (b ∷ c) (rows ∷ Y) (suc t) d h e = sound_at X c Y t d (and_parts (is_sound_table X b rows) (sound_tables X c Y) h).1 e

  pub sound_count : (X : Tables A) (c : Catalog) (Y : List (List (Row A))) → sound_tables X c Y ≡ true → length Y ≡ length c
  sound_count X [] [] h = refl
  sound_count X [] (rows ∷ Y) h = absurd (true≢false (sym h))
  sound_count X (d ∷ c) [] h = absurd (true≢false (sym h))
  sound_count X (d ∷ c) (rows ∷ Y) h = ap suc (sound_count X c Y (and_parts (is_sound_table X d rows) (sound_tables X c Y) h).1)

  pub sound_from : (c : Catalog) (X : Tables A) → IsOrdered X → is_sound c X ≡ true → Sound c X
  sound_from c X o h = record {
    count = sound_count X c X h;
    ordered = o;
    rows = λ t d e k fields f. find_all (λ r. not (is_null r.0) && fits_columns X d.columns (cells r)) (rows_of X t) k fields (and_parts (is_sorted value_cmp (rows_of X t)) _ (sound_at X c X t d h e)).1 f;
  }

  pub sound_to : (c : Catalog) (X : Tables A) → Sound c X → is_sound c X ≡ true
  sound_to c X s = go c X s.count (λ t d e. table t d e)
    where
      table : (t : ℕ) (d : TableSchema) → slice_get c t ≡ Some d → is_sound_table X d (rows_of X t) ≡ true
      table t d e =
          let sorted = true_from_T (is_sorted value_cmp (rows_of X t)) (s.ordered.each t) in
          and_from _ _ sorted (all_found _ (rows_of X t) (λ r i. s.rows t d e r.0 r.1 (found_row (rows_of X t) r sorted i)))

      go : (b : Catalog) (Y : List (List (Row A))) → length Y ≡ length b → ((t : ℕ) (d : TableSchema) → slice_get b t ≡ Some d → is_sound_table X d (rows_of Y t) ≡ true) → sound_tables X b Y ≡ true
      go [] [] l f = refl
      go [] (rows ∷ Y) l f = absurd (omega (arith, l))
      go (d ∷ b) [] l f = absurd (omega (arith, l))
      go (d ∷ b) (rows ∷ Y) l f = and_from _ _ (f 0 d refl) (go b Y (omega (arith, l)) (λ t e. f (suc t) e))

  -- ---- a row, column by column

  pub fits_at : (X : Tables A) (ds : List Column) (vs : List (Value A)) (i : ℕ) (d : Column) (v : Value A) → fits_columns X ds vs ≡ true → slice_get ds i ≡ Some d → slice_get vs i ≡ Some v → is_ok X d v ≡ true
  fits_at X [] vs i d v h e f = cc
  fits_at X (b ∷ ds) [] i d v h e f = cc
  fits_at X (b ∷ ds) (u ∷ vs) zero d v h e f = let p : b ≡ d = cc in let q : u ≡ v = cc in subst (λ x. is_ok X x v ≡ true) p (subst (λ x. is_ok X b x ≡ true) q (and_parts (is_ok X b u) (fits_columns X ds vs) h).0)
  fits_at X (b ∷ ds) (u ∷ vs) (suc i) d v h e f = fits_at X ds vs i d v (and_parts (is_ok X b u) (fits_columns X ds vs) h).1 e f

  pub fits_count : (X : Tables A) (ds : List Column) (vs : List (Value A)) → fits_columns X ds vs ≡ true → length vs ≡ length ds
  fits_count X [] [] h = refl
  fits_count X [] (v ∷ vs) h = absurd (true≢false (sym h))
  fits_count X (d ∷ ds) [] h = absurd (true≢false (sym h))
  fits_count X (d ∷ ds) (v ∷ vs) h = ap suc (fits_count X ds vs (and_parts (is_ok X d v) (fits_columns X ds vs) h).1)

  pub fits_by : (X : Tables A) (ds : List Column) (vs : List (Value A)) → length vs ≡ length ds → ((i : ℕ) (d : Column) (v : Value A) → slice_get ds i ≡ Some d → slice_get vs i ≡ Some v → is_ok X d v ≡ true) → fits_columns X ds vs ≡ true
  fits_by X [] [] l f = refl
  fits_by X [] (v ∷ vs) l f = absurd (omega (arith, l))
  fits_by X (d ∷ ds) [] l f = absurd (omega (arith, l))
  fits_by X (d ∷ ds) (v ∷ vs) l f = and_from _ _ (f 0 d v refl refl) (fits_by X ds vs (omega (arith, l)) (λ i d' v' e g. f (suc i) d' v' e g))

  -- ---- changes

  -- What is there is there still, where no key goes.
  pub there_still : (X Y : Tables A) (d : Column) (v : Value A) → ((u : ℕ) → is_some (row_at X u v) ≡ true → is_some (row_at Y u v) ≡ true) → is_there X d v ≡ true → is_there Y d v ≡ true
  there_still X Y d v f h = go (is_null v) d.references h
    where
      go : (b : Bool) (o : Option ℕ) → (b || option_map_or (λ t. is_some (row_at X t v)) o true) ≡ true → (b || option_map_or (λ t. is_some (row_at Y t v)) o true) ≡ true
      go true o e = refl
      go false None e = refl
      go false (Some u) e = f u e

  pub row_still : (X Y : Tables A) (d : TableSchema) (k : Value A) (fields : List (Value A)) → ((u : ℕ) (v : Value A) → is_some (row_at X u v) ≡ true → is_some (row_at Y u v) ≡ true) → row_ok X d k fields ≡ true → row_ok Y d k fields ≡ true
  row_still X Y d k fields f h =
      let p = and_parts (not (is_null k)) (fits_columns X d.columns (k ∷ fields)) h in
      and_from _ _ p.0 (fits_by Y d.columns (k ∷ fields) (fits_count X d.columns (k ∷ fields) p.1) (λ i b v e g. one b v (fits_at X d.columns (k ∷ fields) i b v p.1 e g)))
    where
      one : (b : Column) (v : Value A) → is_ok X b v ≡ true → is_ok Y b v ≡ true
      one b v e = let q = and_parts (has_kind b.kind v && not (b.not_null && is_null v)) (is_there X b v) e in and_from _ _ q.0 (there_still X Y b v (λ u. f u v) q.1)

  -- Changes by which no key goes, and of which each row may stand in its table, keep tables sound.
  pub sound_changes : (c : Catalog) (X : Tables A) (xs : List (Change A)) → Sound c X
      → ((t : ℕ) (k : Value A) → left_by t k xs ≡ Some None → ⊥)
      → ((t : ℕ) (d : TableSchema) → slice_get c t ≡ Some d → (k : Value A) (fields : List (Value A)) → left_by t k xs ≡ Some (Some fields) → row_ok X d k fields ≡ true)
      → Sound c (put_all xs X)
  sound_changes c X xs s none new = record {
    count = length-put_all xs X ∙ s.count;
    ordered = put_all-ordered xs X s.ordered;
    rows = λ t d e k fields f. row_still X (put_all xs X) d k fields still (was t d e k fields (within t d c e) f);
  }
    where
      within : (t : ℕ) (d : TableSchema) (b : Catalog) → slice_get b t ≡ Some d → t < length b
      within t d [] e = cc
      within zero d (x ∷ b) e = omega arith
      within (suc t) d (x ∷ b) e = omega (arith, within t d b e)

      two_ways : (m n : ℕ) → (m ≤ n) ⊎ (n < m)
      two_ways m n = grind arith

      still : (u : ℕ) (v : Value A) → is_some (row_at X u v) ≡ true → is_some (row_at (put_all xs X) u v) ≡ true
      still u v h = go (two_ways (length X) u)
        where
          left : (o : Option (Option (List (Value A)))) → left_by u v xs ≡ o → is_some (unwrap_or o (row_at X u v)) ≡ true
          left None e = h
          left (Some None) e = absurd (none u v e)
          left (Some (Some f)) e = refl

          go : (length X ≤ u) ⊎ (u < length X) → is_some (row_at (put_all xs X) u v) ≡ true
          go (inl l) = absurd (true≢false (sym h ∙ ap (λ rows. is_some (find value_cmp v rows)) (rows_of-past X u l)))
          go (inr l) = ap is_some (row_at-put_all xs X u v l) ∙ left (left_by u v xs) refl

      was : (t : ℕ) (d : TableSchema) → slice_get c t ≡ Some d → (k : Value A) (fields : List (Value A)) → t < length c → row_at (put_all xs X) t k ≡ Some fields → row_ok X d k fields ≡ true
      was t d e k fields l f = go (left_by t k xs) refl (sym (row_at-put_all xs X t k (omega (arith, l, s.count))) ∙ f)
        where
          go : (o : Option (Option (List (Value A)))) → left_by t k xs ≡ o → unwrap_or o (row_at X t k) ≡ Some fields → row_ok X d k fields ≡ true
          go None q g = s.rows t d e k fields g
          go (Some None) q g = absurd (none t k q)
          go (Some (Some v)) q g = new t d e k fields (q ∙ ap Some g)
