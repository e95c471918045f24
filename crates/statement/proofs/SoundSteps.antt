-- Each statement that fits keeps tables sound.
use Rattle.std.proofs.Common.{◌≡◌, refl, sym, ap, subst, ◌∙◌, ℕ, zero, suc, ◌+◌, ◌<◌, ◌≤◌, Bool, true, false, true≢false, ℤ, cond, not, ◌&&◌, ◌||◌, ◌⊎◌, inl, inr, List, [], ◌∷◌, map, length, slice_get, Option, Some, None, is_some, unwrap_or, eqb, nat_lt, arith}
use Rattle.std.proofs.lemmas.Bool.{eqb-true, eq-eqb, not-false, or_parts, and_from, and_parts}
use Rattle.std.proofs.lemmas.Cmp.{tied_itself}
use Rattle.std.proofs.lemmas.List.{length-set}
use Rattle.std.specs.Ordering.{is_eq}
use Rattle.std.specs.List.{filter, list_any, list_all}
use Rattle.std.specs.Option.{option_map_or}
use Rattle.std.specs.FinMap.{find, is_sorted}
use Rattle.value.specs.declared.kind.Kind.{Kind}
use Rattle.value.specs.declared.kind.Kind.TheVariants as kind
use Rattle.value.specs.declared.value.Value.{Value}
use Rattle.value.specs.declared.value.Value.TheVariants.{Null, Int, Text, Bytes}
use Rattle.value.specs.declared.refusal.Code.TheVariants as code
use Rattle.value.specs.Order.{value_cmp, value_cmp-total}
use Rattle.value.proofs.IsolationLemmas.{In}
use Rattle.value.proofs.Basics.{true_from_T, first_some-In, In-any, In-mapped}
use Rattle.schema.specs.Definition.{Column, TableSchema, Catalog}
use Rattle.schema.specs.declared.row.Row.{Row}
use Rattle.schema.specs.declared.changes.Change.{Change}
use Rattle.schema.specs.declared.tables.Tables.{Tables}
use Rattle.schema.specs.Plain.{same, is_null, cells, field, rows_of, row_at, columns_of, is_there, has_kind, fits_columns, put_all}
use Rattle.schema.proofs.PlainLemmas.{same_value, put_all-ordered, length-put_all, row_at-put_all, left_by, touches, rows_of-past}
use Rattle.statement.specs.declared.condition.Comparison.TheVariants as is
use Rattle.statement.specs.declared.statement.Source.{Source}
use Rattle.statement.specs.declared.statement.Source.TheVariants.{Literal, Sum}
use Rattle.statement.specs.declared.statement.Assignment.{Assignment}
use Rattle.statement.specs.declared.statement.Statement.{Statement}
use Rattle.statement.specs.declared.statement.Statement.TheVariants.{Select, Insert, Update, Delete}
use Rattle.statement.specs.declared.reply.Reply.TheVariants.{Inserted, Updated, Deleted}
use Rattle.statement.specs.declared.outcome.Outcome.{Outcome}
use Rattle.statement.specs.Conditions.{chosen, satisfies, is_so}
use Rattle.statement.specs.Evaluation.{after, inserted, updated, deleted, lacks_value, lacks_row, least_column, first_bad, assigned_lacks_value, assigned_out_of_range, assigned_lacks_row, at_column, least_table, names_one, is_gone, references, is_assigned, assigned, set_field, given, added, updated_row, out_of_range, puts, removes, writes_rows, ◌or_else◌}
use Rattle.statement.specs.Fits.{Fits, literals_fit, assignment_fits, assigns_once, has_table, column_passes, source_fits, condition_fits, takes, is_bigint}
use Rattle.statement.proofs.CoverLemmas.{all_in}
use Rattle.statement.proofs.RowsLemmas.{found_in}
use Rattle.statement.proofs.Suffices.{assigned_at, Given, fault_or, table_or}
use Rattle.schema.proofs.SoundLemmas.{Sound, is_ok, row_ok, found_row, fits_at, fits_count, fits_by, sound_changes}

second_not : (a b : Bool) → a ≡ true → (a && b) ≡ false → b ≡ false
second_not true b p e = e
second_not false b p e = absurd (true≢false (sym p))

-- a column that must have a value has one
has_value : (a m n : Bool) → ((a || m) && n) ≡ false → not (m && n) ≡ true
has_value a true true e = absurd (true≢false (sym (all a) ∙ e))
  where
    all : (b : Bool) → ((b || true) && true) ≡ true
    all true = refl
    all false = refl
has_value a true false e = refl
has_value a false n e = refl

columns_at : (c : Catalog) (t : ℕ) (d : TableSchema) → slice_get c t ≡ Some d → columns_of c t ≡ d.columns
columns_at [] t d e = cc
columns_at (x ∷ c) zero d e = let p : x ≡ d = cc in ap (λ (y : TableSchema). y.columns) p
columns_at (x ∷ c) (suc t) d e = columns_at c t d e

module _ {A : Type 0} where
  none_column : (bad : ℕ → Column → Value A → Bool) (n : ℕ) (ds : List Column) (vs : List (Value A)) (i : ℕ) (d : Column) (v : Value A) → least_column bad n ds vs ≡ None → slice_get ds i ≡ Some d → slice_get vs i ≡ Some v → bad (n + i) d v ≡ false
  none_column bad n [] vs i d v h e f = cc
  none_column bad n (b ∷ ds) [] i d v h e f = cc
  none_column bad n (b ∷ ds) (u ∷ vs) i d v h e f = go (bad n b u) refl h i e f (none_column bad (suc n) ds vs)
    where
      plus_zero : (m : ℕ) → m ≡ m + 0
      plus_zero m = omega arith

      plus_suc : (m j : ℕ) → suc m + j ≡ m + suc j
      plus_suc m j = omega arith

      go : (t : Bool) → bad n b u ≡ t → cond t (Some n) (least_column bad (suc n) ds vs) ≡ None → (j : ℕ) → slice_get (b ∷ ds) j ≡ Some d → slice_get (u ∷ vs) j ≡ Some v
          → ((j : ℕ) (d : Column) (v : Value A) → least_column bad (suc n) ds vs ≡ None → slice_get ds j ≡ Some d → slice_get vs j ≡ Some v → bad (suc n + j) d v ≡ false) → bad (n + j) d v ≡ false
      go true q k j g l rest = cc
      go false q k zero g l rest = let p : b ≡ d = cc in let r : u ≡ v = cc in subst (λ m. bad m d v ≡ false) (plus_zero n) (subst (λ x. bad n x v ≡ false) p (subst (λ x. bad n b x ≡ false) r q))
      go false q k (suc j) g l rest = subst (λ m. bad m d v ≡ false) (plus_suc n j) (rest j d v k g l)

  -- ---- INSERT

  literals_count : (ds : List Column) (vs : List (Value A)) → literals_fit ds vs ≡ true → length vs ≡ length ds
  literals_count [] [] h = refl
  literals_count (d ∷ ds) (v ∷ vs) h = ap suc (literals_count ds vs (and_parts (takes v d) _ h).1)
  literals_count [] (v ∷ vs) h = absurd (true≢false (sym h))
  literals_count (d ∷ ds) [] h = absurd (true≢false (sym h))

  literals_at : (ds : List Column) (vs : List (Value A)) (i : ℕ) (d : Column) (v : Value A) → literals_fit ds vs ≡ true → slice_get ds i ≡ Some d → slice_get vs i ≡ Some v → has_kind d.kind v ≡ true
  literals_at [] vs i d v h e f = cc
  literals_at (b ∷ ds) [] i d v h e f = cc
  literals_at (b ∷ ds) (u ∷ vs) zero d v h e f = let p : b ≡ d = cc in let q : u ≡ v = cc in subst (λ (x : Column). has_kind x.kind v ≡ true) p (subst (λ x. has_kind b.kind x ≡ true) q (and_parts (takes u b) (literals_fit ds vs) h).0)
  literals_at (b ∷ ds) (u ∷ vs) (suc i) d v h e f = literals_at ds vs i d v (and_parts (takes u b) (literals_fit ds vs) h).1 e f

  inserted_sound : (c : Catalog) (t : ℕ) (values : List (Value A)) (X : Tables A) → Sound c X → literals_fit (columns_of c t) values ≡ true → Sound c (put_all (inserted c t values X).changes X)
  inserted_sound c t [] X s h = s
  inserted_sound c t (k ∷ fields) X s h =
      fault_or (λ xs. Sound c (put_all xs X)) code.NotNullViolation (least_column lacks_value 0 (columns_of c t) (k ∷ fields)) r1 s (λ full.
      fault_or (λ xs. Sound c (put_all xs X)) code.UniqueViolation (cond (is_some (row_at X t k)) (Some 0) None) r2 s (λ unique.
      fault_or (λ xs. Sound c (put_all xs X)) code.ForeignKeyViolation (least_column (lacks_row X) 0 (columns_of c t) (k ∷ fields)) r3 s (λ there.
      sound_changes c X (x ∷ []) s (λ u q e. none u q (touches u q x) e) (λ u d e q fs f. new full there u d e q fs (touches u q x) refl f))))
    where
      x : Change A
      x = record { table = t; key = k; fields = Some fields }

      r3 : Outcome A
      r3 = writes_rows c X Inserted (puts t (k, fields) ∷ [])

      r2 : Outcome A
      r2 = at_column code.ForeignKeyViolation (least_column (lacks_row X) 0 (columns_of c t) (k ∷ fields)) or_else r3

      r1 : Outcome A
      r1 = at_column code.UniqueViolation (cond (is_some (row_at X t k)) (Some 0) None) or_else r2

      none : (u : ℕ) (q : Value A) (b : Bool) → cond b (Some (Some fields)) None ≡ Some None → ⊥
      none u q true e = cc
      none u q false e = cc

      new : least_column lacks_value 0 (columns_of c t) (k ∷ fields) ≡ None → least_column (lacks_row X) 0 (columns_of c t) (k ∷ fields) ≡ None
          → (u : ℕ) (d : TableSchema) → slice_get c u ≡ Some d → (q : Value A) (fs : List (Value A)) → (b : Bool) → (eqb t u && same q k) ≡ b → cond b (Some (Some fields)) None ≡ Some (Some fs) → row_ok X d q fs ≡ true
      new full there u d e q fs false m f = cc
      new full there u d e q fs true m f =
          let p = and_parts (eqb t u) (same q k) m in
          let columns : columns_of c t ≡ d.columns = columns_at c t d (subst (λ n. slice_get c n ≡ Some d) (sym (eqb-true t u p.0)) e) in
          let g : fields ≡ fs = cc in
          subst (λ y. row_ok X d y fs ≡ true) (sym (same_value q k p.1)) (subst (λ y. row_ok X d k y ≡ true) g (and_from _ _ (key_there d.columns columns) (subst (λ ds. fits_columns X ds (k ∷ fields) ≡ true) columns
          (fits_by X (columns_of c t) (k ∷ fields) (literals_count (columns_of c t) (k ∷ fields) h) (λ i b v y z. and_from _ _ (and_from _ _ (literals_at (columns_of c t) (k ∷ fields) i b v h y z)
          (has_value _ b.not_null (is_null v) (none_column lacks_value 0 (columns_of c t) (k ∷ fields) i b v full y z))) (not-false _ (none_column (lacks_row X) 0 (columns_of c t) (k ∷ fields) i b v there y z)))))))
        where
          key_there : (ds : List Column) → columns_of c t ≡ ds → not (is_null k) ≡ true
          key_there [] w = absurd (let l : length (k ∷ fields) ≡ length (columns_of c t) = literals_count (columns_of c t) (k ∷ fields) h in let n : length (columns_of c t) ≡ 0 = ap length w in omega (arith, l, n))
          key_there (b ∷ ds) w = ap not (none_column lacks_value 0 (b ∷ ds) (k ∷ fields) 0 b k (subst (λ cs. least_column lacks_value 0 cs (k ∷ fields) ≡ None) w full) refl refl)

  -- ---- UPDATE

  length-assigned : (row : Row A) (more : List (Assignment A)) (fields : List (Value A)) → length (assigned row more fields) ≡ length fields
  length-assigned row [] fields = refl
  length-assigned row (a ∷ more) fields = length-assigned row more (set_field a.column (given row a.source) fields) ∙ set a.column
    where
      set : (n : ℕ) → length (set_field n (given row a.source) fields) ≡ length fields
      set zero = refl
      set (suc n) = length-set fields n (given row a.source)

  is_assigned_by : (more : List (Assignment A)) (a : Assignment A) (n : ℕ) → In a more → a.column ≡ n → is_assigned more n ≡ true
  is_assigned_by [] a n i e = absurd i
  is_assigned_by (b ∷ more) a n (inl p) e = ap (λ t. t || is_assigned more n) (eq-eqb b.column n (sym (ap (λ (y : Assignment A). y.column) p) ∙ e))
  is_assigned_by (b ∷ more) a n (inr i) e = ap (λ t. eqb b.column n || t) (is_assigned_by more a n i e) ∙ last (eqb b.column n)
    where
      last : (t : Bool) → (t || true) ≡ true
      last true = refl
      last false = refl

  filter-in : (p : Row A → Bool) (rows : List (Row A)) (r : Row A) → In r (filter p rows) → In r rows
  filter-in p [] r i = i
  filter-in p (y ∷ rows) r i = go (p y) (filter-in p rows r) i
    where
      go : (b : Bool) → (In r (filter p rows) → In r rows) → In r (cond b (y ∷ filter p rows) (filter p rows)) → (r ≡ y) ⊎ In r rows
      go true rest (inl q) = inl q
      go true rest (inr j) = inr (rest j)
      go false rest j = inr (rest j)

  -- what changes of rows leave at a key, one of them left
  left_map : (t : ℕ) (g : Row A → Option (List (Value A))) (rows : List (Row A)) (u : ℕ) (k : Value A) (o : Option (List (Value A))) → left_by u k (map (λ row. record { table = t; key = row.0; fields = g row }) rows) ≡ Some o
      → (row : Row A) × In row rows × (t ≡ u) × (k ≡ row.0) × (g row ≡ o)
  left_map t g [] u k o e = cc
  left_map t g (r ∷ rows) u k o e = go (left_by u k (map (λ row. record { table = t; key = row.0; fields = g row }) rows)) refl (left_map t g rows u k o) (eqb t u && same k r.0) refl e
    where
      Found : List (Row A) → Type 0
      Found rs = (row : Row A) × In row rs × (t ≡ u) × (k ≡ row.0) × (g row ≡ o)

      go : (z : Option (Option (List (Value A)))) → left_by u k (map (λ row. record { table = t; key = row.0; fields = g row }) rows) ≡ z → (left_by u k (map (λ row. record { table = t; key = row.0; fields = g row }) rows) ≡ Some o → Found rows)
          → (b : Bool) → (eqb t u && same k r.0) ≡ b → cond (is_some z) z (cond b (Some (g r)) None) ≡ Some o → Found (r ∷ rows)
      go None q rest true m f = let p = and_parts (eqb t u) (same k r.0) m in (r, inl refl, eqb-true t u p.0, same_value k r.0 p.1, cc)
      go None q rest false m f = cc
      go (Some z) q rest b m f = let w = rest (q ∙ f) in (w.0, inr w.1, w.2, w.3, w.4)

  -- a number of a bigint column, in range
  number_fits : (d : Column) (v : Value A) (m : ℤ) → is_bigint d.kind ≡ true → out_of_range (added v m) ≡ false → has_kind d.kind (added v m) ≡ true
  number_fits d (Int n) m b r = go d.kind b
    where
      go : (k : Kind) → is_bigint k ≡ true → has_kind {A = A} k (added {A = A} (Int n) m) ≡ true
      go kind.Bigint e = not-false _ r
      go kind.Text e = absurd (true≢false (sym e))
      go kind.Bytea e = absurd (true≢false (sym e))
  number_fits d Null m b r = refl
  number_fits d (Text w) m b r = refl
  number_fits d (Bytes w) m b r = refl

  updated_sound : (c : Catalog) (t : ℕ) (more : List (Assignment A)) (rows : List (Row A)) (X : Tables A) → Sound c X → ((r : Row A) → In r rows → In r (rows_of X t)) → list_all (assignment_fits (columns_of c t)) more ≡ true
      → Sound c (put_all (updated c t more rows X).changes X)
  updated_sound c t more rows X s sub h =
      fault_or (λ xs. Sound c (put_all xs X)) code.NotNullViolation (n1 (assigned_lacks_value more)) r1 s (λ full.
      fault_or (λ xs. Sound c (put_all xs X)) code.NumericValueOutOfRange (n1 (assigned_out_of_range more)) r2 s (λ small.
      fault_or (λ xs. Sound c (put_all xs X)) code.ForeignKeyViolation (n1 (assigned_lacks_row X more)) r3 s (λ there.
      sound_changes c X (map (λ row. record { table = t; key = row.0; fields = Some (updated_row more row).1 }) rows) s
      (λ u q e. let w = left_map t (λ row. Some (updated_row more row).1) rows u q None e in none w.0 w.4)
      (λ u d e q fs f. let w = left_map t (λ row. Some (updated_row more row).1) rows u q (Some fs) f in new full small there u d e q fs w.0 w.1 w.2 w.3 w.4))))
    where
      n1 : (ℕ → Column → Value A → Bool) → Option ℕ
      n1 bad = first_bad bad (columns_of c t) (map (updated_row more) rows)

      r3 : Outcome A
      r3 = writes_rows c X (Updated (length rows)) (map (λ row. puts t (updated_row more row)) rows)

      r2 : Outcome A
      r2 = at_column code.ForeignKeyViolation (n1 (assigned_lacks_row X more)) or_else r3

      r1 : Outcome A
      r1 = at_column code.NumericValueOutOfRange (n1 (assigned_out_of_range more)) or_else r2

      none : (r : Row A) → Some (updated_row more r).1 ≡ None → ⊥
      none r e = cc

      abbreviated : (ℕ → Column → Value A → Bool) → Type 0
      abbreviated bad = first_bad bad (columns_of c t) (map (updated_row more) rows) ≡ None

      new : abbreviated (assigned_lacks_value more) → abbreviated (assigned_out_of_range more) → abbreviated (assigned_lacks_row X more)
          → (u : ℕ) (d : TableSchema) → slice_get c u ≡ Some d → (q : Value A) (fs : List (Value A)) (r : Row A) → In r rows → t ≡ u → q ≡ r.0 → Some (updated_row more r).1 ≡ Some fs → row_ok X d q fs ≡ true
      new full small there u d e q fs r i p k g =
          let columns : columns_of c t ≡ d.columns = columns_at c t d (subst (λ n. slice_get c n ≡ Some d) (sym p) e) in
          let same_fields : (updated_row more r).1 ≡ fs = cc in
          subst (λ y. row_ok X d y fs ≡ true) (sym k) (subst (λ y. row_ok X d r.0 y ≡ true) same_fields (and_from _ _ before.0 (fits_by X d.columns (r.0 ∷ (updated_row more r).1)
          (ap suc (length-assigned r more r.1) ∙ fits_count X d.columns (r.0 ∷ r.1) before.1) (λ j b v y z. at columns j b v y z))))
        where
          before : (not (is_null r.0) ≡ true) × (fits_columns X d.columns (r.0 ∷ r.1) ≡ true)
          before = and_parts (not (is_null r.0)) (fits_columns X d.columns (r.0 ∷ r.1))
              (s.rows u d e r.0 r.1 (subst (λ n. row_at X n r.0 ≡ Some r.1) p (found_row (rows_of X t) r (true_from_T (is_sorted value_cmp (rows_of X t)) (s.ordered.each t)) (sub r i))))

          not_bad : (bad : ℕ → Column → Value A → Bool) → abbreviated bad → (j : ℕ) (b : Column) (v : Value A) → slice_get (columns_of c t) j ≡ Some b → slice_get (r.0 ∷ (updated_row more r).1) j ≡ Some v → bad j b v ≡ false
          not_bad bad a j b v y z = subst (λ n. bad n b v ≡ false) (zero_plus j) (none_column bad 0 (columns_of c t) (r.0 ∷ (updated_row more r).1) j b v
              (first_some-In (λ row. least_column bad 0 (columns_of c t) (cells row)) (map (updated_row more) rows) (updated_row more r) a (In-mapped (updated_row more) r rows i)) y z)
            where
              zero_plus : (n : ℕ) → 0 + n ≡ n
              zero_plus n = omega arith

          at : columns_of c t ≡ d.columns → (j : ℕ) (b : Column) (v : Value A) → slice_get d.columns j ≡ Some b → slice_get (r.0 ∷ (updated_row more r).1) j ≡ Some v → is_ok X b v ≡ true
          at columns zero b v y z = fits_at X d.columns (r.0 ∷ r.1) zero b v before.1 y z
          at columns (suc j) b v y z = side (assigned_at r more r.1 j v z)
            where
              here : slice_get (columns_of c t) (suc j) ≡ Some b
              here = ap (λ ds. slice_get ds (suc j)) columns ∙ y

              side : (is_assigned more (suc j) ≡ false) × (slice_get r.1 j ≡ Some v) ⊎ Given r more (suc j) v → is_ok X b v ≡ true
              side (inl w) = fits_at X d.columns (r.0 ∷ r.1) (suc j) b v before.1 y w.1
              side (inr w) = and_from _ _ (and_from _ _ of_kind (has_value _ b.not_null (is_null v) (second_not (is_assigned more (suc j)) _ set (not_bad (assigned_lacks_value more) full (suc j) b v here z))))
                  (not-false _ (second_not (is_assigned more (suc j)) _ set (not_bad (assigned_lacks_row X more) there (suc j) b v here z)))
                where
                  set : is_assigned more (suc j) ≡ true
                  set = is_assigned_by more w.0 (suc j) w.1 w.2

                  fitting : source_fits (columns_of c t) w.0.source b ≡ true
                  fitting = subst (λ o. option_map_or (source_fits (columns_of c t) w.0.source) o false ≡ true) (ap (slice_get (columns_of c t)) w.2 ∙ here)
                      (and_parts (nat_lt 0 w.0.column) (column_passes (source_fits (columns_of c t) w.0.source) (columns_of c t) w.0.column) (all_in (assignment_fits (columns_of c t)) more w.0 h w.1)).1

                  of_kind : has_kind b.kind v ≡ true
                  of_kind = by_source w.0.source fitting w.3
                    where
                      by_source : (o : Source A) → source_fits (columns_of c t) o b ≡ true → v ≡ given r o → has_kind b.kind v ≡ true
                      by_source (Literal l) q g' = subst (λ x. has_kind b.kind x ≡ true) (sym g') q
                      by_source (Sum n m) q g' = subst (λ x. has_kind b.kind x ≡ true) (sym g') (number_fits b (field r n) m (and_parts (is_bigint b.kind) _ q).0
                          (subst (λ x. out_of_range x ≡ false) g' (second_not (is_assigned more (suc j)) _ set (not_bad (assigned_out_of_range more) small (suc j) b v here z))))

  -- ---- DELETE

  none_table : (t : ℕ) (gone : List (Row A)) (u : ℕ) (c : Catalog) (X : Tables A) (i : ℕ) (d : TableSchema) (r : Row A) → least_table t gone u c X ≡ None → slice_get c i ≡ Some d → In r (rows_of X i) → names_one t gone d.columns (cells r) ≡ false
  none_table t gone u [] X i d r h e j = cc
  none_table t gone u (b ∷ c) [] i d r h e j = absurd (nowhere i j)
    where
      nowhere : (n : ℕ) → In r (rows_of [] n) → ⊥
      nowhere n k = k
  none_table t gone u (b ∷ c) (rows ∷ X) i d r h e j = go (list_any (λ row. names_one t gone b.columns (cells row)) rows) refl h i e j (none_table t gone (suc u) c X)
    where
      none_in : (rs : List (Row A)) → list_any (λ row. names_one t gone b.columns (cells row)) rs ≡ false → In r rs → names_one t gone b.columns (cells r) ≡ false
      none_in [] f k = absurd k
      none_in (y ∷ rs) f (inl p) = ap (λ (z : Row A). names_one t gone b.columns (cells z)) p ∙ (or_parts (names_one t gone b.columns (cells y)) _ f).0
      none_in (y ∷ rs) f (inr k) = none_in rs (or_parts (names_one t gone b.columns (cells y)) _ f).1 k

      go : (z : Bool) → list_any (λ row. names_one t gone b.columns (cells row)) rows ≡ z → cond z (Some u) (least_table t gone (suc u) c X) ≡ None → (n : ℕ) → slice_get (b ∷ c) n ≡ Some d → In r (rows_of (rows ∷ X) n)
          → ((n : ℕ) (d : TableSchema) (r : Row A) → least_table t gone (suc u) c X ≡ None → slice_get c n ≡ Some d → In r (rows_of X n) → names_one t gone d.columns (cells r) ≡ false) → names_one t gone d.columns (cells r) ≡ false
      go true q f n g k rest = cc
      go false q f zero g k rest = let p : b ≡ d = cc in subst (λ (y : TableSchema). names_one t gone y.columns (cells r) ≡ false) p (none_in rows q k)
      go false q f (suc n) g k rest = rest n d r f g k

  names_none_at : (t : ℕ) (gone : List (Row A)) (ds : List Column) (vs : List (Value A)) (i : ℕ) (d : Column) (v : Value A) → names_one t gone ds vs ≡ false → slice_get ds i ≡ Some d → slice_get vs i ≡ Some v
      → (references t d && is_gone gone v) ≡ false
  names_none_at t gone [] vs i d v h e f = cc
  names_none_at t gone (b ∷ ds) [] i d v h e f = cc
  names_none_at t gone (b ∷ ds) (u ∷ vs) zero d v h e f = let p : b ≡ d = cc in let q : u ≡ v = cc in
      subst (λ x. (references t x && is_gone gone v) ≡ false) p (subst (λ x. (references t b && is_gone gone x) ≡ false) q (or_parts (references t b && is_gone gone u) (names_one t gone ds vs) h).0)
  names_none_at t gone (b ∷ ds) (u ∷ vs) (suc i) d v h e f = names_none_at t gone ds vs i d v (or_parts (references t b && is_gone gone u) (names_one t gone ds vs) h).1 e f

  deleted_sound : (c : Catalog) (t : ℕ) (rows : List (Row A)) (X : Tables A) → Sound c X → ((r : Row A) → In r rows → not (is_null r.0) ≡ true) → Sound c (put_all (deleted c t rows X).changes X)
  deleted_sound c t rows X s keys = table_or (λ xs. Sound c (put_all xs X)) code.ForeignKeyViolation (least_table t rows 0 c X) (writes_rows c X (Deleted (length rows)) (map (removes t) rows)) s kept
    where
      gone : List (Change A)
      gone = map (λ row. record { table = t; key = row.0; fields = None }) rows

      within : (u : ℕ) (d : TableSchema) (b : Catalog) → slice_get b u ≡ Some d → u < length b
      within u d [] e = cc
      within zero d (x ∷ b) e = omega arith
      within (suc u) d (x ∷ b) e = omega (arith, within u d b e)

      two_ways : (m n : ℕ) → (m ≤ n) ⊎ (n < m)
      two_ways m n = grind arith

      kept : least_table t rows 0 c X ≡ None → Sound c (put_all gone X)
      kept none = record {
        count = length-put_all gone X ∙ s.count;
        ordered = put_all-ordered gone X s.ordered;
        rows = λ u d e k fields f. row u d e k fields (within u d c e) f;
      }
        where
          Left : ℕ → Value A → Type 0
          Left u k = (r : Row A) × In r rows × (t ≡ u) × (k ≡ r.0)

          -- what a key has is what it had, or it is gone
          before : (u : ℕ) (k : Value A) → u < length X → (row_at (put_all gone X) u k ≡ row_at X u k) ⊎ (row_at (put_all gone X) u k ≡ None) × Left u k
          before u k l = go (left_by u k gone) refl
            where
              go : (o : Option (Option (List (Value A)))) → left_by u k gone ≡ o → (row_at (put_all gone X) u k ≡ row_at X u k) ⊎ (row_at (put_all gone X) u k ≡ None) × Left u k
              go None q = inl (row_at-put_all gone X u k l ∙ ap (λ o. unwrap_or o (row_at X u k)) q)
              go (Some None) q = let w = left_map t (λ row. None) rows u k None q in inr (row_at-put_all gone X u k l ∙ ap (λ o. unwrap_or o (row_at X u k)) q, (w.0, w.1, w.2, w.3))
              go (Some (Some z)) q = let w = left_map t (λ row. None) rows u k (Some z) q in absurd (apart w.4)
                where
                  apart : None ≡ Some z → ⊥
                  apart e = cc

          row : (u : ℕ) (d : TableSchema) → slice_get c u ≡ Some d → (k : Value A) (fields : List (Value A)) → u < length c → row_at (put_all gone X) u k ≡ Some fields → row_ok (put_all gone X) d k fields ≡ true
          row u d e k fields l f = side (before u k (omega (arith, l, s.count)))
            where
              side : (row_at (put_all gone X) u k ≡ row_at X u k) ⊎ (row_at (put_all gone X) u k ≡ None) × Left u k → row_ok (put_all gone X) d k fields ≡ true
              side (inr p) = absurd (apart (sym p.0 ∙ f))
                where
                  apart : None ≡ Some fields → ⊥
                  apart q = cc
              side (inl p) = and_from _ _ old.0 (fits_by (put_all gone X) d.columns (k ∷ fields) (fits_count X d.columns (k ∷ fields) old.1) (λ i b v y z. one i b v y z (fits_at X d.columns (k ∷ fields) i b v old.1 y z)))
                where
                  had : row_at X u k ≡ Some fields
                  had = sym p ∙ f

                  old : (not (is_null k) ≡ true) × (fits_columns X d.columns (k ∷ fields) ≡ true)
                  old = and_parts (not (is_null k)) (fits_columns X d.columns (k ∷ fields)) (s.rows u d e k fields had)

                  unnamed : names_one t rows d.columns (k ∷ fields) ≡ false
                  unnamed = none_table t rows 0 c X u d (k, fields) none e (found_in (rows_of X u) k fields had)

                  one : (i : ℕ) (b : Column) (v : Value A) → slice_get d.columns i ≡ Some b → slice_get (k ∷ fields) i ≡ Some v → is_ok X b v ≡ true → is_ok (put_all gone X) b v ≡ true
                  one i b v y z h = let q = and_parts (has_kind b.kind v && not (b.not_null && is_null v)) (is_there X b v) h in and_from _ _ q.0 (there (is_null v) refl b.references refl q.1)
                    where
                      there : (n : Bool) → is_null v ≡ n → (o : Option ℕ) → b.references ≡ o → is_there X b v ≡ true → is_there (put_all gone X) b v ≡ true
                      there true m o r g = ap (λ w. w || option_map_or (λ a. is_some (row_at (put_all gone X) a v)) b.references true) m
                      there false m None r g = ap (λ w. w || option_map_or (λ a. is_some (row_at (put_all gone X) a v)) b.references true) m ∙ ap (λ w. option_map_or (λ a. is_some (row_at (put_all gone X) a v)) w true) r
                      there false m (Some a) r g = ap (λ w. w || option_map_or (λ a. is_some (row_at (put_all gone X) a v)) b.references true) m ∙ ap (λ w. option_map_or (λ a. is_some (row_at (put_all gone X) a v)) w true) r ∙ target (two_ways (length X) a)
                        where
                          held : is_some (row_at X a v) ≡ true
                          held = sym (ap (λ w. w || option_map_or (λ a. is_some (row_at X a v)) b.references true) m ∙ ap (λ w. option_map_or (λ a. is_some (row_at X a v)) w true) r) ∙ g

                          target : (length X ≤ a) ⊎ (a < length X) → is_some (row_at (put_all gone X) a v) ≡ true
                          target (inl l') = absurd (true≢false (sym held ∙ ap (λ rs. is_some (find value_cmp v rs)) (rows_of-past X a l')))
                          target (inr l') = still (before a v l')
                            where
                              still : (row_at (put_all gone X) a v ≡ row_at X a v) ⊎ (row_at (put_all gone X) a v ≡ None) × Left a v → is_some (row_at (put_all gone X) a v) ≡ true
                              still (inl x) = ap is_some x ∙ held
                              still (inr x) = absurd (true≢false (sym (and_from (references t b) (list_any (λ row. is_so row.0 is.Equal v) rows) refers (In-any (λ row. is_so row.0 is.Equal v) rows x.1.0 x.1.1 equal)) ∙ names_none_at t rows d.columns (k ∷ fields) i b v unnamed y z))
                                where
                                  refers : references t b ≡ true
                                  refers = ap (λ w. option_map_or (λ n. eqb n t) w false) r ∙ eq-eqb a t (sym x.1.2)

                                  equal : is_so x.1.0.0 is.Equal v ≡ true
                                  equal = and_from _ _ (and_from _ _ (keys x.1.0 x.1.1) (ap not m)) (subst (λ w. is_eq (value_cmp w v) ≡ true) x.1.3 (ap is_eq (tied_itself value_cmp-total v)))

  -- ---- any statement

  pub outcome_sound : (c : Catalog) (q : Statement A) (X : Tables A) → Fits c q → Sound c X → ((r : Row A) (t : ℕ) → In r (rows_of X t) → not (is_null r.0) ≡ true) → Sound c (after c q X)
  outcome_sound c (Select t p conditions) X f s keys = s
  outcome_sound c (Insert t values) X f s keys = inserted_sound c t values X s (and_parts (has_table c t) _ f).1
  outcome_sound c (Update t more conditions) X f s keys =
      let p = and_parts (has_table c t && list_all (assignment_fits (columns_of c t)) more && assigns_once more) (list_all (condition_fits (columns_of c t)) conditions) f in
      let q = and_parts (has_table c t && list_all (assignment_fits (columns_of c t)) more) (assigns_once more) p.0 in
      updated_sound c t more (chosen X t conditions) X s (λ r i. filter-in (satisfies conditions) (rows_of X t) r i) (and_parts (has_table c t) _ q.0).1
  outcome_sound c (Delete t conditions) X f s keys = deleted_sound c t (chosen X t conditions) X s (λ r i. keys r t (filter-in (satisfies conditions) (rows_of X t) r i))
