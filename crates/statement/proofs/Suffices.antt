-- The footprint suffices: a statement has one outcome on tables that agree where it reads.
use Rattle.std.proofs.Common.{◌≡◌, refl, sym, ap, subst, ◌∙◌, ℕ, zero, suc, ◌+◌, ◌<◌, Bool, true, false, true≢false, ◌≢◌, ◌≤◌, cond, not, ◌&&◌, ◌||◌, ◌⊎◌, inl, inr, List, [], ◌∷◌, ◌++◌, map, length, slice_get, slice_set, slice_index_or, Option, Some, None, is_some, eqb, nat_lt, T, arith}
use Rattle.std.proofs.lemmas.Bool.{eq-eqb, and_parts, or_left, or_right, and_from}
use Rattle.std.proofs.Math.Dec.{eqb-zero-suc, eqb-suc-zero, eqb-suc-suc}
use Rattle.std.specs.Ordering.{is_eq}
use Rattle.std.proofs.lemmas.Cmp.{tied_itself}
use Rattle.std.specs.List.{filter, list_any, list_all}
use Rattle.std.specs.Option.{option_map_or}
use Rattle.std.specs.FinMap.{find, put, is_sorted}
use Rattle.std.specs.FinMap.Entries.{same_entries, by_order}
use Rattle.value.specs.declared.value.Value.{Value}
use Rattle.value.specs.declared.value.Value.TheVariants.{Null}
use Rattle.value.specs.declared.refusal.Code.{Code}
use Rattle.value.specs.declared.refusal.Code.TheVariants as code
use Rattle.value.specs.Isolation.{first_some}
use Rattle.value.specs.Order.{value_cmp, value_cmp-total}
use Rattle.value.proofs.IsolationLemmas.{In}
use Rattle.value.proofs.Basics.{any-front, any-back, In-any}
use Rattle.schema.specs.Definition.{Column}
use Rattle.schema.specs.Definition.{TableSchema}
use Rattle.schema.specs.Definition.{Catalog}
use Rattle.schema.specs.declared.row.Row.{Row}
use Rattle.schema.specs.declared.changes.Change.{Change}
use Rattle.schema.specs.declared.tables.Tables.{Tables}
use Rattle.schema.specs.Plain.{same, is_null, cells, field, rows_of, row_at, columns_of, is_there, changed, put_in, put_all}
use Rattle.schema.proofs.PlainLemmas.{same_value, IsOrdered, rows_of-past, length-put_in}
use Rattle.std.proofs.lemmas.List.{get_or-set_same, get_or-set_other}
use Rattle.std.proofs.lemmas.Bool.Decides.{eqb_tells}
use Rattle.std.specs.Cmp.{both_ways}
use Rattle.std.specs.declared.cmp.Ordering.{Ordering}
use Rattle.std.specs.declared.cmp.Ordering.TheVariants.{Less, Equal, Greater}
use Rattle.statement.specs.declared.condition.Comparison.TheVariants as is
use Rattle.statement.specs.declared.statement.Source.{Source}
use Rattle.statement.specs.declared.statement.Source.TheVariants.{Literal, Sum}
use Rattle.statement.specs.declared.statement.Assignment.{Assignment}
use Rattle.statement.specs.declared.statement.Statement.{Statement}
use Rattle.statement.specs.declared.statement.Statement.TheVariants.{Select, Insert, Update, Delete}
use Rattle.statement.specs.declared.reply.Reply.TheVariants.{Inserted, Updated, Deleted, Rows}
use Rattle.statement.specs.declared.outcome.Mark.{Mark}
use Rattle.statement.specs.declared.outcome.Outcome.{Outcome}
use Rattle.statement.specs.declared.condition.Condition.{Condition}
use Rattle.statement.specs.declared.reading.Extent.TheVariants.{Whole, One, Range, Referencing}
use Rattle.statement.specs.declared.reading.Extent.{Extent}
use Rattle.statement.specs.declared.reading.Reading.{Reading}
use Rattle.statement.specs.Conditions.{chosen, is_so, satisfies}
use Rattle.statement.specs.Evaluation.{outcome, answers, shown, inserted, updated, deleted, lacks_value, lacks_row, least_column, first_bad, assigned_lacks_value, assigned_out_of_range, assigned_lacks_row, at_column, least_table, at_table, names_one, is_gone, references, is_assigned, assigned, set_field, given, updated_row, puts, removes, writes_rows, ◌or_else◌}
use Rattle.statement.specs.Marks.{marks_of, references_of}
use Rattle.statement.specs.Footprint.{footprint, in_table, extents_of, reads_named, reads_fields, reads_assigned, reads_assignments, rows_naming, reads_columns, reads_referencing, reads_inserted, column_at}
use Rattle.statement.specs.Cover.{has_key, has_reference, is_whole}
use Rattle.statement.specs.Agreement.{Agree, if_naming, row_naming}
use Rattle.statement.specs.Fits.{Fits, literals_fit, assignment_fits, assigns_once, has_table, column_passes, source_fits, condition_fits, takes}
use Rattle.statement.proofs.CoverLemmas.{all_in}
use Rattle.statement.proofs.MarksLemmas.{SameAt, marks_of-same}
use Rattle.statement.proofs.RowsLemmas.{HasKeys, same_chosen, there, read_there, chosen_in_extents, found_in, value_exact}
use Rattle.schema.proofs.SoundLemmas.{found_row}

column_there : (ds : List Column) (n : ℕ) (d : Column) → slice_get ds n ≡ Some d → column_at ds n ≡ d ∷ []
column_there [] n d e = cc
column_there (x ∷ ds) zero d e = let p : x ≡ d = cc in ap (λ y. y ∷ []) p
column_there (x ∷ ds) (suc n) d e = column_there ds n d e

first_same : {A B C : Type 0} (g : C → A) (p q : A → Option B) → ((x : C) → p (g x) ≡ q (g x)) → (xs : List C) → first_some p (map g xs) ≡ first_some q (map g xs)
first_same g p q f [] = refl
first_same g p q f (x ∷ xs) = ap (λ o. cond (is_some o) o (first_some p (map g xs))) (f x) ∙ ap (cond (is_some (q (g x))) (q (g x))) (first_same g p q f xs)

all_map : {A B : Type 0} (f : A → B) (p : B → Bool) (q : A → Bool) → ((x : A) → p (f x) ≡ q x) → (xs : List A) → list_all q xs ≡ true → list_all p (map f xs) ≡ true
all_map f p q e [] h = refl
all_map f p q e (x ∷ xs) h = let r = and_parts (q x) (list_all q xs) h in and_from _ _ (e x ∙ r.0) (all_map f p q e xs r.1)

all_filter : {A : Type 0} (p q : A → Bool) (xs : List A) → list_all q xs ≡ true → list_all q (filter p xs) ≡ true
all_filter p q [] h = refl
all_filter p q (x ∷ xs) h = go (p x) (and_parts (q x) (list_all q xs) h) (all_filter p q xs)
  where
    go : (b : Bool) → (q x ≡ true) × (list_all q xs ≡ true) → (list_all q xs ≡ true → list_all q (filter p xs) ≡ true) → list_all q (cond b (x ∷ filter p xs) (filter p xs)) ≡ true
    go true r rest = and_from _ _ r.0 (rest r.1)
    go false r rest = rest r.1

module _ {A : Type 0} where
  front : (rs qs : List (Reading A)) (X Y : Tables A) → Agree (rs ++ qs) X Y → Agree rs X Y
  front rs qs X Y a = record { at = λ t k h. a.at t k (any-front _ rs qs h); naming = λ t j k h. a.naming t j k (any-front _ rs qs h) }

  back : (rs qs : List (Reading A)) (X Y : Tables A) → Agree (rs ++ qs) X Y → Agree qs X Y
  back rs qs X Y a = record { at = λ t k h. a.at t k (any-back _ rs qs h); naming = λ t j k h. a.naming t j k (any-back _ rs qs h) }

  pub same_itself : (v : Value A) → same v v ≡ true
  same_itself v = ap is_eq (tied_itself value_cmp-total v)

  -- one key read
  one_read : (u : ℕ) (v : Value A) (X Y : Tables A) → Agree (in_table u (One v ∷ [])) X Y → row_at X u v ≡ row_at Y u v
  one_read u v X Y a = a.at u v (read_there u v (One v ∷ []) (or_left (same v v) false (same_itself v)))

  whole_read : (u : ℕ) (v : Value A) (X Y : Tables A) → Agree (in_table u (Whole ∷ [])) X Y → row_at X u v ≡ row_at Y u v
  whole_read u v X Y a = a.at u v (read_there u v (Whole ∷ []) refl)

  -- ---- references

  there_by : (X Y : Tables A) (d : Column) (v : Value A) → is_null v ≡ true ⊎ ((u : ℕ) → d.references ≡ Some u → row_at X u v ≡ row_at Y u v) → is_there X d v ≡ is_there Y d v
  there_by X Y d v (inl n) = ap (λ b. b || option_map_or (λ t. is_some (row_at X t v)) d.references true) n ∙ sym (ap (λ b. b || option_map_or (λ t. is_some (row_at Y t v)) d.references true) n)
  there_by X Y d v (inr f) = ap (λ b. is_null v || b) (go d.references f)
    where
      go : (o : Option ℕ) → ((u : ℕ) → o ≡ Some u → row_at X u v ≡ row_at Y u v) → option_map_or (λ t. is_some (row_at X t v)) o true ≡ option_map_or (λ t. is_some (row_at Y t v)) o true
      go None g = refl
      go (Some u) g = ap is_some (g u refl)

  there_named : (X Y : Tables A) (d : Column) (v : Value A) → Agree (reads_named d v) X Y → is_there X d v ≡ is_there Y d v
  there_named X Y d v a = go (is_null v) refl
    where
      go : (b : Bool) → is_null v ≡ b → is_there X d v ≡ is_there Y d v
      go true n = there_by X Y d v (inl n)
      go false n = there_by X Y d v (inr (λ u e. one_read u v X Y (subst (λ rs. Agree rs X Y) (ap (λ b. cond b [] (option_map_or (λ u. in_table u (One v ∷ [])) d.references [])) n ∙ ap (λ o. option_map_or (λ u. in_table u (One v ∷ [])) o []) e) a)))

  -- two tests that agree at each column find the same one
  same_column : (p q : ℕ → Column → Value A → Bool) (n : ℕ) (ds : List Column) (vs : List (Value A)) → ((i : ℕ) (d : Column) (v : Value A) → slice_get ds i ≡ Some d → slice_get vs i ≡ Some v → p (n + i) d v ≡ q (n + i) d v) → least_column p n ds vs ≡ least_column q n ds vs
  same_column p q n [] vs f = refl
  same_column p q n (d ∷ ds) [] f = refl
  same_column p q n (d ∷ ds) (v ∷ vs) f =
      let here : p n d v ≡ q n d v = subst (λ m. p m d v ≡ q m d v) (plus_zero n) (f 0 d v refl refl) in
      let rest : least_column p (suc n) ds vs ≡ least_column q (suc n) ds vs = same_column p q (suc n) ds vs (λ i d' v' a b. subst (λ m. p m d' v' ≡ q m d' v') (plus_suc n i) (f (suc i) d' v' a b)) in
      ap (λ b. cond b (Some n) (least_column p (suc n) ds vs)) here ∙ ap (cond (q n d v) (Some n)) rest
    where
      plus_zero : (m : ℕ) → m + 0 ≡ m
      plus_zero m = omega arith

      plus_suc : (m i : ℕ) → m + suc i ≡ suc m + i
      plus_suc m i = omega arith

  -- ---- INSERT

  there_fields : (X Y : Tables A) (n : ℕ) (ds : List Column) (vs : List (Value A)) → Agree (reads_fields ds vs) X Y → least_column (lacks_row X) n ds vs ≡ least_column (lacks_row Y) n ds vs
  there_fields X Y n [] vs a = refl
  there_fields X Y n (d ∷ ds) [] a = refl
  there_fields X Y n (d ∷ ds) (v ∷ vs) a =
      ap (λ b. cond (not b) (Some n) (least_column (lacks_row X) (suc n) ds vs)) (there_named X Y d v (front (reads_named d v) (reads_fields ds vs) X Y a))
      ∙ ap (cond (not (is_there Y d v)) (Some n)) (there_fields X Y (suc n) ds vs (back (reads_named d v) (reads_fields ds vs) X Y a))

  -- no row has a null key
  null_key : (X : Tables A) (t : ℕ) (k : Value A) → HasKeys X → is_null k ≡ true → row_at X t k ≡ None
  null_key X t k h e = go (rows_of X t) (h.each t)
    where
      apart : (r : Row A) → is_null r.0 ≡ false → same k r.0 ≡ false
      apart r n = side (same k r.0) refl
        where
          side : (b : Bool) → same k r.0 ≡ b → same k r.0 ≡ false
          side true s = absurd (true≢false (sym e ∙ ap is_null (same_value k r.0 s) ∙ n))
          side false s = s

      flip : (c : Bool) → not c ≡ true → c ≡ false
      flip true h = absurd (true≢false (sym h))
      flip false h = refl

      go : (rows : List (Row A)) → list_all (λ row. not (is_null row.0)) rows ≡ true → find value_cmp k rows ≡ None
      go [] g = refl
      go (r ∷ rows) g =
          let p = and_parts (not (is_null r.0)) (list_all (λ row. not (is_null row.0)) rows) g in
          ap (λ b. cond b (Some r.1) (find value_cmp k rows)) (apart r (flip (is_null r.0) p.0)) ∙ go rows p.1

  inserted_same : (c : Catalog) (t : ℕ) (values : List (Value A)) (X Y : Tables A) → HasKeys X → HasKeys Y → Agree (reads_inserted t values ++ reads_fields (columns_of c t) values) X Y → inserted c t values X ≡ inserted c t values Y
  inserted_same c t [] X Y kx ky a = refl
  inserted_same c t (k ∷ fields) X Y kx ky a =
      ap (λ o. made o (least_column (lacks_row X) 0 (columns_of c t) (k ∷ fields))) key_same
      ∙ ap (made (row_at Y t k)) (there_fields X Y 0 (columns_of c t) (k ∷ fields) (back (reads_inserted t (k ∷ fields)) (reads_fields (columns_of c t) (k ∷ fields)) X Y a))
    where
      made : Option (List (Value A)) → Option ℕ → Outcome A
      made o n =
          at_column code.NotNullViolation (least_column lacks_value 0 (columns_of c t) (k ∷ fields))
          or_else at_column code.UniqueViolation (cond (is_some o) (Some 0) None)
          or_else at_column code.ForeignKeyViolation n
          or_else record { reply = Inserted; changes = puts t (k, fields) ∷ []; marks = (references_of t (columns_of c t) k o ++ references_of t (columns_of c t) k (Some fields)) ++ [] }

      key_same : row_at X t k ≡ row_at Y t k
      key_same = go (is_null k) refl
        where
          go : (b : Bool) → is_null k ≡ b → row_at X t k ≡ row_at Y t k
          go true n = null_key X t k kx n ∙ sym (null_key Y t k ky n)
          go false n = one_read t k X Y (subst (λ rs. Agree rs X Y) (ap (λ b. cond b [] (in_table t (One k ∷ []))) n) (front (reads_inserted t (k ∷ fields)) (reads_fields (columns_of c t) (k ∷ fields)) X Y a))

  -- ---- UPDATE

  pub get-set : (vs : List (Value A)) (j m : ℕ) (w v : Value A) → slice_get (slice_set vs j w) m ≡ Some v → (j ≡ m) × (v ≡ w) ⊎ (eqb j m ≡ false) × (slice_get vs m ≡ Some v)
  get-set [] j m w v e = cc
  get-set (x ∷ vs) zero zero w v e = inl (refl, cc)
  get-set (x ∷ vs) zero (suc m) w v e = inr (eqb-zero-suc m, e)
  get-set (x ∷ vs) (suc j) zero w v e = inr (eqb-suc-zero j, e)
  get-set (x ∷ vs) (suc j) (suc m) w v e = go (get-set vs j m w v e)
    where
      go : (j ≡ m) × (v ≡ w) ⊎ (eqb j m ≡ false) × (slice_get vs m ≡ Some v) → (suc j ≡ suc m) × (v ≡ w) ⊎ (eqb (suc j) (suc m) ≡ false) × (slice_get vs m ≡ Some v)
      go (inl p) = inl (ap suc p.0, p.1)
      go (inr p) = inr (eqb-suc-suc j m ∙ p.0, p.1)

  -- a field after the assignments was there before, or was given by one of them
  abbrev pub Given : Row A → List (Assignment A) → ℕ → Value A → Type 0
  Given row more n v = (a : Assignment A) × In a more × (a.column ≡ n) × (v ≡ given row a.source)

  pub assigned_at : (row : Row A) (more : List (Assignment A)) (fields : List (Value A)) (m : ℕ) (v : Value A) → slice_get (assigned row more fields) m ≡ Some v
      → (is_assigned more (suc m) ≡ false) × (slice_get fields m ≡ Some v) ⊎ Given row more (suc m) v
  assigned_at row [] fields m v e = inl (refl, e)
  assigned_at row (a ∷ more) fields m v e = go (assigned_at row more (set_field a.column (given row a.source) fields) m v e)
    where
      set_cases : (n : ℕ) → a.column ≡ n → is_assigned more (suc m) ≡ false → slice_get (set_field n (given row a.source) fields) m ≡ Some v → ((eqb a.column (suc m) || is_assigned more (suc m)) ≡ false) × (slice_get fields m ≡ Some v) ⊎ Given row (a ∷ more) (suc m) v
      set_cases zero p f g = inl (ap (λ n. eqb n (suc m) || is_assigned more (suc m)) p ∙ ap (λ b. b || is_assigned more (suc m)) (eqb-zero-suc m) ∙ f, g)
      set_cases (suc j) p f g = at (get-set fields j m (given row a.source) v g)
        where
          at : (j ≡ m) × (v ≡ given row a.source) ⊎ (eqb j m ≡ false) × (slice_get fields m ≡ Some v) → ((eqb a.column (suc m) || is_assigned more (suc m)) ≡ false) × (slice_get fields m ≡ Some v) ⊎ Given row (a ∷ more) (suc m) v
          at (inl q) = inr (a, inl refl, p ∙ ap suc q.0, q.1)
          at (inr q) = inl (ap (λ n. eqb n (suc m) || is_assigned more (suc m)) p ∙ ap (λ b. b || is_assigned more (suc m)) (eqb-suc-suc j m ∙ q.0) ∙ f, q.1)

      go : (is_assigned more (suc m) ≡ false) × (slice_get (set_field a.column (given row a.source) fields) m ≡ Some v) ⊎ Given row more (suc m) v
          → ((eqb a.column (suc m) || is_assigned more (suc m)) ≡ false) × (slice_get fields m ≡ Some v) ⊎ Given row (a ∷ more) (suc m) v
      go (inl p) = set_cases a.column refl p.0 p.1
      go (inr g) = inr (g.0, inr g.1, g.2, g.3)

  reads_one : (ds : List Column) (more : List (Assignment A)) (a : Assignment A) (X Y : Tables A) → In a more → Agree (reads_assignments ds more) X Y → Agree (reads_assigned (column_at ds a.column) a.source) X Y
  reads_one ds [] a X Y i g = absurd i
  reads_one ds (b ∷ more) a X Y (inl p) g = subst (λ (c : Assignment A). Agree (reads_assigned (column_at ds c.column) c.source) X Y) (sym p) (front (reads_assigned (column_at ds b.column) b.source) (reads_assignments ds more) X Y g)
  reads_one ds (b ∷ more) a X Y (inr i) g = reads_one ds more a X Y i (back (reads_assigned (column_at ds b.column) b.source) (reads_assignments ds more) X Y g)

  there_source : (X Y : Tables A) (d : Column) (row : Row A) (s : Source A) (v : Value A) → v ≡ given row s → Agree (reads_assigned (d ∷ []) s) X Y → is_there X d v ≡ is_there Y d v
  there_source X Y d row (Literal w) v e a = subst (λ u. is_there X d u ≡ is_there Y d u) (sym e) (there_named X Y d w a)
  there_source X Y d row (Sum n m) v e a = there_by X Y d v (inr (λ u r. whole_read u v X Y (subst (λ rs. Agree rs X Y) (ap (λ o. option_map_or (λ u. in_table u (Whole ∷ [])) o []) r) a)))

  updated_there : (c : Catalog) (t : ℕ) (more : List (Assignment A)) (row : Row A) (X Y : Tables A) → is_assigned more 0 ≡ false → Agree (reads_assignments (columns_of c t) more) X Y
      → least_column (assigned_lacks_row X more) 0 (columns_of c t) (cells (updated_row more row)) ≡ least_column (assigned_lacks_row Y more) 0 (columns_of c t) (cells (updated_row more row))
  updated_there c t more row X Y key a = same_column _ _ 0 (columns_of c t) (cells (updated_row more row)) (λ i d v e f. subst (λ n. (is_assigned more n && not (is_there X d v)) ≡ (is_assigned more n && not (is_there Y d v))) (zero_plus i) (at i d v e f))
    where
      zero_plus : (i : ℕ) → i ≡ 0 + i
      zero_plus i = omega arith

      at : (i : ℕ) (d : Column) (v : Value A) → slice_get (columns_of c t) i ≡ Some d → slice_get (cells (updated_row more row)) i ≡ Some v → (is_assigned more i && not (is_there X d v)) ≡ (is_assigned more i && not (is_there Y d v))
      at zero d v e f = ap (λ b. b && not (is_there X d v)) key ∙ sym (ap (λ b. b && not (is_there Y d v)) key)
      at (suc m) d v e f = go (assigned_at row more row.1 m v f)
        where
          go : (is_assigned more (suc m) ≡ false) × (slice_get row.1 m ≡ Some v) ⊎ Given row more (suc m) v → (is_assigned more (suc m) && not (is_there X d v)) ≡ (is_assigned more (suc m) && not (is_there Y d v))
          go (inl p) = ap (λ b. b && not (is_there X d v)) p.0 ∙ sym (ap (λ b. b && not (is_there Y d v)) p.0)
          go (inr g) = ap (λ b. is_assigned more (suc m) && not b) (there_source X Y d row g.0.source v g.3
              (subst (λ ds. Agree (reads_assigned ds g.0.source) X Y) (ap (column_at (columns_of c t)) g.2 ∙ column_there (columns_of c t) (suc m) d e) (reads_one (columns_of c t) more g.0 X Y g.1 a)))

  updated_same : (c : Catalog) (t : ℕ) (more : List (Assignment A)) (rows : List (Row A)) (X Y : Tables A) → is_assigned more 0 ≡ false → SameAt t rows X Y → Agree (reads_assignments (columns_of c t) more) X Y → updated c t more rows X ≡ updated c t more rows Y
  updated_same c t more rows X Y key keys a =
      ap (λ o. made o (marks_of c X (map (λ row. puts t (updated_row more row)) rows))) (first_same (updated_row more) (λ x. least_column (assigned_lacks_row X more) 0 (columns_of c t) (cells x)) (λ x. least_column (assigned_lacks_row Y more) 0 (columns_of c t) (cells x)) (λ row. updated_there c t more row X Y key a) rows)
      ∙ ap (made (first_bad (assigned_lacks_row Y more) (columns_of c t) (map (updated_row more) rows))) (marks_of-same c t (λ row. Some (updated_row more row).1) rows X Y keys)
    where
      made : Option ℕ → List (Mark A) → Outcome A
      made o ms =
          at_column code.NotNullViolation (first_bad (assigned_lacks_value more) (columns_of c t) (map (updated_row more) rows))
          or_else at_column code.NumericValueOutOfRange (first_bad (assigned_out_of_range more) (columns_of c t) (map (updated_row more) rows))
          or_else at_column code.ForeignKeyViolation o
          or_else record { reply = Updated (length rows); changes = map (λ row. puts t (updated_row more row)) rows; marks = ms }

  -- ---- DELETE

  names_none : (t : ℕ) (gone : List (Row A)) (ds : List Column) (vs : List (Value A)) → list_any (references t) ds ≡ false → names_one t gone ds vs ≡ false
  names_none t gone [] vs e = refl
  names_none t gone (d ∷ ds) [] e = refl
  names_none t gone (d ∷ ds) (v ∷ vs) e = go (references t d) (names_none t gone ds vs) e
    where
      go : (b : Bool) → (list_any (references t) ds ≡ false → names_one t gone ds vs ≡ false) → (b || list_any (references t) ds) ≡ false → ((b && is_gone gone v) || names_one t gone ds vs) ≡ false
      go true rest g = absurd (true≢false g)
      go false rest g = rest g

  none_gone : (t : ℕ) (ds : List Column) (vs : List (Value A)) → names_one t [] ds vs ≡ false
  none_gone t [] vs = refl
  none_gone t (d ∷ ds) [] = refl
  none_gone t (d ∷ ds) (v ∷ vs) = ap (λ b. b || names_one t [] ds vs) (never (references t d)) ∙ none_gone t ds vs
    where
      never : (b : Bool) → (b && false) ≡ false
      never true = refl
      never false = refl

  none_of : (p : Row A → Bool) → ((r : Row A) → p r ≡ false) → (rows : List (Row A)) → list_any p rows ≡ false
  none_of p f [] = refl
  none_of p f (r ∷ rows) = ap (λ b. b || list_any p rows) (f r) ∙ none_of p f rows

  -- a row names a key that goes by one of its columns
  record Naming (t : ℕ) (gone : List (Row A)) (ds : List Column) (vs : List (Value A)) : Type 0 where
    j : ℕ
    d : Column
    v : Value A
    column : slice_get ds j ≡ Some d
    value : slice_get vs j ≡ Some v
    refers_to : references t d ≡ true
    goes : is_gone gone v ≡ true

  naming_of : (t : ℕ) (gone : List (Row A)) (ds : List Column) (vs : List (Value A)) → names_one t gone ds vs ≡ true → Naming t gone ds vs
  naming_of t gone [] vs e = absurd (true≢false (sym e))
  naming_of t gone (d ∷ ds) [] e = absurd (true≢false (sym e))
  naming_of t gone (d ∷ ds) (v ∷ vs) e = go (references t d) refl (is_gone gone v) refl (naming_of t gone ds vs) e
    where
      later : Naming t gone ds vs → Naming t gone (d ∷ ds) (v ∷ vs)
      later n = record { j = suc n.j; d = n.d; v = n.v; column = n.column; value = n.value; refers_to = n.refers_to; goes = n.goes }

      go : (a : Bool) → references t d ≡ a → (b : Bool) → is_gone gone v ≡ b → (names_one t gone ds vs ≡ true → Naming t gone ds vs) → ((a && b) || names_one t gone ds vs) ≡ true → Naming t gone (d ∷ ds) (v ∷ vs)
      go true p true q rest g = record { j = 0; d = d; v = v; column = refl; value = refl; refers_to = p; goes = q }
      go true p false q rest g = later (rest g)
      go false p b q rest g = later (rest g)

  -- what goes has this key
  gone_key : (gone : List (Row A)) (k v : Value A) → list_all (λ row. list_any (has_key row.0) (One k ∷ [])) gone ≡ true → is_gone gone v ≡ true → same k v ≡ true
  gone_key [] k v h e = absurd (true≢false (sym e))
  gone_key (r ∷ gone) k v h e = go (is_so r.0 is.Equal v) refl (gone_key gone k v) e
    where
      p : (list_any (has_key r.0) (One k ∷ []) ≡ true) × (list_all (λ row. list_any (has_key row.0) (One k ∷ [])) gone ≡ true)
      p = and_parts _ _ h

      its_key : same k r.0 ≡ true
      its_key = front_true (same k r.0) p.0
        where
          front_true : (b : Bool) → (b || false) ≡ true → b ≡ true
          front_true true e = refl
          front_true false e = e

      go : (b : Bool) → is_so r.0 is.Equal v ≡ b → (list_all (λ row. list_any (has_key row.0) (One k ∷ [])) gone ≡ true → is_gone gone v ≡ true → same k v ≡ true) → (b || is_gone gone v) ≡ true → same k v ≡ true
      go true q rest g = subst (λ x. same x v ≡ true) (sym (same_value k r.0 its_key)) (and_parts (not (is_null r.0) && not (is_null v)) (is_eq (value_cmp r.0 v)) q).1
      go false q rest g = rest p.1 g

  get_index : (vs : List (Value A)) (j : ℕ) (v : Value A) → slice_get vs j ≡ Some v → slice_index_or vs j Null ≡ v
  get_index [] j v e = cc
  get_index (x ∷ vs) zero v e = cc
  get_index (x ∷ vs) (suc j) v e = get_index vs j v e

  -- the rows with k are read by each column that references t
  rows_naming_has : (k : Value A) (t n : ℕ) (ds : List Column) (j : ℕ) (d : Column) → slice_get ds j ≡ Some d → references t d ≡ true → list_any (has_reference (n + j) k) (rows_naming k t n ds) ≡ true
  rows_naming_has k t n [] j d e r = cc
  rows_naming_has k t n (b ∷ ds) zero d e r =
      let p : b ≡ d = cc in
      ap (λ z. list_any (has_reference (n + 0) k) (cond z (Referencing n k ∷ rows_naming k t (suc n) ds) (rows_naming k t (suc n) ds))) (ap (references t) p ∙ r)
      ∙ or_left (eqb n (n + 0) && same k k) _ (and_from _ _ (eq-eqb n (n + 0) (omega arith)) (same_itself k))
  rows_naming_has k t n (b ∷ ds) (suc j) d e r = go (references t b) (subst (λ m. list_any (has_reference m k) (rows_naming k t (suc n) ds) ≡ true) (plus_suc n j) (rows_naming_has k t (suc n) ds j d e r))
    where
      plus_suc : (m i : ℕ) → suc m + i ≡ m + suc i
      plus_suc m i = omega arith

      go : (z : Bool) → list_any (has_reference (n + suc j) k) (rows_naming k t (suc n) ds) ≡ true → list_any (has_reference (n + suc j) k) (cond z (Referencing n k ∷ rows_naming k t (suc n) ds) (rows_naming k t (suc n) ds)) ≡ true
      go true g = or_right (has_reference (n + suc j) k (Referencing n k)) _ g
      go false g = g

  -- what is read of a table's columns is read of the table
  referencing_read : (p : Extent A → Bool) (es : List (Extent A)) (t u : ℕ) (c : Catalog) (i : ℕ) (d : TableSchema) → slice_get c i ≡ Some d → list_any p (reads_columns es t d.columns) ≡ true → list_any (λ r. eqb r.table (u + i) && p r.extent) (reads_referencing es t u c) ≡ true
  referencing_read p es t u [] i d e h = cc
  referencing_read p es t u (x ∷ c) zero d e h =
      let q : x ≡ d = cc in
      any-front _ (in_table u (reads_columns es t x.columns)) (reads_referencing es t (suc u) c)
      (subst (λ n. list_any (λ r. eqb r.table n && p r.extent) (in_table u (reads_columns es t x.columns)) ≡ true) (plus_zero u) (there p u (reads_columns es t x.columns) (ap (λ (y : TableSchema). list_any p (reads_columns es t y.columns)) q ∙ h)))
    where
      plus_zero : (m : ℕ) → m ≡ m + 0
      plus_zero m = omega arith
  referencing_read p es t u (x ∷ c) (suc i) d e h =
      any-back _ (in_table u (reads_columns es t x.columns)) (reads_referencing es t (suc u) c) (subst (λ n. list_any (λ r. eqb r.table n && p r.extent) (reads_referencing es t (suc u) c) ≡ true) (plus_suc u i) (referencing_read p es t (suc u) c i d e h))
    where
      plus_suc : (m n : ℕ) → suc m + n ≡ m + suc n
      plus_suc m n = omega arith

  -- The least table whose rows name a key that goes is the same where each table has such a row in both or in neither.
  tables_same : (t : ℕ) (gone : List (Row A)) (u : ℕ) (c : Catalog) (X Y : Tables A) → length X ≡ length Y
      → ((i : ℕ) (d : TableSchema) → slice_get c i ≡ Some d → list_any (λ row. names_one t gone d.columns (cells row)) (rows_of X i) ≡ list_any (λ row. names_one t gone d.columns (cells row)) (rows_of Y i))
      → least_table t gone u c X ≡ least_table t gone u c Y
  tables_same t gone u [] X Y len f = refl
  tables_same t gone u (d ∷ ds) [] [] len f = refl
  tables_same t gone u (d ∷ ds) [] (y ∷ Y) len f = absurd (omega (arith, len))
  tables_same t gone u (d ∷ ds) (x ∷ X) [] len f = absurd (omega (arith, len))
  tables_same t gone u (d ∷ ds) (x ∷ X) (y ∷ Y) len f =
      ap (λ b. cond b (Some u) (least_table t gone (suc u) ds X)) (f 0 d refl)
      ∙ ap (cond (list_any (λ row. names_one t gone d.columns (cells row)) y) (Some u)) (tables_same t gone (suc u) ds X Y (omega (arith, len)) (λ i e. f (suc i) e))

  -- One way of it, where a single key was read: a row of X that names it is a row of Y.
  names_still : (k : Value A) (t : ℕ) (gone : List (Row A)) (u : ℕ) (ds : List Column) (X Y : Tables A) → IsOrdered X → list_all (λ row. list_any (has_key row.0) (One k ∷ [])) gone ≡ true
      → ((j : ℕ) (d : Column) → slice_get ds j ≡ Some d → references t d ≡ true → (p : Value A) → row_naming X u j k p ≡ row_naming Y u j k p)
      → list_any (λ row. names_one t gone ds (cells row)) (rows_of X u) ≡ true → list_any (λ row. names_one t gone ds (cells row)) (rows_of Y u) ≡ true
  names_still k t gone u ds X Y ox h a e = found (some_row (rows_of X u) e)
    where
      Some_row : List (Row A) → Type 0
      Some_row rows = (r : Row A) × In r rows × (names_one t gone ds (cells r) ≡ true)

      some_row : (rows : List (Row A)) → list_any (λ row. names_one t gone ds (cells row)) rows ≡ true → Some_row rows
      some_row [] f = absurd (true≢false (sym f))
      some_row (r ∷ rows) f = go (names_one t gone ds (cells r)) refl f (some_row rows)
        where
          go : (b : Bool) → names_one t gone ds (cells r) ≡ b → (b || list_any (λ row. names_one t gone ds (cells row)) rows) ≡ true → (list_any (λ row. names_one t gone ds (cells row)) rows ≡ true → Some_row rows) → Some_row (r ∷ rows)
          go true q g rest = (r, inl refl, q)
          go false q g rest = let w = rest g in (w.0, inr w.1, w.2)

      of_T : (b : Bool) → T b → b ≡ true
      of_T true t = refl
      of_T false t = absurd t

      found : Some_row (rows_of X u) → list_any (λ row. names_one t gone ds (cells row)) (rows_of Y u) ≡ true
      found w = In-any (λ row. names_one t gone ds (cells row)) (rows_of Y u) (w.0.0, w.0.1) (found_in (rows_of Y u) w.0.0 w.0.1 in_Y) w.2
        where
          n : Naming t gone ds (cells w.0)
          n = naming_of t gone ds (cells w.0) w.2

          in_X : row_at X u w.0.0 ≡ Some w.0.1
          in_X = found_row (rows_of X u) w.0 (of_T (is_sorted value_cmp (rows_of X u)) (ox.each u)) w.1

          has_k : same k (slice_index_or (cells w.0) n.j Null) ≡ true
          has_k = subst (λ x. same k x ≡ true) (sym (get_index (cells w.0) n.j n.v n.value)) (gone_key gone k n.v h n.goes)

          named : row_naming Y u n.j k w.0.0 ≡ Some w.0.1
          named = sym (a n.j n.d n.column n.refers_to w.0.0) ∙ ap (if_naming n.j k w.0.0) in_X ∙ ap (λ b. cond b (Some w.0.1) None) has_k

          in_Y : row_at Y u w.0.0 ≡ Some w.0.1
          in_Y = go (row_at Y u w.0.0) refl named
            where
              go : (o : Option (List (Value A))) → row_at Y u w.0.0 ≡ o → if_naming n.j k w.0.0 o ≡ Some w.0.1 → row_at Y u w.0.0 ≡ Some w.0.1
              go None q g = cc
              go (Some fields) q g = test (same k (field (w.0.0, fields) n.j)) g
                where
                  test : (b : Bool) → cond b (Some fields) None ≡ Some w.0.1 → row_at Y u w.0.0 ≡ Some w.0.1
                  test true g = q ∙ g
                  test false g = cc

  -- A table has a row that names a key that goes in both or in neither.
  names_same : (es : List (Extent A)) (t : ℕ) (gone : List (Row A)) (u : ℕ) (ds : List Column) (X Y : Tables A) → IsOrdered X → IsOrdered Y → list_all (λ row. list_any (has_key row.0) es) gone ≡ true
      → (list_any is_whole (reads_columns es t ds) ≡ true → rows_of X u ≡ rows_of Y u)
      → ((j : ℕ) (k : Value A) → list_any (has_reference j k) (reads_columns es t ds) ≡ true → (p : Value A) → row_naming X u j k p ≡ row_naming Y u j k p)
      → list_any (λ row. names_one t gone ds (cells row)) (rows_of X u) ≡ list_any (λ row. names_one t gone ds (cells row)) (rows_of Y u)
  names_same es t gone u ds X Y ox oy h whole naming = by_extent es h whole naming
    where
      Rows_same : Type 0
      Rows_same = list_any (λ row. names_one t gone ds (cells row)) (rows_of X u) ≡ list_any (λ row. names_one t gone ds (cells row)) (rows_of Y u)

      -- all of it was read
      by_whole : (b : Bool) → list_any (references t) ds ≡ b → (list_any (is_whole {A = A}) (cond b (Whole ∷ []) []) ≡ true → rows_of X u ≡ rows_of Y u) → Rows_same
      by_whole true q w = ap (list_any (λ row. names_one t gone ds (cells row))) (w refl)
      by_whole false q w = none_of _ (λ r. names_none t gone ds (cells r) q) (rows_of X u) ∙ sym (none_of _ (λ r. names_none t gone ds (cells r) q) (rows_of Y u))

      nothing : (rows : List (Row A)) → list_all (λ row. list_any (has_key row.0) []) rows ≡ true → rows ≡ []
      nothing [] g = refl
      nothing (r ∷ rows) g = absurd (true≢false (sym g))

      by_extent : (es : List (Extent A)) → list_all (λ row. list_any (has_key row.0) es) gone ≡ true → (list_any is_whole (reads_columns es t ds) ≡ true → rows_of X u ≡ rows_of Y u)
          → ((j : ℕ) (k : Value A) → list_any (has_reference j k) (reads_columns es t ds) ≡ true → (p : Value A) → row_naming X u j k p ≡ row_naming Y u j k p) → Rows_same
      by_extent [] g w n =
          let none : gone ≡ [] = nothing gone g in
          let clear : (rows : List (Row A)) → list_any (λ row. names_one t gone ds (cells row)) rows ≡ false = λ rows. none_of _ (λ r. ap (λ gs. names_one t gs ds (cells r)) none ∙ none_gone t ds (cells r)) rows in
          clear (rows_of X u) ∙ sym (clear (rows_of Y u))
      by_extent (One k ∷ []) g w n = both_ways _ _ (names_still k t gone u ds X Y ox g read) (names_still k t gone u ds Y X oy g (λ j d e r p. sym (read j d e r p)))
        where
          zero_plus : (m : ℕ) → 0 + m ≡ m
          zero_plus m = omega arith

          read : (j : ℕ) (d : Column) → slice_get ds j ≡ Some d → references t d ≡ true → (p : Value A) → row_naming X u j k p ≡ row_naming Y u j k p
          read j d e r p = n j k (subst (λ m. list_any (has_reference m k) (rows_naming k t 0 ds) ≡ true) (zero_plus j) (rows_naming_has k t 0 ds j d e r)) p
      by_extent (One k ∷ x ∷ xs) g w n = by_whole (list_any (references t) ds) refl w
      by_extent (Whole ∷ xs) g w n = by_whole (list_any (references t) ds) refl w
      by_extent (Range a b ∷ xs) g w n = by_whole (list_any (references t) ds) refl w
      by_extent (Referencing i v ∷ xs) g w n = by_whole (list_any (references t) ds) refl w

  deleted_same : (c : Catalog) (t : ℕ) (es : List (Extent A)) (rows : List (Row A)) (X Y : Tables A) → IsOrdered X → IsOrdered Y → length X ≡ length Y → list_all (λ row. list_any (has_key row.0) es) rows ≡ true → SameAt t rows X Y
      → Agree (reads_referencing es t 0 c) X Y → deleted c t rows X ≡ deleted c t rows Y
  deleted_same c t es rows X Y ox oy len h keys a =
      ap (λ o. made o (marks_of c X (map (removes t) rows))) (tables_same t rows 0 c X Y len same_in)
      ∙ ap (made (least_table t rows 0 c Y)) (marks_of-same c t (λ row. None) rows X Y keys)
    where
      made : Option ℕ → List (Mark A) → Outcome A
      made o ms = at_table code.ForeignKeyViolation o or_else record { reply = Deleted (length rows); changes = map (removes t) rows; marks = ms }

      zero_plus : (n : ℕ) → 0 + n ≡ n
      zero_plus n = omega arith

      read : (p : Extent A → Bool) (i : ℕ) (d : TableSchema) → slice_get c i ≡ Some d → list_any p (reads_columns es t d.columns) ≡ true → list_any (λ r. eqb r.table i && p r.extent) (reads_referencing es t 0 c) ≡ true
      read p i d e g = subst (λ n. list_any (λ r. eqb r.table n && p r.extent) (reads_referencing es t 0 c) ≡ true) (zero_plus i) (referencing_read p es t 0 c i d e g)

      any_whole : (k : Value A) (xs : List (Extent A)) → list_any is_whole xs ≡ true → list_any (has_key k) xs ≡ true
      any_whole k [] g = g
      any_whole k (Whole ∷ xs) g = refl
      any_whole k (One v ∷ xs) g = or_right (same v k) _ (any_whole k xs g)
      any_whole k (Range x y ∷ xs) g = or_right (has_key k (Range x y)) _ (any_whole k xs g)
      any_whole k (Referencing j v ∷ xs) g = any_whole k xs g

      same_in : (i : ℕ) (d : TableSchema) → slice_get c i ≡ Some d → list_any (λ row. names_one t rows d.columns (cells row)) (rows_of X i) ≡ list_any (λ row. names_one t rows d.columns (cells row)) (rows_of Y i)
      same_in i d e = names_same es t rows i d.columns X Y ox oy h
          (λ w. same_entries value_cmp value_cmp-total value_exact (rows_of X i) (rows_of Y i) (ox.each i) (oy.each i) (λ k. a.at i k (read (has_key k) i d e (any_whole k (reads_columns es t d.columns) w))))
          (λ j k r. a.naming i j k (read (has_reference j k) i d e r))

  -- ---- what is needed here of a statement that fits

  -- an INSERT has a literal for each column, and no key is assigned
  abbrev pub Needed : Catalog → Statement A → Type 0
  Needed c (Insert t values) = length values ≡ length (columns_of c t)
  Needed c (Update t more conditions) = is_assigned more 0 ≡ false
  Needed c _ = Unit {0}

  literals_length : (ds : List Column) (vs : List (Value A)) → literals_fit ds vs ≡ true → length vs ≡ length ds
  literals_length [] [] h = refl
  literals_length (d ∷ ds) (v ∷ vs) h = ap suc (literals_length ds vs (and_parts (takes v d) _ h).1)
  literals_length [] (v ∷ vs) h = absurd (true≢false (sym h))
  literals_length (d ∷ ds) [] h = absurd (true≢false (sym h))

  no_key : (ds : List Column) (more : List (Assignment A)) → list_all (assignment_fits ds) more ≡ true → is_assigned more 0 ≡ false
  no_key ds [] h = refl
  no_key ds (a ∷ more) h =
      let p = and_parts (assignment_fits ds a) (list_all (assignment_fits ds) more) h in
      let q = and_parts (nat_lt 0 a.column) (column_passes (source_fits ds a.source) ds a.column) p.0 in
      ap (λ b. b || is_assigned more 0) (above a.column q.0) ∙ no_key ds more p.1
    where
      above : (n : ℕ) → nat_lt 0 n ≡ true → eqb n 0 ≡ false
      above zero e = absurd (true≢false (sym e))
      above (suc n) e = eqb-suc-zero n

  pub needed : (c : Catalog) (q : Statement A) → Fits c q → Needed c q
  needed c (Select t p conditions) f = tt
  needed c (Insert t values) f = literals_length (columns_of c t) values (and_parts (has_table c t) _ f).1
  needed c (Update t more conditions) f =
      let p = and_parts (has_table c t && list_all (assignment_fits (columns_of c t)) more && assigns_once more) (list_all (condition_fits (columns_of c t)) conditions) f in
      let q = and_parts (has_table c t && list_all (assignment_fits (columns_of c t)) more) (assigns_once more) p.0 in
      no_key (columns_of c t) more (and_parts (has_table c t) _ q.0).1
  needed c (Delete t conditions) f = tt

  -- ---- any statement

  -- the chosen rows are the same in both
  same_at : (t : ℕ) (cs : List (Condition A)) (rows : List (Row A)) (X Y : Tables A) → list_all (λ row. list_any (has_key row.0) (extents_of cs)) rows ≡ true → Agree (in_table t (extents_of cs)) X Y → SameAt t rows X Y
  same_at t cs rows X Y h a r i = a.at t r.0 (read_there t r.0 (extents_of cs) (all_in (λ (row : Row A). list_any (has_key row.0) (extents_of cs)) rows r h i))

  -- A statement that fits has one outcome on tables that agree where it reads.
  pub suffices : (c : Catalog) (q : Statement A) (X Y : Tables A) → Fits c q → IsOrdered X → IsOrdered Y → HasKeys X → HasKeys Y → length X ≡ length Y → Agree (footprint c q) X Y → outcome c q X ≡ outcome c q Y
  suffices c (Select t p conditions) X Y f ox oy kx ky len a = ap (λ rows. answers (Rows (shown p rows))) (same_chosen t conditions X Y ox oy kx ky a)
  suffices c (Insert t values) X Y f ox oy kx ky len a = inserted_same c t values X Y kx ky a
  suffices c (Update t more conditions) X Y f ox oy kx ky len a =
      ap (λ rows. updated c t more rows X) (same_chosen t conditions X Y ox oy kx ky here)
      ∙ updated_same c t more (chosen Y t conditions) X Y (needed c (Update t more conditions) f) (same_at t conditions (chosen Y t conditions) X Y (chosen_in_extents t conditions Y ky) here) (back (in_table t (extents_of conditions)) (reads_assignments (columns_of c t) more) X Y a)
    where
      here : Agree (in_table t (extents_of conditions)) X Y
      here = front (in_table t (extents_of conditions)) (reads_assignments (columns_of c t) more) X Y a
  suffices c (Delete t conditions) X Y f ox oy kx ky len a =
      ap (λ rows. deleted c t rows X) (same_chosen t conditions X Y ox oy kx ky here)
      ∙ deleted_same c t (extents_of conditions) (chosen Y t conditions) X Y ox oy len (chosen_in_extents t conditions Y ky) (same_at t conditions (chosen Y t conditions) X Y (chosen_in_extents t conditions Y ky) here) (back (in_table t (extents_of conditions)) (reads_referencing (extents_of conditions) t 0 c) X Y a)
    where
      here : Agree (in_table t (extents_of conditions)) X Y
      here = front (in_table t (extents_of conditions)) (reads_referencing (extents_of conditions) t 0 c) X Y a

  -- ---- faults change nothing

  pub fault_or : (P : List (Change A) → Type 0) (c : Code) (o : Option ℕ) (r : Outcome A) → P [] → (o ≡ None → P r.changes) → P (at_column c o or_else r).changes
  fault_or P c None r f g = g refl
  fault_or P c (Some n) r f g = f

  pub table_or : (P : List (Change A) → Type 0) (c : Code) (o : Option ℕ) (r : Outcome A) → P [] → (o ≡ None → P r.changes) → P (at_table c o or_else r).changes
  table_or P c None r f g = g refl
  table_or P c (Some n) r f g = f

  -- ---- no change has a null key

  abbrev pub WithKeys : List (Change A) → Type 0
  WithKeys xs = list_all (λ x. not (is_null x.key)) xs ≡ true

  -- an INSERT with a null key is refused
  key_given : (ds : List Column) (k : Value A) (fields : List (Value A)) → length (k ∷ fields) ≡ length ds → least_column lacks_value 0 ds (k ∷ fields) ≡ None → not (is_null k) ≡ true
  key_given [] k fields l e = absurd (omega (arith, l))
  key_given (d ∷ ds) k fields l e = go (is_null k) refl
    where
      go : (b : Bool) → is_null k ≡ b → not b ≡ true
      go false n = refl
      go true n = cc

  -- what holds of the changes of an INSERT of a key that isn't null
  pub inserted_has : (P : List (Change A) → Type 0) (c : Catalog) (t : ℕ) (values : List (Value A)) (X : Tables A) → length values ≡ length (columns_of c t) → P []
      → ((k : Value A) (fields : List (Value A)) → values ≡ k ∷ fields → not (is_null k) ≡ true → P (puts t (k, fields) ∷ [])) → P (inserted c t values X).changes
  inserted_has P c t [] X l p f = p
  inserted_has P c t (k ∷ fields) X l p f =
      fault_or P code.NotNullViolation (least_column lacks_value 0 (columns_of c t) (k ∷ fields)) r1 p (λ full.
      fault_or P code.UniqueViolation (cond (is_some (row_at X t k)) (Some 0) None) r2 p (λ unique.
      fault_or P code.ForeignKeyViolation (least_column (lacks_row X) 0 (columns_of c t) (k ∷ fields)) r3 p (λ there.
      f k fields refl (key_given (columns_of c t) k fields l full))))
    where
      r3 : Outcome A
      r3 = writes_rows c X Inserted (puts t (k, fields) ∷ [])

      r2 : Outcome A
      r2 = at_column code.ForeignKeyViolation (least_column (lacks_row X) 0 (columns_of c t) (k ∷ fields)) or_else r3

      r1 : Outcome A
      r1 = at_column code.UniqueViolation (cond (is_some (row_at X t k)) (Some 0) None) or_else r2

  -- what holds of no change and of those of the rows holds of the changes of an UPDATE
  pub updated_has : (P : List (Change A) → Type 0) (c : Catalog) (t : ℕ) (more : List (Assignment A)) (rows : List (Row A)) (X : Tables A) → P [] → P (map (λ row. puts t (updated_row more row)) rows) → P (updated c t more rows X).changes
  updated_has P c t more rows X p h =
      fault_or P code.NotNullViolation (first_bad (assigned_lacks_value more) (columns_of c t) (map (updated_row more) rows)) r1 p (λ full.
      fault_or P code.NumericValueOutOfRange (first_bad (assigned_out_of_range more) (columns_of c t) (map (updated_row more) rows)) r2 p (λ small.
      fault_or P code.ForeignKeyViolation (first_bad (assigned_lacks_row X more) (columns_of c t) (map (updated_row more) rows)) r3 p (λ there. h)))
    where
      r3 : Outcome A
      r3 = writes_rows c X (Updated (length rows)) (map (λ row. puts t (updated_row more row)) rows)

      r2 : Outcome A
      r2 = at_column code.ForeignKeyViolation (first_bad (assigned_lacks_row X more) (columns_of c t) (map (updated_row more) rows)) or_else r3

      r1 : Outcome A
      r1 = at_column code.NumericValueOutOfRange (first_bad (assigned_out_of_range more) (columns_of c t) (map (updated_row more) rows)) or_else r2

  pub deleted_has : (P : List (Change A) → Type 0) (c : Catalog) (t : ℕ) (rows : List (Row A)) (X : Tables A) → P [] → P (map (removes t) rows) → P (deleted c t rows X).changes
  deleted_has P c t rows X p h = table_or P code.ForeignKeyViolation (least_table t rows 0 c X) (writes_rows c X (Deleted (length rows)) (map (removes t) rows)) p (λ none. h)

  pub outcome_keys : (c : Catalog) (q : Statement A) (X : Tables A) → Fits c q → HasKeys X → WithKeys (outcome c q X).changes
  outcome_keys c (Select t p conditions) X f h = refl
  outcome_keys c (Insert t values) X f h = inserted_has WithKeys c t values X (needed c (Insert t values) f) refl (λ k fields e n. and_from _ _ n refl)
  outcome_keys c (Update t more conditions) X f h = updated_has WithKeys c t more (chosen X t conditions) X refl
      (all_map (λ row. puts t (updated_row more row)) (λ x. not (is_null x.key)) (λ row. not (is_null row.0)) (λ row. refl) (chosen X t conditions) (all_filter (satisfies conditions) (λ row. not (is_null row.0)) (rows_of X t) (h.each t)))
  outcome_keys c (Delete t conditions) X f h = deleted_has WithKeys c t (chosen X t conditions) X refl
      (all_map (removes t) (λ x. not (is_null x.key)) (λ row. not (is_null row.0)) (λ row. refl) (chosen X t conditions) (all_filter (satisfies conditions) (λ row. not (is_null row.0)) (rows_of X t) (h.each t)))

  put-keys : (k : Value A) (fields : List (Value A)) (rows : List (Row A)) → is_null k ≡ false → list_all (λ row. not (is_null row.0)) rows ≡ true → list_all (λ row. not (is_null row.0)) (put value_cmp k fields rows) ≡ true
  put-keys k fields [] n h = and_from _ _ (ap not n) refl
  put-keys k fields (r ∷ rows) n h = go (value_cmp k r.0) (and_parts (not (is_null r.0)) (list_all (λ row. not (is_null row.0)) rows) h) (put-keys k fields rows n)
    where
      go : (o : Ordering) → (not (is_null r.0) ≡ true) × (list_all (λ row. not (is_null row.0)) rows ≡ true) → (list_all (λ row. not (is_null row.0)) rows ≡ true → list_all (λ row. not (is_null row.0)) (put value_cmp k fields rows) ≡ true)
          → list_all (λ row. not (is_null row.0)) (by_order o ((k, fields) ∷ r ∷ rows) ((r.0, fields) ∷ rows) (r ∷ put value_cmp k fields rows)) ≡ true
      go Less p rest = and_from _ _ (ap not n) (and_from _ _ p.0 p.1)
      go Equal p rest = and_from _ _ p.0 p.1
      go Greater p rest = and_from _ _ p.0 (rest p.1)

  changed-keys : (k : Value A) (fields : Option (List (Value A))) (rows : List (Row A)) → is_null k ≡ false → list_all (λ row. not (is_null row.0)) rows ≡ true → list_all (λ row. not (is_null row.0)) (changed k fields rows) ≡ true
  changed-keys k (Some fields) rows n h = put-keys k fields rows n h
  changed-keys k None rows n h = all_filter (λ e. not (same k e.0)) (λ row. not (is_null row.0)) rows h

  put_in-keys : (x : Change A) (X : Tables A) → is_null x.key ≡ false → HasKeys X → HasKeys (put_in x X)
  put_in-keys x X n h = record { each = λ t. go t (eqb_tells x.table t) (two (length X) t) }
    where
      two : (m t : ℕ) → (m ≤ t) ⊎ (t < m)
      two m t = grind arith

      go : (t : ℕ) → (eqb x.table t ≡ true) × (x.table ≡ t) ⊎ (eqb x.table t ≡ false) × (x.table ≢ t) → (length X ≤ t) ⊎ (t < length X) → list_all (λ row. not (is_null row.0)) (rows_of (put_in x X) t) ≡ true
      go t p (inl l) = ap (list_all (λ row. not (is_null row.0))) (rows_of-past (put_in x X) t (rw (length-put_in x X) l))
      go t (inl p) (inr l) =
          ap (list_all (λ row. not (is_null row.0))) (subst (λ m. rows_of (slice_set X m (changed x.key x.fields (rows_of X m))) t ≡ changed x.key x.fields (rows_of X t)) (sym p.1) (get_or-set_same X t (changed x.key x.fields (rows_of X t)) [] l))
          ∙ changed-keys x.key x.fields (rows_of X t) n (h.each t)
      go t (inr p) (inr l) = ap (list_all (λ row. not (is_null row.0))) (get_or-set_other X x.table t (changed x.key x.fields (rows_of X x.table)) [] (λ q. p.1 (sym q))) ∙ h.each t

  pub put_all-keys : (xs : List (Change A)) (X : Tables A) → WithKeys xs → HasKeys X → HasKeys (put_all xs X)
  put_all-keys [] X w h = h
  put_all-keys (x ∷ xs) X w h = let p = and_parts (not (is_null x.key)) (list_all (λ y. not (is_null y.key)) xs) w in put_all-keys xs (put_in x X) p.1 (put_in-keys x X (flip (is_null x.key) p.0) h)
    where
      flip : (c : Bool) → not c ≡ true → c ≡ false
      flip true g = absurd (true≢false (sym g))
      flip false g = refl
