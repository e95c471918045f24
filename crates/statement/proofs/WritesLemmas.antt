-- What a statement writes it has read, and marked; and which references it reads.
use Rattle.std.proofs.Common.{◌≡◌, refl, sym, ap, subst, ◌∙◌, ℕ, zero, suc, ◌+◌, Bool, true, false, true≢false, cond, not, ◌&&◌, ◌||◌, List, [], ◌∷◌, ◌++◌, map, slice_get, Option, Some, None, is_some, eqb, arith}
use Rattle.std.proofs.lemmas.Bool.{eqb-true, and_parts, or_left, and_from}
use Rattle.std.specs.List.{list_any, list_all}
use Rattle.std.specs.Option.{option_map_or}
use Rattle.std.specs.Ordering.{is_lt, is_gt}
use Rattle.value.specs.declared.value.Value.{Value}
use Rattle.value.specs.declared.refusal.Refusal.{Refusal}
use Rattle.value.specs.declared.refusal.Code.TheVariants as code
use Rattle.value.specs.Order.{value_cmp}
use Rattle.value.proofs.IsolationLemmas.{In}
use Rattle.value.proofs.Basics.{any-neither, any-front}
use Rattle.schema.specs.Definition.{Column, Catalog}
use Rattle.schema.specs.declared.changes.Change.{Change}
use Rattle.schema.specs.declared.tables.Tables.{Tables}
use Rattle.schema.specs.Plain.{same, is_null, row_at, columns_of}
use Rattle.schema.proofs.PlainLemmas.{same_value, touches}
use Rattle.statement.specs.declared.condition.Comparison.{Comparison}
use Rattle.statement.specs.declared.condition.Comparison.TheVariants as is
use Rattle.statement.specs.declared.condition.Condition.{Condition}
use Rattle.statement.specs.declared.condition.Condition.TheVariants.{Compare, Between, IsNull, IsNotNull}
use Rattle.statement.specs.declared.statement.Source.{Source}
use Rattle.statement.specs.declared.statement.Source.TheVariants.{Literal, Sum}
use Rattle.statement.specs.declared.statement.Assignment.{Assignment}
use Rattle.statement.specs.declared.statement.Statement.{Statement}
use Rattle.statement.specs.declared.statement.Statement.TheVariants.{Select, Insert, Update, Delete}
use Rattle.statement.specs.declared.outcome.Outcome.{Outcome}
use Rattle.statement.specs.declared.reading.End.{End}
use Rattle.statement.specs.declared.reading.End.TheVariants.{Open, Closed, Without}
use Rattle.statement.specs.declared.reading.Extent.{Extent}
use Rattle.statement.specs.declared.reading.Extent.TheVariants.{Whole, One, Range, Referencing}
use Rattle.statement.specs.declared.reading.Reading.{Reading}
use Rattle.statement.specs.Conditions.{chosen}
use Rattle.statement.specs.Evaluation.{outcome, after, references, least_column, lacks_value, lacks_row, at_column, at_table, first_bad, assigned_lacks_value, assigned_out_of_range, assigned_lacks_row, least_table, updated_row, puts, removes, ◌or_else◌}
use Rattle.statement.specs.Marks.{marks_of, marks_reference}
use Rattle.statement.specs.Cover.{has_key, has_reference}
use Rattle.statement.specs.Footprint.{Interval, Nothing, Span, at_value, by_comparison, interval, later, sooner, meet_both, intersection, extent_of, extents, extents_of, in_table, reads_named, reads_fields, reads_assigned, reads_assignments, reads_inserted, rows_naming, reads_columns, reads_referencing, footprint, column_at}
use Rattle.statement.specs.Agreement.{reads_key, reads_value, row_naming}
use Rattle.statement.specs.Fits.{Fits}
use Rattle.statement.proofs.CoverLemmas.{all_in}
use Rattle.statement.proofs.RowsLemmas.{HasKeys, read_there, chosen_in_extents}
use Rattle.statement.proofs.MarksLemmas.{refers, refers_at, marks_of-before, marks_of-after}
use Rattle.statement.proofs.Suffices.{inserted_has, updated_has, deleted_has, needed, same_itself}

some_on_one : {B : Type 0} (p : B → Bool) (xs ys : List B) → list_any p xs ≡ false → list_any p (xs ++ ys) ≡ true → list_any p ys ≡ true
some_on_one p [] ys f h = h
some_on_one p (x ∷ xs) ys f h = go (p x) f h (some_on_one p xs ys)
  where
    go : (b : Bool) → (b || list_any p xs) ≡ false → (b || list_any p (xs ++ ys)) ≡ true → (list_any p xs ≡ false → list_any p (xs ++ ys) ≡ true → list_any p ys ≡ true) → list_any p ys ≡ true
    go true f h rest = absurd (true≢false f)
    go false f h rest = rest f h

all_map_by : {B C : Type 0} (f : B → C) (p : C → Bool) (q : B → Bool) → ((x : B) → q x ≡ true → p (f x) ≡ true) → (xs : List B) → list_all q xs ≡ true → list_all p (map f xs) ≡ true
all_map_by f p q e [] h = refl
all_map_by f p q e (x ∷ xs) h = let r = and_parts (q x) (list_all q xs) h in and_from _ _ (e x r.0) (all_map_by f p q e xs r.1)

module _ {A : Type 0} where
  -- ---- what is written was read

  abbrev IsRead : List (Reading A) → List (Change A) → Type 0
  IsRead rs xs = list_all (λ x. reads_key rs x.table x.key) xs ≡ true

  written_read : (c : Catalog) (q : Statement A) (X : Tables A) → Fits c q → HasKeys X → IsRead (footprint c q) (outcome c q X).changes
  written_read c (Select t p conditions) X f h = refl
  written_read c (Insert t values) X f h = inserted_has (IsRead (footprint c (Insert t values))) c t values X (needed c (Insert t values) f) refl one
    where
      one : (k : Value A) (fields : List (Value A)) → values ≡ k ∷ fields → not (is_null k) ≡ true → IsRead (footprint c (Insert t values)) (puts t (k, fields) ∷ [])
      one k fields e n = and_from _ _ (any-front _ (reads_inserted t values) (reads_fields (columns_of c t) values) (subst (λ vs. reads_key (reads_inserted t vs) t k ≡ true) (sym e) (go (is_null k) n))) refl
        where
          go : (b : Bool) → not b ≡ true → reads_key (cond b [] (in_table t (One k ∷ []))) t k ≡ true
          go true m = absurd (true≢false (sym m))
          go false m = read_there t k (One k ∷ []) (or_left (same k k) false (same_itself k))
  written_read c (Update t more conditions) X f h = updated_has (IsRead (footprint c (Update t more conditions))) c t more (chosen X t conditions) X refl
      (all_map_by (λ row. puts t (updated_row more row)) (λ x. reads_key (footprint c (Update t more conditions)) x.table x.key) (λ row. list_any (has_key row.0) (extents_of conditions))
      (λ row g. any-front _ (in_table t (extents_of conditions)) (reads_assignments (columns_of c t) more) (read_there t row.0 (extents_of conditions) g)) (chosen X t conditions) (chosen_in_extents t conditions X h))
  written_read c (Delete t conditions) X f h = deleted_has (IsRead (footprint c (Delete t conditions))) c t (chosen X t conditions) X refl
      (all_map_by (removes t) (λ x. reads_key (footprint c (Delete t conditions)) x.table x.key) (λ row. list_any (has_key row.0) (extents_of conditions))
      (λ row g. any-front _ (in_table t (extents_of conditions)) (reads_referencing (extents_of conditions) t 0 c) (read_there t row.0 (extents_of conditions) g)) (chosen X t conditions) (chosen_in_extents t conditions X h))

  -- Each key that a statement writes is in its footprint.
  pub writes_are_read : (c : Catalog) (q : Statement A) (X : Tables A) → Fits c q → HasKeys X → (x : Change A) → In x (outcome c q X).changes → reads_key (footprint c q) x.table x.key ≡ true
  writes_are_read c q X f h x i = all_in (λ (x : Change A). reads_key (footprint c q) x.table x.key) (outcome c q X).changes x (written_read c q X f h) i

  -- ---- what is written is marked

  abbrev IsMarked : Catalog → Tables A → Outcome A → Type 0
  IsMarked c X r = r.marks ≡ marks_of c X r.changes

  fault_marks : (c : Catalog) (X : Tables A) (o : Option Refusal) (r : Outcome A) → IsMarked c X r → IsMarked c X (o or_else r)
  fault_marks c X None r h = h
  fault_marks c X (Some e) r h = refl

  -- the marks of a statement are those of its changes
  pub outcome-marks : (c : Catalog) (q : Statement A) (X : Tables A) → (outcome c q X).marks ≡ marks_of c X (outcome c q X).changes
  outcome-marks c (Select t p conditions) X = refl
  outcome-marks c (Insert t []) X = refl
  outcome-marks c (Insert t (k ∷ fields)) X =
      fault_marks c X (at_column code.NotNullViolation (least_column lacks_value 0 (columns_of c t) (k ∷ fields))) _
      (fault_marks c X (at_column code.UniqueViolation (cond (is_some (row_at X t k)) (Some 0) None)) _
      (fault_marks c X (at_column code.ForeignKeyViolation (least_column (lacks_row X) 0 (columns_of c t) (k ∷ fields))) _ refl))
  outcome-marks c (Update t more conditions) X =
      fault_marks c X (at_column code.NotNullViolation (first_bad (assigned_lacks_value more) (columns_of c t) (map (updated_row more) (chosen X t conditions)))) _
      (fault_marks c X (at_column code.NumericValueOutOfRange (first_bad (assigned_out_of_range more) (columns_of c t) (map (updated_row more) (chosen X t conditions)))) _
      (fault_marks c X (at_column code.ForeignKeyViolation (first_bad (assigned_lacks_row X more) (columns_of c t) (map (updated_row more) (chosen X t conditions)))) _ refl))
  outcome-marks c (Delete t conditions) X = fault_marks c X (at_table code.ForeignKeyViolation (least_table t (chosen X t conditions) 0 c X)) _ refl

  -- A row that a statement writes is marked for the reference that it had ..
  pub marks_before : (c : Catalog) (q : Statement A) (X : Tables A) (t j : ℕ) (k p : Value A) → list_any (touches t p) (outcome c q X).changes ≡ true → refers c t j ≡ true → is_null k ≡ false → is_some (row_naming X t j k p) ≡ true
      → marks_reference (outcome c q X).marks t j k ≡ true
  marks_before c q X t j k p w e n h = subst (λ ms. marks_reference ms t j k ≡ true) (sym (outcome-marks c q X)) (marks_of-before c X (outcome c q X).changes t j k p w e n h)

  -- .. and for the one that it has.
  pub marks_after : (c : Catalog) (q : Statement A) (X : Tables A) (t j : ℕ) (k p : Value A) → list_any (touches t p) (outcome c q X).changes ≡ true → refers c t j ≡ true → is_null k ≡ false → is_some (row_naming (after c q X) t j k p) ≡ true
      → marks_reference (outcome c q X).marks t j k ≡ true
  marks_after c q X t j k p w e n h = subst (λ ms. marks_reference ms t j k ≡ true) (sym (outcome-marks c q X)) (marks_of-after c X (outcome c q X).changes t j k p w e n h)

  -- ---- the references that a footprint has

  -- an extent of the rows with k in column j of table t
  abbrev is_for : ℕ → ℕ → Value A → Reading A → Bool
  is_for t j k r = eqb r.table t && has_reference j k r.extent

  none_in_table : (t u j : ℕ) (k : Value A) (es : List (Extent A)) → list_any (has_reference j k) es ≡ false → reads_value (in_table u es) t j k ≡ false
  none_in_table t u j k [] e = refl
  none_in_table t u j k (x ∷ es) e = go (has_reference j k x) (eqb u t) e (none_in_table t u j k es)
    where
      go : (b a : Bool) → (b || list_any (has_reference j k) es) ≡ false → (list_any (has_reference j k) es ≡ false → reads_value (in_table u es) t j k ≡ false) → ((a && b) || reads_value (in_table u es) t j k) ≡ false
      go true a f rest = absurd (true≢false f)
      go false true f rest = rest f
      go false false f rest = rest f

  -- what a WHERE reads is no reference
  extent_plain : (j : ℕ) (k : Value A) (a b : End A) → list_any (has_reference j k) (extent_of a b) ≡ false
  extent_plain j k Open b = refl
  extent_plain j k (Closed v) Open = refl
  extent_plain j k (Without v) Open = refl
  extent_plain j k (Closed v) (Closed w) = go (is_gt (value_cmp v w)) (same v w)
    where
      go : (x y : Bool) → list_any (has_reference j k) (cond x [] (cond y (One v ∷ []) (Range (Closed v) (Closed w) ∷ []))) ≡ false
      go true y = refl
      go false true = refl
      go false false = refl
  extent_plain j k (Closed v) (Without w) = go (is_lt (value_cmp v w))
    where
      go : (x : Bool) → list_any (has_reference j k) (cond x (Range (Closed v) (Without w) ∷ []) []) ≡ false
      go true = refl
      go false = refl
  extent_plain j k (Without v) (Closed w) = go (is_lt (value_cmp v w))
    where
      go : (x : Bool) → list_any (has_reference j k) (cond x (Range (Without v) (Closed w) ∷ []) []) ≡ false
      go true = refl
      go false = refl
  extent_plain j k (Without v) (Without w) = go (is_lt (value_cmp v w))
    where
      go : (x : Bool) → list_any (has_reference j k) (cond x (Range (Without v) (Without w) ∷ []) []) ≡ false
      go true = refl
      go false = refl

  extents_plain : (j : ℕ) (k : Value A) (i : Option (Interval A)) → list_any (has_reference j k) (extents i) ≡ false
  extents_plain j k None = refl
  extents_plain j k (Some Nothing) = refl
  extents_plain j k (Some (Span a b)) = extent_plain j k a b

  rows_plain : (t u j : ℕ) (k : Value A) (conditions : List (Condition A)) → reads_value (in_table u (extents_of conditions)) t j k ≡ false
  rows_plain t u j k conditions = none_in_table t u j k (extents_of conditions) (extents_plain j k (intersection conditions))

  named_plain : (t j : ℕ) (k : Value A) (d : Column) (v : Value A) → reads_value (reads_named d v) t j k ≡ false
  named_plain t j k d v = go (is_null v) d.references
    where
      go : (b : Bool) (o : Option ℕ) → reads_value (cond b [] (option_map_or (λ u. in_table u (One v ∷ [])) o [])) t j k ≡ false
      go true o = refl
      go false None = refl
      go false (Some u) = none_in_table t u j k (One v ∷ []) refl

  fields_plain : (t j : ℕ) (k : Value A) (ds : List Column) (vs : List (Value A)) → reads_value (reads_fields ds vs) t j k ≡ false
  fields_plain t j k [] vs = refl
  fields_plain t j k (d ∷ ds) [] = refl
  fields_plain t j k (d ∷ ds) (v ∷ vs) = any-neither (is_for t j k) (reads_named d v) (reads_fields ds vs) (named_plain t j k d v) (fields_plain t j k ds vs)

  assigned_plain : (t j : ℕ) (k : Value A) (ds : List Column) (s : Source A) → reads_value (reads_assigned ds s) t j k ≡ false
  assigned_plain t j k [] s = refl
  assigned_plain t j k (d ∷ ds) (Literal v) = named_plain t j k d v
  assigned_plain t j k (d ∷ ds) (Sum n m) = go d.references
    where
      go : (o : Option ℕ) → reads_value (option_map_or (λ u. in_table u (Whole ∷ [])) o []) t j k ≡ false
      go None = refl
      go (Some u) = none_in_table t u j k (Whole ∷ []) refl

  assignments_plain : (t j : ℕ) (k : Value A) (ds : List Column) (more : List (Assignment A)) → reads_value (reads_assignments ds more) t j k ≡ false
  assignments_plain t j k ds [] = refl
  assignments_plain t j k ds (a ∷ more) = any-neither (is_for t j k) (reads_assigned (column_at ds a.column) a.source) (reads_assignments ds more) (assigned_plain t j k (column_at ds a.column) a.source) (assignments_plain t j k ds more)

  inserted_plain : (t u j : ℕ) (k : Value A) (values : List (Value A)) → reads_value (reads_inserted u values) t j k ≡ false
  inserted_plain t u j k [] = refl
  inserted_plain t u j k (v ∷ vs) = go (is_null v)
    where
      go : (b : Bool) → reads_value (cond b [] (in_table u (One v ∷ []))) t j k ≡ false
      go true = refl
      go false = none_in_table t u j k (One v ∷ []) refl

  -- ---- no interval ends at null

  abbrev end_given : End A → Bool
  end_given Open = true
  end_given (Closed v) = not (is_null v)
  end_given (Without v) = not (is_null v)

  given_either : (b : Bool) (x y : End A) → end_given x ≡ true → end_given y ≡ true → end_given (cond b x y) ≡ true
  given_either true x y p q = p
  given_either false x y p q = q

  later_given : (a b : End A) → end_given a ≡ true → end_given b ≡ true → end_given (later a b) ≡ true
  later_given Open b p q = q
  later_given (Closed v) Open p q = p
  later_given (Without v) Open p q = p
  later_given (Closed v) (Closed w) p q = given_either (is_lt (value_cmp v w)) (Closed w) (Closed v) q p
  later_given (Closed v) (Without w) p q = given_either (is_gt (value_cmp v w)) (Closed v) (Without w) p q
  later_given (Without v) (Closed w) p q = given_either (is_lt (value_cmp v w)) (Closed w) (Without v) q p
  later_given (Without v) (Without w) p q = given_either (is_lt (value_cmp v w)) (Without w) (Without v) q p

  sooner_given : (a b : End A) → end_given a ≡ true → end_given b ≡ true → end_given (sooner a b) ≡ true
  sooner_given Open b p q = q
  sooner_given (Closed v) Open p q = p
  sooner_given (Without v) Open p q = p
  sooner_given (Closed v) (Closed w) p q = given_either (is_gt (value_cmp v w)) (Closed w) (Closed v) q p
  sooner_given (Closed v) (Without w) p q = given_either (is_lt (value_cmp v w)) (Closed v) (Without w) p q
  sooner_given (Without v) (Closed w) p q = given_either (is_gt (value_cmp v w)) (Closed w) (Without v) q p
  sooner_given (Without v) (Without w) p q = given_either (is_gt (value_cmp v w)) (Without w) (Without v) q p

  abbrev Given : Option (Interval A) → Type 0
  Given None = Unit {0}
  Given (Some Nothing) = Unit {0}
  Given (Some (Span a b)) = (end_given a ≡ true) × (end_given b ≡ true)

  both_given : (i j : Option (Interval A)) → Given i → Given j → Given (meet_both i j)
  both_given None j p q = q
  both_given (Some i) None p q = p
  both_given (Some Nothing) (Some j) p q = p
  both_given (Some (Span a b)) (Some Nothing) p q = q
  both_given (Some (Span a b)) (Some (Span c d)) p q = (later_given a c p.0 q.0, sooner_given b d p.1 q.1)

  value_given : (v : Value A) (i : Interval A) → (is_null v ≡ false → Given (Some i)) → Given (Some (at_value v i))
  value_given v i f = go (is_null v) refl
    where
      go : (b : Bool) → is_null v ≡ b → Given (Some (cond b Nothing i))
      go true n = tt
      go false n = f n

  comparison_given : (how : Comparison) (v : Value A) → Given (by_comparison how v)
  comparison_given is.Equal v = value_given v (Span (Closed v) (Closed v)) (λ n. (ap not n, ap not n))
  comparison_given is.NotEqual v = go (is_null v)
    where
      go : (b : Bool) → Given (cond b (Some Nothing) None)
      go true = tt
      go false = tt
  comparison_given is.Less v = value_given v (Span Open (Without v)) (λ n. (refl, ap not n))
  comparison_given is.LessOrEqual v = value_given v (Span Open (Closed v)) (λ n. (refl, ap not n))
  comparison_given is.Greater v = value_given v (Span (Without v) Open) (λ n. (ap not n, refl))
  comparison_given is.GreaterOrEqual v = value_given v (Span (Closed v) Open) (λ n. (ap not n, refl))

  interval_given : (c : Condition A) → Given (interval c)
  interval_given (Compare zero how v) = comparison_given how v
  interval_given (Compare (suc n) how v) = tt
  interval_given (Between zero low high) = value_given low (at_value high (Span (Closed low) (Closed high))) (λ n. value_given high (Span (Closed low) (Closed high)) (λ m. (ap not n, ap not m)))
  interval_given (Between (suc n) low high) = tt
  interval_given (IsNull zero) = tt
  interval_given (IsNull (suc n)) = tt
  interval_given (IsNotNull n) = tt

  intersection_given : (cs : List (Condition A)) → Given (intersection cs)
  intersection_given [] = tt
  intersection_given (c ∷ cs) = both_given (interval c) (intersection cs) (interval_given c) (intersection_given cs)

  -- the single key that a WHERE reads isn't null
  key_of_one : (i : Option (Interval A)) (k : Value A) → Given i → extents i ≡ One k ∷ [] → is_null k ≡ false
  key_of_one None k g e = cc
  key_of_one (Some Nothing) k g e = cc
  key_of_one (Some (Span a b)) k g e = go a b g e
    where
      flip : (c : Bool) → not c ≡ true → c ≡ false
      flip true h = absurd (true≢false (sym h))
      flip false h = refl

      go : (a b : End A) → (end_given a ≡ true) × (end_given b ≡ true) → extent_of a b ≡ One k ∷ [] → is_null k ≡ false
      go Open b p q = cc
      go (Closed v) Open p q = cc
      go (Without v) Open p q = cc
      go (Closed v) (Closed w) p q = by (is_gt (value_cmp v w)) (same v w) q
        where
          by : (x y : Bool) → cond x [] (cond y (One v ∷ []) (Range (Closed v) (Closed w) ∷ [])) ≡ One k ∷ [] → is_null k ≡ false
          by true y q = cc
          by false true q = let e : v ≡ k = cc in ap is_null (sym e) ∙ flip (is_null v) p.0
          by false false q = cc
      go (Closed v) (Without w) p q = by (is_lt (value_cmp v w)) q
        where
          by : (x : Bool) → cond x (Range (Closed v) (Without w) ∷ []) [] ≡ One k ∷ [] → is_null k ≡ false
          by true q = cc
          by false q = cc
      go (Without v) (Closed w) p q = by (is_lt (value_cmp v w)) q
        where
          by : (x : Bool) → cond x (Range (Without v) (Closed w) ∷ []) [] ≡ One k ∷ [] → is_null k ≡ false
          by true q = cc
          by false q = cc
      go (Without v) (Without w) p q = by (is_lt (value_cmp v w)) q
        where
          by : (x : Bool) → cond x (Range (Without v) (Without w) ∷ []) [] ≡ One k ∷ [] → is_null k ≡ false
          by true q = cc
          by false q = cc

  -- ---- DELETE

  -- a reference that is read is of a column that has REFERENCES, to the key that may go
  naming_refers : (v : Value A) (t n : ℕ) (ds : List Column) (j : ℕ) (k : Value A) → list_any (has_reference j k) (rows_naming v t n ds) ≡ true → (i : ℕ) × (j ≡ n + i) × (refers_at (slice_get ds i) ≡ true) × (v ≡ k)
  naming_refers v t n [] j k e = absurd (true≢false (sym e))
  naming_refers v t n (d ∷ ds) j k e = go (references t d) refl e (naming_refers v t (suc n) ds j k)
    where
      Found : Type 0
      Found = (i : ℕ) × (j ≡ n + i) × (refers_at (slice_get (d ∷ ds) i) ≡ true) × (v ≡ k)

      plus_zero : (m : ℕ) → m ≡ m + 0
      plus_zero m = omega arith

      plus_suc : (m i : ℕ) → suc m + i ≡ m + suc i
      plus_suc m i = omega arith

      later_column : (i : ℕ) × (j ≡ suc n + i) × (refers_at (slice_get ds i) ≡ true) × (v ≡ k) → Found
      later_column w = (suc w.0, w.1 ∙ plus_suc n w.0, w.2, w.3)

      is_reference_to : (o : Option ℕ) → option_map_or (λ u. eqb u t) o false ≡ true → is_some o ≡ true
      is_reference_to None r = absurd (true≢false (sym r))
      is_reference_to (Some u) r = refl

      go : (b : Bool) → references t d ≡ b → list_any (has_reference j k) (cond b (Referencing n v ∷ rows_naming v t (suc n) ds) (rows_naming v t (suc n) ds)) ≡ true
          → (list_any (has_reference j k) (rows_naming v t (suc n) ds) ≡ true → (i : ℕ) × (j ≡ suc n + i) × (refers_at (slice_get ds i) ≡ true) × (v ≡ k)) → Found
      go false r g rest = later_column (rest g)
      go true r g rest = here (has_reference j k (Referencing n v)) refl g
        where
          here : (z : Bool) → has_reference j k (Referencing n v) ≡ z → (z || list_any (has_reference j k) (rows_naming v t (suc n) ds)) ≡ true → Found
          here true q h = let p = and_parts (eqb n j) (same v k) q in (0, sym (eqb-true n j p.0) ∙ plus_zero n, is_reference_to d.references r, same_value v k p.1)
          here false q h = later_column (rest h)

  columns_refer : (es : List (Extent A)) (t : ℕ) (ds : List Column) (j : ℕ) (k : Value A) → ((v : Value A) → es ≡ One v ∷ [] → is_null v ≡ false) → list_any (has_reference j k) (reads_columns es t ds) ≡ true → (refers_at (slice_get ds j) ≡ true) × (is_null k ≡ false)
  columns_refer es t ds j k one e = by_extent es one e
    where
      Refers : Type 0
      Refers = (refers_at (slice_get ds j) ≡ true) × (is_null k ≡ false)

      no_whole : (b : Bool) → list_any (has_reference {A = A} j k) (cond b (Whole ∷ []) []) ≡ true → Refers
      no_whole true g = absurd (true≢false (sym g))
      no_whole false g = absurd (true≢false (sym g))

      by_extent : (es : List (Extent A)) → ((v : Value A) → es ≡ One v ∷ [] → is_null v ≡ false) → list_any (has_reference j k) (reads_columns es t ds) ≡ true → Refers
      by_extent [] f g = absurd (true≢false (sym g))
      by_extent (One v ∷ []) f g =
          let w = naming_refers v t 0 ds j k g in
          (subst (λ m. refers_at (slice_get ds m) ≡ true) (zero_plus w.0 ∙ sym w.1) w.2, ap is_null (sym w.3) ∙ f v refl)
        where
          zero_plus : (m : ℕ) → m ≡ 0 + m
          zero_plus m = omega arith
      by_extent (One v ∷ x ∷ xs) f g = no_whole (list_any (references t) ds) g
      by_extent (Whole ∷ xs) f g = no_whole (list_any (references t) ds) g
      by_extent (Range a b ∷ xs) f g = no_whole (list_any (references t) ds) g
      by_extent (Referencing i v ∷ xs) f g = no_whole (list_any (references t) ds) g

  value_in_table : (t u j : ℕ) (k : Value A) (es : List (Extent A)) → reads_value (in_table u es) t j k ≡ true → (u ≡ t) × (list_any (has_reference j k) es ≡ true)
  value_in_table t u j k [] e = absurd (true≢false (sym e))
  value_in_table t u j k (x ∷ es) e = go (eqb u t) refl (has_reference j k x) e (value_in_table t u j k es)
    where
      last : (b : Bool) → (b || true) ≡ true
      last true = refl
      last false = refl

      go : (a : Bool) → eqb u t ≡ a → (b : Bool) → ((a && b) || reads_value (in_table u es) t j k) ≡ true → (reads_value (in_table u es) t j k ≡ true → (u ≡ t) × (list_any (has_reference j k) es ≡ true)) → (u ≡ t) × ((b || list_any (has_reference j k) es) ≡ true)
      go true p true f rest = (eqb-true u t p, refl)
      go true p false f rest = rest f
      go false p b f rest = let w = rest f in (w.0, ap (λ x. b || x) w.1 ∙ last b)

  referencing_refers : (es : List (Extent A)) (s u : ℕ) (c : Catalog) (t j : ℕ) (k : Value A) → ((v : Value A) → es ≡ One v ∷ [] → is_null v ≡ false) → reads_value (reads_referencing es s u c) t j k ≡ true
      → (i : ℕ) × (t ≡ u + i) × (refers c i j ≡ true) × (is_null k ≡ false)
  referencing_refers es s u [] t j k one e = absurd (true≢false (sym e))
  referencing_refers es s u (d ∷ c) t j k one e = go (reads_value (in_table u (reads_columns es s d.columns)) t j k) refl (referencing_refers es s (suc u) c t j k one)
    where
      plus_zero : (m : ℕ) → m ≡ m + 0
      plus_zero m = omega arith

      plus_suc : (m i : ℕ) → suc m + i ≡ m + suc i
      plus_suc m i = omega arith

      go : (b : Bool) → reads_value (in_table u (reads_columns es s d.columns)) t j k ≡ b → (reads_value (reads_referencing es s (suc u) c) t j k ≡ true → (i : ℕ) × (t ≡ suc u + i) × (refers c i j ≡ true) × (is_null k ≡ false))
          → (i : ℕ) × (t ≡ u + i) × (refers (d ∷ c) i j ≡ true) × (is_null k ≡ false)
      go true q rest =
          let w = value_in_table t u j k (reads_columns es s d.columns) q in
          let r = columns_refer es s d.columns j k one w.1 in
          (0, sym w.0 ∙ plus_zero u, r.0, r.1)
      go false q rest =
          let w = rest (some_on_one (is_for t j k) (in_table u (reads_columns es s d.columns)) (reads_referencing es s (suc u) c) q e) in
          (suc w.0, w.1 ∙ plus_suc u w.0, w.2, w.3)

  -- A reference that a statement reads is of a column that has REFERENCES, and names a key.
  pub footprint_names : (c : Catalog) (q : Statement A) (t j : ℕ) (k : Value A) → reads_value (footprint c q) t j k ≡ true → (refers c t j ≡ true) × (is_null k ≡ false)
  footprint_names c (Select s p conditions) t j k e = absurd (true≢false (sym e ∙ rows_plain t s j k conditions))
  footprint_names c (Insert s values) t j k e = absurd (true≢false (sym e ∙ any-neither (is_for t j k) (reads_inserted s values) (reads_fields (columns_of c s) values) (inserted_plain t s j k values) (fields_plain t j k (columns_of c s) values)))
  footprint_names c (Update s more conditions) t j k e = absurd (true≢false (sym e ∙ any-neither (is_for t j k) (in_table s (extents_of conditions)) (reads_assignments (columns_of c s) more) (rows_plain t s j k conditions) (assignments_plain t j k (columns_of c s) more)))
  footprint_names c (Delete s conditions) t j k e =
      let w = referencing_refers (extents_of conditions) s 0 c t j k (λ v g. key_of_one (intersection conditions) v (intersection_given conditions) g)
      (some_on_one (is_for t j k) (in_table s (extents_of conditions)) (reads_referencing (extents_of conditions) s 0 c) (rows_plain t s j k conditions) e) in
      (subst (λ m. refers c m j ≡ true) (zero_plus w.0 ∙ sym w.1) w.2, w.3)
    where
      zero_plus : (m : ℕ) → m ≡ 0 + m
      zero_plus m = omega arith
