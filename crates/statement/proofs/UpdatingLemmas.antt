-- An UPDATE by its assignments: its faults, column by column, are those of its new rows.
use Rattle.std.proofs.Common.{◌≡◌, refl, sym, ap, subst, ◌∙◌, ℕ, zero, suc, ◌+◌, ◌-◌, ◌<◌, ◌≤◌, Bool, true, false, true≢false, cond, not, ◌&&◌, ◌||◌, ◌⊎◌, inl, inr, List, [], ◌∷◌, map, take, drop, length, nat_lt, eqb, get_or, slice_get, slice_set, Option, Some, None, find, is_some, Bor, arith}
use Rattle.std.proofs.lemmas.Bool.{eqb-true, eq-eqb, ltb-true, and_parts, or_parts}
use Rattle.std.proofs.lemmas.Bool.Decides.{nat_tests}
use Rattle.std.proofs.lemmas.Option.{slice_get_within}
use Rattle.std.proofs.lemmas.List.{length-set, take_all}
use Rattle.std.specs.List.{AllByRecursion, filter, list_all, list_any}
use Rattle.std.specs.Option.{option_map_or}
use Rattle.value.specs.declared.value.Value.{Value}
use Rattle.value.specs.declared.refusal.Refusal.{Refusal}
use Rattle.value.specs.Isolation.{first_some}
use Rattle.value.proofs.IsolationLemmas.{In}
use Rattle.schema.specs.Definition.{Column, Catalog}
use Rattle.schema.specs.declared.row.Row.{Row}
use Rattle.schema.specs.declared.tables.Tables.{Tables}
use Rattle.schema.specs.Plain.{cells, columns_of, is_null, rows_of}
use Rattle.statement.specs.declared.condition.Condition.{Condition}
use Rattle.statement.specs.declared.reply.Reply.TheVariants.{Refused, Updated}
use Rattle.statement.specs.declared.statement.Assignment.{Assignment}
use Rattle.statement.specs.declared.outcome.Outcome.{Outcome}
use Rattle.statement.specs.declared.evaluate.stage.Stage.{Stage}
use Rattle.statement.specs.declared.evaluate.stage.Stage.TheVariants as stage
use Rattle.statement.specs.Conditions.{chosen, satisfies}
use Rattle.statement.specs.Evaluation.{answers, assigned, at_column, first_bad, given, is_assigned, least_column, lacks_row, lacks_value, out_of_range, puts, set_field, updated, updated_row, writes_rows, ◌or_else◌}
use Rattle.statement.specs.declared.statement.Statement.TheVariants.{Update}
use Rattle.statement.specs.Fits.{Fits, assignment_fits, assigns_once, column_passes, condition_fits, has_table, literals_fit, source_fits}
use Rattle.statement.specs.Updating.{AreAssignable, IsAssignable, assignment_to, code_of, fault_of, first_fault, first_given, is_faulty, is_given, is_refused, least_given, refuses}
use Rattle.statement.specs.Walk.{are_of, is_row_of}
use Rattle.statement.specs.Writing.{AreRowsOf}
use Rattle.statement.proofs.HeldLemmas.{held_length, held_table, literals_length}
use Rattle.statement.proofs.Suffices.{Given, assigned_at, needed}
use Rattle.statement.proofs.WritingLemmas.{change_by, chosen_rows}
use Rattle.statement.specs.declared.outcome.Mark.{Mark}
use Rattle.statement.specs.Marks.{marks_of}
use Rattle.schema.specs.declared.changes.Change.{Change}

zero_plus : (n : ℕ) → n ≡ 0 + n
zero_plus n = omega arith

plus_zero : (n : ℕ) → n + 0 ≡ n
plus_zero n = omega arith

plus_suc : (n i : ℕ) → n + suc i ≡ suc n + i
plus_suc n i = omega arith

above : (n : ℕ) → nat_lt 0 n ≡ true → 0 < n
above n e = grind (arith, nat_tests)

-- ---- the first of a list

first_before : {B C : Type 0} (f : B → Option C) (xs : List B) (x : B) → first_some f (x ∷ xs) ≡ None → (f x ≡ None) × (first_some f xs ≡ None)
first_before f xs x e = go (f x) refl e
  where
    go : (o : Option _) → f x ≡ o → cond (is_some o) o (first_some f xs) ≡ None → (f x ≡ None) × (first_some f xs ≡ None)
    go None is none = (is, none)
    go (Some y) is none = cc

module _ {B C : Type 0} where
  -- none so far, and the one at i is the first
  pub first_found : (f : B → Option C) (xs : List (Bor B)) (i : ℕ) (x : Bor B) (found : Option C) → first_some f (map (λ y. y.now) (take i xs)) ≡ None → i < length xs → x ≡ get_or xs i x → found ≡ f x.now → is_some found ≡ true
      → found ≡ first_some f (map (λ y. y.now) xs)
  first_found f [] i x found none lt is e some = absurd (omega arith)
  first_found f (y ∷ xs) zero x found none lt is e some = sym (ap (λ (z : Bor B). cond (is_some (f z.now)) (f z.now) (first_some f (map (λ w. w.now) xs))) (sym is) ∙ ap (λ o. cond (is_some o) o (first_some f (map (λ w. w.now) xs))) (sym e) ∙ ap (λ b. cond b found (first_some f (map (λ w. w.now) xs))) some)
  first_found f (y ∷ xs) (suc i) x found none lt is e some =
      let p = first_before f (map (λ w. w.now) (take i xs)) y.now none in
      first_found f xs i x found p.1 (omega arith) is e some ∙ sym (ap (λ o. cond (is_some o) o (first_some f (map (λ w. w.now) xs))) p.0)

  -- none so far, nor at i
  pub none_more : (f : B → Option C) (xs : List (Bor B)) (i : ℕ) (x : Bor B) → first_some f (map (λ y. y.now) (take i xs)) ≡ None → i < length xs → x ≡ get_or xs i x → f x.now ≡ None → first_some f (map (λ y. y.now) (take (suc i) xs)) ≡ None
  none_more f [] i x none lt is e = absurd (omega arith)
  none_more f (y ∷ xs) zero x none lt is e = ap (λ (z : Bor B). cond (is_some (f z.now)) (f z.now) None) (sym is) ∙ ap (λ o. cond (is_some o) o None) e
  none_more f (y ∷ xs) (suc i) x none lt is e =
      let p = first_before f (map (λ w. w.now) (take i xs)) y.now none in
      ap (λ o. cond (is_some o) o (first_some f (map (λ w. w.now) (take (suc i) xs)))) p.0 ∙ none_more f xs i x p.1 (omega arith) is e

-- what holds of none of a list doesn't hold of the one that is found
find_none : {B : Type 0} (p q h : B → Bool) (xs : List B) → ((x : B) → p x ≡ true → q x ≡ false → h x ≡ false) → list_any q xs ≡ false → option_map_or h (find p xs) false ≡ false
find_none p q h [] f e = refl
find_none p q h (x ∷ xs) f e = let parts = or_parts (q x) (list_any q xs) e in go (p x) refl parts.0 (find_none p q h xs f parts.1)
  where
    go : (b : Bool) → p x ≡ b → q x ≡ false → option_map_or h (find p xs) false ≡ false → option_map_or h (cond b (Some x) (find p xs)) false ≡ false
    go true is isnt rest = f x is isnt
    go false is isnt rest = rest

module _ {A : Type 0} where
  -- ---- rows without a fault

  none_refuses : (s : Stage) (X : Tables A) (n : ℕ) (d : Column) (v : Value A) → is_refused X n d v ≡ false → refuses s X n d v ≡ false
  none_refuses s X n d v e =
      let outer = or_parts (lacks_value n d v || out_of_range v) (lacks_row X n d v) e in
      let inner = or_parts (lacks_value n d v) (out_of_range v) outer.0 in
      go s inner.0 inner.1 outer.1
    where
      go : (t : Stage) → lacks_value n d v ≡ false → out_of_range v ≡ false → lacks_row X n d v ≡ false → refuses t X n d v ≡ false
      go stage.Value a b c = a
      go stage.Range a b c = b
      go stage.Reference a b c = c

  not_given : (s : Stage) (X : Tables A) (columns : List Column) (row : Row A) (more : List (Assignment A)) (n : ℕ) (d : Column) → slice_get columns n ≡ Some d → list_any (is_faulty X columns row) more ≡ false → is_given (refuses s X) more row n d ≡ false
  not_given s X columns row more n d there e = find_none (λ a. eqb a.column n) (is_faulty X columns row) (λ a. refuses s X n d (given row a.source)) more each e
    where
      each : (a : Assignment A) → eqb a.column n ≡ true → is_faulty X columns row a ≡ false → refuses s X n d (given row a.source) ≡ false
      each a is isnt =
          let same : a.column ≡ n = eqb-true a.column n is in
          let at : slice_get columns a.column ≡ Some d = ap (slice_get columns) same ∙ there in
          let fine : is_refused X a.column d (given row a.source) ≡ false = sym (ap (λ o. option_map_or (λ x. is_refused X a.column x (given row a.source)) o false) at) ∙ isnt in
          none_refuses s X n d (given row a.source) (subst (λ m. is_refused X m d (given row a.source) ≡ false) same fine)

  least_none : (s : Stage) (X : Tables A) (columns : List Column) (row : Row A) (more : List (Assignment A)) → list_any (is_faulty X columns row) more ≡ false
      → (n : ℕ) (ds : List Column) → ((i : ℕ) (d : Column) → slice_get ds i ≡ Some d → slice_get columns (n + i) ≡ Some d) → least_given (refuses s X) more row n ds ≡ None
  least_none s X columns row more e n [] at = refl
  least_none s X columns row more e n (d ∷ ds) at =
      let here : slice_get columns n ≡ Some d = subst (λ m. slice_get columns m ≡ Some d) (plus_zero n) (at 0 d refl) in
      ap (λ b. cond b (Some n) (least_given (refuses s X) more row (suc n) ds)) (not_given s X columns row more n d here e)
      ∙ least_none s X columns row more e (suc n) ds (λ i b is. subst (λ m. slice_get columns m ≡ Some b) (plus_suc n i) (at (suc i) b is))

  -- no stage refuses what is assigned to a row
  pub row_faultless : (X : Tables A) (columns : List Column) (row : Row A) (more : List (Assignment A)) → list_any (is_faulty X columns row) more ≡ false → (s : Stage) → least_given (refuses s X) more row 0 columns ≡ None
  row_faultless X columns row more e s = least_none s X columns row more e 0 columns (λ i d is. subst (λ m. slice_get columns m ≡ Some d) (zero_plus i) is)

  -- nor to any row
  pub rows_faultless : (X : Tables A) (more : List (Assignment A)) (columns : List Column) (rows : List (Row A)) → ((s : Stage) → first_given (refuses s X) more columns rows ≡ None) → first_fault X more columns rows ≡ None
  rows_faultless X more columns rows none =
      let fault : Stage → Option Refusal = λ s. fault_of s X more columns rows in
      let clear : (s : Stage) → fault s ≡ None = λ s. ap (at_column (code_of s)) (none s) in
      ap (λ o. cond (is_some o) o (first_some fault (stage.Range ∷ stage.Reference ∷ []))) (clear stage.Value) ∙ ap (λ o. cond (is_some o) o (first_some fault (stage.Reference ∷ []))) (clear stage.Range) ∙ ap (λ o. cond (is_some o) o None) (clear stage.Reference)

  -- ---- the assignment to a column

  unassigned : (more : List (Assignment A)) (n : ℕ) → is_assigned more n ≡ false → assignment_to more n ≡ None
  unassigned [] n e = refl
  unassigned (a ∷ more) n e = go (eqb a.column n) refl e (unassigned more n)
    where
      go : (b : Bool) → eqb a.column n ≡ b → (b || is_assigned more n) ≡ false → (is_assigned more n ≡ false → assignment_to more n ≡ None) → cond b (Some a) (assignment_to more n) ≡ None
      go true is e rest = absurd (true≢false e)
      go false is e rest = rest e

  is_among : (more : List (Assignment A)) (a : Assignment A) → In a more → is_assigned more a.column ≡ true
  is_among [] a i = absurd i
  is_among (b ∷ more) a (inl p) = ap (λ t. t || is_assigned more a.column) (eq-eqb b.column a.column (sym (ap (λ (y : Assignment A). y.column) p)))
  is_among (b ∷ more) a (inr i) = ap (λ t. eqb b.column a.column || t) (is_among more a i) ∙ last (eqb b.column a.column)
    where
      last : (t : Bool) → (t || true) ≡ true
      last true = refl
      last false = refl

  -- where no column is assigned twice, each assignment is that to its column
  assigned_by : (more : List (Assignment A)) (a : Assignment A) → assigns_once more ≡ true → In a more → assignment_to more a.column ≡ Some a
  assigned_by [] a once i = absurd i
  assigned_by (b ∷ more) a once (inl p) = ap (λ t. cond t (Some b) (assignment_to more a.column)) (eq-eqb b.column a.column (sym (ap (λ (y : Assignment A). y.column) p))) ∙ ap Some (sym p)
  assigned_by (b ∷ more) a once (inr i) = go (eqb b.column a.column) refl (assigned_by more a parts.1 i)
    where
      parts : (not (is_assigned more b.column) ≡ true) × (assigns_once more ≡ true)
      parts = and_parts (not (is_assigned more b.column)) (assigns_once more) once

      go : (t : Bool) → eqb b.column a.column ≡ t → assignment_to more a.column ≡ Some a → cond t (Some b) (assignment_to more a.column) ≡ Some a
      go true is rest = absurd (true≢false (sym parts.0 ∙ ap (λ n. not (is_assigned more n)) (eqb-true b.column a.column is) ∙ ap not (is_among more a i)))
      go false is rest = rest

  -- ---- the columns of a new row

  -- A value of a new row is in a column that isn't assigned, or is what the assignment to its column gives.
  abbrev pub IsAt : List (Assignment A) → Row A → ℕ → Value A → Type 0
  IsAt more row n v = (is_assigned more n ≡ false) × (assignment_to more n ≡ None) ⊎ (a : Assignment A) × (is_assigned more n ≡ true) × (assignment_to more n ≡ Some a) × (v ≡ given row a.source)

  at_cell : (more : List (Assignment A)) (row : Row A) → assigns_once more ≡ true → is_assigned more 0 ≡ false → (n : ℕ) (v : Value A) → slice_get (cells (updated_row more row)) n ≡ Some v → IsAt more row n v
  at_cell more row once key zero v e = inl (key, unassigned more 0 key)
  at_cell more row once key (suc m) v e = go (assigned_at row more row.1 m v e)
    where
      go : (is_assigned more (suc m) ≡ false) × (slice_get row.1 m ≡ Some v) ⊎ Given row more (suc m) v → IsAt more row (suc m) v
      go (inl p) = inl (p.0, unassigned more (suc m) p.0)
      go (inr g) = inr (g.0, subst (λ n. is_assigned more n ≡ true) g.2 (is_among more g.0 g.1), subst (λ n. assignment_to more n ≡ Some g.0) g.2 (assigned_by more g.0 once g.1), g.3)

  least_same : (bad : ℕ → Column → Value A → Bool) (more : List (Assignment A)) (row : Row A) (n : ℕ) (ds : List Column) (vs : List (Value A)) → length vs ≡ length ds → ((i : ℕ) (v : Value A) → slice_get vs i ≡ Some v → IsAt more row (n + i) v)
      → least_column (λ m d v. is_assigned more m && bad m d v) n ds vs ≡ least_given bad more row n ds
  least_same bad more row n [] vs len at = refl
  least_same bad more row n (d ∷ ds) [] len at = absurd (omega (arith, len))
  least_same bad more row n (d ∷ ds) (v ∷ vs) len at =
      ap (λ b. cond b (Some n) (least_column (λ m e w. is_assigned more m && bad m e w) (suc n) ds vs)) (here (subst (λ m. IsAt more row m v) (plus_zero n) (at 0 v refl)))
      ∙ ap (cond (is_given bad more row n d) (Some n)) (least_same bad more row (suc n) ds vs (omega (arith, len)) (λ i w e. subst (λ m. IsAt more row m w) (plus_suc n i) (at (suc i) w e)))
    where
      here : IsAt more row n v → (is_assigned more n && bad n d v) ≡ is_given bad more row n d
      here (inl p) = ap (λ b. b && bad n d v) p.0 ∙ sym (ap (λ o. option_map_or (λ a. bad n d (given row a.source)) o false) p.1)
      here (inr p) = ap (λ b. b && bad n d v) p.1 ∙ ap (bad n d) p.3 ∙ sym (ap (λ o. option_map_or (λ a. bad n d (given row a.source)) o false) p.2)

  pub length-set_field : (n : ℕ) (v : Value A) (fields : List (Value A)) → length (set_field n v fields) ≡ length fields
  length-set_field zero v fields = refl
  length-set_field (suc n) v fields = length-set fields n v

  length-assigned : (row : Row A) (more : List (Assignment A)) (fields : List (Value A)) → length (assigned row more fields) ≡ length fields
  length-assigned row [] fields = refl
  length-assigned row (a ∷ more) fields = length-assigned row more (set_field a.column (given row a.source) fields) ∙ length-set_field a.column (given row a.source) fields

  -- The bad column of a stage is the same, by new rows and by assignments.
  bad_same : (bad : ℕ → Column → Value A → Bool) (more : List (Assignment A)) (ds : List Column) (rows : List (Row A)) → assigns_once more ≡ true → is_assigned more 0 ≡ false → list_all (is_row_of ds) rows ≡ true
      → first_bad (λ m d v. is_assigned more m && bad m d v) ds (map (updated_row more) rows) ≡ first_given bad more ds rows
  bad_same bad more ds [] once key held = refl
  bad_same bad more ds (r ∷ rows) once key held =
      let p = and_parts (is_row_of ds r) (list_all (is_row_of ds) rows) held in
      let fit = (and_parts (not (is_null r.0)) (literals_fit ds (cells r)) p.0).1 in
      let is = least_same bad more r 0 ds (cells (updated_row more r)) (ap suc (length-assigned r more r.1) ∙ literals_length ds (cells r) fit) (λ i v e. subst (λ m. IsAt more r m v) (zero_plus i) (at_cell more r once key i v e)) in
      ap (λ o. cond (is_some o) o (first_bad (λ m d v. is_assigned more m && bad m d v) ds (map (updated_row more) rows))) is
      ∙ ap (cond (is_some (least_given bad more r 0 ds)) (least_given bad more r 0 ds)) (bad_same bad more ds rows once key p.1)

  -- ---- what an UPDATE answers

  -- a fault that was found, or the rest
  abbrev pub refused_or : Option Refusal → Outcome A → Outcome A
  refused_or None other = other
  refused_or (Some r) other = answers (Refused r)

  one_after_other : (a b c : Option Refusal) (other : Outcome A) → (a or_else (b or_else (c or_else other))) ≡ refused_or (cond (is_some a) a (cond (is_some b) b (cond (is_some c) c None))) other
  one_after_other (Some a) b c other = refl
  one_after_other None (Some b) c other = refl
  one_after_other None None (Some c) other = refl
  one_after_other None None None other = refl

  pub updated_by : (c : Catalog) (t : ℕ) (more : List (Assignment A)) (rows : List (Row A)) (X : Tables A) → assigns_once more ≡ true → is_assigned more 0 ≡ false → list_all (is_row_of (columns_of c t)) rows ≡ true
      → updated c t more rows X ≡ refused_or (first_fault X more (columns_of c t) rows) (writes_rows c X (Updated (length rows)) (map (λ row. puts t (updated_row more row)) rows))
  updated_by c t more rows X once key held =
      let written = writes_rows c X (Updated (length rows)) (map (λ row. puts t (updated_row more row)) rows) in
      let is : (s : Stage) → first_bad (λ m d v. is_assigned more m && refuses s X m d v) (columns_of c t) (map (updated_row more) rows) ≡ first_given (refuses s X) more (columns_of c t) rows = λ s. bad_same (refuses s X) more (columns_of c t) rows once key held in
      ap (λ o. at_column (code_of stage.Value) o or_else (at_column (code_of stage.Range) (first_bad (λ m d v. is_assigned more m && refuses stage.Range X m d v) (columns_of c t) (map (updated_row more) rows))
      or_else (at_column (code_of stage.Reference) (first_bad (λ m d v. is_assigned more m && refuses stage.Reference X m d v) (columns_of c t) (map (updated_row more) rows)) or_else written))) (is stage.Value)
      ∙ ap (λ o. fault_of stage.Value X more (columns_of c t) rows or_else (at_column (code_of stage.Range) o or_else (at_column (code_of stage.Reference) (first_bad (λ m d v. is_assigned more m && refuses stage.Reference X m d v) (columns_of c t) (map (updated_row more) rows)) or_else written))) (is stage.Range)
      ∙ ap (λ o. fault_of stage.Value X more (columns_of c t) rows or_else (fault_of stage.Range X more (columns_of c t) rows or_else (at_column (code_of stage.Reference) o or_else written))) (is stage.Reference)
      ∙ one_after_other (fault_of stage.Value X more (columns_of c t) rows) (fault_of stage.Range X more (columns_of c t) rows) (fault_of stage.Reference X more (columns_of c t) rows) written

  -- ---- rows that can be made

  none_given : (bad : ℕ → Column → Value A → Bool) (more : List (Assignment A)) (row : Row A) (n : ℕ) (ds : List Column) (i : ℕ) (d : Column) → least_given bad more row n ds ≡ None → slice_get ds i ≡ Some d → is_given bad more row (n + i) d ≡ false
  none_given bad more row n [] i d none e = cc
  none_given bad more row n (b ∷ ds) i d none e = go (is_given bad more row n b) refl none i e (none_given bad more row (suc n) ds)
    where
      go : (t : Bool) → is_given bad more row n b ≡ t → cond t (Some n) (least_given bad more row (suc n) ds) ≡ None → (j : ℕ) → slice_get (b ∷ ds) j ≡ Some d
          → ((j : ℕ) (d : Column) → least_given bad more row (suc n) ds ≡ None → slice_get ds j ≡ Some d → is_given bad more row (suc n + j) d ≡ false) → is_given bad more row (n + j) d ≡ false
      go true is none j g rest = cc
      go false is none zero g rest = let p : b ≡ d = cc in subst (λ m. is_given bad more row m d ≡ false) (sym (plus_zero n)) (subst (λ x. is_given bad more row n x ≡ false) p is)
      go false is none (suc j) g rest = subst (λ m. is_given bad more row m d ≡ false) (sym (plus_suc n j)) (rest j d none g)

  -- an assignment of a row that has a sum out of range in no column
  assignable : (more : List (Assignment A)) (ds : List Column) (row : Row A) (a : Assignment A) → assigns_once more ≡ true → In a more → assignment_fits ds a ≡ true → length (cells row) ≡ length ds → least_given (λ n d v. out_of_range v) more row 0 ds ≡ None → IsAssignable row (length row.1) a
  assignable more ds row a once i fit len none = go (slice_get ds a.column) refl parts.1
    where
      parts : (nat_lt 0 a.column ≡ true) × (column_passes (source_fits ds a.source) ds a.column ≡ true)
      parts = and_parts (nat_lt 0 a.column) (column_passes (source_fits ds a.source) ds a.column) fit

      go : (o : Option Column) → slice_get ds a.column ≡ o → option_map_or (source_fits ds a.source) o false ≡ true → IsAssignable row (length row.1) a
      go None is e = absurd (true≢false (sym e))
      go (Some d) is e =
          let within = slice_get_within ds a.column d is in record {
            small = sym (ap (λ o. option_map_or (λ b. out_of_range (given row b.source)) o false) (assigned_by more a once i)) ∙ subst (λ m. is_given (λ n e v. out_of_range v) more row m d ≡ false) (sym (zero_plus a.column)) (none_given (λ n e v. out_of_range v) more row 0 ds a.column d none is);
            counted = above a.column parts.0;
            within = omega (arith, within, len);
          }

  each_assignable : (P : Assignment A → Type 0) (more : List (Assignment A)) → ((a : Assignment A) → In a more → P a) → AllByRecursion P more
  each_assignable P [] f = tt
  each_assignable P (a ∷ more) f = (f a (inl refl), each_assignable P more (λ b i. f b (inr i)))

  fits_each : (ds : List Column) (more : List (Assignment A)) (a : Assignment A) → list_all (assignment_fits ds) more ≡ true → In a more → assignment_fits ds a ≡ true
  fits_each ds [] a fit i = absurd i
  fits_each ds (b ∷ more) a fit (inl p) = ap (assignment_fits ds) p ∙ (and_parts (assignment_fits ds b) (list_all (assignment_fits ds) more) fit).0
  fits_each ds (b ∷ more) a fit (inr i) = fits_each ds more a (and_parts (assignment_fits ds b) (list_all (assignment_fits ds) more) fit).1 i

  all_assignable : (more : List (Assignment A)) (ds : List Column) (rows : List (Row A)) → assigns_once more ≡ true → list_all (assignment_fits ds) more ≡ true → list_all (is_row_of ds) rows ≡ true → first_given (λ n d v. out_of_range v) more ds rows ≡ None → AllByRecursion (AreAssignable more) rows
  all_assignable more ds [] once fit held none = tt
  all_assignable more ds (r ∷ rows) once fit held none =
      let p = and_parts (is_row_of ds r) (list_all (is_row_of ds) rows) held in
      let q = first_before (λ row. least_given (λ n d v. out_of_range v) more row 0 ds) rows r none in
      let len = literals_length ds (cells r) (and_parts (not (is_null r.0)) (literals_fit ds (cells r)) p.0).1 in
      (each_assignable (λ a. IsAssignable r (length r.1) a) more (λ a i. assignable more ds r a once i (fits_each ds more a fit i) len q.0), all_assignable more ds rows once fit p.1 q.1)

  -- where no stage has a fault, each row can be made
  pub rows_assignable : (X : Tables A) (more : List (Assignment A)) (ds : List Column) (rows : List (Row A)) → assigns_once more ≡ true → list_all (assignment_fits ds) more ≡ true → list_all (is_row_of ds) rows ≡ true → first_fault X more ds rows ≡ None → AllByRecursion (AreAssignable more) rows
  rows_assignable X more ds rows once fit held none = all_assignable more ds rows once fit held (no_place (first_given (λ n d v. out_of_range v) more ds rows) range)
    where
      range : fault_of stage.Range X more ds rows ≡ None
      range = (first_before (λ s. fault_of s X more ds rows) (stage.Reference ∷ []) stage.Range (first_before (λ s. fault_of s X more ds rows) (stage.Range ∷ stage.Reference ∷ []) stage.Value none).1).0

      no_place : (o : Option ℕ) → at_column (code_of stage.Range) o ≡ None → o ≡ None
      no_place None e = refl
      no_place (Some n) e = cc

  -- ---- one assignment after the other

  pub set_field-is : (n : ℕ) (v : Value A) (fields : List (Value A)) → 0 < n → slice_set fields (n - 1) v ≡ set_field n v fields
  set_field-is zero v fields lt = absurd (omega arith)
  set_field-is (suc n) v fields lt = ap (λ m. slice_set fields m v) (less n)
    where
      less : (m : ℕ) → suc m - 1 ≡ m
      less m = omega arith

  pub assign_next : (row : Row A) (more : List (Assignment A)) (i : ℕ) (a : Assignment A) (fields : List (Value A)) → i < length more → a ≡ get_or more i a → assigned row (drop i more) fields ≡ assigned row (drop (suc i) more) (set_field a.column (given row a.source) fields)
  assign_next row [] i a fields lt is = absurd (omega arith)
  assign_next row (b ∷ more) zero a fields lt is = ap (λ (x : Assignment A). assigned row more (set_field x.column (given row x.source) fields)) (sym is)
  assign_next row (b ∷ more) (suc i) a fields lt is = assign_next row more i a fields (omega arith) is

  pub assignable_at : (row : Row A) (n : ℕ) (more : List (Assignment A)) (i : ℕ) (a : Assignment A) → AllByRecursion (λ b. IsAssignable row n b) more → i < length more → a ≡ get_or more i a → IsAssignable row n a
  assignable_at row n [] i a all lt is = absurd (omega arith)
  assignable_at row n (b ∷ more) zero a all lt is = subst (λ (x : Assignment A). IsAssignable row n x) (sym is) all.0
  assignable_at row n (b ∷ more) (suc i) a all lt is = assignable_at row n more i a all.1 (omega arith) is

  pub row_assignable : (more : List (Assignment A)) (rows : List (Bor (Row A))) (i : ℕ) (row : Bor (Row A)) → AllByRecursion (AreAssignable more) (map (λ r. r.now) rows) → i < length rows → row ≡ get_or rows i row → AreAssignable more row.now
  row_assignable more [] i row all lt is = absurd (omega arith)
  row_assignable more (r ∷ rows) zero row all lt is = subst (λ (x : Bor (Row A)). AreAssignable more x.now) (sym is) all.0
  row_assignable more (r ∷ rows) (suc i) row all lt is = row_assignable more rows i row all.1 (omega arith) is

  -- ---- the chosen rows

  kept_of : (p : Row A → Bool) (q : Row A → Bool) (rows : List (Row A)) → list_all q rows ≡ true → list_all q (filter p rows) ≡ true
  kept_of p q [] e = refl
  kept_of p q (r ∷ rows) e = go (p r) (and_parts (q r) (list_all q rows) e) (kept_of p q rows)
    where
      go : (b : Bool) → (q r ≡ true) × (list_all q rows ≡ true) → (list_all q rows ≡ true → list_all q (filter p rows) ≡ true) → list_all q (cond b (r ∷ filter p rows) (filter p rows)) ≡ true
      go true h rest = ap (λ b. b && list_all q (filter p rows)) h.0 ∙ rest h.1
      go false h rest = rest h.1

  -- the chosen rows are rows of their table
  pub chosen_held : (c : Catalog) (X : Tables A) (t : ℕ) (cs : List (Condition A)) → are_of c X ≡ true → list_all (is_row_of (columns_of c t)) (chosen X t cs) ≡ true
  chosen_held c X t cs held = kept_of (satisfies cs) (is_row_of (columns_of c t)) (rows_of X t) (held_table c X t held).1

  -- ---- an UPDATE that fits

  -- what fitting says of an UPDATE
  pub record UpdateFits (c : Catalog) (t : ℕ) (more : List (Assignment A)) (cs : List (Condition A)) : Type 0 where
    pub table : t < length c
    pub fit : list_all (assignment_fits (columns_of c t)) more ≡ true
    pub once : assigns_once more ≡ true
    pub key : is_assigned more 0 ≡ false
    pub conditions : list_all (condition_fits (columns_of c t)) cs ≡ true

  pub update_fits : (c : Catalog) (t : ℕ) (more : List (Assignment A)) (cs : List (Condition A)) → Fits c (Update t more cs) → UpdateFits c t more cs
  update_fits c t more cs fits =
      let p = and_parts (has_table c t && list_all (assignment_fits (columns_of c t)) more && assigns_once more) (list_all (condition_fits (columns_of c t)) cs) fits in
      let q = and_parts (has_table c t && list_all (assignment_fits (columns_of c t)) more) (assigns_once more) p.0 in
      let r = and_parts (has_table c t) (list_all (assignment_fits (columns_of c t)) more) q.0 in
      record { table = ltb-true t (length c) r.0; fit = r.1; once = q.1; key = needed c (Update t more cs) fits; conditions = p.1 }

  pub update_has : (c : Catalog) (X : Tables A) (t : ℕ) (more : List (Assignment A)) (cs : List (Condition A)) → are_of c X ≡ true → Fits c (Update t more cs) → t < length X
  update_has c X t more cs held fits = let len = held_length c X held in let lt = (update_fits c t more cs fits).table in omega (arith, len, lt)

  -- where the rows so far are all rows, all is written
  pub all_written : (c : Catalog) (X : Tables A) (t : ℕ) (more : List (Assignment A)) (rows : List (Bor (Row A))) (i : ℕ) (outcome : Outcome A) (changes : List (Change A)) (marks : List (Mark A)) → length rows ≤ i
      → outcome ≡ record { reply = Updated (length rows); changes = changes; marks = marks }
      → changes ≡ map (change_by t (λ row. Some (updated_row more row).1)) (map (λ row. row.now) (take i rows)) → marks ≡ marks_of c X (map (change_by t (λ row. Some (updated_row more row).1)) (map (λ row. row.now) (take i rows)))
      → outcome ≡ writes_rows c X (Updated (length rows)) (map (λ row. puts t (updated_row more row)) (map (λ row. row.now) rows))
  all_written c X t more rows i outcome changes marks all is e f =
      let whole : take i rows ≡ rows = take_all i rows all in
      is ∙ ap (λ xs. record { reply = Updated (length rows); changes = xs; marks = marks }) e
      ∙ ap (λ ms. record { reply = Updated (length rows); changes = map (change_by t (λ row. Some (updated_row more row).1)) (map (λ row. row.now) (take i rows)); marks = ms }) f
      ∙ ap (λ rs. writes_rows c X (Updated (length rows)) (map (λ row. puts t (updated_row more row)) (map (λ row. row.now) rs))) whole

  -- the chosen rows, borrowed, with the table's columns and the assignments as slices give them
  pub record AreChosen (c : Catalog) (X : Tables A) (t : ℕ) (more : List (Assignment A)) (cs : List (Condition A)) (ds : List Column) (given_all : List (Assignment A)) (rows : List (Bor (Row A))) : Type 0 where
    pub columns : ds ≡ columns_of c t
    pub assignments : given_all ≡ more
    pub chosen_all : map (λ row. row.now) rows ≡ chosen X t cs

  module _ (c : Catalog) (X : Tables A) (t : ℕ) (more : List (Assignment A)) (cs : List (Condition A)) (held : are_of c X ≡ true) (fits : Fits c (Update t more cs)) (ds : List Column) (given_all : List (Assignment A)) (rows : List (Bor (Row A))) (are : AreChosen c X t more cs ds given_all rows) where
    fault_same : first_fault X given_all ds (map (λ row. row.now) rows) ≡ first_fault X more (columns_of c t) (chosen X t cs)
    fault_same = ap (λ bs. first_fault X bs ds (map (λ row. row.now) rows)) are.assignments ∙ ap (λ es. first_fault X more es (map (λ row. row.now) rows)) are.columns ∙ ap (first_fault X more (columns_of c t)) are.chosen_all

    updated_is : updated c t more (chosen X t cs) X ≡ refused_or (first_fault X more (columns_of c t) (chosen X t cs)) (writes_rows c X (Updated (length (chosen X t cs))) (map (λ row. puts t (updated_row more row)) (chosen X t cs)))
    updated_is = let f = update_fits c t more cs fits in updated_by c t more (chosen X t cs) X f.once f.key (chosen_held c X t cs held)

    pub update_refused : (found : Option Refusal) (fault : Refusal) → found ≡ first_fault X given_all ds (map (λ row. row.now) rows) → found ≡ Some fault → answers (Refused fault) ≡ updated c t more (chosen X t cs) X
    update_refused found fault e is =
        sym (updated_is ∙ ap (λ o. refused_or o (writes_rows c X (Updated (length (chosen X t cs))) (map (λ row. puts t (updated_row more row)) (chosen X t cs)))) (sym fault_same ∙ sym e ∙ is))

    length-borrowed : (xs : List (Bor (Row A))) → length xs ≡ length (map (λ x. x.now) xs)
    length-borrowed [] = refl
    length-borrowed (x ∷ xs) = ap suc (length-borrowed xs)

    pub update_written : first_fault X given_all ds (map (λ row. row.now) rows) ≡ None
        → writes_rows c X (Updated (length rows)) (map (λ row. puts t (updated_row given_all row)) (map (λ row. row.now) rows)) ≡ updated c t more (chosen X t cs) X
    update_written none =
        ap (λ n. writes_rows c X (Updated n) (map (λ row. puts t (updated_row given_all row)) (map (λ row. row.now) rows))) (length-borrowed rows)
        ∙ ap (λ rs. writes_rows c X (Updated (length rs)) (map (λ row. puts t (updated_row given_all row)) rs)) are.chosen_all
        ∙ ap (λ bs. writes_rows c X (Updated (length (chosen X t cs))) (map (λ row. puts t (updated_row bs row)) (chosen X t cs))) are.assignments
        ∙ sym (updated_is ∙ ap (λ o. refused_or o (writes_rows c X (Updated (length (chosen X t cs))) (map (λ row. puts t (updated_row more row)) (chosen X t cs)))) (sym fault_same ∙ none))

    pub update_rows : AreRowsOf X t (map (λ row. row.now) rows)
    update_rows = subst (AreRowsOf X t) (sym are.chosen_all) (chosen_rows c X t cs held)

    pub update_assignable : first_fault X given_all ds (map (λ row. row.now) rows) ≡ None → AllByRecursion (AreAssignable given_all) (map (λ row. row.now) rows)
    update_assignable none =
        let f = update_fits c t more cs fits in
        subst (λ bs. AllByRecursion (AreAssignable bs) (map (λ row. row.now) rows)) (sym are.assignments)
        (subst (λ rs. AllByRecursion (AreAssignable more) rs) (sym are.chosen_all) (rows_assignable X more (columns_of c t) (chosen X t cs) f.once f.fit (chosen_held c X t cs held) (sym fault_same ∙ none)))
