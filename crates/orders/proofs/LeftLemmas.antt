-- What a statement leaves at a key of plain tables.
use Rattle.std.proofs.Common.{◌≡◌, refl, sym, ap, ◌∙◌, ℕ, ◌<◌, ◌≤◌, Bool, true, false, true≢false, cond, not, ◌&&◌, ◌||◌, ◌⊎◌, inl, inr, List, [], ◌∷◌, map, length, Option, Some, None, is_some, unwrap_or, eqb}
use Rattle.std.proofs.lemmas.Bool.{eqb-true, and_parts, and_from}
use Rattle.std.specs.List.{filter, list_all, list_any}
use Rattle.std.specs.FinMap.{find, is_sorted}
use Rattle.value.specs.declared.value.Value.{Value}
use Rattle.value.specs.declared.refusal.Code.TheVariants as code
use Rattle.value.specs.Order.{value_cmp}
use Rattle.value.proofs.IsolationLemmas.{In}
use Rattle.value.proofs.Basics.{cases_le, eqb-self, filter-In, true_from_T}
use Rattle.schema.specs.Definition.{Catalog, columns_of}
use Rattle.schema.specs.declared.row.Row.{Row}
use Rattle.schema.specs.declared.changes.Change.{Change}
use Rattle.schema.specs.declared.tables.Tables.{Tables}
use Rattle.schema.specs.Plain.{same, field, rows_of, row_at, is_sound, put_all}
use Rattle.schema.proofs.PlainLemmas.{same_value, touches, left_by, row_at-put_all, rows_of-past, length-put_all}
use Rattle.schema.proofs.SoundLemmas.{found_row}
use Rattle.statement.specs.declared.condition.Condition.{Condition}
use Rattle.statement.specs.declared.statement.Statement.{Statement}
use Rattle.statement.specs.declared.statement.Statement.TheVariants.{Select, Insert, Update, Delete}
use Rattle.statement.specs.Conditions.{holds, satisfies, chosen}
use Rattle.statement.specs.Evaluation.{outcome, after, lacks_value, lacks_row, least_column, first_bad, assigned_lacks_value, assigned_out_of_range, assigned_lacks_row, least_table, updated_row, puts}
use Rattle.statement.proofs.LawsLemmas.{sound_ordered}
use Rattle.statement.proofs.RowsLemmas.{found_in}
use Rattle.statement.proofs.Suffices.{same_itself, fault_or, table_or}
use Rattle.orders.specs.Counts.{chooses, inserts}
use Rattle.orders.specs.Ways.{column_of, value_meets}
use Rattle.orders.specs.Symbolic.{leaves_out, may_choose, looks_at}
use Rattle.orders.proofs.WayLemmas.{holds_by}
use Rattle.orders.proofs.ChoiceLemmas.{is_chosen, not_is}

last_true : (b : Bool) → (b || true) ≡ true
last_true true = refl
last_true false = refl

pub in_filter : {B : Type 0} (p : B → Bool) (xs : List B) (x : B) → In x (filter p xs) → In x xs × (p x ≡ true)
in_filter p [] x i = absurd i
in_filter {B} p (y ∷ xs) x i = go (p y) refl i (in_filter p xs x)
  where
    go : (b : Bool) → p y ≡ b → In x (cond b (y ∷ filter p xs) (filter p xs)) → (In x (filter p xs) → In x xs × (p x ≡ true)) → ((x ≡ y) ⊎ In x xs) × (p x ≡ true)
    go true e (inl q) rest = (inl q, ap p q ∙ e)
    go true e (inr j) rest = let r = rest j in (inr r.0, r.1)
    go false e j rest = let r = rest j in (inr r.0, r.1)

module _ {A : Type 0} where
  -- ---- the rows of a table

  pub table_sorted : (c : Catalog) (X : Tables A) (t : ℕ) → is_sound c X ≡ true → is_sorted value_cmp (rows_of X t) ≡ true
  table_sorted c X t h = true_from_T (is_sorted value_cmp (rows_of X t)) ((sound_ordered c X h).each t)

  -- a chosen row of the key
  pub in_chosen : (c : Catalog) (X : Tables A) (t : ℕ) (cs : List (Condition A)) (row : Row A) → is_sound c X ≡ true → In row (chosen X t cs) → (row_at X t row.0 ≡ Some row.1) × (satisfies cs row ≡ true)
  in_chosen c X t cs row h i =
      let r = in_filter (satisfies cs) (rows_of X t) row i in
      (found_row (rows_of X t) row (table_sorted c X t h) r.0, r.1)

  pub chosen_there : (X : Tables A) (t : ℕ) (k : Value A) (cs : List (Condition A)) (gs : List (Value A)) → row_at X t k ≡ Some gs → satisfies cs (k, gs) ≡ true → In (k, gs) (chosen X t cs)
  chosen_there X t k cs gs e s = filter-In (satisfies cs) (k, gs) (rows_of X t) (found_in (rows_of X t) k gs e) s

  -- what is chosen of a key is its row
  pub chosen_is-row : (c : Catalog) (X : Tables A) (t : ℕ) (k : Value A) (cs : List (Condition A)) (row : Row A) → is_sound c X ≡ true → In row (chosen X t cs) → row.0 ≡ k → (row_at X t k ≡ Some row.1) × (satisfies cs (k, row.1) ≡ true)
  chosen_is-row c X t k cs row h i e =
      let r = in_chosen c X t cs row h i in
      (sym (ap (row_at X t) e) ∙ r.0, sym (ap (λ q. satisfies cs (q, row.1)) e) ∙ r.1)

  -- ---- what changes leave

  pub row_kept : (xs : List (Change A)) (X : Tables A) (t : ℕ) (k : Value A) → left_by t k xs ≡ None → row_at (put_all xs X) t k ≡ row_at X t k
  row_kept xs X t k e = go (cases_le (length X) t)
    where
      go : (length X ≤ t) ⊎ (t < length X) → row_at (put_all xs X) t k ≡ row_at X t k
      go (inl h) = ap (find value_cmp k) (rows_of-past (put_all xs X) t (rw (length-put_all xs X) h) ∙ sym (rows_of-past X t h))
      go (inr h) = row_at-put_all xs X t k h ∙ ap (λ o. unwrap_or o (row_at X t k)) e

  pub row_left : (xs : List (Change A)) (X : Tables A) (t : ℕ) (k : Value A) (o : Option (List (Value A))) → t < length X → left_by t k xs ≡ Some o → row_at (put_all xs X) t k ≡ o
  row_left xs X t k o h e = row_at-put_all xs X t k h ∙ ap (λ p. unwrap_or p (row_at X t k)) e

  -- the changes of rows of a table
  abbrev pub changes_of : ℕ → (Row A → Option (List (Value A))) → List (Row A) → List (Change A)
  changes_of u g rows = map (λ row. record { table = u; key = row.0; fields = g row }) rows

  untouched : (t : ℕ) (k : Value A) (x : Change A) (o : Option (Option (List (Value A)))) → touches t k x ≡ false → o ≡ None → cond (is_some o) o (cond (touches t k x) (Some x.fields) None) ≡ None
  untouched t k x o e q = ap (λ p. cond (is_some p) p (cond (touches t k x) (Some x.fields) None)) q ∙ ap (λ b. cond b (Some x.fields) None) e

  -- no row of the key is among them
  left_none : (u t : ℕ) (k : Value A) (g : Row A → Option (List (Value A))) (rows : List (Row A)) → ((row : Row A) → In row rows → (eqb u t && same k row.0) ≡ false) → left_by t k (changes_of u g rows) ≡ None
  left_none u t k g [] f = refl
  left_none u t k g (r ∷ rows) f =
      untouched t k (record { table = u; key = r.0; fields = g r }) (left_by t k (changes_of u g rows)) (f r (inl refl)) (left_none u t k g rows (λ row i. f row (inr i)))

  -- each row of the key among them is changed alike
  left_alike : (t : ℕ) (k : Value A) (g : Row A → Option (List (Value A))) (o : Option (List (Value A))) (rows : List (Row A)) → ((row : Row A) → In row rows → row.0 ≡ k → g row ≡ o) → (left_by t k (changes_of t g rows) ≡ None) ⊎ (left_by t k (changes_of t g rows) ≡ Some o)
  left_alike t k g o [] f = inl refl
  left_alike t k g o (r ∷ rows) f = go (left_alike t k g o rows (λ row i. f row (inr i)))
    where
      L : Option (Option (List (Value A)))
      L = left_by t k (changes_of t g rows)

      here : (b : Bool) → (eqb t t && same k r.0) ≡ b → L ≡ None → (cond (is_some L) L (cond b (Some (g r)) None) ≡ None) ⊎ (cond (is_some L) L (cond b (Some (g r)) None) ≡ Some o)
      here true e q = inr (ap (λ p. cond (is_some p) p (Some (g r))) q ∙ ap Some (f r (inl refl) (sym (same_value k r.0 (and_parts (eqb t t) (same k r.0) e).1))))
      here false e q = inl (ap (λ p. cond (is_some p) p None) q)

      go : (L ≡ None) ⊎ (L ≡ Some o) → (left_by t k (changes_of t g (r ∷ rows)) ≡ None) ⊎ (left_by t k (changes_of t g (r ∷ rows)) ≡ Some o)
      go (inl q) = here (eqb t t && same k r.0) refl q
      go (inr q) = inr (ap (λ p. cond (is_some p) p (cond (eqb t t && same k r.0) (Some (g r)) None)) q)

  left_some : (t : ℕ) (k : Value A) (g : Row A → Option (List (Value A))) (o : Option (List (Value A))) (rows : List (Row A)) (row : Row A) → ((row : Row A) → In row rows → row.0 ≡ k → g row ≡ o) → In row rows → row.0 ≡ k → left_by t k (changes_of t g rows) ≡ Some o
  left_some t k g o [] row f i e = absurd i
  left_some t k g o (r ∷ rows) row f (inr i) e = ap (λ p. cond (is_some p) p (cond (eqb t t && same k r.0) (Some (g r)) None)) (left_some t k g o rows row (λ x j. f x (inr j)) i e)
  left_some t k g o (r ∷ rows) row f (inl q) e = go (left_alike t k g o rows (λ x j. f x (inr j)))
    where
      key : r.0 ≡ k
      key = sym (ap (λ (x : Row A). x.0) q) ∙ e

      touched : (eqb t t && same k r.0) ≡ true
      touched = and_from _ _ (eqb-self t) (ap (same k) key ∙ same_itself k)

      L : Option (Option (List (Value A)))
      L = left_by t k (changes_of t g rows)

      go : (L ≡ None) ⊎ (L ≡ Some o) → cond (is_some L) L (cond (eqb t t && same k r.0) (Some (g r)) None) ≡ Some o
      go (inl z) = ap (λ p. cond (is_some p) p (cond (eqb t t && same k r.0) (Some (g r)) None)) z ∙ ap (λ b. cond b (Some (g r)) None) touched ∙ ap Some (f r (inl refl) key)
      go (inr z) = ap (λ p. cond (is_some p) p (cond (eqb t t && same k r.0) (Some (g r)) None)) z

  -- ---- what is left where chosen rows are changed

  pub changed_chosen : (c : Catalog) (X : Tables A) (t : ℕ) (k : Value A) (cs : List (Condition A)) (g : Row A → Option (List (Value A))) (gs : List (Value A)) → is_sound c X ≡ true → t < length X → row_at X t k ≡ Some gs → satisfies cs (k, gs) ≡ true
      → row_at (put_all (changes_of t g (chosen X t cs)) X) t k ≡ g (k, gs)
  changed_chosen c X t k cs g gs h there e s =
      row_left (changes_of t g (chosen X t cs)) X t k (g (k, gs)) there
      (left_some t k g (g (k, gs)) (chosen X t cs) (k, gs) alike (chosen_there X t k cs gs e s) refl)
    where
      alike : (row : Row A) → In row (chosen X t cs) → row.0 ≡ k → g row ≡ g (k, gs)
      alike row i q =
          let r = chosen_is-row c X t k cs row h i q in
          let f : row.1 ≡ gs = some_is (row.1) gs (sym r.0 ∙ e) in
          ap (λ x. g (x, row.1)) q ∙ ap (λ y. g (k, y)) f
        where
          some_is : (x y : List (Value A)) → Some x ≡ Some y → x ≡ y
          some_is x y p = cc

  pub unchosen_kept : (c : Catalog) (X : Tables A) (t : ℕ) (k : Value A) (cs : List (Condition A)) (g : Row A → Option (List (Value A))) → is_sound c X ≡ true → is_chosen k cs (row_at X t k) ≡ false
      → row_at (put_all (changes_of t g (chosen X t cs)) X) t k ≡ row_at X t k
  unchosen_kept c X t k cs g h s = row_kept (changes_of t g (chosen X t cs)) X t k (left_none t t k g (chosen X t cs) apart)
    where
      apart : (row : Row A) → In row (chosen X t cs) → (eqb t t && same k row.0) ≡ false
      apart row i = go (same k row.0) refl
        where
          off : (b : Bool) → (b && false) ≡ false
          off true = refl
          off false = refl

          go : (b : Bool) → same k row.0 ≡ b → (eqb t t && b) ≡ false
          go false e = off (eqb t t)
          go true e =
              let r = chosen_is-row c X t k cs row h i (sym (same_value k row.0 e)) in
              absurd (true≢false (sym (ap (is_chosen k cs) r.0 ∙ r.1) ∙ s))

  -- ---- statements that don't look at the key

  -- a row that satisfies the conditions has a key that they leave
  pub left_out : (k : Value A) (cs : List (Condition A)) (row : Row A) → satisfies cs row ≡ true → row.0 ≡ k → list_any (leaves_out k) cs ≡ true → ⊥
  left_out k [] row s e h = true≢false (sym h)
  left_out k (c ∷ cs) row s e h =
      let p = and_parts (holds row c) (list_all (holds row) cs) s in
      go (leaves_out k c) refl h p.0 (left_out k cs row p.1 e)
    where
      go : (b : Bool) → leaves_out k c ≡ b → (b || list_any (leaves_out k) cs) ≡ true → holds row c ≡ true → (list_any (leaves_out k) cs ≡ true → ⊥) → ⊥
      go false q f t rest = rest f
      go true q f t rest =
          let p = and_parts (eqb (column_of c) 0) (not (value_meets k c)) q in
          let at : value_meets (field row (column_of c)) c ≡ value_meets k c = ap (λ n. value_meets (field row n) c) (zero_is (column_of c) p.0) ∙ ap (λ x. value_meets x c) e in
          true≢false (sym t ∙ holds_by row c ∙ at ∙ not_is (value_meets k c) p.1)
        where
          zero_is : (n : ℕ) → eqb n 0 ≡ true → n ≡ 0
          zero_is n z = eqb-true n 0 z

  -- nor does it choose the row
  pub unlooked_unchosen : (t : ℕ) (k : Value A) (q : Statement A) (X : Tables A) → looks_at t k q ≡ false → chooses t k q X ≡ false
  unlooked_unchosen t k q X h = go q h
    where
      by_row : (a : Bool) (cs : List (Condition A)) (o : Option (List (Value A))) → (a && may_choose k cs) ≡ false → (a && is_chosen k cs o) ≡ false
      by_row false cs o e = refl
      by_row true cs None e = refl
      by_row true cs (Some gs) e = by_test (satisfies cs (k, gs)) refl
        where
          not_false : (b : Bool) → not b ≡ false → b ≡ true
          not_false true q = refl
          not_false false q = absurd (true≢false q)

          by_test : (b : Bool) → satisfies cs (k, gs) ≡ b → b ≡ false
          by_test true s = absurd (left_out k cs (k, gs) s refl (not_false (list_any (leaves_out k) cs) e))
          by_test false s = refl

      go : (q : Statement A) → looks_at t k q ≡ false → chooses t k q X ≡ false
      go (Select u p cs) e = by_row (eqb u t) cs (row_at X t k) e
      go (Insert u values) e = refl
      go (Update u more cs) e = by_row (eqb u t) cs (row_at X t k) e
      go (Delete u cs) e = by_row (eqb u t) cs (row_at X t k) e

  keeps_chosen : (X : Tables A) (u t : ℕ) (k : Value A) (cs : List (Condition A)) (g : Row A → Option (List (Value A))) → (eqb u t && may_choose k cs) ≡ false → left_by t k (changes_of u g (chosen X u cs)) ≡ None
  keeps_chosen X u t k cs g h = left_none u t k g (chosen X u cs) apart
    where
      apart : (row : Row A) → In row (chosen X u cs) → (eqb u t && same k row.0) ≡ false
      apart row i = go (eqb u t) (same k row.0) refl h
        where
          go : (a b : Bool) → same k row.0 ≡ b → (a && may_choose k cs) ≡ false → (a && b) ≡ false
          go false b e f = refl
          go true false e f = refl
          go true true e f = absurd (left_out k cs row (in_filter (satisfies cs) (rows_of X u) row i).1 (sym (same_value k row.0 e)) (not_false (list_any (leaves_out k) cs) f))
            where
              not_false : (b : Bool) → not b ≡ false → b ≡ true
              not_false true q = refl
              not_false false q = absurd (true≢false q)

  -- A statement that doesn't look at a key leaves its row as it was.
  pub unlooked : (c : Catalog) (q : Statement A) (X : Tables A) (t : ℕ) (k : Value A) → looks_at t k q ≡ false → row_at (after c q X) t k ≡ row_at X t k
  unlooked c q X t k h = row_kept (outcome c q X).changes X t k (go q h)
    where
      none : List (Change A) → Type 0
      none xs = left_by t k xs ≡ None

      go : (q : Statement A) → looks_at t k q ≡ false → none (outcome c q X).changes
      go (Select u p cs) e = refl
      go (Insert u []) e = refl
      go (Insert u (v ∷ fields)) e =
          fault_or none code.NotNullViolation (least_column lacks_value 0 (columns_of c u) (v ∷ fields)) _ refl (λ full.
          fault_or none code.UniqueViolation (cond (is_some (row_at X u v)) (Some 0) None) _ refl (λ unique.
          fault_or none code.ForeignKeyViolation (least_column (lacks_row X) 0 (columns_of c u) (v ∷ fields)) _ refl (λ there.
          untouched t k (puts u (v, fields)) None e refl)))
      go (Update u more cs) e =
          fault_or none code.NotNullViolation (first_bad (assigned_lacks_value more) (columns_of c u) (map (updated_row more) (chosen X u cs))) _ refl (λ full.
          fault_or none code.NumericValueOutOfRange (first_bad (assigned_out_of_range more) (columns_of c u) (map (updated_row more) (chosen X u cs))) _ refl (λ small.
          fault_or none code.ForeignKeyViolation (first_bad (assigned_lacks_row X more) (columns_of c u) (map (updated_row more) (chosen X u cs))) _ refl (λ there.
          keeps_chosen X u t k cs (λ row. Some (updated_row more row).1) e)))
      go (Delete u cs) e =
          table_or none code.ForeignKeyViolation (least_table u (chosen X u cs) 0 c X) _ refl (λ free. keeps_chosen X u t k cs (λ row. None) e)

  -- Where there is no row, none comes but by its own INSERT.
  pub absence_kept : (c : Catalog) (q : Statement A) (X : Tables A) (t : ℕ) (k : Value A) → is_sound c X ≡ true → row_at X t k ≡ None → inserts t k q ≡ false → row_at (after c q X) t k ≡ None
  absence_kept c q X t k s absent h = row_kept (outcome c q X).changes X t k (go q h) ∙ absent
    where
      none : List (Change A) → Type 0
      none xs = left_by t k xs ≡ None

      unchosen : (u : ℕ) (cs : List (Condition A)) (row : Row A) → In row (chosen X u cs) → (eqb u t && same k row.0) ≡ false
      unchosen u cs row i = parts (eqb u t) (same k row.0) refl refl
        where
          parts : (a b : Bool) → eqb u t ≡ a → same k row.0 ≡ b → (a && b) ≡ false
          parts false b e f = refl
          parts true false e f = refl
          parts true true e f =
              let r = in_chosen c X u cs row s i in
              let there : row_at X t k ≡ Some row.1 = ap (λ n. row_at X n k) (sym (eqb-true u t e)) ∙ ap (row_at X u) (same_value k row.0 f) ∙ r.0 in
              absurd (nothing (sym absent ∙ there))
            where
              nothing : (let o : Option (List (Value A)) = None in o ≡ Some row.1) → ⊥
              nothing p = cc

      go : (q : Statement A) → inserts t k q ≡ false → none (outcome c q X).changes
      go (Select u p cs) e = refl
      go (Insert u []) e = refl
      go (Insert u (v ∷ fields)) e =
          fault_or none code.NotNullViolation (least_column lacks_value 0 (columns_of c u) (v ∷ fields)) _ refl (λ full.
          fault_or none code.UniqueViolation (cond (is_some (row_at X u v)) (Some 0) None) _ refl (λ unique.
          fault_or none code.ForeignKeyViolation (least_column (lacks_row X) 0 (columns_of c u) (v ∷ fields)) _ refl (λ there.
          untouched t k (puts u (v, fields)) None e refl)))
      go (Update u more cs) e =
          fault_or none code.NotNullViolation (first_bad (assigned_lacks_value more) (columns_of c u) (map (updated_row more) (chosen X u cs))) _ refl (λ full.
          fault_or none code.NumericValueOutOfRange (first_bad (assigned_out_of_range more) (columns_of c u) (map (updated_row more) (chosen X u cs))) _ refl (λ small.
          fault_or none code.ForeignKeyViolation (first_bad (assigned_lacks_row X more) (columns_of c u) (map (updated_row more) (chosen X u cs))) _ refl (λ there.
          left_none u t k (λ row. Some (updated_row more row).1) (chosen X u cs) (unchosen u cs))))
      go (Delete u cs) e =
          table_or none code.ForeignKeyViolation (least_table u (chosen X u cs) 0 c X) _ refl (λ free. left_none u t k (λ row. None) (chosen X u cs) (unchosen u cs))
