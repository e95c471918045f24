-- The laws of statements, over tables in key order.
use Rattle.std.proofs.Common.{◌≡◌, refl, sym, ap, subst, ◌∙◌, ℕ, zero, suc, ◌<◌, ◌≤◌, Bool, true, false, true≢false, T, cond, not, ◌&&◌, ◌||◌, ◌⊎◌, inl, inr, List, [], ◌∷◌, length, Option, Some, None, is_some, unwrap_or, eqb, arith}
use Rattle.std.proofs.lemmas.Bool.{eqb-true, not-true, and_parts}
use Rattle.std.proofs.lemmas.Float.{T_from_true}
use Rattle.std.specs.List.{list_any, list_all}
use Rattle.std.specs.FinMap.{find, is_sorted}
use Rattle.value.specs.declared.value.Value.{Value}
use Rattle.value.specs.Order.{value_cmp}
use Rattle.value.proofs.IsolationLemmas.{In}
use Rattle.schema.specs.Definition.{TableSchema, Catalog}
use Rattle.schema.specs.declared.row.Row.{Row}
use Rattle.schema.specs.declared.changes.Change.{Change}
use Rattle.schema.specs.declared.tables.Tables.{Tables}
use Rattle.schema.specs.Plain.{same, is_null, cells, rows_of, row_at, fits_columns, is_sound_table, sound_tables, is_sound, put_all}
use Rattle.schema.proofs.PlainLemmas.{IsOrdered, same_value, left_by, touches, row_at-put_all, rows_of-past, length-put_all}
use Rattle.statement.specs.declared.statement.Statement.{Statement}
use Rattle.statement.specs.Agreement.{reads_key, row_naming}
use Rattle.statement.specs.Evaluation.{after, outcome}
use Rattle.statement.specs.Fits.{Fits}
use Rattle.statement.specs.Footprint.{footprint}
use Rattle.statement.specs.Laws.{AgreeFor, is_keyed, names_reference, refers, writes_key}
use Rattle.statement.specs.Marks.{marks_reference}
use Rattle.statement.proofs.CoverLemmas.{all_in}
use Rattle.statement.proofs.RowsLemmas.{HasKeys}
use Rattle.schema.proofs.SoundLemmas.{Sound, sound_from, sound_to}
use Rattle.statement.proofs.SoundSteps.{outcome_sound}
use Rattle.statement.proofs.Suffices.{suffices}
use Rattle.statement.proofs.WritesLemmas as writes

module _ {A : Type 0} where
  -- ---- what sound tables are

  table_sorted : (X : Tables A) (c : Catalog) (Y : Tables A) (t : ℕ) → sound_tables X c Y ≡ true → T (is_sorted value_cmp (rows_of Y t))
  table_sorted X [] [] t h = tt
  table_sorted X [] (rows ∷ Y) t h = absurd (true≢false (sym h))
  table_sorted X (d ∷ c) [] t h = tt
  table_sorted X (d ∷ c) (rows ∷ Y) zero h = T_from_true _ (and_parts (is_sorted value_cmp rows) _ (and_parts (is_sound_table X d rows) (sound_tables X c Y) h).0).0
  table_sorted X (d ∷ c) (rows ∷ Y) (suc t) h = table_sorted X c Y t (and_parts (is_sound_table X d rows) (sound_tables X c Y) h).1

  keys_given : (X : Tables A) (d : TableSchema) (rows : List (Row A)) → list_all (λ r. not (is_null r.0) && fits_columns X d.columns (cells r)) rows ≡ true → list_all (λ row. not (is_null row.0)) rows ≡ true
  keys_given X d [] h = refl
  keys_given X d (r ∷ rows) h = go (and_parts (not (is_null r.0) && fits_columns X d.columns (cells r)) (list_all (λ r. not (is_null r.0) && fits_columns X d.columns (cells r)) rows) h) (keys_given X d rows)
    where
      go : ((not (is_null r.0) && fits_columns X d.columns (cells r)) ≡ true) × (list_all (λ r. not (is_null r.0) && fits_columns X d.columns (cells r)) rows ≡ true)
          → (list_all (λ r. not (is_null r.0) && fits_columns X d.columns (cells r)) rows ≡ true → list_all (λ row. not (is_null row.0)) rows ≡ true) → (not (is_null r.0) && list_all (λ row. not (is_null row.0)) rows) ≡ true
      go p rest = ap (λ b. b && list_all (λ row. not (is_null row.0)) rows) (and_parts (not (is_null r.0)) (fits_columns X d.columns (cells r)) p.0).0 ∙ rest p.1

  table_keys : (X : Tables A) (c : Catalog) (Y : Tables A) (t : ℕ) → sound_tables X c Y ≡ true → list_all (λ row. not (is_null row.0)) (rows_of Y t) ≡ true
  table_keys X [] [] t h = refl
  table_keys X [] (rows ∷ Y) t h = absurd (true≢false (sym h))
  table_keys X (d ∷ c) [] t h = refl
  table_keys X (d ∷ c) (rows ∷ Y) zero h = keys_given X d rows (and_parts (is_sorted value_cmp rows) _ (and_parts (is_sound_table X d rows) (sound_tables X c Y) h).0).1
  table_keys X (d ∷ c) (rows ∷ Y) (suc t) h = table_keys X c Y t (and_parts (is_sound_table X d rows) (sound_tables X c Y) h).1

  pub sound_ordered : (c : Catalog) (X : Tables A) → is_sound c X ≡ true → IsOrdered X
  sound_ordered c X h = record { each = λ t. table_sorted X c X t h }

  pub sound_keys : (c : Catalog) (X : Tables A) → is_sound c X ≡ true → HasKeys X
  sound_keys c X h = record { each = λ t. table_keys X c X t h }

  sound_whole : (c : Catalog) (X : Tables A) → is_sound c X ≡ true → Sound c X
  sound_whole c X h = sound_from c X (sound_ordered c X h) h

  -- ---- what keyed tables are

  keyed_sorted : (X : Tables A) (t : ℕ) → list_all is_keyed X ≡ true → T (is_sorted value_cmp (rows_of X t))
  keyed_sorted [] t h = tt
  keyed_sorted (rows ∷ X) zero h = T_from_true _ (and_parts (is_sorted value_cmp rows) _ (and_parts (is_keyed rows) (list_all is_keyed X) h).0).0
  keyed_sorted (rows ∷ X) (suc t) h = keyed_sorted X t (and_parts (is_keyed rows) (list_all is_keyed X) h).1

  keyed_given : (X : Tables A) (t : ℕ) → list_all is_keyed X ≡ true → list_all (λ row. not (is_null row.0)) (rows_of X t) ≡ true
  keyed_given [] t h = refl
  keyed_given (rows ∷ X) zero h = (and_parts (is_sorted value_cmp rows) _ (and_parts (is_keyed rows) (list_all is_keyed X) h).0).1
  keyed_given (rows ∷ X) (suc t) h = keyed_given X t (and_parts (is_keyed rows) (list_all is_keyed X) h).1

  keyed_ordered : (X : Tables A) → list_all is_keyed X ≡ true → IsOrdered X
  keyed_ordered X h = record { each = λ t. keyed_sorted X t h }

  keyed_keys : (X : Tables A) → list_all is_keyed X ≡ true → HasKeys X
  keyed_keys X h = record { each = λ t. keyed_given X t h }

  -- ---- the footprint suffices

  pub same_outcome : (c : Catalog) (q : Statement A) (X Y : Tables A) → AgreeFor c q X Y → outcome c q X ≡ outcome c q Y
  same_outcome c q X Y a = suffices c q X Y a.fits (keyed_ordered X a.keyed_X) (keyed_ordered Y a.keyed_Y) (keyed_keys X a.keyed_X) (keyed_keys Y a.keyed_Y) a.as_many a.agree

  -- what changes leave at a key that one of them is of doesn't depend on the tables
  left_same : (xs : List (Change A)) (X Y : Tables A) (t : ℕ) (k : Value A) → length X ≡ length Y → list_any (touches t k) xs ≡ true → row_at (put_all xs X) t k ≡ row_at (put_all xs Y) t k
  left_same xs X Y t k len w = place (two_ways (length X) t)
    where
      two_ways : (m n : ℕ) → (m ≤ n) ⊎ (n < m)
      two_ways m n = grind arith

      left_there : (xs : List (Change A)) → list_any (touches t k) xs ≡ true → is_some (left_by t k xs) ≡ true
      left_there [] e = absurd (true≢false (sym e))
      left_there (x ∷ xs) e = go (left_by t k xs) refl (touches t k x) e (left_there xs)
        where
          go : (o : Option (Option (List (Value A)))) → left_by t k xs ≡ o → (b : Bool) → (b || list_any (touches t k) xs) ≡ true → (list_any (touches t k) xs ≡ true → is_some (left_by t k xs) ≡ true) → is_some (cond (is_some o) o (cond b (Some x.fields) None)) ≡ true
          go (Some v) q b g rest = refl
          go None q true g rest = refl
          go None q false g rest = absurd (true≢false (sym (sym (ap is_some q) ∙ rest g)))

      same_default : (o : Option (Option (List (Value A)))) → is_some o ≡ true → unwrap_or o (row_at X t k) ≡ unwrap_or o (row_at Y t k)
      same_default None e = absurd (true≢false (sym e))
      same_default (Some v) e = refl

      place : (length X ≤ t) ⊎ (t < length X) → row_at (put_all xs X) t k ≡ row_at (put_all xs Y) t k
      place (inl l) = ap (find value_cmp k) (rows_of-past (put_all xs X) t (rw (length-put_all xs X) l) ∙ sym (rows_of-past (put_all xs Y) t (rw (length-put_all xs Y, ← len) l)))
      place (inr l) = row_at-put_all xs X t k l ∙ same_default (left_by t k xs) (left_there xs w) ∙ sym (row_at-put_all xs Y t k (rw (← len) l))

  pub same_rows : (c : Catalog) (q : Statement A) (X Y : Tables A) → AgreeFor c q X Y → (t : ℕ) (k : Value A) → writes_key (outcome c q X).changes t k ≡ true → row_at (after c q X) t k ≡ row_at (after c q Y) t k
  same_rows c q X Y a t k w =
      left_same (outcome c q X).changes X Y t k a.as_many w
      ∙ ap (λ r. row_at (put_all r.changes Y) t k) (same_outcome c q X Y a)

  -- ---- soundness is kept

  pub sound_after : (c : Catalog) (q : Statement A) (X : Tables A) → Fits c q → is_sound c X ≡ true → is_sound c (after c q X) ≡ true
  sound_after c q X f h = sound_to c (after c q X) (outcome_sound c q X f (sound_whole c X h) (λ r t i. all_in (λ (row : Row A). not (is_null row.0)) (rows_of X t) r ((sound_keys c X h).each t) i))

  -- ---- what is written was read, and is marked

  some_change : (xs : List (Change A)) (t : ℕ) (k : Value A) (P : ℕ → Value A → Bool) → ((x : Change A) → In x xs → P x.table x.key ≡ true) → writes_key xs t k ≡ true → P t k ≡ true
  some_change [] t k P f w = absurd (true≢false (sym w))
  some_change (x ∷ xs) t k P f w = go (touches t k x) refl w (some_change xs t k P (λ y i. f y (inr i)))
    where
      go : (b : Bool) → touches t k x ≡ b → (b || writes_key xs t k) ≡ true → (writes_key xs t k ≡ true → P t k ≡ true) → P t k ≡ true
      go true q g rest =
          let p = and_parts (eqb x.table t) (same k x.key) q in
          subst (λ u. P u k ≡ true) (eqb-true x.table t p.0) (subst (λ v. P x.table v ≡ true) (sym (same_value k x.key p.1)) (f x (inl refl)))
      go false q g rest = rest g

  pub written_read : (c : Catalog) (q : Statement A) (X : Tables A) → Fits c q → list_all is_keyed X ≡ true → (t : ℕ) (k : Value A) → writes_key (outcome c q X).changes t k ≡ true → reads_key (footprint c q) t k ≡ true
  written_read c q X f h t k w = some_change (outcome c q X).changes t k (reads_key (footprint c q)) (writes.writes_are_read c q X f (keyed_keys X h)) w

  pub marked_before : (c : Catalog) (q : Statement A) (X : Tables A) (t j : ℕ) (k p : Value A) → writes_key (outcome c q X).changes t p ≡ true → names_reference c X t j k p ≡ true → marks_reference (outcome c q X).marks t j k ≡ true
  marked_before c q X t j k p w n =
      let a = and_parts (refers c t j && not (is_null k)) (is_some (row_naming X t j k p)) n in
      let b = and_parts (refers c t j) (not (is_null k)) a.0 in
      writes.marks_before c q X t j k p w b.0 (not-true (is_null k) b.1) a.1

  pub marked_after : (c : Catalog) (q : Statement A) (X : Tables A) (t j : ℕ) (k p : Value A) → writes_key (outcome c q X).changes t p ≡ true → names_reference c (after c q X) t j k p ≡ true → marks_reference (outcome c q X).marks t j k ≡ true
  marked_after c q X t j k p w n =
      let a = and_parts (refers c t j && not (is_null k)) (is_some (row_naming (after c q X) t j k p)) n in
      let b = and_parts (refers c t j) (not (is_null k)) a.0 in
      writes.marks_after c q X t j k p w b.0 (not-true (is_null k) b.1) a.1
