-- Changes that take others back.
use Rattle.std.proofs.Common.{◌≡◌, ◌⊎◌, refl, sym, ap, ◌∙◌, subst, ℕ, zero, suc, ◌+◌, ◌-◌, ◌<◌, ◌≤◌, Bool, true, false, T, not, cond, inl, inr, List, [], ◌∷◌, ◌++◌, length, get_or, take, slice_get, slice_set, Option, Some, None, arith}
use Rattle.std.proofs.lemmas.Bool.{cases_lt}
use Rattle.std.specs.Cmp.{alike_right, eq_by_cmp_equiv}
use Rattle.std.specs.FinMap.{find, is_sorted}
use Rattle.std.specs.FinMap.Entries.{find-put, find-where_key, same_entries}
use Rattle.std.specs.Ordering.{is_eq}
use Rattle.std.proofs.lemmas.List.{get_or-set_same, take_all, take_more}
use Rattle.std.proofs.lemmas.Option.{slice_get-get_or, same_Some}
use Rattle.value.specs.declared.value.Value.{Value}
use Rattle.value.specs.Order.{value_cmp, value_cmp-total, value_cmp-exact}
use Rattle.value.proofs.Basics.{true_from_T, cond-not}
use Rattle.schema.specs.Definition.{Catalog}
use Rattle.schema.specs.declared.row.Row.{Row}
use Rattle.schema.specs.declared.changes.Change.{Change}
use Rattle.schema.specs.declared.tables.Tables.{Tables}
use Rattle.schema.specs.Plain.{same, rows_of, row_at, changed, put_in, put_all, is_sound}
use Rattle.schema.specs.Rows.{row_of}
use Rattle.schema.proofs.PlainLemmas.{IsOrdered, changed_sorted, put_in-ordered, same_value}
use Rattle.statement.proofs.HeldLemmas.{held_sound, held_table}
use Rattle.orders.specs.Undone.{AreOrdered, before_of, put_back}

set-past : {T : Type 0} (xs : List T) (i : ℕ) (y : T) → length xs ≤ i → slice_set xs i y ≡ xs
set-past [] i y h = refl
set-past (x ∷ xs) zero y h = absurd (omega (arith, h))
set-past (x ∷ xs) (suc i) y h = ap (λ zs. x ∷ zs) (set-past xs i y (omega (arith, h)))

set-twice : {T : Type 0} (xs : List T) (i : ℕ) (x y : T) → slice_set (slice_set xs i x) i y ≡ slice_set xs i y
set-twice [] i x y = refl
set-twice (z ∷ zs) zero x y = refl
set-twice (z ∷ zs) (suc i) x y = ap (λ ws. z ∷ ws) (set-twice zs i x y)

set-same : {T : Type 0} (xs : List T) (i : ℕ) (x : T) → slice_get xs i ≡ Some x → slice_set xs i x ≡ xs
set-same [] i x e = refl
set-same (z ∷ zs) zero x e = ap (λ w. w ∷ zs) (sym (same_Some z x e))
set-same (z ∷ zs) (suc i) x e = ap (λ ws. z ∷ ws) (set-same zs i x e)

pub last-and-rest : {T : Type 0} (xs : List T) (x : T) → 1 ≤ length xs → x ≡ get_or xs (length xs - 1) x → xs ≡ take (length xs - 1) xs ++ x ∷ []
last-and-rest xs x l e = sym (take_all (length xs - 1 + 1) xs (omega (arith, l))) ∙ take_more xs (length xs - 1) x (omega (arith, l)) ∙ ap (λ y. take (length xs - 1) xs ++ y ∷ []) (sym e)

module _ {A : Type 0} where
  -- ---- rows by key

  pub row-found : (k : Value A) (rows : List (Row A)) (r : Row A) → Some r ≡ row_of rows k → (r.0 ≡ k) × (find value_cmp k rows ≡ Some r.1)
  row-found k [] r e = cc
  row-found k (s ∷ rows) r e = go (same k s.0) refl e (row-found k rows r)
    where
      go : (b : Bool) → same k s.0 ≡ b → Some r ≡ cond b (Some s) (row_of rows k) → (Some r ≡ row_of rows k → (r.0 ≡ k) × (find value_cmp k rows ≡ Some r.1)) → (r.0 ≡ k) × (cond b (Some s.1) (find value_cmp k rows) ≡ Some r.1)
      go true h f more =
          let is : r ≡ s = same_Some r s f in
          (ap (λ (x : Row A). x.0) is ∙ sym (same_value k s.0 h), ap (λ (x : Row A). Some x.1) (sym is))
      go false h f more = more f

  pub row-missing : (k : Value A) (rows : List (Row A)) → None ≡ row_of rows k → find value_cmp k rows ≡ None
  row-missing k [] e = refl
  row-missing k (s ∷ rows) e = go (same k s.0) e (row-missing k rows)
    where
      go : (b : Bool) → None ≡ cond b (Some s) (row_of rows k) → (None ≡ row_of rows k → find value_cmp k rows ≡ None) → cond b (Some s.1) (find value_cmp k rows) ≡ None
      go true f more = cc
      go false f more = more f

  -- ---- one change

  find-changed : (q k : Value A) (fields : Option (List (Value A))) (rows : List (Row A)) → find value_cmp q (changed k fields rows) ≡ cond (same q k) fields (find value_cmp q rows)
  find-changed q k (Some fields) rows = find-put value_cmp value_cmp-total q k fields rows
  find-changed q k None rows =
      find-where_key value_cmp (λ x. not (same k x)) q (λ x e. ap (λ o. not (is_eq o)) (sym (alike_right value_cmp-total q x k e))) rows
      ∙ cond-not (same k q) _ _ ∙ ap (λ b. cond b None (find value_cmp q rows)) ((eq_by_cmp_equiv value_cmp-total).symm k q)

  changed-back : (k : Value A) (fields : Option (List (Value A))) (rows : List (Row A)) → T (is_sorted value_cmp rows) → changed k (find value_cmp k rows) (changed k fields rows) ≡ rows
  changed-back k fields rows h =
      same_entries value_cmp value_cmp-total value_cmp-exact (changed k (find value_cmp k rows) (changed k fields rows)) rows (changed_sorted k (find value_cmp k rows) (changed k fields rows) (changed_sorted k fields rows h)) h
      (λ q. find-changed q k (find value_cmp k rows) (changed k fields rows) ∙ ap (cond (same q k) (find value_cmp k rows)) (find-changed q k fields rows) ∙ go q (same q k) refl)
    where
      go : (q : Value A) (b : Bool) → same q k ≡ b → cond b (find value_cmp k rows) (cond b fields (find value_cmp q rows)) ≡ find value_cmp q rows
      go q true e = ap (λ x. find value_cmp x rows) (sym (same_value q k e))
      go q false e = refl

  pub put-past : (x : Change A) (X : Tables A) → length X ≤ x.table → put_in x X ≡ X
  put-past x X h = set-past X x.table (changed x.key x.fields (rows_of X x.table)) h

  pub taken-back : (x : Change A) (X : Tables A) → is_sorted value_cmp (rows_of X x.table) ≡ true → put_in (before_of x X) (put_in x X) ≡ X
  taken-back x X e = go (cases_lt x.table (length X))
    where
      go : (x.table < length X) ⊎ (length X ≤ x.table) → put_in (before_of x X) (put_in x X) ≡ X
      go (inr h) = ap (put_in (before_of x X)) (put-past x X h) ∙ put-past (before_of x X) X h
      go (inl h) =
          let there : rows_of (slice_set X x.table (changed x.key x.fields (rows_of X x.table))) x.table ≡ changed x.key x.fields (rows_of X x.table) = get_or-set_same X x.table (changed x.key x.fields (rows_of X x.table)) [] h in
          let back : changed x.key (row_at X x.table x.key) (rows_of (slice_set X x.table (changed x.key x.fields (rows_of X x.table))) x.table) ≡ rows_of X x.table =
          ap (changed x.key (row_at X x.table x.key)) there ∙ changed-back x.key x.fields (rows_of X x.table) (subst T (sym e) tt) in
          ap (λ rows. slice_set (slice_set X x.table (changed x.key x.fields (rows_of X x.table))) x.table rows) back
          ∙ set-twice X x.table (changed x.key x.fields (rows_of X x.table)) (rows_of X x.table) ∙ set-same X x.table (rows_of X x.table) (slice_get-get_or X x.table [] h)

  -- ---- changes one after the other

  pub put_back-append : (xs : List (Change A)) (x : Change A) (X : Tables A) → put_back (xs ++ x ∷ []) X ≡ put_back xs (put_in x X)
  put_back-append [] x X = refl
  put_back-append (y ∷ ys) x X = ap (put_in y) (put_back-append ys x X)

  ordered-from : (X : Tables A) → AreOrdered X → IsOrdered X
  ordered-from X o = record { each = λ t. subst T (sym (o t)) tt }

  pub ordered-put : (x : Change A) (X : Tables A) → AreOrdered X → AreOrdered (put_in x X)
  ordered-put x X o = λ t. true_from_T (is_sorted value_cmp (rows_of (put_in x X) t)) ((put_in-ordered x X (ordered-from X o)).each t)

  pub ordered-sound : (c : Catalog) (X : Tables A) → is_sound c X ≡ true → AreOrdered X
  ordered-sound c X s = λ t. (held_table c X t (held_sound c X s)).0

  -- ---- what takes a change back

  pub before-found : (x : Change A) (X : Tables A) (t : ℕ) (k : Value A) (r : Row A) → t ≡ x.table → k ≡ x.key → Some r ≡ row_of (rows_of X t) k → record { table = t; key = r.0; fields = Some r.1 } ≡ before_of x X
  before-found x X t k r e f h =
      let g = row-found k (rows_of X t) r h in
      let key : r.0 ≡ x.key = g.0 ∙ f in
      let fields : Some r.1 ≡ row_at X x.table x.key = sym g.1 ∙ ap (λ n. find value_cmp k (rows_of X n)) e ∙ ap (λ q. row_at X x.table q) f in
      λ i. record { table = e i; key = key i; fields = fields i }

  pub before-missing : (x : Change A) (X : Tables A) (t : ℕ) (k l : Value A) → t ≡ x.table → k ≡ x.key → l ≡ x.key → None ≡ row_of (rows_of X t) k → record { table = t; key = l; fields = None } ≡ before_of x X
  before-missing x X t k l e f g h =
      let fields : None ≡ row_at X x.table x.key = sym (row-missing k (rows_of X t) h) ∙ ap (λ n. find value_cmp k (rows_of X n)) e ∙ ap (λ q. row_at X x.table q) f in
      λ i. record { table = e i; key = g i; fields = fields i }

  pub put-kept : (x b : Change A) (X Y : Tables A) (old new : List (Change A)) → is_sorted value_cmp (rows_of X x.table) ≡ true → b ≡ before_of x X → Y ≡ put_in x X → new ≡ old ++ b ∷ [] → put_back new Y ≡ put_back old X
  put-kept x b X Y old new sorted is y n =
      ap (λ xs. put_back xs Y) n ∙ put_back-append old b Y ∙ ap (λ z. put_back old (put_in z Y)) is ∙ ap (λ Z. put_back old (put_in (before_of x X) Z)) y ∙ ap (put_back old) (taken-back x X sorted)

  pub put-front : (xs : List (Change A)) (x : Change A) (rest : List (Change A)) (X Y : Tables A) → xs ≡ x ∷ rest → Y ≡ put_in x X → put_all rest Y ≡ put_all xs X
  put-front xs x rest X Y e y = ap (put_all rest) y ∙ sym (ap (λ zs. put_all zs X) e)

  pub put-last : (old new : List (Change A)) (x : Change A) (X Y : Tables A) → old ≡ new ++ x ∷ [] → Y ≡ put_in x X → put_back new Y ≡ put_back old X
  put-last old new x X Y e y = ap (put_back new) y ∙ sym (put_back-append new x X) ∙ sym (ap (λ zs. put_back zs X) e)
