-- What is known of a column is so.
use Rattle.std.proofs.Common.{◌-◌, ◌≡◌, refl, sym, ap, subst, ◌∙◌, ℕ, zero, suc, ℤ, ◌+ℤ◌, Bool, true, false, true≢false, cond, not, ◌&&◌, List, [], ◌∷◌, slice_get, Option, Some, None, unwrap_or, eqb, arith}
use Rattle.std.proofs.lemmas.Int.{ints}
use Rattle.std.proofs.lemmas.Bool.{eqb-true, and_parts}
use Rattle.std.proofs.Math.Dec.{eqb-suc-zero}
use Rattle.std.specs.List.{list_all}
use Rattle.std.specs.Option.{option_map_or, option_or}
use Rattle.std.specs.Ordering.{is_eq}
use Rattle.value.specs.declared.value.Value.{Value}
use Rattle.value.specs.declared.value.Value.TheVariants.{Null, Int, Text, Bytes}
use Rattle.value.specs.Order.{value_cmp}
use Rattle.schema.specs.declared.row.Row.{Row}
use Rattle.schema.specs.Plain.{is_null, field, in_range}
use Rattle.schema.proofs.PlainLemmas.{same_value}
use Rattle.statement.specs.declared.condition.Comparison.TheVariants as is
use Rattle.statement.specs.declared.condition.Condition.{Condition}
use Rattle.statement.specs.declared.condition.Condition.TheVariants.{Compare, Between, IsNull, IsNotNull}
use Rattle.statement.specs.Conditions.{is_so, holds}
use Rattle.statement.specs.Evaluation.{added, out_of_range}
use Rattle.orders.specs.declared.ways.way.Atom.{Atom}
use Rattle.orders.specs.declared.ways.way.Field.{Field}
use Rattle.orders.specs.declared.ways.way.Field.TheVariants as becomes
use Rattle.orders.specs.declared.ways.way.After.{After}
use Rattle.orders.specs.declared.ways.way.After.TheVariants as comes
use Rattle.orders.specs.declared.ways.way.Way.{Way}
use Rattle.orders.specs.Ways.{as_said, is_met, row_before, FieldIs, Ends, Holds}
use Rattle.orders.specs.Symbolic.{raised, value_of, value_told, found, field_before, known, field_of, field_now}
use Rattle.orders.proofs.WayLemmas.{FieldAt, field_after}

pub suc_less : (n : ℕ) → suc n - 1 ≡ n
suc_less n = omega arith

twice : (n e d : ℤ) → (n +ℤ e) +ℤ d ≡ n +ℤ (e +ℤ d)
twice n e d = omega (arith, ints)

module _ {A : Type 0} where
  pub equal_is : (v w : Value A) → is_so v is.Equal w ≡ true → v ≡ w
  equal_is v w h = same_value v w (and_parts (not (is_null v) && not (is_null w)) (is_eq (value_cmp v w)) h).1

  null_is : (v : Value A) → is_null v ≡ true → v ≡ Null
  null_is Null h = refl
  null_is (Int n) h = absurd (true≢false (sym h))
  null_is (Text t) h = absurd (true≢false (sym h))
  null_is (Bytes b) h = absurd (true≢false (sym h))

  -- ---- what was found

  at_column : (row : Row A) (m n : ℕ) (b : Bool) (u v : Value A) → eqb m n ≡ b → cond b (Some u) None ≡ Some v → field row m ≡ u → field row n ≡ v
  at_column row m n true u v q e h = let p : u ≡ v = cc in subst (λ i. field row i ≡ v) (eqb-true m n q) (h ∙ p)
  at_column row m n false u v q e h = cc

  value_of_is : (row : Row A) (n : ℕ) (c : Condition A) (v : Value A) → value_of n c ≡ Some v → holds row c ≡ true → field row n ≡ v
  value_of_is row n (Compare m is.Equal u) v e h = at_column row m n (eqb m n) u v refl e (equal_is (field row m) u h)
  value_of_is row n (Compare m _ u) v e h = cc
  value_of_is row n (Between m low high) v e h = cc
  value_of_is row n (IsNull m) v e h = at_column row m n (eqb m n) Null v refl e (null_is (field row m) h)
  value_of_is row n (IsNotNull m) v e h = cc

  told_is : (row : Row A) (n : ℕ) (a : Atom A) (v : Value A) → value_told n a ≡ Some v → is_met row a ≡ true → field row n ≡ v
  told_is row n a v e h = go a.truth e h
    where
      go : (b : Bool) → cond b (value_of n a.condition) None ≡ Some v → as_said b (holds row a.condition) ≡ true → field row n ≡ v
      go true f g = value_of_is row n a.condition v f g
      go false f g = cc

  found_is : (row : Row A) (n : ℕ) (atoms : List (Atom A)) (v : Value A) → found n atoms ≡ Some v → list_all (is_met row) atoms ≡ true → field row n ≡ v
  found_is row n [] v e h = cc
  found_is row n (a ∷ atoms) v e h =
      let p = and_parts (is_met row a) (list_all (is_met row) atoms) h in
      go (value_told n a) refl e (found_is row n atoms v) p.0 p.1
    where
      go : (o : Option (Value A)) → value_told n a ≡ o → option_or o (found n atoms) ≡ Some v → (found n atoms ≡ Some v → list_all (is_met row) atoms ≡ true → field row n ≡ v) → is_met row a ≡ true → list_all (is_met row) atoms ≡ true → field row n ≡ v
      go (Some u) q f rest g k = told_is row n a v (q ∙ f) g
      go None q f rest g k = rest f k

  -- ---- sums

  added_twice : (v : Value A) (e d : ℤ) → added (added v e) d ≡ added v (e +ℤ d)
  added_twice Null e d = refl
  added_twice (Int n) e d = ap Int (twice n e d)
  added_twice (Text t) e d = refl
  added_twice (Bytes b) e d = refl

  pub raised_is : (row : Row A) (i n : ℕ) (d : ℤ) (f : Field A) (x : Value A) → FieldIs row n f x → FieldIs row i (raised n d f) (added x d)
  raised_is row i n d becomes.Kept x h = ap (λ y. added y d) h
  raised_is row i n d (becomes.Given v) x h = go (out_of_range (added v d))
    where
      go : (b : Bool) → FieldIs row i (cond b becomes.Anything (becomes.Given (added v d))) (added x d)
      go true = tt
      go false = ap (λ y. added y d) h
  raised_is row i n d (becomes.Sum m e) x h = go (in_range (e +ℤ d))
    where
      go : (b : Bool) → FieldIs row i (cond b (becomes.Sum m (e +ℤ d)) becomes.Anything) (added x d)
      go true = ap (λ y. added y d) h ∙ added_twice (field row m) e d
      go false = tt
  raised_is row i n d becomes.Anything x h = tt

  -- ---- what is known

  pub met_before : (k : Value A) (w : Way A) (before now : Option (List (Value A))) → Holds k w before now → w.is_absent ≡ false → list_all (is_met (row_before k before)) w.atoms ≡ true
  met_before k w None now h e = absurd (true≢false (sym h.start ∙ e))
  met_before k w (Some fields) now h e = (and_parts (not w.is_absent) (list_all (is_met (k, fields)) w.atoms) h.start).1

  before_is : (k : Value A) (w : Way A) (before now : Option (List (Value A))) (n : ℕ) → Holds k w before now → FieldIs (row_before k before) n (field_before w n) (field (row_before k before) n)
  before_is k w before now n h = go w.is_absent refl
    where
      by_found : (o : Option (Value A)) → found n w.atoms ≡ o → list_all (is_met (row_before k before)) w.atoms ≡ true → FieldIs (row_before k before) n (option_map_or becomes.Given o becomes.Kept) (field (row_before k before) n)
      by_found None q g = refl
      by_found (Some v) q g = found_is (row_before k before) n w.atoms v q g

      go : (b : Bool) → w.is_absent ≡ b → FieldIs (row_before k before) n (cond b becomes.Kept (option_map_or becomes.Given (found n w.atoms) becomes.Kept)) (field (row_before k before) n)
      go true e = refl
      go false e = by_found (found n w.atoms) refl (met_before k w before now h e)

  known_is : (k : Value A) (w : Way A) (before now : Option (List (Value A))) (n : ℕ) (f : Field A) (x : Value A) → Holds k w before now → FieldIs (row_before k before) n f x → FieldIs (row_before k before) n (known w n f) x
  known_is k w before now n becomes.Kept x h g = subst (FieldIs (row_before k before) n (field_before w n)) (sym g) (before_is k w before now n h)
  known_is k w before now n (becomes.Given v) x h g = g
  known_is k w before now n (becomes.Sum m d) x h g =
      subst (FieldIs (row_before k before) n (raised m d (field_before w m))) (sym g)
      (raised_is (row_before k before) n m d (field_before w m) (field (row_before k before) m) (before_is k w before now m h))
  known_is k w before now n becomes.Anything x h g = tt

  said_is : (row : Row A) (n : ℕ) (o : Option (Field A)) (x : Value A) → FieldAt row n o x → FieldIs row n (unwrap_or o becomes.Anything) x
  said_is row n None x h = tt
  said_is row n (Some f) x h = h

  of_row : (row : Row A) (k : Value A) (gs : List (Value A)) (n : ℕ) (r : After A) → Ends row r (Some gs) → FieldIs row (suc n) (field_of r n) (field (k, gs) (suc n))
  of_row row k gs n comes.Gone h = absurd h
  of_row row k gs n (comes.Row fs) h = said_is row (suc n) (slice_get fs n) (field (k, gs) (suc n)) (field_after row fs gs n h)
  of_row row k gs n comes.Anything h = tt

  pub field_now-suc : (k : Value A) (w : Way A) (n : ℕ) → field_now k w (suc n) ≡ known w (suc n) (field_of w.after n)
  field_now-suc k w n =
      ap (λ b. cond b (becomes.Given k) (known w (suc n) (field_of w.after (suc n - 1)))) (eqb-suc-zero n)
      ∙ ap (λ m. known w (suc n) (field_of w.after m)) (suc_less n)

  -- What is known of a column now is so.
  pub now_is : (k : Value A) (w : Way A) (before : Option (List (Value A))) (gs : List (Value A)) (n : ℕ) → Holds k w before (Some gs) → FieldIs (row_before k before) n (field_now k w n) (field (k, gs) n)
  now_is k w before gs zero h = refl
  now_is k w before gs (suc n) h =
      subst (λ f. FieldIs (row_before k before) (suc n) f (field (k, gs) (suc n))) (sym (field_now-suc k w n))
      (known_is k w before (Some gs) (suc n) (field_of w.after n) (field (k, gs) (suc n)) h (of_row (row_before k before) k gs n w.after h.end))
