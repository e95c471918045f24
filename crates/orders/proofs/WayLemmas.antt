-- What a way says of one column.
use Rattle.std.proofs.Common.{◌≡◌, refl, sym, ap, subst, ◌∙◌, ℕ, zero, suc, ◌+◌, Bool, true, false, true≢false, cond, not, ◌&&◌, List, [], ◌∷◌, slice_get, Option, Some, None, eqb, get_or, arith}
use Rattle.std.proofs.lemmas.Bool.{eqb-true, and_parts, and_from}
use Rattle.std.specs.List.{list_all}
use Rattle.value.specs.declared.value.Value.{Value}
use Rattle.value.specs.declared.value.Value.TheVariants.{Null}
use Rattle.schema.specs.declared.row.Row.{Row}
use Rattle.schema.specs.Plain.{field}
use Rattle.statement.specs.declared.condition.Condition.{Condition}
use Rattle.statement.specs.declared.condition.Condition.TheVariants.{Compare, Between, IsNull, IsNotNull}
use Rattle.statement.specs.Conditions.{holds}
use Rattle.orders.specs.declared.ways.way.Atom.{Atom}
use Rattle.orders.specs.declared.ways.way.Field.{Field}
use Rattle.orders.specs.declared.ways.way.Field.TheVariants as becomes
use Rattle.orders.specs.declared.ways.way.After.{After}
use Rattle.orders.specs.declared.ways.way.After.TheVariants as comes
use Rattle.orders.specs.declared.ways.way.Way.{Way}
use Rattle.orders.specs.Ways.{as_said, column_of, value_meets, is_met, row_before, FieldIs, FieldsAre, Ends, Holds, cell, allows_value, allows, effect_on_field, effect_of_field, effect_from, effect, Comes}

-- the n-th place from m on
abbrev pub place : ℕ → ℕ → ℕ
place m zero = m
place m (suc n) = place (suc m) n

pub place_is : (m n : ℕ) → place m n ≡ m + n
place_is m zero = omega arith
place_is m (suc n) = place_is (suc m) n ∙ (let e : suc m + n ≡ m + suc n = omega arith in e)

pub first_place : (n : ℕ) → place 1 n ≡ suc n
first_place n = place_is 1 n ∙ (let e : 1 + n ≡ suc n = omega arith in e)

module _ {A : Type 0} where
  -- a condition is on the value of its column
  pub holds_by : (row : Row A) (c : Condition A) → holds row c ≡ value_meets (field row (column_of c)) c
  holds_by row (Compare n how v) = refl
  holds_by row (Between n low high) = refl
  holds_by row (IsNull n) = refl
  holds_by row (IsNotNull n) = refl

  met_allows : (row : Row A) (n : ℕ) (a : Atom A) → is_met row a ≡ true → allows_value n (field row n) a ≡ true
  met_allows row n a h = go (eqb (column_of a.condition) n) refl
    where
      go : (b : Bool) → eqb (column_of a.condition) n ≡ b → cond b (as_said a.truth (value_meets (field row n) a.condition)) true ≡ true
      go false e = refl
      go true e =
          subst (λ m. as_said a.truth (value_meets (field row m) a.condition) ≡ true) (eqb-true (column_of a.condition) n e)
          (sym (ap (as_said a.truth) (holds_by row a.condition)) ∙ h)

  all_allow : (row : Row A) (n : ℕ) (atoms : List (Atom A)) → list_all (is_met row) atoms ≡ true → list_all (allows_value n (field row n)) atoms ≡ true
  all_allow row n [] h = refl
  all_allow row n (a ∷ atoms) h = let p = and_parts (is_met row a) (list_all (is_met row) atoms) h in and_from _ _ (met_allows row n a p.0) (all_allow row n atoms p.1)

  -- What holds allows the state of each column before.
  pub holds_allows : (k : Value A) (w : Way A) (before now : Option (List (Value A))) (n : ℕ) → Holds k w before now → allows w n (cell k before n) ≡ true
  holds_allows k w None now n h = h.start
  holds_allows k w (Some fields) now n h =
      let p = and_parts (not w.is_absent) (list_all (is_met (k, fields)) w.atoms) h.start in
      and_from _ _ p.0 (all_allow (k, fields) n w.atoms p.1)

  -- ---- what is there afterwards

  -- a column that is said something of is as said
  abbrev pub FieldAt : Row A → ℕ → Option (Field A) → Value A → Type 0
  FieldAt row n None v = Unit {0}
  FieldAt row n (Some f) v = FieldIs row n f v

  field_at : (row : Row A) (m : ℕ) (fs : List (Field A)) (gs : List (Value A)) (n : ℕ) → FieldsAre row m fs gs → FieldAt row (place m n) (slice_get fs n) (get_or gs n Null)
  field_at row m [] gs n h = tt
  field_at row m (f ∷ fs) [] n h = absurd h
  field_at row m (f ∷ fs) (g ∷ gs) zero h = h.0
  field_at row m (f ∷ fs) (g ∷ gs) (suc n) h = field_at row (suc m) fs gs n h.1

  pub field_after : (row : Row A) (fs : List (Field A)) (gs : List (Value A)) (n : ℕ) → FieldsAre row 1 fs gs → FieldAt row (suc n) (slice_get fs n) (get_or gs n Null)
  field_after row fs gs n h = subst (λ m. FieldAt row m (slice_get fs n) (get_or gs n Null)) (first_place n) (field_at row 1 fs gs n h)

  come_anew : (k : Value A) (n : ℕ) (o : Option (Field A)) (v : Value A) → FieldAt (k, []) (suc n) o v → Comes (effect_of_field o) (cell k None) (suc n) (Some v)
  come_anew k n None v h = tt
  come_anew k n (Some becomes.Kept) v h = tt
  come_anew k n (Some (becomes.Given w)) v h = ap Some h
  come_anew k n (Some (becomes.Sum m d)) v h = tt
  come_anew k n (Some becomes.Anything) v h = tt

  stay : (k : Value A) (fields : List (Value A)) (n : ℕ) (o : Option (Field A)) (v : Value A) → FieldAt (k, fields) (suc n) o v → Comes (effect_on_field o) (cell k (Some fields)) (suc n) (Some v)
  stay k fields n None v h = tt
  stay k fields n (Some becomes.Kept) v h = ap Some h
  stay k fields n (Some (becomes.Given w)) v h = ap Some h
  stay k fields n (Some (becomes.Sum m d)) v h = ap Some h
  stay k fields n (Some becomes.Anything) v h = tt

  anew : (k : Value A) (n : ℕ) (r : After A) (now : Option (List (Value A))) → Ends (k, []) r now → Comes (effect_from k true r n) (cell k None) n (cell k now n)
  anew k n comes.Gone None h = refl
  anew k n comes.Gone (Some gs) h = absurd h
  anew k n (comes.Row fs) None h = absurd h
  anew k zero (comes.Row fs) (Some gs) h = refl
  anew k (suc n) (comes.Row fs) (Some gs) h = come_anew k n (slice_get fs n) (get_or gs n Null) (field_after (k, []) fs gs n h)
  anew k n comes.Anything now h = tt

  there : (k : Value A) (n : ℕ) (fields : List (Value A)) (r : After A) (now : Option (List (Value A))) → Ends (k, fields) r now → Comes (effect_from k false r n) (cell k (Some fields)) n (cell k now n)
  there k n fields comes.Gone None h = refl
  there k n fields comes.Gone (Some gs) h = absurd h
  there k n fields (comes.Row fs) None h = absurd h
  there k zero fields (comes.Row fs) (Some gs) h = refl
  there k (suc n) fields (comes.Row fs) (Some gs) h = stay k fields n (slice_get fs n) (get_or gs n Null) (field_after (k, fields) fs gs n h)
  there k n fields comes.Anything now h = tt

  -- What holds does to each column what its effect says.
  pub holds_effect : (k : Value A) (w : Way A) (before now : Option (List (Value A))) (n : ℕ) → Holds k w before now → Comes (effect k w n) (cell k before) n (cell k now n)
  holds_effect k w before now n h = go w.is_absent before h.start h.end
    where
      starts_by : Bool → Option (List (Value A)) → Bool
      starts_by a None = a
      starts_by a (Some fields) = not a && list_all (is_met (k, fields)) w.atoms

      go : (a : Bool) (b : Option (List (Value A))) → starts_by a b ≡ true → Ends (row_before k b) w.after now → Comes (effect_from k a w.after n) (cell k b) n (cell k now n)
      go true None s e = anew k n w.after now e
      go true (Some fields) s e = absurd (true≢false (sym s))
      go false None s e = absurd (true≢false (sym s))
      go false (Some fields) s e = there k n fields w.after now e
