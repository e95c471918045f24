-- One of the ways of a transaction is what happened.
use Rattle.std.proofs.Common.{◌≤◌, ◌≡◌, refl, sym, ap, subst, ◌∙◌, ℕ, zero, suc, ◌-◌, Bool, true, false, true≢false, cond, not, ◌||◌, inl, inr, List, [], ◌∷◌, map, length, replicate, slice_get, Option, Some, None, nat_le, arith, ◌<◌, ◌+◌, drop, get_or}
use Rattle.std.proofs.lemmas.Bool.{and_parts}
use Rattle.std.specs.List.{flat_map, list_any}
use Rattle.value.specs.declared.value.Value.{Value}
use Rattle.value.specs.declared.value.Value.TheVariants.{Null}
use Rattle.schema.specs.Definition.{Catalog, columns_of}
use Rattle.schema.specs.declared.row.Row.{Row}
use Rattle.schema.specs.declared.tables.Tables.{Tables}
use Rattle.schema.specs.Plain.{is_null, field, rows_of, row_at, is_sound}
use Rattle.statement.specs.declared.statement.Statement.{Statement}
use Rattle.statement.specs.declared.reply.Reply.{Reply}
use Rattle.statement.specs.Evaluation.{outcome, after}
use Rattle.statement.specs.Fits.{fits, literals_fit}
use Rattle.statement.specs.Walk.{is_row_of}
use Rattle.statement.proofs.CoverLemmas.{all_in}
use Rattle.statement.proofs.HeldLemmas.{held_sound, held_table, literals_length}
use Rattle.statement.proofs.LawsLemmas.{sound_after}
use Rattle.statement.proofs.RowsLemmas.{found_in}
use Rattle.orders.specs.Explains.{agrees, alone, are_fit}
use Rattle.orders.specs.declared.ways.way.Field.TheVariants as becomes
use Rattle.orders.specs.declared.ways.way.Way.{Way}
use Rattle.orders.specs.Counts.{chooses, names_key, OneCounts}
use Rattle.orders.specs.Ways.{FieldsAre, Holds, IsOneOf, OneHolds}
use Rattle.orders.specs.Symbolic.{most_ways, most_apart, looks_at, step, coarse, steps, steps_from, absent_way, present_way, first_ways, ways_of, is_looked_at}
use Rattle.orders.proofs.CountLemmas.{Extends, extends_none, extends_more, counts_right}
use Rattle.orders.proofs.LeftLemmas.{unlooked, unlooked_unchosen}
use Rattle.orders.proofs.StepLemmas.{Next, stands_front, stands_back, step_holds, coarse_holds}
use Rattle.orders.proofs.TellLemmas.{get_is}
use Rattle.orders.proofs.WayLemmas.{place, first_place}

none_first : (a b : Bool) → (a || b) ≡ false → (a ≡ false) × (b ≡ false)
none_first true b e = absurd (true≢false e)
none_first false b e = (refl, e)

-- a table that isn't there has no columns
pub no_width : (c : Catalog) (t : ℕ) → length c ≤ t → 0 ≡ length (columns_of c t) - 1
no_width [] t h = refl
no_width (d ∷ c) zero h = absurd (omega arith)
no_width (d ∷ c) (suc t) h = no_width c t (omega arith)

-- what some element passes, seen through a function
pub any-map : {B C : Type 0} (f : B → C) (p : C → Bool) (xs : List B) → list_any p (map f xs) ≡ list_any (λ x. p (f x)) xs
any-map f p [] = refl
any-map f p (x ∷ xs) = ap (λ b. p (f x) || b) (any-map f p xs)

module _ {A : Type 0} where
  -- ---- ways made of ways

  of_one : (f : Way A → List (Way A)) (ws : List (Way A)) (w u : Way A) → IsOneOf w ws → IsOneOf u (f w) → IsOneOf u (flat_map f ws)
  of_one f [] w u i j = absurd i
  of_one f (v ∷ ws) w u (inl e) j = stands_front u (f v) (flat_map f ws) (subst (λ x. IsOneOf u (f x)) e j)
  of_one f (v ∷ ws) w u (inr i) j = stands_back u (f v) (flat_map f ws) (of_one f ws w u i j)

  each_one : (f : Way A → Way A) (ws : List (Way A)) (w : Way A) → IsOneOf w ws → IsOneOf (f w) (map f ws)
  each_one f [] w i = absurd i
  each_one f (v ∷ ws) w (inl e) = inl (ap f e)
  each_one f (v ∷ ws) w (inr i) = inr (each_one f ws w i)

  -- ---- before the first statement

  all_kept : (row : Row A) (m : ℕ) (vs : List (Value A)) → ((i : ℕ) (v : Value A) → slice_get vs i ≡ Some v → v ≡ field row (place m i)) → FieldsAre row m (replicate (length vs) becomes.Kept) vs
  all_kept row m [] f = tt
  all_kept row m (v ∷ vs) f = (f 0 v refl, all_kept row (suc m) vs (λ i x e. f (suc i) x e))

  row_width : (c : Catalog) (X : Tables A) (t : ℕ) (k : Value A) (gs : List (Value A)) → is_sound c X ≡ true → row_at X t k ≡ Some gs → length gs ≡ length (columns_of c t) - 1
  row_width c X t k gs s e =
      let rows = (held_table c X t (held_sound c X s)).1 in
      let row = all_in (is_row_of (columns_of c t)) (rows_of X t) (k, gs) rows (found_in (rows_of X t) k gs e) in
      let l : length (k ∷ gs) ≡ length (columns_of c t) = literals_length (columns_of c t) (k ∷ gs) (and_parts (not (is_null k)) (literals_fit (columns_of c t) (k ∷ gs)) row).1 in
      omega arith

  -- one of the first ways holds, and counts nothing
  first_holds : (c : Catalog) (X : Tables A) (t : ℕ) (k : Value A) → is_sound c X ≡ true
      → (w : Way A) × IsOneOf w (first_ways (length (columns_of c t) - 1)) × Holds k w (row_at X t k) (row_at X t k) × (w.counted ≡ [])
  first_holds c X t k s = go (row_at X t k) refl
    where
      go : (o : Option (List (Value A))) → row_at X t k ≡ o → (w : Way A) × IsOneOf w (first_ways (length (columns_of c t) - 1)) × Holds k w o o × (w.counted ≡ [])
      go None e = (absent_way, inl refl, record { start = refl; end = tt }, refl)
      go (Some gs) e = (present_way (length (columns_of c t) - 1), inr (inl refl), record { start = refl; end = kept }, refl)
        where
          kept : FieldsAre (k, gs) 1 (replicate (length (columns_of c t) - 1) becomes.Kept) gs
          kept =
              subst (λ n. FieldsAre (k, gs) 1 (replicate n becomes.Kept) gs) (row_width c X t k gs s e)
              (all_kept (k, gs) 1 gs (λ i v q. get_is gs i v Null q ∙ ap (field (k, gs)) (sym (first_place i))))

  -- ---- statements

  steps_hold : (c : Catalog) (t : ℕ) (k : Value A) (j : ℕ) (q : Statement A) (r : Reply A) (ws : List (Way A)) (w : Way A) (X : Tables A) (before : Option (List (Value A))) → is_sound c X ≡ true → fits c q ≡ true → agrees (outcome c q X).reply r ≡ true
      → IsOneOf w ws → Holds k w before (row_at X t k) → Next k j (chooses t k q X) (names_key k q) w (steps t k j q r ws) before (row_at (after c q X) t k)
  steps_hold c t k j q r ws w X before s f g i h = go (looks_at t k q) refl (nat_le (length ws) most_ways)
    where
      few : Bool
      few = nat_le (length ws) most_apart

      go : (b : Bool) → looks_at t k q ≡ b → (less : Bool) → Next k j (chooses t k q X) (names_key k q) w (cond b (cond less (flat_map (step few k j q r) ws) (map (coarse j q) ws)) ws) before (row_at (after c q X) t k)
      go false e less = (w, i, subst (Holds k w before) (sym (unlooked c q X t k e)) h, inl ((refl, refl), λ m. absurd (true≢false (sym m ∙ unlooked_unchosen t k q X e))))
      go true e true = let u = step_holds few c t k j q r w X before s f e g h in (u.0, of_one (step few k j q r) ws w u.0 i u.1, u.2, u.3)
      go true e false = let u = coarse_holds c t k j q w X before h in (coarse j q w, each_one (coarse j q) ws w i, u.0, u.1)

  steps_from_hold : (c : Catalog) (t : ℕ) (k : Value A) (j : ℕ) (qs : List (Statement A × Reply A)) (ws : List (Way A)) (w : Way A) (X Y : Tables A) (before : Option (List (Value A))) → is_sound c X ≡ true → are_fit c qs ≡ true → alone c qs X ≡ Some Y
      → IsOneOf w ws → Holds k w before (row_at X t k) → (u : Way A) × IsOneOf u (steps_from t k j qs ws) × Holds k u before (row_at Y t k) × Extends c t k j qs X w u
  steps_from_hold c t k j [] ws w X Y before s f a i h = (w, i, subst (λ Z. Holds k w before (row_at Z t k)) (same_tables X Y a) h, extends_none c t k j X w)
    where
      same_tables : (X Y : Tables A) → Some X ≡ Some Y → X ≡ Y
      same_tables X Y e = cc
  steps_from_hold c t k j (q ∷ qs) ws w X Y before s f a i h =
      let p = and_parts (fits c q.0) (are_fit c qs) f in
      let g = answered (agrees (outcome c q.0 X).reply q.1) a in
      let v = steps_hold c t k j q.0 q.1 ws w X before s p.0 g.0 i h in
      let u = steps_from_hold c t k (suc j) qs (steps t k j q.0 q.1 ws) v.0 (after c q.0 X) Y before (sound_after c q.0 X p.0 s) p.1 g.1 v.1 v.2 in
      (u.0, u.1, u.2, extends_more c t k j q qs X w v.0 u.0 v.3 u.3)
    where
      answered : (b : Bool) → cond b (alone c qs (after c q.0 X)) None ≡ Some Y → (b ≡ true) × (alone c qs (after c q.0 X) ≡ Some Y)
      answered true e = (refl, e)
      answered false e = cc

  -- In each run alone, from sound tables, that gets answers that agree, one of the ways is what happened to the row of the key, and counts right.
  pub counted : (c : Catalog) (t : ℕ) (k : Value A) (qs : List (Statement A × Reply A)) (X Y : Tables A) → is_sound c X ≡ true → are_fit c qs ≡ true → alone c qs X ≡ Some Y → OneCounts c t k qs X Y (ways_of c t k qs)
  counted c t k qs X Y s f a =
      let w = first_holds c X t k s in
      let u = steps_from_hold c t k 0 qs (first_ways (length (columns_of c t) - 1)) w.0 X Y (row_at X t k) s f a w.1 w.2 in
      (u.0, u.1, u.2, counts_right c t k qs X w.0 u.0 w.3 u.3)

  pub covered : (c : Catalog) (t : ℕ) (k : Value A) (qs : List (Statement A × Reply A)) (X Y : Tables A) → is_sound c X ≡ true → are_fit c qs ≡ true → alone c qs X ≡ Some Y → OneHolds k (ways_of c t k qs) (row_at X t k) (row_at Y t k)
  covered c t k qs X Y s f a = let u = counted c t k qs X Y s f a in (u.0, u.1, u.2)

  -- ---- where no statement looks at the key

  unlooked_from : (t : ℕ) (k : Value A) (j : ℕ) (qs : List (Statement A × Reply A)) (ws : List (Way A)) → is_looked_at t k qs ≡ false → steps_from t k j qs ws ≡ ws
  unlooked_from t k j [] ws e = refl
  unlooked_from t k j (q ∷ qs) ws e =
      let p = none_first (looks_at t k q.0) (is_looked_at t k qs) e in
      ap (steps_from t k (suc j) qs) (ap (λ b. cond b (cond (nat_le (length ws) most_ways) (flat_map (step (nat_le (length ws) most_apart) k j q.0 q.1) ws) (map (coarse j q.0) ws)) ws) p.0) ∙ unlooked_from t k (suc j) qs ws p.1

  pub unlooked_ways : (c : Catalog) (t : ℕ) (k : Value A) (qs : List (Statement A × Reply A)) → is_looked_at t k qs ≡ false → ways_of c t k qs ≡ first_ways (length (columns_of c t) - 1)
  unlooked_ways c t k qs e = unlooked_from t k 0 qs (first_ways (length (columns_of c t) - 1)) e

  pub unlooked_row : (c : Catalog) (t : ℕ) (k : Value A) (qs : List (Statement A × Reply A)) (X Y : Tables A) → is_looked_at t k qs ≡ false → alone c qs X ≡ Some Y → row_at Y t k ≡ row_at X t k
  unlooked_row c t k [] X Y e a = let p : X ≡ Y = cc in ap (λ Z. row_at Z t k) (sym p)
  unlooked_row c t k (q ∷ qs) X Y e a =
      let p = none_first (looks_at t k q.0) (is_looked_at t k qs) e in
      go (agrees (outcome c q.0 X).reply q.1) a (λ b. unlooked_row c t k qs (after c q.0 X) Y p.1 b) ∙ unlooked c q.0 X t k p.0
    where
      go : (b : Bool) → cond b (alone c qs (after c q.0 X)) None ≡ Some Y → (alone c qs (after c q.0 X) ≡ Some Y → row_at Y t k ≡ row_at (after c q.0 X) t k) → row_at Y t k ≡ row_at (after c q.0 X) t k
      go true b rest = rest b
      go false b rest = cc

  -- ---- statements one by one

  pub steps_more : {B : Type 0} (view : B → Statement A × Reply A) (t : ℕ) (k : Value A) (n : ℕ) (xs : List B) (i : ℕ) (x : B) (ws : List (Way A)) → i < length xs → x ≡ get_or xs i x
      → steps_from t k n (map view (drop i xs)) ws ≡ steps_from t k (n + 1) (map view (drop (i + 1) xs)) (steps t k n (view x).0 (view x).1 ws)
  steps_more view t k n [] i x ws l e = absurd (omega arith)
  steps_more view t k n (y ∷ xs) zero x ws l e = subst (λ z. steps_from t k n (map view (y ∷ xs)) ws ≡ steps_from t k (n + 1) (map view xs) (steps t k n (view z).0 (view z).1 ws)) (sym e) (ap (λ m. steps_from t k m (map view xs) (steps t k n (view y).0 (view y).1 ws)) (let p : suc n ≡ n + 1 = omega arith in p))
  steps_more view t k n (y ∷ xs) (suc i) x ws l e =
      steps_more view t k n xs i x ws (omega arith) e ∙ ap (λ m. steps_from t k (n + 1) (map view (drop m (y ∷ xs))) (steps t k n (view x).0 (view x).1 ws)) (let p : suc (i + 1) ≡ suc i + 1 = omega arith in p)

  pub steps_over : {B : Type 0} (view : B → Statement A × Reply A) (t : ℕ) (k : Value A) (n i : ℕ) (xs : List B) (ws : List (Way A)) → length xs ≤ i → steps_from t k n (map view (drop i xs)) ws ≡ ws
  steps_over view t k n zero [] ws l = refl
  steps_over view t k n (suc i) [] ws l = refl
  steps_over view t k n zero (x ∷ xs) ws l = absurd (omega arith)
  steps_over view t k n (suc i) (x ∷ xs) ws l = steps_over view t k n i xs ws (omega arith)
