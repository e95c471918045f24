-- What an answer tells of the row of a key is so.
use Rattle.std.proofs.Common.{◌≡◌, refl, sym, ap, subst, ◌∙◌, ℕ, zero, suc, pos, Bool, true, false, true≢false, cond, not, ◌&&◌, ◌||◌, ◌⊎◌, inl, inr, List, [], ◌∷◌, map, length, Option, Some, None, eqb, arith}
use Rattle.std.proofs.lemmas.Bool.{eqb-true, and_parts}
use Rattle.std.proofs.lemmas.Bool.Decides.{nat_tests}
use Rattle.std.specs.List.{find, list_all, list_any}
use Rattle.std.specs.Option.{option_map_or}
use Rattle.std.specs.Ordering.{is_le, is_ge}
use Rattle.std.specs.declared.cmp.Ordering.{Ordering}
use Rattle.std.specs.declared.cmp.Ordering.TheVariants.{Less, Equal, Greater}
use Rattle.value.specs.declared.value.Value.{Value}
use Rattle.value.specs.declared.value.Value.TheVariants.{Int}
use Rattle.value.specs.Order.{value_cmp, value_cmp-exact}
use Rattle.value.proofs.IsolationLemmas.{In}
use Rattle.value.proofs.Basics.{any-In, In-any, In-map, In-mapped, find-In}
use Rattle.schema.specs.Definition.{Catalog}
use Rattle.schema.specs.declared.row.Row.{Row}
use Rattle.schema.specs.declared.tables.Tables.{Tables}
use Rattle.schema.specs.Plain.{same, is_null, cells, field, row_at, is_sound}
use Rattle.schema.proofs.PlainLemmas.{same_value}
use Rattle.statement.specs.declared.condition.Comparison.TheVariants as is
use Rattle.statement.specs.declared.condition.Condition.{Condition}
use Rattle.statement.specs.declared.condition.Condition.TheVariants.{Compare, Between, IsNull, IsNotNull}
use Rattle.statement.specs.declared.statement.Projection.{Projection}
use Rattle.statement.specs.declared.statement.Projection.TheVariants as shown
use Rattle.statement.specs.Conditions.{is_so, holds, satisfies, chosen}
use Rattle.statement.specs.Evaluation.{shown as shown_rows}
use Rattle.statement.proofs.Suffices.{same_itself}
use Rattle.orders.specs.Explains.{same_bag}
use Rattle.orders.specs.declared.ways.sight.Sight.{Sight}
use Rattle.orders.specs.declared.ways.sight.Sight.TheVariants.{Unseen, Seen, Either}
use Rattle.orders.specs.Symbolic.{pins_key, pins, shown_key, is_of_key, first_seen, seen, some_seen, sight_of_rows, sight_of_count}
use Rattle.orders.proofs.BagLemmas.{same_rows-there, same_rows-back, same_rows-count}
use Rattle.orders.proofs.ChoiceLemmas.{is_chosen}
use Rattle.orders.proofs.FieldLemmas.{equal_is}
use Rattle.orders.proofs.LeftLemmas.{in_filter, chosen_there, chosen_is-row}
use Rattle.orders.proofs.TellLemmas.{Told}

both_ways : (o : Ordering) → is_ge o ≡ true → is_le o ≡ true → o ≡ Equal
both_ways Less g l = absurd (true≢false (sym g))
both_ways Equal g l = refl
both_ways Greater g l = absurd (true≢false (sym l))

suc_not-zero : (n : ℕ) → eqb (suc n) 0 ≡ false
suc_not-zero n = grind (arith, nat_tests)

found_none : {B : Type 0} (p : B → Bool) (xs : List B) (x : B) → find p xs ≡ None → In x xs → p x ≡ false
found_none p [] x e i = absurd i
found_none {B} p (y ∷ xs) x e i = go (p y) refl e i (found_none p xs x)
  where
    go : (b : Bool) → p y ≡ b → cond b (Some y) (find p xs) ≡ None → (x ≡ y) ⊎ In x xs → (find p xs ≡ None → In x xs → p x ≡ false) → p x ≡ false
    go true q f j rest = cc
    go false q f (inl r) rest = ap p r ∙ q
    go false q f (inr j) rest = rest f j

in_front : {B : Type 0} (x : B) (xs ys : List B) → ys ≡ x ∷ xs → In x ys
in_front x xs ys e = subst (In x) (sym e) (inl refl)

empty_in : {B : Type 0} (x : B) (xs : List B) → length xs ≡ 0 → In x xs → ⊥
empty_in x [] e i = i
empty_in x (y ∷ xs) e i = absurd (omega arith)

module _ {A : Type 0} where
  abbrev pub FitsSight : Value A → Projection A → List (Condition A) → Option (List (Value A)) → Sight A → Type 0
  FitsSight k p cs now Unseen = is_chosen k cs now ≡ false
  FitsSight k p cs now (Seen vs) = (gs : List (Value A)) × (now ≡ Some gs) × (satisfies cs (k, gs) ≡ true) × Told p vs (k, gs)
  FitsSight k p cs now Either = Unit {0}

  -- ---- conditions that leave one key

  pins_key-is : (k : Value A) (row : Row A) (c : Condition A) → pins_key k c ≡ true → holds row c ≡ true → row.0 ≡ k
  pins_key-is k row (Compare n is.Equal v) p h =
      let q = and_parts (eqb n 0) (same k v) p in
      equal_is row.0 v (subst (λ m. is_so (field row m) is.Equal v ≡ true) (eqb-true n 0 q.0) h) ∙ sym (same_value k v q.1)
  pins_key-is k row (Compare n _ v) p h = absurd (true≢false (sym p))
  pins_key-is k row (Between n low high) p h =
      let z = and_parts (eqb n 0) (same k low && same k high) p in
      let q = and_parts (same k low) (same k high) z.1 in
      let r = and_parts (is_so row.0 is.GreaterOrEqual low) (is_so row.0 is.LessOrEqual high) (subst (λ m. (is_so (field row m) is.GreaterOrEqual low && is_so (field row m) is.LessOrEqual high) ≡ true) (eqb-true n 0 z.0) h) in
      let g : is_ge (value_cmp row.0 k) ≡ true = subst (λ v. is_ge (value_cmp row.0 v) ≡ true) (sym (same_value k low q.0)) (and_parts (not (is_null row.0) && not (is_null low)) (is_ge (value_cmp row.0 low)) r.0).1 in
      let l : is_le (value_cmp row.0 k) ≡ true = subst (λ v. is_le (value_cmp row.0 v) ≡ true) (sym (same_value k high q.1)) (and_parts (not (is_null row.0) && not (is_null high)) (is_le (value_cmp row.0 high)) r.1).1 in
      value_cmp-exact row.0 k (both_ways (value_cmp row.0 k) g l)
  pins_key-is k row (IsNull n) p h = absurd (true≢false (sym p))
  pins_key-is k row (IsNotNull n) p h = absurd (true≢false (sym p))

  pub pinned : (k : Value A) (cs : List (Condition A)) (row : Row A) → pins k cs ≡ true → satisfies cs row ≡ true → row.0 ≡ k
  pinned k [] row p s = absurd (true≢false (sym p))
  pinned k (c ∷ cs) row p s =
      let q = and_parts (holds row c) (list_all (holds row) cs) s in
      go (pins_key k c) refl p q.0 (λ r. pinned k cs row r q.1)
    where
      go : (b : Bool) → pins_key k c ≡ b → (b || pins k cs) ≡ true → holds row c ≡ true → (pins k cs ≡ true → row.0 ≡ k) → row.0 ≡ k
      go true e f h rest = pins_key-is k row c e h
      go false e f h rest = rest f

  -- ---- whether the row was chosen

  unchosen : (X : Tables A) (t : ℕ) (k : Value A) (cs : List (Condition A)) → ((gs : List (Value A)) → row_at X t k ≡ Some gs → In (k, gs) (chosen X t cs) → ⊥) → is_chosen k cs (row_at X t k) ≡ false
  unchosen X t k cs f = go (row_at X t k) refl
    where
      go : (o : Option (List (Value A))) → row_at X t k ≡ o → is_chosen k cs o ≡ false
      go None e = refl
      go (Some gs) e = by (satisfies cs (k, gs)) refl
        where
          by : (b : Bool) → satisfies cs (k, gs) ≡ b → b ≡ false
          by true s = absurd (f gs e (chosen_there X t k cs gs e s))
          by false s = refl

  none_chosen : (X : Tables A) (t : ℕ) (k : Value A) (cs : List (Condition A)) → length (chosen X t cs) ≡ 0 → is_chosen k cs (row_at X t k) ≡ false
  none_chosen X t k cs e = unchosen X t k cs (λ gs there i. empty_in (k, gs) (chosen X t cs) e i)

  -- where the conditions leave one key, a row that was chosen is its
  some_pinned : (c : Catalog) (X : Tables A) (t : ℕ) (k : Value A) (cs : List (Condition A)) → is_sound c X ≡ true → pins k cs ≡ true → (length (chosen X t cs) ≡ 0 → ⊥) → FitsSight k shown.Count cs (row_at X t k) (Seen [])
  some_pinned c X t k cs h p n = go (chosen X t cs) refl
    where
      go : (rows : List (Row A)) → chosen X t cs ≡ rows → FitsSight k shown.Count cs (row_at X t k) (Seen [])
      go [] e = absurd (n (ap length e))
      go (r ∷ rows) e =
          let i : In r (chosen X t cs) = in_front r rows (chosen X t cs) e in
          let key : r.0 ≡ k = pinned k cs r p (in_filter (satisfies cs) _ r i).1 in
          let w = chosen_is-row c X t k cs r h i key in
          (r.1, w.0, w.1, tt)

  -- ---- answers that tell a number

  by_number : (c : Catalog) (X : Tables A) (t : ℕ) (k : Value A) (cs : List (Condition A)) (b : Bool) → is_sound c X ≡ true → (b ≡ true → length (chosen X t cs) ≡ 0) → (b ≡ false → length (chosen X t cs) ≡ 0 → ⊥)
      → FitsSight k shown.Count cs (row_at X t k) (cond b Unseen (cond (pins k cs) (Seen []) Either))
  by_number c X t k cs true h z s = none_chosen X t k cs (z refl)
  by_number c X t k cs false h z s = go (pins k cs) refl
    where
      go : (d : Bool) → pins k cs ≡ d → FitsSight k shown.Count cs (row_at X t k) (cond d (Seen []) Either)
      go true e = some_pinned c X t k cs h e (s refl)
      go false e = tt

  pub count_fits : (c : Catalog) (X : Tables A) (t : ℕ) (k : Value A) (cs : List (Condition A)) (n : ℕ) → is_sound c X ≡ true → eqb (length (chosen X t cs)) n ≡ true → FitsSight k shown.Count cs (row_at X t k) (sight_of_count k cs n)
  count_fits c X t k cs n h e =
      let len : length (chosen X t cs) ≡ n = eqb-true (length (chosen X t cs)) n e in
      by_number c X t k cs (eqb n 0) h (λ z. len ∙ eqb-true n 0 z) (λ z q. true≢false (sym (zero_test n (sym len ∙ q)) ∙ z))
    where
      zero_test : (n : ℕ) → n ≡ 0 → eqb n 0 ≡ true
      zero_test n e = grind (arith, nat_tests)

  -- ---- answers that show rows

  -- where a test tells the rows of the key among those shown
  rows_fit : (c : Catalog) (X : Tables A) (t : ℕ) (k : Value A) (cs : List (Condition A)) (p : Projection A) (show : Row A → List (Value A)) (test : List (Value A) → Bool) (ws : List (List (Value A)))
      → is_sound c X ≡ true → same_bag (map show (chosen X t cs)) ws ≡ true → ((row : Row A) → row.0 ≡ k → test (show row) ≡ true) → ((row : Row A) → In row (chosen X t cs) → test (show row) ≡ true → row.0 ≡ k)
      → ((row : Row A) → Told p (show row) row) → FitsSight k p cs (row_at X t k) (seen (find test ws))
  rows_fit c X t k cs p show test ws h bag shows names told = go (find test ws) refl
    where
      go : (o : Option (List (Value A))) → find test ws ≡ o → FitsSight k p cs (row_at X t k) (seen o)
      go None e = unchosen X t k cs (λ gs there i.
          let j : In (show (k, gs)) ws = same_rows-there (map show (chosen X t cs)) ws (show (k, gs)) bag (In-mapped show (k, gs) (chosen X t cs) i) in
          true≢false (sym (shows (k, gs) refl) ∙ found_none test ws (show (k, gs)) e j))
      go (Some v) e =
          let i = find-In test ws v e in
          let r = In-map show v (chosen X t cs) (same_rows-back (map show (chosen X t cs)) ws v bag i.0) in
          let key : r.0.0 ≡ k = names r.0 r.1 (sym (ap test r.2) ∙ i.1) in
          let w = chosen_is-row c X t k cs r.0 h r.1 key in
          (r.0.1, w.0, w.1, subst (λ x. Told p x (k, r.0.1)) (sym r.2) (subst (λ x. Told p (show r.0) (x, r.0.1)) key (told r.0)))

  first_is : (ws : List (List (Value A))) → seen (find (λ row. true) ws) ≡ first_seen ws
  first_is [] = refl
  first_is (w ∷ ws) = refl

  -- the key is shown where its column is
  key_shown : (ns : List ℕ) (row : Row A) → list_any (λ n. eqb n 0) ns ≡ true → shown_key ns (map (field row) ns) ≡ Some row.0
  key_shown [] row e = absurd (true≢false (sym e))
  key_shown (zero ∷ ns) row e = refl
  key_shown (suc n ∷ ns) row e =
      ap (λ b. cond b (Some (field row (suc n))) (shown_key ns (map (field row) ns))) (suc_not-zero n)
      ∙ key_shown ns row (sym (ap (λ b. b || list_any (λ m. eqb m 0) ns) (suc_not-zero n)) ∙ e)

  key_told : (k : Value A) (ns : List ℕ) (vs : List (Value A)) (q : Value A) → shown_key ns vs ≡ Some q → is_of_key k ns vs ≡ same k q
  key_told k ns vs q e = ap (λ o. option_map_or (same k) o false) e

  -- one row with a number
  number_fits : (c : Catalog) (X : Tables A) (t : ℕ) (k : Value A) (cs : List (Condition A)) (ws : List (List (Value A))) → is_sound c X ≡ true → same_bag (shown_rows shown.Count (chosen X t cs)) ws ≡ true → FitsSight k shown.Count cs (row_at X t k) (sight_of_rows k shown.Count cs ws)
  number_fits c X t k cs ws h bag = by_number c X t k cs (list_any is_zero ws) h zero_there not_there
    where
      is_zero : List (Value A) → Bool
      is_zero = is_of_key (Int (pos 0)) (0 ∷ [])

      told : List (Value A)
      told = Int (pos (length (chosen X t cs))) ∷ []

      same_number : (m n : ℕ) → (let a : Value A = Int (pos m) in let b : Value A = Int (pos n) in a ≡ b) → n ≡ m
      same_number m n e = cc

      zero_there : list_any is_zero ws ≡ true → length (chosen X t cs) ≡ 0
      zero_there e =
          let r = any-In is_zero ws e in
          go r.0 (same_rows-back (told ∷ []) ws r.0 bag r.1) r.2
        where
          go : (row : List (Value A)) → (row ≡ told) ⊎ ⊥ → is_zero row ≡ true → length (chosen X t cs) ≡ 0
          go row (inl q) f = same_number 0 (length (chosen X t cs)) (same_value (Int (pos 0)) (Int (pos (length (chosen X t cs)))) (sym (ap is_zero q) ∙ f))
          go row (inr q) f = absurd q

      not_there : list_any is_zero ws ≡ false → length (chosen X t cs) ≡ 0 → ⊥
      not_there e z = true≢false (sym (In-any is_zero ws told (same_rows-there (told ∷ []) ws told bag (inl refl)) zero_shown) ∙ e)
        where
          zero_value : Value A
          zero_value = Int (pos 0)

          zero_shown : is_zero told ≡ true
          zero_shown = ap (λ n. same zero_value (Int (pos n))) z ∙ same_itself zero_value

  pub answer_fits : (c : Catalog) (X : Tables A) (t : ℕ) (k : Value A) (cs : List (Condition A)) (p : Projection A) (ws : List (List (Value A))) → is_sound c X ≡ true → same_bag (shown_rows p (chosen X t cs)) ws ≡ true → FitsSight k p cs (row_at X t k) (sight_of_rows k p cs ws)
  answer_fits c X t k cs shown.All ws h bag =
      rows_fit c X t k cs shown.All cells (is_of_key k (0 ∷ [])) ws h bag (λ row e. ap (same k) e ∙ same_itself k) (λ row i e. sym (same_value k row.0 e)) (λ row. refl)
  answer_fits c X t k cs shown.Count ws h bag = number_fits c X t k cs ws h bag
  answer_fits c X t k cs (shown.Columns ns) ws h bag = go (pins k cs) refl (list_any (λ n. eqb n 0) ns) refl
    where
      show : Row A → List (Value A)
      show row = map (field row) ns

      go : (a : Bool) → pins k cs ≡ a → (b : Bool) → list_any (λ n. eqb n 0) ns ≡ b → FitsSight k (shown.Columns ns) cs (row_at X t k) (cond a (first_seen ws) (cond b (seen (find (is_of_key k ns) ws)) (some_seen ws)))
      go true e b f =
          subst (FitsSight k (shown.Columns ns) cs (row_at X t k)) (first_is ws)
          (rows_fit c X t k cs (shown.Columns ns) show (λ row. true) ws h bag (λ row q. refl) (λ row i q. pinned k cs row e (in_filter (satisfies cs) _ row i).1) (λ row. refl))
      go false e true f =
          rows_fit c X t k cs (shown.Columns ns) show (is_of_key k ns) ws h bag (λ row q. key_told k ns (show row) row.0 (key_shown ns row f) ∙ ap (same k) q ∙ same_itself k)
          (λ row i q. sym (same_value k row.0 (sym (key_told k ns (show row) row.0 (key_shown ns row f)) ∙ q))) (λ row. refl)
      go false e false f = some ws bag
        where
          map_length : (rows : List (Row A)) → length (map show rows) ≡ length rows
          map_length [] = refl
          map_length (r ∷ rows) = ap suc (map_length rows)

          some : (ws : List (List (Value A))) → same_bag (map show (chosen X t cs)) ws ≡ true → FitsSight k (shown.Columns ns) cs (row_at X t k) (some_seen ws)
          some [] b = none_chosen X t k cs (sym (map_length (chosen X t cs)) ∙ same_rows-count (map show (chosen X t cs)) [] b)
          some (w ∷ ws) b = tt
