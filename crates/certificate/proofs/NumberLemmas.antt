-- The spots of a table that may ever have a row: each stands once, and there are no others. So what lines say of numbers of rows holds.
use Rattle.std.proofs.Common.{◌≡◌, refl, sym, ap, subst, ◌∙◌, ℕ, Bool, true, false, true≢false, not, ◌&&◌, ◌||◌, ◌==◌, ◌++◌, cond, nat_le, nat_lt, map, List, [], ◌∷◌, Option, Some, None, is_some, option_and_then, slice_get}
use Rattle.std.proofs.lemmas.Bool.{and_parts, and_from, not_from_false}
use Rattle.std.proofs.lemmas.List.{append_assoc, append-nil}
use Rattle.std.specs.List.{AllByRecursion, filter, list_all, list_any}
use Rattle.std.specs.List.Sorted.{IsStrictlySortedBy}
use Rattle.std.specs.Option.{option_map_or}
use Rattle.std.specs.Ordering.{is_eq, match_ordering, ordering_reverse}
use Rattle.std.specs.declared.cmp.Ordering.{Ordering}
use Rattle.std.specs.declared.cmp.Ordering.TheVariants.{Less, Equal, Greater}
use Rattle.std.specs.BTreeSet.{insert_key}
use Rattle.value.specs.declared.value.Value.{Value}
use Rattle.value.specs.declared.value.Value.TheVariants.{Null}
use Rattle.value.specs.Order.{value_cmp, value_cmp-exact, value_cmp-total}
use Rattle.value.proofs.Basics.{eqb-self}
use Rattle.schema.specs.Plain.{same}
use Rattle.statement.proofs.Suffices.{same_itself}
use Rattle.orders.specs.Explains.{Trace}
use Rattle.orders.specs.Counts.{number_at}
use Rattle.orders.specs.declared.ways.way.Way.{Way}
use Rattle.certificate.specs.declared.known.Spot.{Spot}
use Rattle.certificate.specs.Board.{Board}
use Rattle.certificate.specs.Cells.{same_spot}
use Rattle.certificate.specs.Knowledge.{Known, are_apart, is_present}
use Rattle.certificate.specs.Numbers.{put_in_order, is_key, spot_of, table_keys, has_keys_alone, spots, table_of, number_of, is_over, is_under, is_overfull, is_lacking, is_filled_beside, is_short_beside, is_too_many, is_too_few}
use Rattle.certificate.specs.Order.{Turn, Play, Exact, Valid, IsExcluded}
use Rattle.certificate.specs.Recorded.{Recording, board, keys_of, tells}
use Rattle.certificate.specs.Sums as sum
use Rattle.certificate.proofs.RecordingLemmas.{board-exact}
use Rattle.certificate.proofs.SumLemmas.{not-overfull, not-lacking, overfilling-excluded, lacking-excluded}

or-left : (a b : Bool) → a ≡ true → (a || b) ≡ true
or-left true b h = refl
or-left false b h = absurd (true≢false (sym h))

or-right : (a b : Bool) → b ≡ true → (a || b) ≡ true
or-right true b h = refl
or-right false b h = h

or-both : (a b c d : Bool) → (a ≡ true → c ≡ true) → (b ≡ true → d ≡ true) → (a || b) ≡ true → (c || d) ≡ true
or-both true b c d f g h = or-left c d (f refl)
or-both false b c d f g h = or-right c d (g h)

or-none : (a b : Bool) → a ≡ false → b ≡ false → (a || b) ≡ false
or-none true b e f = e
or-none false b e f = f

and-none : (a b : Bool) → b ≡ false → (a && b) ≡ false
and-none true b e = e
and-none false b e = refl

and-assoc : (a b c : Bool) → ((a && b) && c) ≡ (a && (b && c))
and-assoc true b c = refl
and-assoc false b c = refl

-- what a test on an option holds of
some-of : {T : Type 0} (f : T → Bool) (o : Option T) → option_map_or f o false ≡ true → (x : T) × (o ≡ Some x) × (f x ≡ true)
some-of f None h = absurd (true≢false (sym h))
some-of f (Some x) h = (x, refl, h)

all-more : {T : Type 0} (P Q : T → Type 0) (xs : List T) → ((x : T) → P x → Q x) → AllByRecursion P xs → AllByRecursion Q xs
all-more P Q [] f a = tt
all-more P Q (x ∷ xs) f a = (f x a.0, all-more P Q xs f a.1)

filter-all : {T : Type 0} (p : T → Bool) (xs : List T) → list_all p xs ≡ true → filter p xs ≡ xs
filter-all p [] h = refl
filter-all p (x ∷ xs) h = let r = and_parts (p x) (list_all p xs) h in ap (λ b. cond b (x ∷ filter p xs) (filter p xs)) r.0 ∙ ap (λ ys. x ∷ ys) (filter-all p xs r.1)

module _ {A : Type 0} where
  -- ---- all are there

  has-old : (k v : Value A) (ks : List (Value A)) → list_any (same k) ks ≡ true → list_any (same k) (insert_key value_cmp ks v) ≡ true
  has-old k v [] h = absurd (true≢false (sym h))
  has-old k v (x ∷ xs) h = go (value_cmp v x) (has-old k v xs)
    where
      go : (o : Ordering) → (list_any (same k) xs ≡ true → list_any (same k) (insert_key value_cmp xs v) ≡ true)
          → list_any (same k) (match_ordering o (v ∷ x ∷ xs) (x ∷ xs) (x ∷ insert_key value_cmp xs v)) ≡ true
      go Less more = or-right (same k v) (list_any (same k) (x ∷ xs)) h
      go Equal more = h
      go Greater more = or-both (same k x) (list_any (same k) xs) (same k x) (list_any (same k) (insert_key value_cmp xs v)) (λ e. e) more h

  has-new : (k v : Value A) (ks : List (Value A)) → same k v ≡ true → list_any (same k) (insert_key value_cmp ks v) ≡ true
  has-new k v [] h = or-left (same k v) false h
  has-new k v (x ∷ xs) h = go (value_cmp v x) refl (has-new k v xs h)
    where
      go : (o : Ordering) → value_cmp v x ≡ o → list_any (same k) (insert_key value_cmp xs v) ≡ true
          → list_any (same k) (match_ordering o (v ∷ x ∷ xs) (x ∷ xs) (x ∷ insert_key value_cmp xs v)) ≡ true
      go Less e more = or-left (same k v) (list_any (same k) (x ∷ xs)) h
      go Equal e more = or-left (same k x) (list_any (same k) xs) (subst (λ w. same k w ≡ true) (value_cmp-exact v x e) h)
      go Greater e more = or-right (same k x) (list_any (same k) (insert_key value_cmp xs v)) more

  put-old : (k : Value A) (vs ks : List (Value A)) → list_any (same k) ks ≡ true → list_any (same k) (put_in_order ks vs) ≡ true
  put-old k [] ks h = h
  put-old k (v ∷ vs) ks h = put-old k vs (insert_key value_cmp ks v) (has-old k v ks h)

  put-new : (k : Value A) (vs ks : List (Value A)) → list_any (same k) vs ≡ true → list_any (same k) (put_in_order ks vs) ≡ true
  put-new k [] ks h = absurd (true≢false (sym h))
  put-new k (v ∷ vs) ks h = go (same k v) refl (put-new k vs (insert_key value_cmp ks v)) h
    where
      go : (b : Bool) → same k v ≡ b → (list_any (same k) vs ≡ true → list_any (same k) (put_in_order (insert_key value_cmp ks v) vs) ≡ true) → (b || list_any (same k) vs) ≡ true
          → list_any (same k) (put_in_order (insert_key value_cmp ks v) vs) ≡ true
      go true e more g = put-old k vs (insert_key value_cmp ks v) (has-new k v ks e)
      go false e more g = more g

  -- ---- each stands once

  all-put : (P : Value A → Type 0) (v : Value A) (ks : List (Value A)) → P v → AllByRecursion P ks → AllByRecursion P (insert_key value_cmp ks v)
  all-put P v [] p a = (p, tt)
  all-put P v (x ∷ xs) p a = go (value_cmp v x) (all-put P v xs p a.1)
    where
      go : (o : Ordering) → AllByRecursion P (insert_key value_cmp xs v) → AllByRecursion P (match_ordering o (v ∷ x ∷ xs) (x ∷ xs) (x ∷ insert_key value_cmp xs v))
      go Less more = (p, a)
      go Equal more = a
      go Greater more = (a.0, more)

  insert-sorted : (v : Value A) (ks : List (Value A)) → IsStrictlySortedBy value_cmp ks → IsStrictlySortedBy value_cmp (insert_key value_cmp ks v)
  unfolding IsStrictlySortedBy
  insert-sorted v [] s = (tt, tt)
  insert-sorted v (x ∷ xs) s = go (value_cmp v x) refl (insert-sorted v xs s.1)
    where
      go : (o : Ordering) → value_cmp v x ≡ o → IsStrictlySortedBy value_cmp (insert_key value_cmp xs v) → IsStrictlySortedBy value_cmp (match_ordering o (v ∷ x ∷ xs) (x ∷ xs) (x ∷ insert_key value_cmp xs v))
      go Less e more = ((e, all-more (λ y. value_cmp x y ≡ Less) (λ y. value_cmp v y ≡ Less) xs (λ y l. value_cmp-total.trans v x y e l) s.0), s)
      go Equal e more = s
      go Greater e more = (all-put (λ y. value_cmp x y ≡ Less) v xs (value_cmp-total.antisymm x v ∙ ap ordering_reverse e) s.0, more)

  put-sorted : (vs ks : List (Value A)) → IsStrictlySortedBy value_cmp ks → IsStrictlySortedBy value_cmp (put_in_order ks vs)
  put-sorted [] ks s = s
  put-sorted (v ∷ vs) ks s = put-sorted vs (insert_key value_cmp ks v) (insert-sorted v ks s)

  -- ---- spots

  none-same : (u : ℕ) (k : Value A) (ks : List (Value A)) → AllByRecursion (λ y. value_cmp k y ≡ Less) ks → list_any (same_spot (spot_of u k)) (map (spot_of u) (filter is_key ks)) ≡ false
  none-same u k [] a = refl
  none-same u k (x ∷ xs) a = go (is_key x) (none-same u k xs a.1)
    where
      go : (b : Bool) → list_any (same_spot (spot_of u k)) (map (spot_of u) (filter is_key xs)) ≡ false
          → list_any (same_spot (spot_of u k)) (map (spot_of u) (cond b (x ∷ filter is_key xs) (filter is_key xs))) ≡ false
      go true more = or-none ((u == u) && same k x) (list_any (same_spot (spot_of u k)) (map (spot_of u) (filter is_key xs))) (and-none (u == u) (same k x) (ap is_eq a.0)) more
      go false more = more

  apart-spots : (r : Recording A) (u : ℕ) (ks : List (Value A)) → IsStrictlySortedBy value_cmp ks → are_apart (board r) (map (spot_of u) (filter is_key ks)) ≡ true
  unfolding IsStrictlySortedBy
  apart-spots r u [] s = refl
  apart-spots r u (x ∷ xs) s = go (is_key x) (none-same u x xs s.0) (apart-spots r u xs s.1)
    where
      go : (b : Bool) → list_any (same_spot (spot_of u x)) (map (spot_of u) (filter is_key xs)) ≡ false → are_apart (board r) (map (spot_of u) (filter is_key xs)) ≡ true
          → are_apart (board r) (map (spot_of u) (cond b (x ∷ filter is_key xs) (filter is_key xs))) ≡ true
      go true none more = and_from (not (list_any (same_spot (spot_of u x)) (map (spot_of u) (filter is_key xs)))) (are_apart (board r) (map (spot_of u) (filter is_key xs)))
          (not_from_false (list_any (same_spot (spot_of u x)) (map (spot_of u) (filter is_key xs))) none) more
      go false none more = more

  of-table : (u : ℕ) (ks : List (Value A)) → list_all (λ (t : Spot A). u == t.table) (map (spot_of u) ks) ≡ true
  of-table u [] = refl
  of-table u (k ∷ ks) = and_from (u == u) (list_all (λ (t : Spot A). u == t.table) (map (spot_of u) ks)) (eqb-self u) (of-table u ks)

  spot-there : (u : ℕ) (k : Value A) (ks : List (Value A)) → list_any (same k) ks ≡ true → list_any (same_spot (spot_of u k)) (map (spot_of u) ks) ≡ true
  spot-there u k [] h = absurd (true≢false (sym h))
  spot-there u k (x ∷ xs) h = or-both (same k x) (list_any (same k) xs) ((u == u) && same k x) (list_any (same_spot (spot_of u k)) (map (spot_of u) xs)) (λ e. and_from (u == u) (same k x) (eqb-self u) e) (spot-there u k xs) h

  each-there : (u : ℕ) (ss : List (Spot A)) (vs : List (Value A)) → ((k : Value A) → list_any (same k) vs ≡ true → list_any (same_spot (spot_of u k)) ss ≡ true)
      → list_all (λ (t : Spot A). list_any (same_spot t) ss) (map (spot_of u) vs) ≡ true
  each-there u ss [] f = refl
  each-there u ss (v ∷ vs) f = and_from (list_any (same_spot (spot_of u v)) ss) (list_all (λ (t : Spot A). list_any (same_spot t) ss) (map (spot_of u) vs))
      (f v (or-left (same v v) (list_any (same v) vs) (same_itself v))) (each-there u ss vs (λ k h. f k (or-right (same k v) (list_any (same k) vs) h)))

  -- one value more

  pub spots-step : (u : ℕ) (v : Value A) (rest its ks : List (Value A)) (old new : List (Spot A)) → its ≡ v ∷ rest → new ≡ old ++ map (spot_of u) (filter is_key (v ∷ [])) → old ++ map (spot_of u) (filter is_key its) ≡ map (spot_of u) (filter is_key ks)
      → new ++ map (spot_of u) (filter is_key rest) ≡ map (spot_of u) (filter is_key ks)
  spots-step u v rest its ks old new e n h =
      ap (λ l. l ++ map (spot_of u) (filter is_key rest)) n
      ∙ go (is_key v)
      ∙ ap (λ l. old ++ map (spot_of u) (filter is_key l)) (sym e)
      ∙ h
    where
      go : (b : Bool) → (old ++ map (spot_of u) (cond b (v ∷ []) [])) ++ map (spot_of u) (filter is_key rest) ≡ old ++ map (spot_of u) (cond b (v ∷ filter is_key rest) (filter is_key rest))
      go true = append_assoc old (spot_of u v ∷ []) (map (spot_of u) (filter is_key rest))
      go false = ap (λ l. l ++ map (spot_of u) (filter is_key rest)) (append-nil old)

  pub keys-step : (v : Value A) (rest its ks : List (Value A)) (b c : Bool) → its ≡ v ∷ rest → c ≡ is_key v → (b && list_all is_key its) ≡ list_all is_key ks → ((b && c) && list_all is_key rest) ≡ list_all is_key ks
  keys-step v rest its ks b c e k h =
      ap (λ d. (b && d) && list_all is_key rest) k
      ∙ and-assoc b (is_key v) (list_all is_key rest)
      ∙ ap (λ l. b && list_all is_key l) (sym e)
      ∙ h

module _ {A : Type 0} (r : Recording A) (k : Known (Option (Value A)) (Spot A)) where
  are-of-table : (s : Spot A) → sum.are_of_table (board r) k s (spots r s.table) ≡ true
  unfolding IsStrictlySortedBy
  are-of-table s = and_from (list_all (λ (t : Spot A). s.table == t.table) (spots r s.table)) (are_apart (board r) (spots r s.table))
      (of-table s.table (filter is_key (table_keys r s.table)))
      (apart-spots r s.table (table_keys r s.table) (put-sorted (keys_of r.opening r.transactions s.table) [] tt))

  are-all : (s : Spot A) → has_keys_alone r s.table ≡ true → sum.are_all (board r) k s (spots r s.table) ≡ true
  are-all s h = each-there s.table (spots r s.table) (keys_of r.opening r.transactions s.table) (λ v e.
      subst (λ vs. list_any (same_spot (spot_of s.table v)) (map (spot_of s.table) vs) ≡ true) (sym (filter-all is_key (table_keys r s.table) h))
      (spot-there s.table v (table_keys r s.table) (put-new v (keys_of r.opening r.transactions s.table) [] e)))

  -- the number that is found is what the answer tells
  told-number : (u j n : ℕ) (o : Option (Trace A)) → option_and_then (λ (t : Trace A). number_at u t.statements j) o ≡ Some n → option_map_or (tells u j n) o false ≡ true
  told-number u j n None h = absurd (true≢false (sym (ap is_some h)))
  told-number u j n (Some t) h = ap (λ m. option_map_or (λ m. m == n) m false) h ∙ eqb-self n

module _ {A : Type 0} (r : Recording A) (order : List ℕ) (turns : Spot A → ℕ → Turn (Option (Value A))) (play : Play (board r) order turns)
    (k : Known (Option (Value A)) (Spot A)) (valid : Valid (board r) order turns k) where
  exact : Exact (board r)
  exact = board-exact r.catalog r.opening r.transactions

  pub overfull-refutes : (y j : ℕ) → is_overfull r k y j ≡ true → ⊥
  overfull-refutes y j h =
      let p = and_parts (is_present (board r) k y) (option_map_or (is_over r k y j) (table_of r y j) false) h in
      let t = some-of (is_over r k y j) (table_of r y j) p.1 in
      let s : Spot A = spot_of t.0 Null in
      let ss : List (Spot A) = spots r t.0 in
      let n = some-of (λ n. nat_lt n (sum.at_least (board r) k y j ss)) (number_of r y t.0 j) t.2 in
      let there : (board r).tells y s j n.0 ≡ true = told-number r k t.0 j n.0 (slice_get r.transactions y) n.1 in
      not-overfull (board r) exact order turns play k valid y j n.0 s ss
      (and_from (is_present (board r) k y && (board r).tells y s j n.0 && sum.are_of_table (board r) k s ss) (nat_lt n.0 (sum.at_least (board r) k y j ss))
      (and_from (is_present (board r) k y && (board r).tells y s j n.0) (sum.are_of_table (board r) k s ss)
      (and_from (is_present (board r) k y) ((board r).tells y s j n.0) p.0 there)
      (are-of-table r k s))
      n.2)

  pub lacking-refutes : (y j : ℕ) → is_lacking r k y j ≡ true → ⊥
  lacking-refutes y j h =
      let p = and_parts (is_present (board r) k y) (option_map_or (is_under r k y j) (table_of r y j) false) h in
      let t = some-of (is_under r k y j) (table_of r y j) p.1 in
      let s : Spot A = spot_of t.0 Null in
      let ss : List (Spot A) = spots r t.0 in
      let q = and_parts (has_keys_alone r t.0) (option_map_or (λ n. nat_lt (sum.at_most (board r) k y j ss) n) (number_of r y t.0 j) false) t.2 in
      let n = some-of (λ n. nat_lt (sum.at_most (board r) k y j ss) n) (number_of r y t.0 j) q.1 in
      let there : (board r).tells y s j n.0 ≡ true = told-number r k t.0 j n.0 (slice_get r.transactions y) n.1 in
      not-lacking (board r) exact order turns play k valid y j n.0 s ss
      (and_from (is_present (board r) k y && (board r).tells y s j n.0 && sum.are_all (board r) k s ss) (nat_lt (sum.at_most (board r) k y j ss) n.0)
      (and_from (is_present (board r) k y && (board r).tells y s j n.0) (sum.are_all (board r) k s ss)
      (and_from (is_present (board r) k y) ((board r).tells y s j n.0) p.0 there)
      (are-all r k s q.0))
      n.2)

  pub too-many-excluded : (y j : ℕ) (s : Spot A) (m : ℕ) → is_too_many r k y j s m ≡ true → IsExcluded (board r) order turns (record { place = y; spot = s; way = m })
  too-many-excluded y j s m h =
      let w = some-of (λ (w : Way A). (board r).counts w j && is_filled_beside r k y j s) (slice_get ((board r).ways y s) m) h in
      let p = and_parts ((board r).counts w.0 j) (is_filled_beside r k y j s) w.2 in
      let ss : List (Spot A) = spots r s.table in
      let n = some-of (λ n. nat_le n (sum.at_least (board r) k y j (sum.others (board r) k s ss))) (number_of r y s.table j) p.1 in
      let there : (board r).tells y s j n.0 ≡ true = told-number r k s.table j n.0 (slice_get r.transactions y) n.1 in
      overfilling-excluded (board r) exact order turns play k valid w.0 m y j n.0 s ss w.1
      (and_from ((board r).counts w.0 j && (board r).tells y s j n.0 && (board r).same_table s s && sum.are_of_table (board r) k s ss) (nat_le n.0 (sum.at_least (board r) k y j (sum.others (board r) k s ss)))
      (and_from ((board r).counts w.0 j && (board r).tells y s j n.0 && (board r).same_table s s) (sum.are_of_table (board r) k s ss)
      (and_from ((board r).counts w.0 j && (board r).tells y s j n.0) ((board r).same_table s s)
      (and_from ((board r).counts w.0 j) ((board r).tells y s j n.0) p.0 there)
      (eqb-self s.table))
      (are-of-table r k s))
      n.2)

  pub too-few-excluded : (y j : ℕ) (s : Spot A) (m : ℕ) → is_too_few r k y j s m ≡ true → IsExcluded (board r) order turns (record { place = y; spot = s; way = m })
  too-few-excluded y j s m h =
      let w = some-of (λ (w : Way A). not ((board r).may_count y s w j) && is_short_beside r k y j s) (slice_get ((board r).ways y s) m) h in
      let p = and_parts (not ((board r).may_count y s w.0 j)) (is_short_beside r k y j s) w.2 in
      let ss : List (Spot A) = spots r s.table in
      let q = and_parts (has_keys_alone r s.table) (option_map_or (λ n. nat_lt (sum.at_most (board r) k y j (sum.others (board r) k s ss)) n) (number_of r y s.table j) false) p.1 in
      let n = some-of (λ n. nat_lt (sum.at_most (board r) k y j (sum.others (board r) k s ss)) n) (number_of r y s.table j) q.1 in
      let there : (board r).tells y s j n.0 ≡ true = told-number r k s.table j n.0 (slice_get r.transactions y) n.1 in
      lacking-excluded (board r) exact order turns play k valid w.0 m y j n.0 s ss w.1
      (and_from (not ((board r).may_count y s w.0 j) && (board r).tells y s j n.0 && sum.are_all (board r) k s ss) (nat_lt (sum.at_most (board r) k y j (sum.others (board r) k s ss)) n.0)
      (and_from (not ((board r).may_count y s w.0 j) && (board r).tells y s j n.0) (sum.are_all (board r) k s ss)
      (and_from (not ((board r).may_count y s w.0 j)) ((board r).tells y s j n.0) p.0 there)
      (are-all r k s q.0))
      n.2)
