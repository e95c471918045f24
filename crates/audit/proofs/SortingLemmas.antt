-- Entries put in the order of their keys.
use Rattle.std.proofs.Common.{◌≡◌, refl, sym, ap, subst, ◌∙◌, ℕ, suc, ◌+◌, ◌≤◌, Bool, true, false, true≢false, cond, not, ◌&&◌, ◌⊎◌, inl, inr, Result, Ok, Err, IfOk, List, [], ◌∷◌, length, map, get_or, arith}
use Rattle.std.proofs.lemmas.Bool.{not-true, and_parts}
use Rattle.std.specs.List.{filter}
use Rattle.std.specs.List.Sorted.{IsSortedBy, IsStableBy, ties}
use Rattle.std.specs.Cmp.{IsStrictWeakOrder}
use Rattle.std.specs.Ordering.{is_lt}
use Rattle.value.specs.Isolation.{key_cmp}
use Rattle.value.proofs.IsolationLemmas.{Below, In}
use Rattle.value.proofs.SortLemmas.{Apart, Below-asym, Below-trans, InOrder, In-sorted, Tied, key_order, same_order, sorted-In, sorted-InOrder}
use Rattle.value.proofs.Basics.{filter-In, In-map, In-mapped}
use Rattle.history.specs.Transactions.{Txn, World}
use Rattle.history.specs.Serial.{committed, in_commit_order, key, keys_by_commit, serial_order, with_keys}
use Rattle.serial.proofs.order.SerialTheorem.{IsGood, isolated_world}
use Rattle.session.proofs.CommitOrder.{by_end, ordered}
use Rattle.transactions.specs.Keys.{keyed}
use Rattle.audit.specs.Sorting.{Entry, comes_before, key_of}

pub if-both : {T E : Type 0} {P Q S : T → Type 0} (r : Result T E) → IfOk r P → IfOk r Q → ((x : T) → P x → Q x → S x) → IfOk r S
if-both (Ok x) p q f = f x p q
if-both (Err e) p q f = p

abbrev Key : Type 0
Key = ℕ × ℕ × ℕ

-- ---- keys

tied_is : (k l : Key) → Tied k l → k ≡ l
tied_is k l t = λ i. (t.0 i, t.1 i, t.2 i)

never_below : (k : Key) → Below k k → ⊥
never_below k b = Below-asym k k b b

-- the one is the other, or doesn't come before it
not_before : (k l : Key) → Tied k l ⊎ Below l k → is_lt (key_cmp k l) ≡ false
not_before k l h = go (key_order k l) h
  where
    go : Below k l × (is_lt (key_cmp k l) ≡ true) ⊎ (Tied k l ⊎ Below l k) × (is_lt (key_cmp k l) ≡ false) → Tied k l ⊎ Below l k → is_lt (key_cmp k l) ≡ false
    go (inr f) h = f.1
    go (inl b) (inl t) = absurd (never_below l (subst (λ m. Below m l) (tied_is k l t) b.0))
    go (inl b) (inr a) = absurd (Below-asym k l b.0 a)

not_after : (k l : Key) → is_lt (key_cmp k l) ≡ false → Tied k l ⊎ Below l k
not_after k l e = go (key_order k l)
  where
    go : Below k l × (is_lt (key_cmp k l) ≡ true) ⊎ (Tied k l ⊎ Below l k) × (is_lt (key_cmp k l) ≡ false) → Tied k l ⊎ Below l k
    go (inl b) = absurd (true≢false (sym b.1 ∙ e))
    go (inr f) = f.0

through : (k l m : Key) → Tied k l ⊎ Below l k → Tied l m ⊎ Below m l → Tied k m ⊎ Below m k
through k l m (inl t) h = subst (λ n. Tied n m ⊎ Below m n) (sym (tied_is k l t)) h
through k l m (inr b) (inl t) = inr (subst (λ n. Below n k) (tied_is l m t) b)
through k l m (inr b) (inr d) = inr (Below-trans m l k d b)

one_way : (k l : Key) → is_lt (key_cmp k l) ≡ true → is_lt (key_cmp l k) ≡ false
one_way k l e = go (key_order k l)
  where
    go : Below k l × (is_lt (key_cmp k l) ≡ true) ⊎ (Tied k l ⊎ Below l k) × (is_lt (key_cmp k l) ≡ false) → is_lt (key_cmp l k) ≡ false
    go (inl b) = not_before l k (inr b.0)
    go (inr f) = absurd (true≢false (sym e ∙ f.1))

-- Keys are an order.
pub keys_order : IsStrictWeakOrder comes_before
keys_order = record {
  one_way = λ d e h. one_way (key_of d) (key_of e) h;
  chain = λ d e f a b. not_before (key_of d) (key_of f) (through (key_of d) (key_of e) (key_of f) (not_after (key_of d) (key_of e) a) (not_after (key_of e) (key_of f) b));
}

sym_tied : (k l : Key) → Tied k l → Tied l k
sym_tied k l t = (sym t.0, sym t.1, sym t.2)

ties_so : (d e : Entry) → Tied (key_of d) (key_of e) → ties comes_before d e ≡ true
ties_so d e t =
    ap (λ b. not b && not (comes_before e d)) (not_before (key_of d) (key_of e) (inl t)) ∙ ap not (not_before (key_of e) (key_of d) (inl (sym_tied (key_of d) (key_of e) t)))

tied_so : (d e : Entry) → ties comes_before d e ≡ true → Tied (key_of d) (key_of e)
tied_so d e h = go (not_after (key_of d) (key_of e) (not-true (comes_before d e) p.0)) (not_after (key_of e) (key_of d) (not-true (comes_before e d) p.1))
  where
    p : (not (comes_before d e) ≡ true) × (not (comes_before e d) ≡ true)
    p = and_parts (not (comes_before d e)) (not (comes_before e d)) h

    go : Tied (key_of d) (key_of e) ⊎ Below (key_of e) (key_of d) → Tied (key_of e) (key_of d) ⊎ Below (key_of d) (key_of e) → Tied (key_of d) (key_of e)
    go (inl t) q = t
    go (inr b) (inl t) = sym_tied (key_of e) (key_of d) t
    go (inr b) (inr a) = absurd (Below-asym (key_of e) (key_of d) b a)

-- ---- lists

module _ {T : Type 0} where
  In-filter : (p : T → Bool) (x : T) (xs : List T) → In x (filter p xs) → In x xs
  In-filter p x [] i = absurd i
  In-filter p x (y ∷ xs) i = go (p y) (In-filter p x xs) i
    where
      go : (b : Bool) → (In x (filter p xs) → In x xs) → In x (cond b (y ∷ filter p xs) (filter p xs)) → (x ≡ y) ⊎ In x xs
      go true rest (inl q) = inl q
      go true rest (inr j) = inr (rest j)
      go false rest j = inr (rest j)

  some_length : (x : T) (xs : List T) → In x xs → 1 ≤ length xs
  some_length x [] i = absurd i
  some_length x (y ∷ xs) i = omega arith

  filter_shorter : (p : T → Bool) (x : T) (xs : List T) → length (filter p xs) ≤ length (filter p (x ∷ xs))
  filter_shorter p x xs = go (p x)
    where
      go : (b : Bool) → length (filter p xs) ≤ length (cond b (x ∷ filter p xs) (filter p xs))
      go true = omega arith
      go false = omega arith

  map-InOrder : {U : Type 0} (f : T → U) (k : U → Key) (xs : List T) → InOrder (λ x. k (f x)) xs → InOrder k (map f xs)
  map-InOrder f k [] o = tt
  map-InOrder f k (x ∷ xs) o = (λ y i. let r = In-map f y xs i in subst (λ u. Below (k (f x)) (k u)) (sym r.2) (o.0 r.0 r.1), map-InOrder f k xs o.1)

  map-Apart : {U : Type 0} (f : T → U) (k : U → Key) (xs : List T) → Apart (λ x. k (f x)) xs → Apart k (map f xs)
  map-Apart f k [] a = tt
  map-Apart f k (x ∷ xs) a = (λ y i t. let r = In-map f y xs i in a.0 r.0 r.1 (subst (λ u. Tied (k (f x)) (k u)) r.2 t), map-Apart f k xs a.1)

  Apart-map : {U : Type 0} (f : T → U) (k : U → Key) (xs : List T) → Apart k (map f xs) → Apart (λ x. k (f x)) xs
  Apart-map f k [] a = tt
  Apart-map f k (x ∷ xs) a = (λ y i t. a.0 (f y) (In-mapped f y xs i) t, Apart-map f k xs a.1)

-- ---- sorted entries

-- one entry at most has a key, where keys are apart
few : (d : Entry) (es : List Entry) → Apart key_of es → length (filter (ties comes_before d) es) ≤ 1
few d [] a = omega arith
few d (e ∷ es) a = go (ties comes_before d e) refl (few d es a.1)
  where
    go : (b : Bool) → ties comes_before d e ≡ b → length (filter (ties comes_before d) es) ≤ 1 → length (cond b (e ∷ filter (ties comes_before d) es) (filter (ties comes_before d) es)) ≤ 1
    go false q rest = rest
    go true q rest = let n : length (filter (ties comes_before d) es) ≡ 0 = ap length (none es (λ y i. a.0 y i)) in omega (arith, n)
      where
        none : (ys : List Entry) → ((y : Entry) → In y ys → Tied (key_of e) (key_of y) → ⊥) → filter (ties comes_before d) ys ≡ []
        none [] h = refl
        none (y ∷ ys) h = by (ties comes_before d y) refl (none ys (λ z i. h z (inr i)))
          where
            by : (b : Bool) → ties comes_before d y ≡ b → filter (ties comes_before d) ys ≡ [] → cond b (y ∷ filter (ties comes_before d) ys) (filter (ties comes_before d) ys) ≡ []
            by true f rest = absurd (h y (inl refl) (subst (λ k. Tied k (key_of y)) (tied_is (key_of d) (key_of e) (tied_so d e q)) (tied_so d y f)))
            by false f rest = rest

apart_from_few : (es : List Entry) → ((d : Entry) → length (filter (ties comes_before d) es) ≤ 1) → Apart key_of es
apart_from_few [] h = tt
apart_from_few (e ∷ es) h = (λ y i t. twice y i t, apart_from_few es (λ d. let a = filter_shorter (ties comes_before d) e es in let b = h d in omega (arith, a, b)))
  where
    twice : (y : Entry) → In y es → Tied (key_of e) (key_of y) → ⊥
    twice y i t =
        let self : ties comes_before e e ≡ true = ties_so e e (refl, refl, refl) in
        let whole : length (filter (ties comes_before e) (e ∷ es)) ≡ suc (length (filter (ties comes_before e) es)) = ap (λ b. length (cond b (e ∷ filter (ties comes_before e) es) (filter (ties comes_before e) es))) self in
        let one = some_length y (filter (ties comes_before e) es) (filter-In (ties comes_before e) y es i (ties_so e y t)) in
        let most = h e in omega (arith, whole, one, most)

stable_apart : (es ds : List Entry) → IsStableBy comes_before es ds → Apart key_of es → Apart key_of ds
stable_apart es ds s a = apart_from_few ds (λ d. subst (λ fs. length fs ≤ 1) (sym (s d)) (few d es a))

stable_in : (es ds : List Entry) → IsStableBy comes_before es ds → (e : Entry) → In e ds → In e es
stable_in es ds s e i = In-filter (ties comes_before e) e es (subst (In e) (s e) (filter-In (ties comes_before e) e ds i (ties_so e e (refl, refl, refl))))

in_stable : (es ds : List Entry) → IsStableBy comes_before es ds → (e : Entry) → In e es → In e ds
in_stable es ds s e i = In-filter (ties comes_before e) e ds (subst (In e) (sym (s e)) (filter-In (ties comes_before e) e es i (ties_so e e (refl, refl, refl))))

-- what comes next in a list comes next in it with one more before
shifted : (d e : Entry) (ds : List Entry) → IsSortedBy comes_before (d ∷ e ∷ ds) → IsSortedBy comes_before (e ∷ ds)
shifted d e ds h k z l m =
    let p : k + 1 ≡ suc k = omega arith in
    let q : suc k + 1 ≡ suc (suc k) = omega arith in
    subst (λ n. comes_before (get_or (e ∷ ds) n z) (get_or (e ∷ ds) k z) ≡ false) (sym p)
    (subst (λ n. comes_before (get_or (d ∷ e ∷ ds) n z) (get_or (d ∷ e ∷ ds) (suc k) z) ≡ false) q (h (suc k) z (omega arith) (omega (arith, m))))

rising : (ds : List Entry) → IsSortedBy comes_before ds → Apart key_of ds → InOrder key_of ds
rising [] h a = tt
rising (d ∷ []) h a = (λ y i. absurd i, tt)
rising (d ∷ e ∷ ds) h a = first (rising (e ∷ ds) (shifted d e ds h) a.1)
  where
    next : Below (key_of d) (key_of e)
    next = go (not_after (key_of e) (key_of d) (h 0 d (omega arith) (omega arith)))
      where
        go : Tied (key_of e) (key_of d) ⊎ Below (key_of d) (key_of e) → Below (key_of d) (key_of e)
        go (inl t) = absurd (a.0 e (inl refl) (sym_tied (key_of e) (key_of d) t))
        go (inr b) = b

    first : InOrder key_of (e ∷ ds) → InOrder key_of (d ∷ e ∷ ds)
    first rest = (λ y i. below y i, rest)
      where
        below : (y : Entry) → (y ≡ e) ⊎ In y ds → Below (key_of d) (key_of y)
        below y (inl p) = subst (λ z. Below (key_of d) (key_of z)) (sym p) next
        below y (inr i) = Below-trans (key_of d) (key_of e) (key_of y) next (rest.0 y i)

-- ---- a history's keys

module _ {A : Type 0} (w : World A) (g : IsGood w) where
  abbrev entry : Txn A → ℕ × Key
  entry t = (t.number, key w t)

  Tied-same : (xs : List (Txn A)) → Apart (key w) xs → (t u : Txn A) → In t xs → In u xs → Tied (key w t) (key w u) → t ≡ u
  Tied-same [] a t u i j e = absurd i
  Tied-same (x ∷ xs) a t u (inl p) (inl q) e = p ∙ sym q
  Tied-same (x ∷ xs) a t u (inl p) (inr j) e = absurd (a.0 u j (subst (λ y. Tied (key w y) (key w u)) p e))
  Tied-same (x ∷ xs) a t u (inr i) (inl q) e = absurd (a.0 t i (subst (λ y. Tied (key w y) (key w t)) q (sym_tied (key w t) (key w u) e)))
  Tied-same (x ∷ xs) a t u (inr i) (inr j) e = Tied-same xs a.1 t u i j e

  commits_apart : Apart (key w) (in_commit_order w)
  commits_apart = go (in_commit_order w) (ordered w g) (λ t i. In-sorted by_end t (committed w) i)
    where
      go : (ts : List (Txn A)) → InOrder by_end ts → ((t : Txn A) → In t ts → In t (committed w)) → Apart (key w) ts
      go [] o sub = tt
      go (t ∷ ts) o sub = (λ u i e. never_below (by_end t) (subst (λ y. Below (by_end t) (by_end y)) (sym (Tied-same (committed w) (isolated_world w g).keys_apart t u (sub t (inl refl)) (sub u (inr i)) e)) (o.0 u i)), go ts o.1 (λ u i. sub u (inr i)))

  -- Its keys by commit, sorted, are those of the serial order.
  pub sorted_keys : (es ds : List Entry) → map keyed es ≡ keys_by_commit w → IsSortedBy comes_before ds → IsStableBy comes_before es ds → map keyed ds ≡ with_keys w (serial_order w)
  sorted_keys es ds e o s = same_order (λ (k : ℕ × Key). k.1) (map keyed ds) (with_keys w (serial_order w))
      (map-InOrder keyed (λ (k : ℕ × Key). k.1) ds (rising ds o (stable_apart es ds s apart)))
      (map-InOrder entry (λ (k : ℕ × Key). k.1) (serial_order w) (sorted-InOrder (key w) (committed w) (isolated_world w g).keys_apart))
      there back
    where
      apart : Apart key_of es
      apart = Apart-map keyed (λ (k : ℕ × Key). k.1) es (subst (Apart (λ (k : ℕ × Key). k.1)) (sym e) (map-Apart entry (λ (k : ℕ × Key). k.1) (in_commit_order w) commits_apart))

      there : (p : ℕ × Key) → In p (map keyed ds) → In p (with_keys w (serial_order w))
      there p i =
          let d = In-map keyed p ds i in
          let t = In-map entry p (in_commit_order w) (subst (In p) e (subst (λ q. In q (map keyed es)) (sym d.2) (In-mapped keyed d.0 es (stable_in es ds s d.0 d.1)))) in
          subst (λ q. In q (with_keys w (serial_order w))) (sym t.2) (In-mapped entry t.0 (serial_order w) (sorted-In (key w) t.0 (committed w) (In-sorted by_end t.0 (committed w) t.1)))

      back : (p : ℕ × Key) → In p (with_keys w (serial_order w)) → In p (map keyed ds)
      back p i =
          let t = In-map entry p (serial_order w) i in
          let d = In-map keyed p es (subst (In p) (sym e) (subst (λ q. In q (with_keys w (in_commit_order w))) (sym t.2) (In-mapped entry t.0 (in_commit_order w) (sorted-In by_end t.0 (committed w) (In-sorted (key w) t.0 (committed w) t.1))))) in
          subst (λ q. In q (map keyed ds)) (sym d.2) (In-mapped keyed d.0 ds (in_stable es ds s d.0 d.1))

-- ---- numbers

pub numbers-seen : (es : List Entry) → map (λ (e : Entry). e.0.0) es ≡ map (λ e. e.0) (map keyed es)
numbers-seen [] = refl
numbers-seen (e ∷ es) = ap (λ ns. e.0.0 ∷ ns) (numbers-seen es)

pub numbers-with : {A : Type 0} (w : World A) (ts : List (Txn A)) → map (λ e. e.0) (with_keys w ts) ≡ map (λ t. t.number) ts
numbers-with w [] = refl
numbers-with w (t ∷ ts) = ap (λ ns. t.number ∷ ns) (numbers-with w ts)
