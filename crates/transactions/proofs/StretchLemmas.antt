-- Stretches stay what they are, and what is asked of the transactions around one is what is asked of all.
use Rattle.std.proofs.Common.{◌≡◌, refl, sym, ap, subst, ◌∙◌, ℕ, zero, suc, ◌+◌, ◌-◌, ◌<◌, ◌≤◌, min, max, Bool, true, false, true≢false, cond, not, ◌&&◌, ◌||◌, List, [], ◌∷◌, ◌++◌, length, take, drop, get_or, fold, eqb, nat_lt, nat_le, Option, Some, None, is_some, arith, map, slice_get}
use Rattle.std.proofs.Math.Bool.{and-false}
use Rattle.std.specs.List.{AllByRecursion, filter, find, list_any}
use Rattle.std.specs.Option.{option_map, option_or}
use Rattle.std.proofs.lemmas.Bool.Decides.{nat_tests}
use Rattle.std.proofs.lemmas.List.{drop-append-le, drop-drop, drop-map, get_or-drop, length-append, length-drop, length-map, length-take, take_more, take-append-drop, take-append-le, take-map}
use Rattle.std.proofs.Math.Seq.{take-append_seam, take-add}
use Rattle.std.proofs.lemmas.Bool.{or_parts, le-ltb}
use Rattle.std.proofs.lemmas.List.Elements.{filter-append}
use Rattle.std.proofs.lemmas.List.Folds.{find-append, list_any-append}
use Rattle.std.proofs.lemmas.List.Sums.{fold-append}
use Rattle.value.specs.declared.refusal.Cause.{Cause}
use Rattle.history.specs.Events.{doomed_by, doomed_with}
use Rattle.value.specs.Isolation.{first_part, is_doomed, is_first, is_live, with_doom}
use Rattle.value.proofs.Basics.{all-weaker, all-append, lt-eqb, take_next}
use Rattle.history.specs.Transactions.{Standing, Open, Doomed, Failed, Aborted, Done, Txn, edge, is_done, is_of, is_open, is_owed, node, reads_from}
use Rattle.history.specs.Answer.{is_taken}
use Rattle.transactions.specs.declared.kept.stretch.Stretch.{Stretch}
use Rattle.transactions.specs.Ledger.{AreNumbered, nothing, turned_at, txn_at}
use Rattle.transactions.specs.Stretches.{HoldStretches, HoldsStretch, IsAmongOpen, IsAround, IsPassed, IsPast, between, has_place, joined, none_at, without}
use Rattle.transactions.specs.Versions.{least_snapshot}

mixed : (a b c d : Bool) → ((a || b) || (c || d)) ≡ ((a || c) || (b || d))
mixed true b c d = refl
mixed false true true d = refl
mixed false true false d = refl
mixed false false c d = refl

pub empty_is : {X : Type 0} (xs : List X) → eqb (length xs) 0 ≡ true → xs ≡ []
empty_is [] e = refl
empty_is (x ∷ xs) e = absurd (let p = Rattle.std.proofs.lemmas.Bool.eqb-true (length (x ∷ xs)) 0 e in omega arith)

-- a list that is written back element for element is all of the new one
pub written-back : {X : Type 0} (f : X → X) (old new : List X) (n : ℕ) → n ≡ length old → new ≡ map f old → take n (new ++ drop (length new) old) ≡ map f old
written-back f old new n counted e =
    ap (λ k. take k (new ++ drop (length new) old)) (counted ∙ sym (length-map old f) ∙ ap length (sym e)) ∙ take-append_seam new (drop (length new) old) ∙ e

-- ---- of each element

pub all-front : {X : Type 0} (P : X → Type 0) (xs ys : List X) → AllByRecursion P (xs ++ ys) → AllByRecursion P xs
all-front P [] ys a = tt
all-front P (x ∷ xs) ys a = (a.0, all-front P xs ys a.1)

pub all-back : {X : Type 0} (P : X → Type 0) (xs ys : List X) → AllByRecursion P (xs ++ ys) → AllByRecursion P ys
all-back P [] ys a = a
all-back P (x ∷ xs) ys a = all-back P xs ys a.1

-- ---- tests that none of these passes

module _ {X : Type 0} (q : X → Bool) where
  any-none : (xs : List X) → AllByRecursion (λ x. q x ≡ false) xs → list_any q xs ≡ false
  any-none [] a = refl
  any-none (x ∷ xs) a = ap (λ b. b || list_any q xs) a.0 ∙ any-none xs a.1

  find-none : (xs : List X) → AllByRecursion (λ x. q x ≡ false) xs → find q xs ≡ None
  find-none [] a = refl
  find-none (x ∷ xs) a = ap (λ b. cond b (Some x) (find q xs)) a.0 ∙ find-none xs a.1

  any-between : (f p b : List X) → AllByRecursion (λ x. q x ≡ false) p → (list_any q f || list_any q b) ≡ list_any q (f ++ (p ++ b))
  any-between f p b a =
      sym (list_any-append q f (p ++ b) ∙ ap (λ r. list_any q f || r) (list_any-append q p b ∙ ap (λ r. r || list_any q b) (any-none p a)))

  find-between : (f p b : List X) → AllByRecursion (λ x. q x ≡ false) p → option_or (find q f) (find q b) ≡ find q (f ++ (p ++ b))
  find-between f p b a =
      sym (find-append q f (p ++ b) ∙ ap (option_or (find q f)) (find-append q p b ∙ ap (λ r. option_or r (find q b)) (find-none p a)))

-- ---- by places

slice_get-front : {X : Type 0} (xs ys : List X) (i : ℕ) → i < length xs → slice_get (xs ++ ys) i ≡ slice_get xs i
slice_get-front [] ys i h = absurd (omega arith)
slice_get-front (x ∷ xs) ys zero h = refl
slice_get-front (x ∷ xs) ys (suc i) h = slice_get-front xs ys i (omega arith)

found-some : {X : Type 0} (xs : List X) (i : ℕ) (o p : Option X) → i < length xs → o ≡ slice_get xs i → option_or o p ≡ slice_get xs i
found-some [] i o p h e = absurd (omega arith)
found-some (x ∷ xs) zero o p h e = ap (λ q. option_or q p) e
found-some (x ∷ xs) (suc i) o p h e = found-some xs i o p (omega arith) e

-- ---- what is found first

pub front-first : {X Y : Type 0} (h : X → Y) (p : X → Bool) (f b : List X) (r : Option Y) → r ≡ option_map h (find p f) → is_some r ≡ true → r ≡ option_map h (find p (f ++ b))
front-first {X} {Y} h p f b r e some = go (find p f) e ∙ sym (ap (option_map h) (find-append p f b))
  where
    go : (o : Option X) → r ≡ option_map h o → r ≡ option_map h (option_or o (find p b))
    go None q = absurd (true≢false (sym some ∙ ap is_some q))
    go (Some x) q = q

pub none-found : {X Y : Type 0} (h : X → Y) (o : Option X) (r : Option Y) → r ≡ option_map h o → is_some r ≡ false → o ≡ None
none-found h None r e none = refl
none-found h (Some x) r e none = absurd (true≢false (sym (ap is_some e) ∙ none))

-- what each of these leaves as it is
fold-none : {X B : Type 0} (g : B → X → B) (xs : List X) → AllByRecursion (λ x. (z : B) → g z x ≡ z) xs → (z : B) → fold g z xs ≡ z
fold-none g [] a z = refl
fold-none g (x ∷ xs) a z = ap (λ y. fold g y xs) (a.0 z) ∙ fold-none g xs a.1 z

pub fold-between : {X B : Type 0} (g : B → X → B) (f p b : List X) → AllByRecursion (λ x. (z : B) → g z x ≡ z) p → (z : B) → fold g z (f ++ b) ≡ fold g z (f ++ (p ++ b))
fold-between g f p b a z =
    fold-append g z f b
    ∙ sym (fold-append g z f (p ++ b) ∙ fold-append g (fold g z f) p b ∙ ap (λ y. fold g y b) (fold-none g p a (fold g z f)))

closed : (st : Standing) → is_owed st ≡ false → is_open st ≡ false
closed Open e = e
closed (Doomed c) e = refl
closed Failed e = refl
closed Aborted e = refl
closed Done e = refl

take-none : {X : Type 0} (k : ℕ) → take {A = X} k [] ≡ []
take-none zero = refl
take-none (suc k) = refl

-- what holds of each holds of the first ones
pub all-take : {X : Type 0} (P : X → Type 0) (k : ℕ) (xs : List X) → AllByRecursion P xs → AllByRecursion P (take k xs)
all-take P zero xs all = tt
all-take P (suc k) [] all = tt
all-take P (suc k) (x ∷ xs) all = (all.0, all-take P k xs all.1)

-- a place behind one more
pub ends-more : (ss : List Stretch) (i k m : ℕ) (d : Stretch) → i < length ss → AllByRecursion (λ s. s.to ≤ k) (take i ss) → m ≡ max (get_or ss i d).to k → AllByRecursion (λ s. s.to ≤ m) (take (i + 1) ss)
ends-more ss i k m d lt all e =
    subst (AllByRecursion (λ s. s.to ≤ m)) (sym (take_more ss i d lt))
    (all-append (λ s. s.to ≤ m) (take i ss) (get_or ss i d ∷ []) (all-weaker (λ s. s.to ≤ k) (λ s. s.to ≤ m) (λ s h. omega (arith, e, h)) (take i ss) all) (omega (arith, e), tt))

module _ {A : Type 0} where
  -- ---- stretches

  empty-between : (n : ℕ) (ts : List (Txn A)) → between n n ts ≡ []
  empty-between n ts = ap (λ k. take k (drop n ts)) (let e : n - n ≡ 0 = omega arith in e)

  pub none-held : (n : ℕ) (ts : List (Txn A)) → n ≤ length ts → HoldsStretch (none_at n) ts
  none-held n ts le = record { order = omega arith; within = le; past = subst (AllByRecursion (IsPast 0 (0 + 1))) (sym (empty-between n ts)) tt }

  -- the transactions before, in and behind a stretch
  three-parts : (ts : List (Txn A)) (f t : ℕ) → f ≤ t → ts ≡ take f ts ++ (between f t ts ++ drop t ts)
  three-parts ts f t h =
      sym (ap (λ us. take f ts ++ us) (ap (λ us. between f t ts ++ us) (sym (drop-drop (t - f) f ts ∙ ap (λ n. drop n ts) together)) ∙ take-append-drop (t - f) (drop f ts)) ∙ take-append-drop f ts)
    where
      together : f + (t - f) ≡ t
      together = omega arith

  later-past : (n m p q : ℕ) → n ≤ m → p ≤ q → (u : Txn A) → IsPast n p u → IsPast m q u
  later-past n m p q le lt u h = record { over = h.over; seen = (let k = h.seen in omega arith); begun = (let k = h.begun in omega arith); ended = (let k = h.ended in omega arith) }

  -- ---- one walk

  pub passed-here : (s : Stretch) (ts : List (Txn A)) (snapshot place at : ℕ) → HoldsStretch s ts → at ≤ s.from → s.from < s.to → s.newest ≤ snapshot → s.until < place → IsPassed snapshot place at s ts
  passed-here s ts snapshot place at h behind long le lt = record {
    behind = behind;
    order = h.order;
    further = omega arith;
    within = h.within;
    past = all-weaker (IsPast s.newest (s.until + 1)) (IsPast snapshot place) (later-past s.newest snapshot (s.until + 1) place le (omega arith)) (between s.from s.to ts) h.past;
  }

  -- none is passed, and it ends
  pub passed-end : (ts : List (Txn A)) (snapshot place at : ℕ) → at < length ts → IsPassed snapshot place at (none_at (length ts)) ts
  passed-end ts snapshot place at lt = record {
    behind = omega arith;
    order = omega arith;
    further = lt;
    within = omega arith;
    past = subst (AllByRecursion (IsPast snapshot place)) (sym (empty-between (length ts) ts)) tt;
  }

  pub around-passed : (s : Stretch) (ts left piece : List (Txn A)) (snapshot place at : ℕ) → IsPassed snapshot place at s ts → left ≡ drop at ts → piece ≡ take (s.from - at) left → IsAround snapshot place (drop at ts) piece (drop s.to ts)
  around-passed s ts left piece snapshot place at h rest first = record {
    between = between s.from s.to ts;
    whole = sym (take-append-drop (s.from - at) (drop at ts)) ∙ ap (λ us. us ++ drop (s.from - at) (drop at ts)) (sym (first ∙ ap (take (s.from - at)) rest)) ∙ ap (λ us. piece ++ us) behind;
    past = h.past;
  }
    where
      together : s.from + (s.to - s.from) ≡ s.to
      together = let o = h.order in omega arith

      beyond : at + (s.from - at) ≡ s.from
      beyond = let o = h.behind in omega arith

      behind : drop (s.from - at) (drop at ts) ≡ between s.from s.to ts ++ drop s.to ts
      behind = drop-drop (s.from - at) at ts ∙ ap (λ n. drop n ts) beyond
          ∙ sym (ap (λ us. between s.from s.to ts ++ us) (sym (drop-drop (s.to - s.from) s.from ts ∙ ap (λ n. drop n ts) together)) ∙ take-append-drop (s.to - s.from) (drop s.from ts))

  -- ---- questions

  none-between : (q : Txn A → Bool) (snapshot place : ℕ) → ((u : Txn A) → IsPast snapshot place u → q u ≡ false) → (ts f b : List (Txn A)) (r : IsAround snapshot place ts f b) → AllByRecursion (λ u. q u ≡ false) r.between
  none-between q snapshot place so ts f b r = all-weaker (IsPast snapshot place) (λ u. q u ≡ false) so r.between r.past

  pub any-around : (q : Txn A → Bool) (snapshot place : ℕ) → ((u : Txn A) → IsPast snapshot place u → q u ≡ false) → (ts f b : List (Txn A)) → IsAround snapshot place ts f b → (list_any q f || list_any q b) ≡ list_any q ts
  any-around q snapshot place so ts f b r = any-between q f r.between b (none-between q snapshot place so ts f b r) ∙ ap (list_any q) (sym r.whole)

  pub find-around : (q : Txn A → Bool) (snapshot place : ℕ) → ((u : Txn A) → IsPast snapshot place u → q u ≡ false) → (ts f b : List (Txn A)) → IsAround snapshot place ts f b → option_or (find q f) (find q b) ≡ find q ts
  find-around q snapshot place so ts f b r = find-between q f r.between b (none-between q snapshot place so ts f b r) ∙ ap (find q) (sym r.whole)

  pub found-front : (q : Txn A → Bool) (snapshot place : ℕ) (ts f b : List (Txn A)) (i : ℕ) → IsAround snapshot place ts f b → i < length f → find q f ≡ slice_get f i → find q ts ≡ slice_get ts i
  found-front q snapshot place ts f b i r h e =
      ap (find q) r.whole ∙ find-append q f (r.between ++ b) ∙ found-some f i (find q f) (find q (r.between ++ b)) h e
      ∙ sym (slice_get-front f (r.between ++ b) i h) ∙ ap (λ us. slice_get us i) (sym r.whole)

  pub first-front : (q : Txn A → Bool) (snapshot place : ℕ) (ts f b : List (Txn A)) (x : Txn A) → IsAround snapshot place ts f b → Some x ≡ find q f → Some x ≡ find q ts
  first-front q snapshot place ts f b x r e = ap (λ o. option_or o (find q (r.between ++ b))) e ∙ sym (ap (find q) r.whole ∙ find-append q f (r.between ++ b))

  pub got_place : (ts : List (Txn A)) (n : ℕ) → n < length ts → slice_get ts n ≡ Some (txn_at ts n)
  got_place [] n h = absurd (omega arith)
  got_place (t ∷ ts) zero h = refl
  got_place (t ∷ ts) (suc n) h = got_place ts n (omega arith)

  pub at-turned : (g : Txn A → Txn A) (ts : List (Txn A)) (n : ℕ) → n < length ts → txn_at (turned_at n g ts) n ≡ g (txn_at ts n)
  at-turned g [] n h = absurd (omega arith)
  at-turned g (t ∷ ts) zero h = refl
  at-turned g (t ∷ ts) (suc n) h = at-turned g ts n (omega arith)

  -- ---- what is past is no answer

  pub past-not_open : (n p : ℕ) (u : Txn A) → IsPast n p u → is_open u.standing ≡ false
  past-not_open n p u h = closed u.standing h.over

  pub past-of : (s n p : ℕ) (u : Txn A) → IsPast n p u → is_of s u ≡ false
  past-of s n p u h = ap (λ b. eqb u.session s && b) h.over ∙ and-false (eqb u.session s)

  pub past-edge : (t : Txn A) (p : ℕ) (u : Txn A) → IsPast t.snapshot p u → edge t u ≡ false
  past-edge t p u h = ap (λ b. not (eqb t.number u.number) && b && reads_from t u) (le-ltb t.snapshot u.commit h.seen) ∙ ap (λ b. b && reads_from t u) (and-false (not (eqb t.number u.number)))

  pub past-taken : (t : Txn A) (x : Rattle.schema.specs.declared.changes.Change.Change A) (p : ℕ) (u : Txn A) → IsPast t.snapshot p u → is_taken t u x ≡ false
  past-taken t x p u h =
      ap (λ b. not (eqb u.number t.number) && (b || nat_lt t.snapshot u.commit) && Rattle.history.specs.Answer.has_written u x) (past-not_open t.snapshot p u h)
      ∙ ap (λ b. not (eqb u.number t.number) && b && Rattle.history.specs.Answer.has_written u x) (le-ltb t.snapshot u.commit h.seen)
      ∙ ap (λ b. b && Rattle.history.specs.Answer.has_written u x) (and-false (not (eqb u.number t.number)))

  pub past-commit : (n p : ℕ) (u : Txn A) → IsPast n p u → (is_done u.standing && eqb u.end p) ≡ false
  past-commit n p u h = ap (λ b. is_done u.standing && b) (lt-eqb u.end p h.ended) ∙ and-false (is_done u.standing)

  -- of several changes
  pub meets-around : (t : Txn A) (place : ℕ) (ts f b : List (Txn A)) → IsAround t.snapshot place ts f b → (xs : List (Rattle.schema.specs.declared.changes.Change.Change A))
      → (list_any (λ x. list_any (λ u. is_taken t u x) f) xs || list_any (λ x. list_any (λ u. is_taken t u x) b) xs) ≡ list_any (λ x. list_any (λ u. is_taken t u x) ts) xs
  meets-around t place ts f b r [] = refl
  meets-around t place ts f b r (x ∷ xs) =
      mixed (list_any (λ u. is_taken t u x) f) (list_any (λ y. list_any (λ u. is_taken t u y) f) xs) (list_any (λ u. is_taken t u x) b) (list_any (λ y. list_any (λ u. is_taken t u y) b) xs)
      ∙ ap (λ d. d || (list_any (λ y. list_any (λ u. is_taken t u y) f) xs || list_any (λ y. list_any (λ u. is_taken t u y) b) xs)) (any-around (λ u. is_taken t u x) t.snapshot place (past-taken t x place) ts f b r)
      ∙ ap (λ d. list_any (λ u. is_taken t u x) ts || d) (meets-around t place ts f b r xs)

  -- ---- the least snapshot

  least-append : (q : Txn A → Bool) (n : ℕ) (xs ys : List (Txn A)) → least_snapshot q (least_snapshot q n ys) xs ≡ least_snapshot q n (xs ++ ys)
  least-append q n [] ys = refl
  least-append q n (x ∷ xs) ys = ap (λ m. cond (q x) (min x.snapshot m) m) (least-append q n xs ys)

  least-none : (q : Txn A → Bool) (n : ℕ) (xs : List (Txn A)) → AllByRecursion (λ x. q x ≡ false) xs → least_snapshot q n xs ≡ n
  least-none q n [] a = refl
  least-none q n (x ∷ xs) a = ap (λ b. cond b (min x.snapshot (least_snapshot q n xs)) (least_snapshot q n xs)) a.0 ∙ least-none q n xs a.1

  -- only what its session has still to end is looked at
  pub least-around : (q : Txn A → Bool) (n snapshot place : ℕ) → ((u : Txn A) → q u ≡ true → is_owed u.standing ≡ true) → (ts f b : List (Txn A)) → IsAround snapshot place ts f b
      → least_snapshot q (least_snapshot q n b) f ≡ least_snapshot q n ts
  least-around q n snapshot place owed ts f b r =
      ap (λ m. least_snapshot q m f) (sym (least-none q (least_snapshot q n b) r.between (none-between q snapshot place not-owed ts f b r)) ∙ least-append q n r.between b)
      ∙ least-append q n f (r.between ++ b) ∙ ap (least_snapshot q n) (sym r.whole)
    where
      not-owed : (u : Txn A) → IsPast snapshot place u → q u ≡ false
      not-owed u h = go (q u) refl
        where
          go : (c : Bool) → q u ≡ c → c ≡ false
          go true e = absurd (true≢false (sym (owed u e) ∙ h.over))
          go false e = refl

  least-min : (q : Txn A → Bool) (m n : ℕ) (xs : List (Txn A)) → least_snapshot q (min m n) xs ≡ min m (least_snapshot q n xs)
  least-min q m n [] = refl
  least-min q m n (x ∷ xs) = go (q x) (least_snapshot q (min m n) xs) (least_snapshot q n xs) (least-min q m n xs)
    where
      go : (c : Bool) (a b : ℕ) → a ≡ min m b → cond c (min x.snapshot a) a ≡ min m (cond c (min x.snapshot b) b)
      go true a b e = omega (arith, e)
      go false a b e = e

  pub least-swap : (q : Txn A → Bool) (n : ℕ) (xs ys : List (Txn A)) → least_snapshot q (least_snapshot q n xs) ys ≡ least_snapshot q (least_snapshot q n ys) xs
  least-swap q n xs [] = refl
  least-swap q n xs (y ∷ ys) = go (q y) (least-swap q n xs ys)
    where
      go : (c : Bool) → least_snapshot q (least_snapshot q n xs) ys ≡ least_snapshot q (least_snapshot q n ys) xs
          → cond c (min y.snapshot (least_snapshot q (least_snapshot q n xs) ys)) (least_snapshot q (least_snapshot q n xs) ys) ≡ least_snapshot q (cond c (min y.snapshot (least_snapshot q n ys)) (least_snapshot q n ys)) xs
      go true e = ap (min y.snapshot) e ∙ sym (least-min q y.snapshot (least_snapshot q n ys) xs)
      go false e = e

  -- ---- keys

  part-append : (t : Txn A) (xs ys : List (Txn A)) → min (first_part node edge t xs) (first_part node edge t ys) ≡ first_part node edge t (xs ++ ys)
  part-append t [] ys = let h = part-most t ys in omega arith
    where
      part-most : (t : Txn A) (us : List (Txn A)) → first_part node edge t us ≤ t.commit
      part-most t us = let h = Rattle.transactions.proofs.WalkLemmas.first_part-least node edge t us in omega arith
  part-append t (x ∷ xs) ys = go (edge t x && nat_lt x.commit t.commit) (part-append t xs ys)
    where
      go : (b : Bool) → min (first_part node edge t xs) (first_part node edge t ys) ≡ first_part node edge t (xs ++ ys)
          → min (cond b (min x.commit (first_part node edge t xs)) (first_part node edge t xs)) (first_part node edge t ys) ≡ cond b (min x.commit (first_part node edge t (xs ++ ys))) (first_part node edge t (xs ++ ys))
      go true e = omega arith
      go false e = e

  part-none : (t : Txn A) (xs : List (Txn A)) → AllByRecursion (λ u. edge t u ≡ false) xs → first_part node edge t xs ≡ t.commit
  part-none t [] a = refl
  part-none t (x ∷ xs) a = ap (λ b. cond (b && nat_lt x.commit t.commit) (min x.commit (first_part node edge t xs)) (first_part node edge t xs)) a.0 ∙ part-none t xs a.1

  all-filter : (P : Txn A → Type 0) (q : Txn A → Bool) (xs : List (Txn A)) → AllByRecursion P xs → AllByRecursion P (filter q xs)
  all-filter P q [] a = tt
  all-filter P q (x ∷ xs) a = go (q x) (all-filter P q xs a.1)
    where
      go : (b : Bool) → AllByRecursion P (filter q xs) → AllByRecursion P (cond b (x ∷ filter q xs) (filter q xs))
      go true h = (a.0, h)
      go false h = h

  pub part-around : (t : Txn A) (q : Txn A → Bool) (place : ℕ) (ts f b : List (Txn A)) → IsAround t.snapshot place ts f b
      → min (first_part node edge t (filter q f)) (first_part node edge t (filter q b)) ≡ first_part node edge t (filter q ts)
  part-around t q place ts f b r =
      ap (λ n. min (first_part node edge t (filter q f)) n) behind
      ∙ part-append t (filter q f) (filter q (r.between ++ b))
      ∙ ap (first_part node edge t) (sym (filter-append q f (r.between ++ b)) ∙ ap (filter q) (sym r.whole))
    where
      gone : List (Txn A)
      gone = filter q r.between

      left : List (Txn A)
      left = filter q b

      nothing-of : first_part node edge t gone ≡ t.commit
      nothing-of = part-none t gone (all-filter (λ u. edge t u ≡ false) q r.between (none-between (edge t) t.snapshot place (past-edge t place) ts f b r))

      least : min (first_part node edge t gone) (first_part node edge t left) ≡ first_part node edge t left
      least = let h = Rattle.transactions.proofs.WalkLemmas.first_part-least node edge t left in omega (arith, nothing-of)

      behind : first_part node edge t left ≡ first_part node edge t (filter q (r.between ++ b))
      behind = sym least ∙ part-append t gone left ∙ ap (first_part node edge t) (sym (filter-append q r.between b))

  -- ---- a stretch stays one

  between-append : (f t : ℕ) (xs ys : List (Txn A)) → f ≤ t → t ≤ length xs → between f t (xs ++ ys) ≡ between f t xs
  between-append f t xs ys le within =
      ap (take (t - f)) (drop-append-le f xs ys (omega arith))
      ∙ take-append-le (t - f) (drop f xs) ys (let e = length-drop f xs in omega arith)

  -- some come behind it
  held-append : (s : Stretch) (ts more : List (Txn A)) → HoldsStretch s ts → HoldsStretch s (ts ++ more)
  held-append s ts more h = record {
    order = h.order;
    within = (let e = length-append ts more in let w = h.within in omega arith);
    past = subst (AllByRecursion (IsPast s.newest (s.until + 1))) (sym (between-append s.from s.to ts more h.order h.within)) h.past;
  }

  -- of these it is one too
  held-front : (s : Stretch) (ts more : List (Txn A)) → s.to ≤ length ts → HoldsStretch s (ts ++ more) → HoldsStretch s ts
  held-front s ts more within h = record {
    order = h.order;
    within = within;
    past = subst (AllByRecursion (IsPast s.newest (s.until + 1))) (between-append s.from s.to ts more h.order within) h.past;
  }

  -- those before its end stay
  held-rest : (s : Stretch) (k : ℕ) (ts more : List (Txn A)) → s.to ≤ k → k ≤ length ts → HoldsStretch s ts → HoldsStretch s (take k ts ++ more)
  held-rest s k ts more le within h =
      held-append s (take k ts) more
      (held-front s (take k ts) (drop k ts) (let e = length-take k ts in omega arith) (subst (HoldsStretch s) (sym (take-append-drop k ts)) h))

  drop-turned : (g : Txn A → Txn A) (ts : List (Txn A)) (at from : ℕ) → at < from → drop from (turned_at at g ts) ≡ drop from ts
  drop-turned g [] at from h = refl
  drop-turned g (t ∷ ts) at zero h = absurd (omega arith)
  drop-turned g (t ∷ ts) zero (suc from) h = refl
  drop-turned g (t ∷ ts) (suc at) (suc from) h = drop-turned g ts at from (omega arith)

  take-turned : (g : Txn A → Txn A) (ts : List (Txn A)) (at from k : ℕ) → from + k ≤ at → take k (drop from (turned_at at g ts)) ≡ take k (drop from ts)
  take-turned g [] at from k h = refl
  take-turned g (t ∷ ts) at from zero h = refl
  take-turned g (t ∷ ts) zero from (suc k) h = absurd (omega arith)
  take-turned g (t ∷ ts) (suc at) (suc from) (suc k) h = take-turned g ts at from (suc k) (omega arith)
  take-turned g (t ∷ ts) (suc at) zero (suc k) h = ap (λ us. t ∷ us) (take-turned g ts at zero k (omega arith))

  between-turned : (g : Txn A → Txn A) (ts : List (Txn A)) (at f t : ℕ) → f ≤ t → (nat_le f at && nat_lt at t) ≡ false → between f t (turned_at at g ts) ≡ between f t ts
  between-turned g ts at f t le out = go (nat_le f at) refl
    where
      go : (b : Bool) → nat_le f at ≡ b → between f t (turned_at at g ts) ≡ between f t ts
      go false e = ap (take (t - f)) (drop-turned g ts at f (below e))
        where
          below : nat_le f at ≡ false → at < f
          below q = grind (arith, nat_tests)
      go true e = take-turned g ts at f (t - f) (behind (sym (ap (λ b. b && nat_lt at t) e) ∙ out))
        where
          behind : nat_lt at t ≡ false → f + (t - f) ≤ at
          behind q = let p : t ≤ at = grind (arith, nat_tests) in omega arith

  -- a transaction that isn't in it is turned
  held-turned : (s : Stretch) (g : Txn A → Txn A) (ts : List (Txn A)) (at : ℕ) → HoldsStretch s ts → has_place at s ≡ false → HoldsStretch s (turned_at at g ts)
  held-turned s g ts at h e = record {
    order = h.order;
    within = (let w = h.within in let q = Rattle.transactions.proofs.LedgerLemmas.length-turned_at g ts at in omega arith);
    past = subst (AllByRecursion (IsPast s.newest (s.until + 1))) (sym (between-turned g ts at s.from s.to h.order e)) h.past;
  }

  past-stays : (n p place : ℕ) (causes : List Cause) (u : Txn A) → IsPast n p u → doomed_by place causes u ≡ u
  past-stays n p place causes u h = ap (λ b. doomed_with place (cond b (find (λ c. eqb c.b.0 u.number) causes) None) u) (past-not_open n p u h)

  past-doomed : (n p place : ℕ) (causes : List Cause) (u : Txn A) → IsPast n p u → IsPast n p (doomed_by place causes u)
  past-doomed n p place causes u h = subst (IsPast n p) (sym (past-stays n p place causes u h)) h

  -- open ones are doomed
  held-doomed : (s : Stretch) (place : ℕ) (causes : List Cause) (ts : List (Txn A)) → HoldsStretch s ts → HoldsStretch s (map (doomed_by place causes) ts)
  held-doomed s place causes ts h = record {
    order = h.order;
    within = (let w = h.within in let q = length-map ts (doomed_by place causes) in omega arith);
    past = subst (AllByRecursion (IsPast s.newest (s.until + 1))) (sym (ap (take (s.to - s.from)) (drop-map (doomed_by place causes) s.from ts) ∙ take-map (doomed_by place causes) (s.to - s.from) (drop s.from ts))) (each (between s.from s.to ts) h.past);
  }
    where
      each : (xs : List (Txn A)) → AllByRecursion (IsPast s.newest (s.until + 1)) xs → AllByRecursion (IsPast s.newest (s.until + 1)) (map (doomed_by place causes) xs)
      each [] a = tt
      each (x ∷ xs) a = (past-doomed s.newest (s.until + 1) place causes x a.0, each xs a.1)

  -- the one behind it too, where its commit and its snapshot are no greater than m
  pub held-more : (s : Stretch) (ts : List (Txn A)) (n place m : ℕ) (u : Txn A) → HoldsStretch s ts → s.to < length ts → u ≡ get_or ts s.to u → IsPast n (place + 1) u → u.commit ≤ m → u.snapshot ≤ m
      → HoldsStretch (record { from = s.from; to = s.to + 1; newest = max s.newest m; until = max s.until place }) ts
  held-more s ts n place m u h lt at p commit snapshot = record {
    order = (let o = h.order in omega arith);
    within = omega arith;
    past = subst (AllByRecursion (IsPast (max s.newest m) (max s.until place + 1))) (sym longer)
        (all-append (IsPast (max s.newest m) (max s.until place + 1)) (between s.from s.to ts) (u ∷ [])
        (all-weaker (IsPast s.newest (s.until + 1)) (IsPast (max s.newest m) (max s.until place + 1)) (later-past s.newest (max s.newest m) (s.until + 1) (max s.until place + 1) (omega arith) (omega arith)) (between s.from s.to ts) h.past)
        (record { over = p.over; seen = omega arith; begun = omega arith; ended = (let e = p.ended in omega arith) }, tt));
  }
    where
      there : u ≡ get_or (drop s.from ts) (s.to - s.from) u
      there = at ∙ ap (λ i. get_or ts i u) (let o = h.order in omega arith) ∙ sym (get_or-drop s.from ts (s.to - s.from) u)

      longer : between s.from (s.to + 1) ts ≡ between s.from s.to ts ++ u ∷ []
      longer = ap (λ k. take k (drop s.from ts)) (let o = h.order in omega arith)
          ∙ take_next (drop s.from ts) (s.to - s.from) u (let e = length-drop s.from ts in let o = h.order in omega arith) there

  -- one right behind it
  pub held-joined : (s t : Stretch) (ts : List (Txn A)) → HoldsStretch s ts → HoldsStretch t ts → s.to ≡ t.from → HoldsStretch (joined s t) ts
  held-joined s t ts h k e = record {
    order = (let o = h.order in let p = k.order in omega arith);
    within = k.within;
    past = subst (AllByRecursion (IsPast (max s.newest t.newest) (max s.until t.until + 1))) (sym parts)
        (all-append (IsPast (max s.newest t.newest) (max s.until t.until + 1)) (between s.from s.to ts) (between t.from t.to ts)
        (all-weaker (IsPast s.newest (s.until + 1)) (IsPast (max s.newest t.newest) (max s.until t.until + 1)) (later-past s.newest (max s.newest t.newest) (s.until + 1) (max s.until t.until + 1) (omega arith) (omega arith)) (between s.from s.to ts) h.past)
        (all-weaker (IsPast t.newest (t.until + 1)) (IsPast (max s.newest t.newest) (max s.until t.until + 1)) (later-past t.newest (max s.newest t.newest) (t.until + 1) (max s.until t.until + 1) (omega arith) (omega arith)) (between t.from t.to ts) k.past));
  }
    where
      together : s.from + (s.to - s.from) ≡ t.from
      together = let o = h.order in omega (arith, e)

      longer : t.to - s.from ≡ (s.to - s.from) + (t.to - t.from)
      longer = let o = h.order in let p = k.order in omega (arith, e)

      parts : between s.from t.to ts ≡ between s.from s.to ts ++ between t.from t.to ts
      parts = ap (λ n. take n (drop s.from ts)) longer
          ∙ take-add (s.to - s.from) (t.to - t.from) (drop s.from ts)
          ∙ ap (λ us. between s.from s.to ts ++ take (t.to - t.from) us) (drop-drop (s.to - s.from) s.from ts ∙ ap (λ n. drop n ts) together)

  -- ---- several stretches

  pub stretches-append : (ss : List Stretch) (ts more : List (Txn A)) → HoldStretches ss ts → HoldStretches ss (ts ++ more)
  stretches-append ss ts more all = all-weaker (λ s. HoldsStretch s ts) (λ s. HoldsStretch s (ts ++ more)) (λ s h. held-append s ts more h) ss all

  pub stretches-doomed : (ss : List Stretch) (place : ℕ) (causes : List Cause) (ts : List (Txn A)) → HoldStretches ss ts → HoldStretches ss (map (doomed_by place causes) ts)
  stretches-doomed ss place causes ts all = all-weaker (λ s. HoldsStretch s ts) (λ s. HoldsStretch s (map (doomed_by place causes) ts)) (λ s h. held-doomed s place causes ts h) ss all

  -- those before a place that is behind them stay
  pub stretches-rest : (ss : List Stretch) (k : ℕ) (ts more : List (Txn A)) → k ≤ length ts → AllByRecursion (λ s. s.to ≤ k) ss → HoldStretches ss ts → HoldStretches ss (take k ts ++ more)
  stretches-rest [] k ts more le ends all = tt
  stretches-rest (s ∷ ss) k ts more le ends all = (held-rest s k ts more ends.0 le all.0, stretches-rest ss k ts more le ends.1 all.1)

  turned-out : (ss : List Stretch) (g : Txn A → Txn A) (ts : List (Txn A)) (at : ℕ) → list_any (has_place at) ss ≡ false → HoldStretches ss ts → HoldStretches ss (turned_at at g ts)
  turned-out [] g ts at e all = tt
  turned-out (s ∷ ss) g ts at e all =
      let o = or_parts (has_place at s) (list_any (has_place at) ss) e in
      (held-turned s g ts at all.0 o.0, turned-out ss g ts at o.1 all.1)

  -- the transaction at a place is turned
  pub stretches-turned : (ss : List Stretch) (g : Txn A → Txn A) (ts : List (Txn A)) (at : ℕ) → HoldStretches ss ts → HoldStretches (without at ss) (turned_at at g ts)
  stretches-turned ss g ts at all = go (list_any (has_place at) ss) refl
    where
      go : (b : Bool) → list_any (has_place at) ss ≡ b → HoldStretches (cond b [] ss) (turned_at at g ts)
      go true e = tt
      go false e = turned-out ss g ts at e all

  pub stretches-where : (b : Bool) (ss : List Stretch) (ts : List (Txn A)) → HoldStretches ss ts → HoldStretches (cond b [] ss) ts
  stretches-where true ss ts all = tt
  stretches-where false ss ts all = all

  -- ---- dooms

  -- of these the transaction at a place alone has its number
  alone : (n m : ℕ) (ts : List (Txn A)) (i : ℕ) → AreNumbered n m ts → i < length ts → AllByRecursion (λ u. u.number ≡ (txn_at ts i).number → u ≡ txn_at ts i) ts
  alone n m [] i h lt = tt
  alone n m (t ∷ ts) zero h lt = (λ e. refl, above t.number m ts h.2 (omega arith))
    where
      above : (k m : ℕ) (us : List (Txn A)) → AreNumbered k m us → t.number ≤ k → AllByRecursion (λ u. u.number ≡ t.number → u ≡ t) us
      above k m [] a le = tt
      above k m (u ∷ us) a le = ((λ e. absurd (let p = a.0 in omega arith)), above u.number m us a.2 (let p = a.0 in omega arith))
  alone n m (t ∷ ts) (suc i) h lt = (λ e. absurd (let p = Rattle.transactions.proofs.LedgerLemmas.number_at t.number m ts i nothing h.2 (omega arith) in omega arith), alone t.number m ts i h.2 (omega arith))

  -- an open one at a place
  pub is-among : (m : ℕ) (ts : List (Txn A)) (i : ℕ) → AreNumbered 0 m ts → i < length ts → is_open (txn_at ts i).standing ≡ true → IsAmongOpen (txn_at ts i) ts
  is-among m ts i h lt o = record { active = o; alone = alone 0 m ts i h lt }

  not-live : (c : Txn A) (n p : ℕ) (u : Txn A) → IsPast n p u → is_live node reads_from c u ≡ false
  not-live c n p u h =
      ap (λ x. not (eqb u.number c.number) && x && Rattle.history.specs.Transactions.is_read_write u.mode) (past-not_open n p u h)
      ∙ ap (λ x. x && Rattle.history.specs.Transactions.is_read_write u.mode) (and-false (not (eqb u.number c.number)))

  -- what is past is doomed by none
  pub dooms-none : (ts : List (Txn A)) (c : Txn A) (n p : ℕ) (us : List (Txn A)) → AllByRecursion (IsPast n p) us → AllByRecursion (λ u. (z : List Cause) → with_doom node reads_from ts c z u ≡ z) us
  dooms-none ts c n p us all = all-weaker (IsPast n p) (λ u. (z : List Cause) → with_doom node reads_from ts c z u ≡ z) unchanged us all
    where
      unchanged : (u : Txn A) → IsPast n p u → (z : List Cause) → with_doom node reads_from ts c z u ≡ z
      unchanged u h z = ap (λ x. z ++ Rattle.std.specs.Option.option_to_list (cond (x && reads_from u c) (Rattle.value.specs.Isolation.cause_from node reads_from u c (find (is_first node reads_from c z u) ts)) None)) (not-live c n p u h) ∙ Rattle.std.proofs.lemmas.List.append-nil z

  -- what is past is no first before a pivot, since it is neither live nor the committer
  firsts-none : (c x : Txn A) (z : List Cause) (n p : ℕ) → is_open c.standing ≡ true → (us : List (Txn A)) → AllByRecursion (IsPast n p) us → AllByRecursion (λ u. u.number ≡ c.number → u ≡ c) us
      → AllByRecursion (λ u. is_first node reads_from c z x u ≡ false) us
  firsts-none c x z n p o [] past alone = tt
  firsts-none c x z n p o (u ∷ us) past alone = (not-first, firsts-none c x z n p o us past.1 alone.1)
    where
      apart : (y : Bool) → eqb u.number c.number ≡ y → y ≡ false
      apart true e = absurd (true≢false (sym o ∙ ap (λ (v : Txn A). is_open v.standing) (sym (alone.0 (Rattle.std.proofs.lemmas.Bool.eqb-true u.number c.number e))) ∙ past-not_open n p u past.0))
      apart false e = refl

      not-first : is_first node reads_from c z x u ≡ false
      not-first =
          ap (λ y. not (eqb u.number x.number) && (not (not (eqb u.number c.number)) || y && not (is_doomed node reads_from z u)) && reads_from u x) (not-live c n p u past.0)
          ∙ ap (λ y. not (eqb u.number x.number) && (not (not y) || false) && reads_from u x) (apart (eqb u.number c.number) refl)
          ∙ ap (λ y. y && reads_from u x) (and-false (not (eqb u.number x.number)))

  all-drop : (P : Txn A → Type 0) (k : ℕ) (ts : List (Txn A)) → AllByRecursion P ts → AllByRecursion P (drop k ts)
  all-drop P k ts all = all-back P (take k ts) (drop k ts) (subst (AllByRecursion P) (sym (take-append-drop k ts)) all)

  -- what holds of each holds of those that a walk comes to, and of those that it passes over
  pub all-piece : (P : Txn A → Type 0) (n p k : ℕ) (ts f b : List (Txn A)) → IsAround n p (drop k ts) f b → AllByRecursion P ts → AllByRecursion P f
  all-piece P n p k ts f b r all = all-front P f (r.between ++ b) (subst (AllByRecursion P) r.whole (all-drop P k ts all))

  pub all-passed : (P : Txn A → Type 0) (n p k : ℕ) (ts f b : List (Txn A)) (r : IsAround n p (drop k ts) f b) → AllByRecursion P ts → AllByRecursion P r.between
  all-passed P n p k ts f b r all = all-front P r.between b (all-back P f (r.between ++ b) (subst (AllByRecursion P) r.whole (all-drop P k ts all)))

  -- the first before a pivot, of those behind a piece that has none
  pub firsts-further : (c x : Txn A) (z : List Cause) (n p k : ℕ) (ts f b : List (Txn A)) (r : Option (Txn A)) → IsAmongOpen c ts → IsAround n p (drop k ts) f b → find (is_first node reads_from c z x) f ≡ None
      → find (is_first node reads_from c z x) (drop k ts) ≡ r → find (is_first node reads_from c z x) b ≡ r
  firsts-further c x z n p k ts f b r among around none e =
      ap (λ o. option_or o (find q b)) (sym none) ∙ find-between q f around.between b (firsts-none c x z n p among.active around.between around.past (all-passed (λ u. u.number ≡ c.number → u ≡ c) n p k ts f b around among.alone))
      ∙ ap (find q) (sym around.whole) ∙ e
    where
      q : Txn A → Bool
      q = is_first node reads_from c z x
