-- A reader meets, where it stands in the serial order, what its snapshot showed: by edges, numbers and the rule of the first updater alone.
use Rattle.std.proofs.Common.{◌≡◌, refl, sym, ap, subst, ◌∙◌, ℕ, zero, suc, ◌+◌, ◌-◌, ◌<◌, ◌≤◌, Bool, true, false, cond, ◌⊎◌, inl, inr, List, [], ◌∷◌, ◌++◌, take, Option, is_some, nat_le, arith}
use Rattle.std.proofs.lemmas.Bool.Decides.{nat_tests}
use Rattle.std.specs.List.{filter}
use Rattle.value.specs.Isolation.{Node, serial_key}
use Rattle.value.proofs.IsolationLemmas.{In, Below, IsIsolated, shown_before, edge_before}
use Rattle.value.proofs.SortLemmas.{InOrder, Below-asym}
use Rattle.value.proofs.LastWriter.{Rising, after_all, writers, In-writers, same_writers}
use Rattle.value.proofs.Basics.{cases_le}

abbrev Key : Type 0
Key = ℕ × ℕ × ℕ

three : (a b : ℕ) → (a < b) ⊎ (a ≡ b) ⊎ (b < a)
three a b = grind arith

module _ {T : Type 0} (key : T → Key) where
  pub In-left : (x : T) (pre post : List T) → In x pre → In x (pre ++ post)
  In-left x [] post i = absurd i
  In-left x (y ∷ pre) post (inl p) = inl p
  In-left x (y ∷ pre) post (inr i) = inr (In-left x pre post i)

  pub In-right : (x : T) (pre post : List T) → In x post → In x (pre ++ post)
  In-right x [] post i = i
  In-right x (y ∷ pre) post i = inr (In-right x pre post i)

  pub In-append : (x : T) (pre post : List T) → In x (pre ++ post) → In x pre ⊎ In x post
  In-append x [] post i = inr i
  In-append x (y ∷ pre) post (inl p) = inl (inl p)
  In-append x (y ∷ pre) post (inr i) = elim (In-append x pre post i) [ inl j ↦ inl (inr j) | inr j ↦ inr j ]

  pub InOrder-front : (pre post : List T) → InOrder key (pre ++ post) → InOrder key pre
  InOrder-front [] post o = tt
  InOrder-front (x ∷ pre) post o = (λ y i. o.0 y (In-left y pre post i), InOrder-front pre post o.1)

  pub InOrder-back : (pre post : List T) → InOrder key (pre ++ post) → InOrder key post
  InOrder-back [] post o = o
  InOrder-back (x ∷ pre) post o = InOrder-back pre post o.1

  pub before_middle : (x t : T) (pre post : List T) → InOrder key (pre ++ t ∷ post) → In x pre → Below (key x) (key t)
  before_middle x t [] post o i = absurd i
  before_middle x t (y ∷ pre) post o (inl p) = subst (λ z. Below (key z) (key t)) (sym p) (o.0 t (In-right t pre (t ∷ post) (inl refl)))
  before_middle x t (y ∷ pre) post o (inr i) = before_middle x t pre post o.1 i

  pub in_front : (x t : T) (pre post : List T) → InOrder key (pre ++ t ∷ post) → In x (pre ++ t ∷ post) → Below (key x) (key t) → In x pre
  in_front x t pre post o i b = go (In-append x pre (t ∷ post) i)
    where
      go : In x pre ⊎ ((x ≡ t) ⊎ In x post) → In x pre
      go (inl j) = j
      go (inr (inl p)) = let b' : Below (key t) (key t) = subst (λ z. Below (key z) (key t)) p b in absurd (Below-asym (key t) (key t) b' b')
      go (inr (inr j)) = absurd (Below-asym (key x) (key t) b ((InOrder-back pre (t ∷ post) o).0 x j))

module _ {T : Type 0} (num : T → ℕ) where
  -- the commits n + 1, n + 2, ..
  abbrev pub NumberedFrom : ℕ → List T → Type 0
  NumberedFrom n [] = Unit {0}
  NumberedFrom n (x ∷ xs) = (num x ≡ n + 1) × NumberedFrom (n + 1) xs

  pub NumberedFrom-above : (n : ℕ) (xs : List T) (x : T) → NumberedFrom n xs → In x xs → n < num x
  NumberedFrom-above n [] x h i = absurd i
  NumberedFrom-above n (y ∷ xs) x h (inl p) = omega (arith, ap num p, h.0)
  NumberedFrom-above n (y ∷ xs) x h (inr i) = omega (arith, NumberedFrom-above (n + 1) xs x h.1 i)

  pub NumberedFrom-apart : (n : ℕ) (xs : List T) (x y : T) → NumberedFrom n xs → In x xs → In y xs → num x ≡ num y → x ≡ y
  NumberedFrom-apart n [] x y h i j e = absurd i
  NumberedFrom-apart n (z ∷ xs) x y h (inl p) (inl q) e = p ∙ sym q
  NumberedFrom-apart n (z ∷ xs) x y h (inl p) (inr j) e = absurd (let a : n + 1 < num y = NumberedFrom-above (n + 1) xs y h.1 j in let b : num x ≡ num z = ap num p in omega (arith, h.0))
  NumberedFrom-apart n (z ∷ xs) x y h (inr i) (inl q) e = absurd (let a : n + 1 < num x = NumberedFrom-above (n + 1) xs x h.1 i in let b : num y ≡ num z = ap num q in omega (arith, h.0))
  NumberedFrom-apart n (z ∷ xs) x y h (inr i) (inr j) e = NumberedFrom-apart (n + 1) xs x y h.1 i j e

  pub In-take : (n m : ℕ) (xs : List T) (x : T) → NumberedFrom n xs → In x (take m xs) → In x xs × (num x ≤ n + m)
  In-take n zero xs x h i = absurd i
  In-take n (suc m) [] x h i = absurd i
  In-take n (suc m) (y ∷ xs) x h (inl p) = (inl p, omega (arith, ap num p, h.0))
  In-take n (suc m) (y ∷ xs) x h (inr i) = let k = In-take (n + 1) m xs x h.1 i in (inr k.0, omega (arith, k.1))

  pub take-In : (n m : ℕ) (xs : List T) (x : T) → NumberedFrom n xs → In x xs → num x ≤ n + m → In x (take m xs)
  take-In n m [] x h i l = absurd i
  take-In n zero (y ∷ xs) x h i l = absurd (let a : n < num x = NumberedFrom-above n (y ∷ xs) x h i in omega arith)
  take-In n (suc m) (y ∷ xs) x h (inl p) l = inl p
  take-In n (suc m) (y ∷ xs) x h (inr i) l = inr (take-In (n + 1) m xs x h.1 i (omega arith))

  pub Rising-take : (n m : ℕ) (xs : List T) → NumberedFrom n xs → Rising num (take m xs)
  Rising-take n zero xs h = tt
  Rising-take n (suc m) [] h = tt
  Rising-take n (suc m) (y ∷ xs) h = (λ z i. let k = In-take (n + 1) m xs z h.1 i in let a : n + 1 < num z = NumberedFrom-above (n + 1) xs z h.1 k.0 in omega (arith, h.0), Rising-take (n + 1) m xs h.1)

  pub Rising-writers : {R : Type 0} (left : T → Option R) (xs : List T) → Rising num xs → Rising num (writers left xs)
  Rising-writers left [] r = tt
  Rising-writers left (x ∷ xs) r = go (is_some (left x)) (Rising-writers left xs r.1)
    where
      go : (b : Bool) → Rising num (writers left xs) → Rising num (cond b (x ∷ writers left xs) (writers left xs))
      go true rest = (λ z i. r.0 z (In-writers left z xs i).0, rest)
      go false rest = rest

module _ {T : Type 0} (node : T → Node) (edge : T → T → Bool) (ts : List T) where
  abbrev c : T → ℕ
  c t = (node t).commit

  abbrev s : T → ℕ
  s t = (node t).snapshot

  abbrev k : T → Key
  k = serial_key node edge ts

  -- What is known of the writers of a place, in any transactions.
  pub record IsWritten {R : Type 0} (left : T → Option R) : Type 0 where
    pub writes : (u : T) → In u ts → is_some (left u) ≡ true → (node u).read_write ≡ true
    pub first_updater : (u v : T) → In u ts → In v ts → is_some (left u) ≡ true → is_some (left v) ≡ true → c u < c v → c u ≤ s v

  -- the writers of a place, in the serial order, are by rising commits
  pub rising_writers : {R : Type 0} (left : T → Option R) → IsIsolated node edge ts → IsWritten left → (from : ℕ) (log : List T) → NumberedFrom c from log
      → ((x : T) → In x ts → (node x).read_write ≡ true → In x log) → (xs : List T) → ((x : T) → In x xs → In x ts) → InOrder k xs → Rising c (writers left xs)
  rising_writers left iso written from log numbered log_all [] sub q = tt
  rising_writers left iso written from log numbered log_all (x ∷ xs) sub q = go (is_some (left x)) refl (rising_writers left iso written from log numbered log_all xs (λ z i. sub z (inr i)) q.1)
    where
      x_in : In x ts
      x_in = sub x (inl refl)

      not_itself : (z : T) → Below (k z) (k z) → ⊥
      not_itself z b = Below-asym (k z) (k z) b b

      less : is_some (left x) ≡ true → (y : T) → In y xs → is_some (left y) ≡ true → c x < c y
      less w y i v = three_ways (three (c x) (c y))
        where
          y_in : In y ts
          y_in = sub y (inr i)

          three_ways : (c x < c y) ⊎ (c x ≡ c y) ⊎ (c y < c x) → c x < c y
          three_ways (inl h) = h
          three_ways (inr (inl h)) =
              let same : x ≡ y = NumberedFrom-apart c from log x y numbered (log_all x x_in (written.writes x x_in w)) (log_all y y_in (written.writes y y_in v)) h in
              absurd (not_itself y (subst (λ z. Below (k z) (k y)) same (q.0 y i)))
          three_ways (inr (inr h)) = absurd (Below-asym (k x) (k y) (q.0 y i) (shown_before node edge ts iso y x x_in (written.writes y y_in v) (written.first_updater y x y_in x_in v w h)))

      go : (b : Bool) → is_some (left x) ≡ b → Rising c (writers left xs) → Rising c (cond b (x ∷ writers left xs) (writers left xs))
      go true w rest = (λ y i. let j = In-writers left y xs i in less w y j.0 j.1, rest)
      go false w rest = rest

  -- What is known of the writers of a place, where t read it.
  pub record IsRead {R : Type 0} (left : T → Option R) (t : T) : Type 0 where
    pub writes : (u : T) → In u ts → is_some (left u) ≡ true → (node u).read_write ≡ true
    -- of two writers one's commit was in the other's snapshot
    pub first_updater : (u v : T) → In u ts → In v ts → is_some (left u) ≡ true → is_some (left v) ≡ true → c u < c v → c u ≤ s v
    pub covered : (u : T) → In u ts → is_some (left u) ≡ true → s t < c u → (u ≡ t) ⊎ (edge t u ≡ true)

  -- what the writers of a place before t leave, in the serial order and in that of the commits, counted from a base, that t's snapshot shows
  pub same_row : {R : Type 0} (left : T → Option R) (t : T) → IsIsolated node edge ts → IsRead left t → (from : ℕ) → from ≤ s t → (pre post log : List T) → InOrder k (pre ++ t ∷ post)
      → ((x : T) → In x ts → In x (pre ++ t ∷ post)) → ((x : T) → In x (pre ++ t ∷ post) → In x ts)
      → NumberedFrom c from log → ((x : T) → In x log → In x ts × ((node x).read_write ≡ true)) → ((x : T) → In x ts → (node x).read_write ≡ true → In x log)
      → (r : R) → after_all left pre r ≡ after_all left (take (s t - from) log) r
  same_row {R} left t iso read from based pre post log o all_in in_all numbered logged log_all r =
      same_writers left c pre (take (s t - from) log) (rising_writers left iso (record { writes = read.writes; first_updater = read.first_updater }) from log numbered log_all pre (λ x i. in_all x (In-left k x pre (t ∷ post) i)) (InOrder-front k pre (t ∷ post) o)) (Rising-writers c left (take (s t - from) log) (Rising-take c from (s t - from) log numbered)) forth back r
    where
      t_in : In t ts
      t_in = in_all t (In-right k t pre (t ∷ post) (inl refl))

      not_itself : (x : T) → Below (k x) (k x) → ⊥
      not_itself x b = Below-asym (k x) (k x) b b

      forth : (x : T) → In x pre → is_some (left x) ≡ true → In x (take (s t - from) log)
      forth x i w = go (cases_le (c x) (s t))
        where
          x_in : In x ts
          x_in = in_all x (In-left k x pre (t ∷ post) i)

          is_before : Below (k x) (k t)
          is_before = before_middle k x t pre post o i

          met : (x ≡ t) ⊎ (edge t x ≡ true) → ⊥
          met (inl p) = not_itself t (subst (λ z. Below (k z) (k t)) p is_before)
          met (inr e) = Below-asym (k x) (k t) is_before (edge_before node edge ts iso t x t_in x_in e)

          go : (c x ≤ s t) ⊎ (s t < c x) → In x (take (s t - from) log)
          go (inl h) = take-In c from (s t - from) log x numbered (log_all x x_in (read.writes x x_in w)) (omega (arith, based, h))
          go (inr h) = absurd (met (read.covered x x_in w h))

      back : (x : T) → In x (take (s t - from) log) → is_some (left x) ≡ true → In x pre
      back x i w =
          let j = In-take c from (s t - from) log x numbered i in
          let h : c x ≤ s t = omega (arith, j.1, based) in
          let m = logged x j.0 in
          in_front k x t pre post o (all_in x m.0) (shown_before node edge ts iso x t t_in m.1 h)

  -- A beginning of the serial order that has, of the transactions that write, those up to commit n, leaves what commits 1 to n leave.
  pub same_prefix : {R : Type 0} (left : T → Option R) (n : ℕ) → IsIsolated node edge ts → IsWritten left → (from : ℕ) → from ≤ n → (pre log : List T) → InOrder k pre → ((x : T) → In x pre → In x ts)
      → NumberedFrom c from log → ((x : T) → In x log → In x ts × ((node x).read_write ≡ true)) → ((x : T) → In x ts → (node x).read_write ≡ true → In x log)
      → ((x : T) → In x pre → (node x).read_write ≡ true → c x ≤ n) → ((x : T) → In x ts → (node x).read_write ≡ true → c x ≤ n → In x pre)
      → (r : R) → after_all left pre r ≡ after_all left (take (n - from) log) r
  same_prefix left n iso written from based pre log o sub numbered logged log_all upto all r =
      same_writers left c pre (take (n - from) log) (rising_writers left iso written from log numbered log_all pre sub o) (Rising-writers c left (take (n - from) log) (Rising-take c from (n - from) log numbered)) forth back r
    where
      forth : (x : T) → In x pre → is_some (left x) ≡ true → In x (take (n - from) log)
      forth x i w = let rw_x = written.writes x (sub x i) w in take-In c from (n - from) log x numbered (log_all x (sub x i) rw_x) (omega (arith, based, upto x i rw_x))

      back : (x : T) → In x (take (n - from) log) → is_some (left x) ≡ true → In x pre
      back x i w = let j = In-take c from (n - from) log x numbered i in let m = logged x j.0 in all x m.0 m.1 (omega (arith, based, j.1))

-- ---- a beginning of a list in order

module _ {T : Type 0} (key : T → Key) where
  filter_all : (p : T → Bool) (xs : List T) → ((x : T) → In x xs → p x ≡ false) → filter p xs ≡ []
  filter_all p [] f = refl
  filter_all p (x ∷ xs) f = ap (λ b. cond b (x ∷ filter p xs) (filter p xs)) (f x (inl refl)) ∙ filter_all p xs (λ y i. f y (inr i))

  -- those whose first part is at most n are a beginning
  pub beginning : (n : ℕ) (xs : List T) → InOrder key xs → (rest : List T) × (xs ≡ filter (λ x. nat_le (key x).0 n) xs ++ rest)
  beginning n [] o = ([], refl)
  beginning n (x ∷ xs) o = go (nat_le (key x).0 n) refl (beginning n xs o.1)
    where
      p : T → Bool
      p y = nat_le (key y).0 n

      above : nat_le (key x).0 n ≡ false → (y : T) → Below (key x) (key y) → nat_le (key y).0 n ≡ false
      above e y (inl l) = grind (arith, nat_tests)
      above e y (inr l) = let q = l.0 in grind (arith, nat_tests)

      go : (b : Bool) → nat_le (key x).0 n ≡ b → (rest : List T) × (xs ≡ filter p xs ++ rest) → (rest : List T) × (x ∷ xs ≡ cond b (x ∷ filter p xs) (filter p xs) ++ rest)
      go true e r = (r.0, ap (λ ys. x ∷ ys) r.1)
      go false e r = (x ∷ xs, ap (λ ys. ys ++ x ∷ xs) (sym (filter_all p xs (λ y i. above e y (o.0 y i)))))
