-- What of a place shows through a mark that its writers set where they find it or leave it: as a reader's snapshot showed it, so it shows where the reader stands in the serial order.
use Rattle.std.proofs.Common.{◌≡◌, refl, sym, ap, subst, ◌∙◌, ℕ, ◌+◌, ◌-◌, ◌<◌, ◌≤◌, Bool, true, false, true≢false, cond, ◌⊎◌, inl, inr, List, [], ◌∷◌, ◌++◌, take, Option, Some, None, is_some, unwrap_or, if◌then◌else◌, arith}
use Rattle.value.specs.Isolation.{Node, serial_key}
use Rattle.value.proofs.IsolationLemmas.{In, Below, IsIsolated, shown_before}
use Rattle.value.proofs.SortLemmas.{InOrder, Below-trans}
use Rattle.value.proofs.LastWriter.{Rising, after_all, writers, In-writers, writers-In, same_writers}
use Rattle.value.proofs.SerialLemmas.{IsRead, IsWritten, NumberedFrom, rising_writers, same_row, In-left, In-right, In-append, In-take, take-In, InOrder-front, before_middle, in_front, Rising-take, Rising-writers}
use Rattle.value.proofs.Basics.{append_cons}

module _ {T R S : Type 0} (left : T → Option R) (marked : T → Bool) (shows : R → Option S) where
  -- what those writers leave that are marked
  abbrev pub marked_left : T → Option R
  marked_left t = if marked t then left t else None

  -- One that isn't marked found nothing that shows, and left nothing.
  abbrev pub Unmarked : List T → R → Type 0
  Unmarked [] r = Unit {0}
  Unmarked (x ∷ xs) r = (is_some (left x) ≡ true → marked x ≡ false → (shows r ≡ None) × (shows (unwrap_or (left x) r) ≡ None)) × Unmarked xs (unwrap_or (left x) r)

  -- So what shows is what the marked ones leave.
  pub same_shown : (xs : List T) (r q : R) → shows r ≡ shows q → Unmarked xs r → shows (after_all left xs r) ≡ shows (after_all marked_left xs q)
  same_shown [] r q e u = e
  same_shown (x ∷ xs) r q e u = go (λ a b f v. same_shown xs a b f v) (marked x) refl (left x) refl
    where
      Goal : Bool → Option R → Type 0
      Goal b o = shows (after_all left xs (unwrap_or o r)) ≡ shows (after_all marked_left xs (unwrap_or (if b then o else None) q))

      Same : Type 0
      Same = (a b : R) → shows a ≡ shows b → Unmarked xs a → shows (after_all left xs a) ≡ shows (after_all marked_left xs b)

      rest : Same → (o : Option R) → left x ≡ o → (p : R) → shows (unwrap_or o r) ≡ shows p → shows (after_all left xs (unwrap_or o r)) ≡ shows (after_all marked_left xs p)
      rest same o l p f = same (unwrap_or o r) p f (subst (λ z. Unmarked xs (unwrap_or z r)) l u.1)

      go : Same → (b : Bool) → marked x ≡ b → (o : Option R) → left x ≡ o → shows (after_all left xs (unwrap_or (left x) r)) ≡ shows (after_all marked_left xs (unwrap_or (if marked x then left x else None) q))
      go same true m o l = rw (m, l) (at o l)
        where
          at : (o : Option R) → left x ≡ o → Goal true o
          at None l = rest same None l q e
          at (Some v) l = rest same (Some v) l v refl
      go same false m o l = rw (m, l) (at o l)
        where
          at : (o : Option R) → left x ≡ o → Goal false o
          at None l = rest same None l q e
          at (Some v) l = let n = u.0 (ap is_some l) m in rest same (Some v) l q (sym (ap (λ z. shows (unwrap_or z r)) l) ∙ n.1 ∙ sym n.0 ∙ e)

module _ {T R : Type 0} (left : T → Option R) (num : T → ℕ) where
  after_all-push : (xs : List T) (x : T) (r : R) → after_all left (xs ++ x ∷ []) r ≡ unwrap_or (left x) (after_all left xs r)
  after_all-push [] x r = refl
  after_all-push (y ∷ xs) x r = after_all-push xs x (unwrap_or (left y) r)

  -- of writers by rising numbers, those before one have lower numbers, and those after it higher ones
  rising_split : (xs : List T) (x : T) (ys : List T) → Rising num (writers left (xs ++ x ∷ ys)) → is_some (left x) ≡ true
      → ((u : T) → In u xs → is_some (left u) ≡ true → num u < num x) × ((u : T) → In u ys → is_some (left u) ≡ true → num x < num u)
  rising_split [] x ys r w = (λ u i. absurd i, λ u i v. (subst (λ b. Rising num (cond b (x ∷ writers left ys) (writers left ys))) w r).0 u (writers-In left u ys i v))
  rising_split (z ∷ xs) x ys r w = go (λ q. rising_split xs x ys q w) (is_some (left z)) refl r
    where
      Split : Type 0
      Split = ((u : T) → In u xs → is_some (left u) ≡ true → num u < num x) × ((u : T) → In u ys → is_some (left u) ≡ true → num x < num u)

      go : (Rising num (writers left (xs ++ x ∷ ys)) → Split) → (b : Bool) → is_some (left z) ≡ b → Rising num (cond b (z ∷ writers left (xs ++ x ∷ ys)) (writers left (xs ++ x ∷ ys)))
          → ((u : T) → In u (z ∷ xs) → is_some (left u) ≡ true → num u < num x) × ((u : T) → In u ys → is_some (left u) ≡ true → num x < num u)
      go split true e q = (λ u i v. side u i v, k.1)
        where
          k : Split
          k = split q.1

          side : (u : T) → (u ≡ z) ⊎ In u xs → is_some (left u) ≡ true → num u < num x
          side u (inl p) v = subst (λ y. num y < num x) (sym p) (q.0 x (writers-In left x (xs ++ x ∷ ys) (In-right (λ (_ : T). (0, 0, 0)) x xs (x ∷ ys) (inl refl)) w))
          side u (inr i) v = k.0 u i v
      go split false e q = (λ u i v. side u i v, k.1)
        where
          k : Split
          k = split q

          side : (u : T) → (u ≡ z) ⊎ In u xs → is_some (left u) ≡ true → num u < num x
          side u (inl p) v = absurd (true≢false (sym v ∙ ap (λ y. is_some (left y)) p ∙ e))
          side u (inr i) v = k.0 u i v

  rising_front : (xs ys : List T) → Rising num (writers left (xs ++ ys)) → Rising num (writers left xs)
  rising_front [] ys r = tt
  rising_front (x ∷ xs) ys r = go (λ q. rising_front xs ys q) (is_some (left x)) r
    where
      go : (Rising num (writers left (xs ++ ys)) → Rising num (writers left xs)) → (b : Bool) → Rising num (cond b (x ∷ writers left (xs ++ ys)) (writers left (xs ++ ys))) → Rising num (cond b (x ∷ writers left xs) (writers left xs))
      go front true q = (λ y i. let k = In-writers left y xs i in q.0 y (writers-In left y (xs ++ ys) (In-left (λ (_ : T). (0, 0, 0)) y xs ys k.0) k.1), front q.1)
      go front false q = front q

module _ {T : Type 0} (node : T → Node) (edge : T → T → Bool) (ts : List T) where
  abbrev c : T → ℕ
  c t = (node t).commit

  abbrev s : T → ℕ
  s t = (node t).snapshot

  abbrev k : T → ℕ × ℕ × ℕ
  k = serial_key node edge ts

  -- What is known of writers that aren't marked: nothing shows in their snapshots, or in what they leave.
  pub record IsMarked {R S : Type 0} (left : T → Option R) (marked : T → Bool) (shows : R → Option S) (from : ℕ) (log : List T) (r : R) : Type 0 where
    pub leaves : (u : T) → In u ts → is_some (left u) ≡ true → marked u ≡ false → (q : R) → shows (unwrap_or (left u) q) ≡ None
    pub finds : (u : T) → In u ts → is_some (left u) ≡ true → marked u ≡ false → shows (after_all left (take (s u - from) log) r) ≡ None
    pub based : (u : T) → In u ts → from ≤ s u

  module _ {R S : Type 0} (left : T → Option R) (marked : T → Bool) (shows : R → Option S) (from : ℕ) (log : List T) (r : R)
      (written : IsWritten node edge ts left) (mark : IsMarked left marked shows from log r) (numbered : NumberedFrom c from log)
      (logged : (x : T) → In x log → In x ts × ((node x).read_write ≡ true)) (log_all : (x : T) → In x ts → (node x).read_write ≡ true → In x log)
      (later : (x : T) → In x ts → (node x).read_write ≡ true → s x < c x) where
    -- a list with writers by rising commits, and with each one its earlier ones
    unmarked : (xs : List T) → Rising c (writers left xs) → ((x : T) → In x xs → In x ts)
        → ((x u : T) → In x xs → is_some (left x) ≡ true → In u log → is_some (left u) ≡ true → c u < c x → In u xs)
        → (pre post : List T) → xs ≡ pre ++ post → Unmarked left marked shows post (after_all left pre r)
    unmarked xs rise sub closed pre [] e = tt
    unmarked xs rise sub closed pre (x ∷ post) e = (
      λ w m. (ap shows (as_seen w) ∙ mark.finds x x_in w m, mark.leaves x x_in w m (after_all left pre r)),
      subst (Unmarked left marked shows post) (after_all-push left c pre x r) (unmarked xs rise sub closed (pre ++ x ∷ []) post (e ∙ append_cons pre x post)),
    )
      where
        x_here : In x xs
        x_here = subst (In x) (sym e) (In-right (λ (_ : T). (0, 0, 0)) x pre (x ∷ post) (inl refl))

        x_in : In x ts
        x_in = sub x x_here

        rise' : Rising c (writers left (pre ++ x ∷ post))
        rise' = subst (λ ys. Rising c (writers left ys)) e rise

        -- those before x leave what x's snapshot showed
        as_seen : is_some (left x) ≡ true → after_all left pre r ≡ after_all left (take (s x - from) log) r
        as_seen w = same_writers left c pre (take (s x - from) log) (rising_front left c pre (x ∷ post) rise') (Rising-writers c left (take (s x - from) log) (Rising-take c from (s x - from) log numbered)) forth back r
          where
            based : from ≤ s x
            based = mark.based x x_in

            above : s x < c x
            above = later x x_in (written.writes x x_in w)

            split : ((u : T) → In u pre → is_some (left u) ≡ true → c u < c x) × ((u : T) → In u post → is_some (left u) ≡ true → c x < c u)
            split = rising_split left c pre x post rise' w

            forth : (u : T) → In u pre → is_some (left u) ≡ true → In u (take (s x - from) log)
            forth u i v =
                let u_in : In u ts = sub u (subst (In u) (sym e) (In-left (λ (_ : T). (0, 0, 0)) u pre (x ∷ post) i)) in
                let l : c u ≤ s x = written.first_updater u x u_in x_in v w (split.0 u i v) in
                take-In c from (s x - from) log u numbered (log_all u u_in (written.writes u u_in v)) (omega (arith, l, based))

            back : (u : T) → In u (take (s x - from) log) → is_some (left u) ≡ true → In u pre
            back u i v = side (In-append (λ (_ : T). (0, 0, 0)) u pre (x ∷ post) (subst (In u) e (closed x u x_here w j.0 v less)))
              where
                j : In u log × (c u ≤ from + (s x - from))
                j = In-take c from (s x - from) log u numbered i

                less : c u < c x
                less = omega (arith, j.1, based, above)

                side : In u pre ⊎ ((u ≡ x) ⊎ In u post) → In u pre
                side (inl a) = a
                side (inr (inl p)) = absurd (let q : c u ≡ c x = ap c p in omega (arith, less))
                side (inr (inr a)) = absurd (let q = split.1 u a v in omega (arith, less))

    -- What shows of the place is the same before t, in the serial order and in that of the commits that t's snapshot shows.
    pub same_showing : (t : T) → IsIsolated node edge ts → IsRead node edge ts (marked_left left marked shows) t → In t ts → (pre post : List T) → InOrder k (pre ++ t ∷ post)
        → ((x : T) → In x ts → In x (pre ++ t ∷ post)) → ((x : T) → In x (pre ++ t ∷ post) → In x ts)
        → shows (after_all left pre r) ≡ shows (after_all left (take (s t - from) log) r)
    same_showing t iso read t_in pre post o all_in in_all =
        same_shown left marked shows pre r r refl (unmarked pre rise sub closed [] pre refl)
        ∙ ap shows (same_row node edge ts (marked_left left marked shows) t iso read from based pre post log o all_in in_all numbered logged log_all r)
        ∙ sym (same_shown left marked shows shown r r refl (unmarked shown rise_shown sub_shown closed_shown [] shown refl))
      where
        based : from ≤ s t
        based = mark.based t t_in

        shown : List T
        shown = take (s t - from) log

        sub : (x : T) → In x pre → In x ts
        sub x i = in_all x (In-left k x pre (t ∷ post) i)

        rise : Rising c (writers left pre)
        rise = rising_writers node edge ts left iso written from log numbered log_all pre sub (InOrder-front k pre (t ∷ post) o)

        closed : (x u : T) → In x pre → is_some (left x) ≡ true → In u log → is_some (left u) ≡ true → c u < c x → In u pre
        closed x u i w j v l =
            let u_in = logged u j in
            let seen : c u ≤ s x = written.first_updater u x u_in.0 (sub x i) v w l in
            let before : Below (k u) (k x) = shown_before node edge ts iso u x (sub x i) u_in.1 seen in
            in_front k u t pre post o (all_in u u_in.0) (Below-trans (k u) (k x) (k t) before (before_middle k x t pre post o i))

        rise_shown : Rising c (writers left shown)
        rise_shown = Rising-writers c left shown (Rising-take c from (s t - from) log numbered)

        sub_shown : (x : T) → In x shown → In x ts
        sub_shown x i = (logged x (In-take c from (s t - from) log x numbered i).0).0

        closed_shown : (x u : T) → In x shown → is_some (left x) ≡ true → In u log → is_some (left u) ≡ true → c u < c x → In u shown
        closed_shown x u i w j v l = let m = (In-take c from (s t - from) log x numbered i).1 in take-In c from (s t - from) log u numbered j (omega (arith, l, m))
