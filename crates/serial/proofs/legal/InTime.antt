-- When transactions began and ended, and what their snapshots then showed.
use Rattle.std.proofs.Common.{◌≡◌, refl, sym, ap, subst, ◌∙◌, ℕ, ◌+◌, ◌<◌, ◌≤◌, Bool, true, false, true≢false, cond, ◌⊎◌, inl, inr, List, [], ◌∷◌, ◌++◌, length, eqb, arith}
use Rattle.value.proofs.IsolationLemmas.{In}
use Rattle.value.proofs.SerialLemmas.{In-append}
use Rattle.history.specs.Transactions.{Done, Txn, World, Exported_snapshot, commits, is_open, is_done, is_read_write}
use Rattle.history.specs.Events.{ended, begun, replaced}
use Rattle.serial.proofs.legal.Legal.{Move, Stays, Fails, Aborts, Commits, Runs, Asks, Polls, Learns, Imports, Step, Nothing, Begins, Moves, Settles, Dooms, current_in}
use Rattle.serial.proofs.structures.Dooms.{Fate, Spared, Over, In-doomed}
use Rattle.serial.proofs.legal.Numbers.{IsNumbered, adds, In-replaced, polled_keeps, not_done, no_commit}

module _ {A : Type 0} where
  -- what a committed transaction adds, or showed, is in the snapshot
  abbrev pub Shows : Txn A → Txn A → Type 0
  Shows a b = (a.commit ≤ b.snapshot) × (a.commit ≡ 0 → a.snapshot ≤ b.snapshot)

  pub record IsInTime (w : World A) : Type 0 where
    pub begun_by : (t : Txn A) → In t w.txns → t.begin ≤ w.place
    pub ended_by : (t : Txn A) → In t w.txns → t.end ≤ w.place
    pub later : (t : Txn A) → In t w.txns → is_done t.standing ≡ true → t.begin < t.end
    pub ends_apart : (t u : Txn A) → In t w.txns → In u w.txns → is_done t.standing ≡ true → is_done u.standing ≡ true → t.end ≡ u.end → t ≡ u
    pub shows : (a b : Txn A) → In a w.txns → In b w.txns → is_done a.standing ≡ true → a.end < b.begin → b.imported ≡ false → Shows a b

  -- A move leaves the beginning; it ends now, or not; and its snapshot is the one before, or all commits so far, or imported.
  pub record Keeps (w : World A) (t x : Txn A) : Type 0 where
    pub begin : x.begin ≡ t.begin
    pub end : (is_done x.standing ≡ true → x.end ≡ w.place + 1) × ((x.end ≡ t.end) ⊎ (x.end ≡ w.place + 1))
    pub snapshot : (x.snapshot ≡ t.snapshot) × (x.imported ≡ t.imported) ⊎ (x.snapshot ≡ commits w) ⊎ (x.imported ≡ true)

  pub keeps : (w : World A) (t x : Txn A) (log : List (Txn A)) (exports : List Exported_snapshot) → is_open t.standing ≡ true → Move w t x log exports → Keeps w t x
  keeps w t x log exports o Stays = record { begin = refl; end = (λ d. absurd (not_done t.standing o d), inl refl); snapshot = inl (refl, refl) }
  keeps w t x log exports o Fails = record { begin = refl; end = (λ d. refl, inr refl); snapshot = inl (refl, refl) }
  keeps w t x log exports o Aborts = record { begin = refl; end = (λ d. refl, inr refl); snapshot = inl (refl, refl) }
  keeps w t x log exports o (Commits e) = go (is_read_write t.mode)
    where
      go : (b : Bool) → Keeps w t (cond b (record (ended w Done t) { commit = commits w + 1 }) (ended w Done t))
      go true = record { begin = refl; end = (λ d. refl, inr refl); snapshot = inl (refl, refl) }
      go false = record { begin = refl; end = (λ d. refl, inr refl); snapshot = inl (refl, refl) }
  keeps w t x log exports o (Runs q fits a b d) = record { begin = refl; end = (λ d'. absurd (not_done t.standing o d'), inl refl); snapshot = inl (refl, refl) }
  keeps w t x log exports o (Asks a) = record { begin = refl; end = (λ d. absurd (not_done t.standing o d), inl refl); snapshot = inl (refl, refl) }
  keeps w t x log exports o (Polls a b) = polled_keeps (λ y. Keeps w t y) w t
      (record { begin = refl; end = (λ d. absurd (not_done t.standing o d), inl refl); snapshot = inl (refl, refl) })
      (record { begin = refl; end = (λ d. absurd (not_done t.standing o d), inl refl); snapshot = inr (inl refl) })
  keeps w t x log exports o (Learns a b e) = polled_keeps (λ y. Keeps w t (record y { known = true })) w t
      (record { begin = refl; end = (λ d. absurd (not_done t.standing o d), inl refl); snapshot = inl (refl, refl) })
      (record { begin = refl; end = (λ d. absurd (not_done t.standing o d), inl refl); snapshot = inr (inl refl) })
  keeps w t x log exports o (Imports i y a b e) = record { begin = refl; end = (λ d. absurd (not_done t.standing o d), inl refl); snapshot = inr (inr refl) }

  -- a commit of the past is one of those so far
  past : (w : World A) (a : Txn A) → IsNumbered w → In a w.txns → Shows a (record a { snapshot = commits w })
  past w a num i = go (num.kind a i)
    where
      go : In a w.log ⊎ (a.commit ≡ 0) × (is_done a.standing ≡ true → is_read_write a.mode ≡ false) → (a.commit ≤ commits w) × (a.commit ≡ 0 → a.snapshot ≤ commits w)
      go (inl j) = (omega (arith, upto w.base.commits w.log num.in_order j), λ _. (num.shown a i).1)
        where
          upto : (n : ℕ) (ts : List (Txn A)) → Rattle.value.proofs.SerialLemmas.NumberedFrom (λ (t : Txn A). t.commit) n ts → In a ts → a.commit ≤ n + length ts
          upto n [] h k = absurd k
          upto n (t ∷ ts) h (inl p) = omega (arith, h.0, ap (λ (y : Txn A). y.commit) p)
          upto n (t ∷ ts) h (inr k) = omega (arith, upto (n + 1) ts h.1 k)
      go (inr k) = (omega (arith, k.0), λ _. (num.shown a i).1)

  -- t is replaced by x at the next place
  in_time_replaced : (w : World A) (t x : Txn A) (log : List (Txn A)) (exports : List Exported_snapshot) → IsNumbered w → IsInTime w → In t w.txns → t.number ≡ x.number → Keeps w t x
      → IsInTime (record w { log = log; txns = replaced x w.txns; exports = exports; place = w.place + 1 })
  in_time_replaced w t x log exports num inv i n keep = record {
    begun_by = λ u j. begun_by u (In-replaced u x w.txns j);
    ended_by = λ u j. ended_by u (In-replaced u x w.txns j);
    later = λ u j d. later u (In-replaced u x w.txns j) d;
    ends_apart = λ u v j k d e p. ends_apart u v (In-replaced u x w.txns j) (In-replaced v x w.txns k) d e p;
    shows = λ a b j k d l m. shows a b (In-replaced a x w.txns j) (In-replaced b x w.txns k) d l m;
  }
    where
      Old : Txn A → Type 0
      Old u = In u w.txns × (eqb u.number x.number ≡ false)

      begin_x : x.begin ≤ w.place
      begin_x = omega (arith, keep.begin, inv.begun_by t i)

      end_x : x.end ≤ w.place + 1
      end_x = go keep.end.1
        where
          go : (x.end ≡ t.end) ⊎ (x.end ≡ w.place + 1) → x.end ≤ w.place + 1
          go (inl p) = omega (arith, inv.ended_by t i)
          go (inr p) = omega arith

      begun_by : (u : Txn A) → (u ≡ x) ⊎ Old u → u.begin ≤ w.place + 1
      begun_by u (inl p) = let e : u.begin ≡ x.begin = ap (λ (y : Txn A). y.begin) p in omega (arith, begin_x)
      begun_by u (inr j) = omega (arith, inv.begun_by u j.0)

      ended_by : (u : Txn A) → (u ≡ x) ⊎ Old u → u.end ≤ w.place + 1
      ended_by u (inl p) = let e : u.end ≡ x.end = ap (λ (y : Txn A). y.end) p in omega (arith, end_x)
      ended_by u (inr j) = omega (arith, inv.ended_by u j.0)

      done_x : (u : Txn A) → u ≡ x → is_done u.standing ≡ true → u.end ≡ w.place + 1
      done_x u p d = ap (λ (y : Txn A). y.end) p ∙ keep.end.0 (sym (ap (λ (y : Txn A). is_done y.standing) p) ∙ d)

      later : (u : Txn A) → (u ≡ x) ⊎ Old u → is_done u.standing ≡ true → u.begin < u.end
      later u (inl p) d = let e : u.begin ≡ x.begin = ap (λ (y : Txn A). y.begin) p in let f : u.end ≡ w.place + 1 = done_x u p d in omega (arith, begin_x)
      later u (inr j) d = inv.later u j.0 d

      ends_apart : (u v : Txn A) → (u ≡ x) ⊎ Old u → (v ≡ x) ⊎ Old v → is_done u.standing ≡ true → is_done v.standing ≡ true → u.end ≡ v.end → u ≡ v
      ends_apart u v (inl p) (inl q) d e f = p ∙ sym q
      ends_apart u v (inl p) (inr q) d e f = absurd (let g : u.end ≡ w.place + 1 = done_x u p d in let l : v.end ≤ w.place = inv.ended_by v q.0 in omega arith)
      ends_apart u v (inr p) (inl q) d e f = absurd (let g : v.end ≡ w.place + 1 = done_x v q e in let l : u.end ≤ w.place = inv.ended_by u p.0 in omega arith)
      ends_apart u v (inr p) (inr q) d e f = inv.ends_apart u v p.0 q.0 d e f

      shows : (a b : Txn A) → (a ≡ x) ⊎ Old a → (b ≡ x) ⊎ Old b → is_done a.standing ≡ true → a.end < b.begin → b.imported ≡ false → Shows a b
      shows a b (inl p) k d l m = absurd (let g : a.end ≡ w.place + 1 = done_x a p d in let h : b.begin ≤ w.place + 1 = begun_by b k in omega arith)
      shows a b (inr j) (inr k) d l m = inv.shows a b j.0 k.0 d l m
      shows a b (inr j) (inl q) d l m = subst (λ (y : Txn A). Shows a y) (sym q) (go keep.snapshot)
        where
          before : a.end < t.begin
          before = let e : b.begin ≡ x.begin = ap (λ (y : Txn A). y.begin) q in omega (arith, keep.begin)

          go : (x.snapshot ≡ t.snapshot) × (x.imported ≡ t.imported) ⊎ (x.snapshot ≡ commits w) ⊎ (x.imported ≡ true) → Shows a x
          go (inl p) = let h = inv.shows a t j.0 i d before (sym p.1 ∙ sym (ap (λ (y : Txn A). y.imported) q) ∙ m) in (omega (arith, h.0, p.0), λ z. omega (arith, h.1 z, p.0))
          go (inr (inl p)) = let h = past w a num j.0 in (omega (arith, h.0), λ z. omega (arith, h.1 z))
          go (inr (inr p)) = absurd (true≢false (sym p ∙ sym (ap (λ (y : Txn A). y.imported) q) ∙ m))

  pub in_time_step : (w v : World A) → IsNumbered w → IsInTime w → Step w v → IsInTime v
  in_time_step w v num inv Nothing = record { begun_by = λ t i. omega (arith, inv.begun_by t i); ended_by = λ t i. omega (arith, inv.ended_by t i); later = inv.later; ends_apart = inv.ends_apart; shows = inv.shows }
  in_time_step w v num inv (Begins s m) = record {
    begun_by = λ u j. begun_by u (split u j);
    ended_by = λ u j. ended_by u (split u j);
    later = λ u j d. later u (split u j) d;
    ends_apart = λ u y j k d e p. ends_apart u y (split u j) (split y k) d e p;
    shows = λ a b j k d l m. shows a b (split a j) (split b k) d l m;
  }
    where
      x : Txn A
      x = begun w s m

      New : Txn A → Type 0
      New t = (t ≡ x) ⊎ ⊥

      split : (t : Txn A) → In t (w.txns ++ x ∷ []) → In t w.txns ⊎ New t
      split t i = In-append (λ (_ : Txn A). (0, 0, 0)) t w.txns (x ∷ []) i

      not_new : (t : Txn A) → New t → is_done t.standing ≡ true → ⊥
      not_new t (inl p) d = true≢false (sym d ∙ ap (λ (y : Txn A). is_done y.standing) p)
      not_new t (inr p) d = p

      begun_by : (u : Txn A) → In u w.txns ⊎ New u → u.begin ≤ w.place + 1
      begun_by u (inl j) = omega (arith, inv.begun_by u j)
      begun_by u (inr (inl p)) = let e : u.begin ≡ w.place + 1 = ap (λ (y : Txn A). y.begin) p in omega arith
      begun_by u (inr (inr p)) = absurd p

      ended_by : (u : Txn A) → In u w.txns ⊎ New u → u.end ≤ w.place + 1
      ended_by u (inl j) = omega (arith, inv.ended_by u j)
      ended_by u (inr (inl p)) = let e : u.end ≡ 0 = ap (λ (y : Txn A). y.end) p in omega arith
      ended_by u (inr (inr p)) = absurd p

      later : (u : Txn A) → In u w.txns ⊎ New u → is_done u.standing ≡ true → u.begin < u.end
      later u (inl j) d = inv.later u j d
      later u (inr p) d = absurd (not_new u p d)

      ends_apart : (u y : Txn A) → In u w.txns ⊎ New u → In y w.txns ⊎ New y → is_done u.standing ≡ true → is_done y.standing ≡ true → u.end ≡ y.end → u ≡ y
      ends_apart u y (inl j) (inl k) d e f = inv.ends_apart u y j k d e f
      ends_apart u y (inr p) k d e f = absurd (not_new u p d)
      ends_apart u y (inl j) (inr p) d e f = absurd (not_new y p e)

      shows : (a b : Txn A) → In a w.txns ⊎ New a → In b w.txns ⊎ New b → is_done a.standing ≡ true → a.end < b.begin → b.imported ≡ false → Shows a b
      shows a b (inr p) k d l m = absurd (not_new a p d)
      shows a b (inl j) (inl k) d l m = inv.shows a b j k d l m
      shows a b (inl j) (inr (inl p)) d l m = subst (λ (y : Txn A). Shows a y) (sym p) (past w a num j)
      shows a b (inl j) (inr (inr p)) d l m = absurd p
  in_time_step w v num inv (Moves s t x log exports c o move) = in_time_replaced w t x log exports num inv i (sym (adds w t x log exports num o z (num.shown t i) move).number) (keeps w t x log exports o move)
    where
      i : In t w.txns
      i = (current_in w s t c).0

      z : t.commit ≡ 0
      z = no_commit w num t i o
  in_time_step w v num inv (Settles s t st c o d o' d') = in_time_replaced w t (record t { standing = st }) w.log w.exports num inv (current_in w s t c).0 refl
      (record { begin = refl; end = (λ e. absurd (true≢false (sym e ∙ d')), inl refl); snapshot = inl (refl, refl) })
  in_time_step w v num inv (Dooms cs) = record {
    begun_by = λ u i. let x = In-doomed w.place cs u w.txns i in begun_by x.0 u x.2 (inv.begun_by x.0 x.1);
    ended_by = λ u i. let x = In-doomed w.place cs u w.txns i in ended_by x.0 u x.2 (inv.ended_by x.0 x.1);
    later = λ u i d. let x = In-doomed w.place cs u w.txns i in let p = same x.0 u x.2 d in subst (λ (y : Txn A). y.begin < y.end) p (inv.later x.0 x.1 (done x.0 u x.2 d));
    ends_apart = λ u y i j d e p. let a = In-doomed w.place cs u w.txns i in let b = In-doomed w.place cs y w.txns j in apart a.0 b.0 u y a.1 b.1 (same a.0 u a.2 d) (same b.0 y b.2 e) d e p;
    shows = λ u y i j d l m. let a = In-doomed w.place cs u w.txns i in let b = In-doomed w.place cs y w.txns j in shows a.0 b.0 u y a.1 b.1 (same a.0 u a.2 d) b.2 d l m;
  }
    where
      begun_by : (t u : Txn A) → Fate w.place t u → t.begin ≤ w.place → u.begin ≤ w.place
      begun_by t u Spared h = h
      begun_by t u (Over c o) h = h

      ended_by : (t u : Txn A) → Fate w.place t u → t.end ≤ w.place → u.end ≤ w.place
      ended_by t u Spared h = h
      ended_by t u (Over c o) h = omega arith

      -- one that is done wasn't doomed
      same : (t u : Txn A) → Fate w.place t u → is_done u.standing ≡ true → t ≡ u
      same t u Spared d = refl
      same t u (Over c o) d = absurd (true≢false (sym d))

      done : (t u : Txn A) → Fate w.place t u → is_done u.standing ≡ true → is_done t.standing ≡ true
      done t u f d = ap (λ (y : Txn A). is_done y.standing) (same t u f d) ∙ d

      apart : (a b u y : Txn A) → In a w.txns → In b w.txns → a ≡ u → b ≡ y → is_done u.standing ≡ true → is_done y.standing ≡ true → u.end ≡ y.end → u ≡ y
      apart a b u y i j p q d e f = inv.ends_apart u y (subst (λ z. In z w.txns) p i) (subst (λ z. In z w.txns) q j) d e f

      shows : (a b u y : Txn A) → In a w.txns → In b w.txns → a ≡ u → Fate w.place b y → is_done u.standing ≡ true → u.end < y.begin → y.imported ≡ false → Shows u y
      shows a b u y i j p Spared d l m = inv.shows u b (subst (λ z. In z w.txns) p i) j d l m
      shows a b u y i j p (Over c o) d l m = let h = inv.shows u b (subst (λ z. In z w.txns) p i) j d l m in (h.0, h.1)
