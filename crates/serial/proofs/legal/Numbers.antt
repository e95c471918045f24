-- Numbers, commits and snapshots after legal events.
use Rattle.std.proofs.Common.{◌≡◌, refl, sym, ap, subst, ◌∙◌, ℕ, suc, ◌+◌, ◌<◌, ◌≤◌, Bool, true, false, true≢false, cond, not, ◌&&◌, ◌⊎◌, inl, inr, List, [], ◌∷◌, ◌++◌, length, map, if◌then◌else◌, eqb, arith, length-append}
use Rattle.std.proofs.lemmas.Bool.{eqb-true, eqb-false, eq-eqb}
use Rattle.value.proofs.IsolationLemmas.{In}
use Rattle.value.proofs.SerialLemmas.{NumberedFrom, In-left, In-right, In-append}
use Rattle.value.proofs.Basics.{find-In}
use Rattle.history.specs.Transactions.{Standing, Open, Doomed, Failed, Aborted, Done, Txn, World, Exported_snapshot, commits, is_open, is_done, is_read_write, is_spoilt}
use Rattle.history.specs.Events.{ended, numbered, polled, begun, with_snapshot, replaced, doomed_by}
use Rattle.serial.proofs.legal.Legal.{Move, Stays, Fails, Aborts, Commits, Runs, Asks, Polls, Learns, Imports, Step, Nothing, Begins, Moves, Settles, Dooms, current_in}
use Rattle.serial.proofs.structures.Dooms.{Fate, Spared, Over, In-doomed, In-made, done-In, length-doomed, number-doomed}

pub not_done : (st : Standing) → is_open st ≡ true → is_done st ≡ true → ⊥
not_done Open e f = true≢false (sym f)
not_done (Doomed c) e f = true≢false (sym e)
not_done Failed e f = true≢false (sym e)
not_done Aborted e f = true≢false (sym e)
not_done Done e f = true≢false (sym e)

module _ {A : Type 0} where
  -- ---- a list with one member replaced

  pub In-replaced : (z x : Txn A) (ts : List (Txn A)) → In z (replaced x ts) → (z ≡ x) ⊎ In z ts × (eqb z.number x.number ≡ false)
  In-replaced z x [] i = absurd i
  In-replaced z x (t ∷ ts) i = go (eqb t.number x.number) refl (In-replaced z x ts) i
    where
      go : (b : Bool) → eqb t.number x.number ≡ b → (In z (replaced x ts) → (z ≡ x) ⊎ In z ts × (eqb z.number x.number ≡ false)) → (z ≡ cond b x t) ⊎ In z (replaced x ts) → (z ≡ x) ⊎ In z (t ∷ ts) × (eqb z.number x.number ≡ false)
      go true e rest (inl p) = inl p
      go false e rest (inl p) = inr (inl p, ap (λ (v : Txn A). eqb v.number x.number) p ∙ e)
      go b e rest (inr j) = elim (rest j) [ inl p ↦ inl p | inr k ↦ inr (inr k.0, k.1) ]

  pub replaced-In : (z x : Txn A) (ts : List (Txn A)) → In z ts → eqb z.number x.number ≡ false → In z (replaced x ts)
  replaced-In z x [] i e = absurd i
  replaced-In z x (t ∷ ts) (inl p) e = inl (p ∙ sym (ap (λ b. cond b x t) (sym (ap (λ (v : Txn A). eqb v.number x.number) p) ∙ e)))
  replaced-In z x (t ∷ ts) (inr i) e = inr (replaced-In z x ts i e)

  pub replaced-new : (t x : Txn A) (ts : List (Txn A)) → In t ts → t.number ≡ x.number → In x (replaced x ts)
  replaced-new t x [] i e = absurd i
  replaced-new t x (u ∷ ts) (inl p) e = inl (sym (ap (λ b. cond b x u) (eq-eqb u.number x.number (sym (ap (λ (v : Txn A). v.number) p) ∙ e))))
  replaced-new t x (u ∷ ts) (inr i) e = inr (replaced-new t x ts i e)

  pub length-replaced : (x : Txn A) (ts : List (Txn A)) → length (replaced x ts) ≡ length ts
  length-replaced x [] = refl
  length-replaced x (t ∷ ts) = ap suc (length-replaced x ts)

  pub NumberedFrom-push : (n : ℕ) (ts : List (Txn A)) (x : Txn A) → NumberedFrom (λ (t : Txn A). t.commit) n ts → x.commit ≡ n + length ts + 1 → NumberedFrom (λ (t : Txn A). t.commit) n (ts ++ x ∷ [])
  NumberedFrom-push n [] x h e = (omega arith, tt)
  NumberedFrom-push n (t ∷ ts) x h e = (h.0, NumberedFrom-push (n + 1) ts x h.1 (omega arith))

  pub polled_keeps : (P : Txn A → Type 0) (w : World A) (t : Txn A) → P t → P (with_snapshot w (commits w) (w.place + 1) t) → P (polled w t)
  polled_keeps P w t p q = go (not t.known && is_spoilt w.txns t)
    where
      go : (b : Bool) → P (cond b (with_snapshot w (commits w) (w.place + 1) t) t)
      go true = q
      go false = p

  -- ---- numbers

  -- a snapshot of commits since the base
  abbrev pub Shown : World A → ℕ → Type 0
  Shown w n = (w.base.commits ≤ n) × (n ≤ commits w)

  pub record IsNumbered (w : World A) : Type 0 where
    pub unique : (t u : Txn A) → In t w.txns → In u w.txns → t.number ≡ u.number → t ≡ u
    pub bounded : (t : Txn A) → In t w.txns → t.number ≤ w.base.transactions + length w.txns
    pub above : (t : Txn A) → In t w.txns → w.base.transactions < t.number
    pub in_order : NumberedFrom (λ (t : Txn A). t.commit) w.base.commits w.log
    pub logged : (t : Txn A) → In t w.log → In t w.txns × (is_done t.standing ≡ true) × (is_read_write t.mode ≡ true) × (t.snapshot < t.commit)
    pub kind : (t : Txn A) → In t w.txns → In t w.log ⊎ (t.commit ≡ 0) × (is_done t.standing ≡ true → is_read_write t.mode ≡ false)
    pub shown : (t : Txn A) → In t w.txns → Shown w t.snapshot
    pub exports : (x : Exported_snapshot) → In x w.exports → Shown w x.snapshot

  -- an open transaction has no commit number
  pub no_commit : (w : World A) → IsNumbered w → (t : Txn A) → In t w.txns → is_open t.standing ≡ true → t.commit ≡ 0
  no_commit w inv t i o = go (inv.kind t i)
    where
      go : In t w.log ⊎ (t.commit ≡ 0) × (is_done t.standing ≡ true → is_read_write t.mode ≡ false) → t.commit ≡ 0
      go (inl j) = absurd (not_done t.standing o (inv.logged t j).1)
      go (inr k) = k.0

  -- A move adds no commit, or one that has the next number.
  pub record Adds (w : World A) (t x : Txn A) (log : List (Txn A)) : Type 0 where
    pub number : x.number ≡ t.number
    pub mode : x.mode ≡ t.mode
    pub shown : Shown w x.snapshot
    pub log_is : (log ≡ w.log) × (x.commit ≡ 0) × (is_done x.standing ≡ true → is_read_write x.mode ≡ false)
        ⊎ (log ≡ w.log ++ x ∷ []) × (x.commit ≡ commits w + 1) × (is_done x.standing ≡ true) × (is_read_write x.mode ≡ true)

  numbered_is : (w : World A) (t : Txn A) → t.commit ≡ 0 → Shown w t.snapshot → Adds w t (numbered w t) (if is_read_write t.mode then w.log ++ numbered w t ∷ [] else w.log)
  numbered_is w t z h = go (is_read_write t.mode) refl
    where
      x : Bool → Txn A
      x b = cond b (record (ended w Done t) { commit = commits w + 1 }) (ended w Done t)

      go : (b : Bool) → is_read_write t.mode ≡ b → Adds w t (x b) (cond b (w.log ++ x b ∷ []) w.log)
      go true e = record { number = refl; mode = refl; shown = h; log_is = inr (refl, refl, refl, e) }
      go false e = record { number = refl; mode = refl; shown = h; log_is = inl (refl, z, λ _. e) }

  pub adds : (w : World A) (t x : Txn A) (log : List (Txn A)) (exports : List Exported_snapshot) → IsNumbered w → is_open t.standing ≡ true → t.commit ≡ 0 → Shown w t.snapshot
      → Move w t x log exports → Adds w t x log
  adds w t x log exports inv o z h Stays = record { number = refl; mode = refl; shown = h; log_is = inl (refl, z, λ d. absurd (not_done t.standing o d)) }
  adds w t x log exports inv o z h Fails = record { number = refl; mode = refl; shown = h; log_is = inl (refl, z, λ d. absurd (true≢false (sym d))) }
  adds w t x log exports inv o z h Aborts = record { number = refl; mode = refl; shown = h; log_is = inl (refl, z, λ d. absurd (true≢false (sym d))) }
  adds w t x log exports inv o z h (Commits c) = numbered_is w t z h
  adds w t x log exports inv o z h (Runs q fits a b d) = record { number = refl; mode = refl; shown = h; log_is = inl (refl, z, λ d'. absurd (not_done t.standing o d')) }
  adds w t x log exports inv o z h (Asks a) = record { number = refl; mode = refl; shown = h; log_is = inl (refl, z, λ d. absurd (not_done t.standing o d)) }
  adds w t x log exports inv o z h (Polls a b) =
      polled_keeps (λ y. Adds w t y w.log) w t
      (record { number = refl; mode = refl; shown = h; log_is = inl (refl, z, λ d. absurd (not_done t.standing o d)) })
      (record { number = refl; mode = refl; shown = (omega arith, omega arith); log_is = inl (refl, z, λ d. absurd (not_done t.standing o d)) })
  adds w t x log exports inv o z h (Learns a b d) =
      polled_keeps (λ y. Adds w t (record y { known = true }) w.log) w t
      (record { number = refl; mode = refl; shown = h; log_is = inl (refl, z, λ d'. absurd (not_done t.standing o d')) })
      (record { number = refl; mode = refl; shown = (omega arith, omega arith); log_is = inl (refl, z, λ d'. absurd (not_done t.standing o d')) })
  adds w t x log exports inv o z h (Imports i y a b e) = record { number = refl; mode = refl; shown = inv.exports y (find-In _ w.exports y e).0; log_is = inl (refl, z, λ d. absurd (not_done t.standing o d)) }

  -- the identifiers after a move
  exports_kept : (w : World A) (t x : Txn A) (log : List (Txn A)) (exports : List Exported_snapshot) → IsNumbered w → Shown w t.snapshot → Move w t x log exports → (y : Exported_snapshot) → In y exports → Shown w y.snapshot
  exports_kept w t x log exports inv h (Asks a) y i = elim (In-append (λ (_ : Exported_snapshot). (0, 0, 0)) y w.exports _ i) [ inl j ↦ inv.exports y j | inr j ↦ elim j [ inl p ↦ subst (λ (v : Exported_snapshot). Shown w v.snapshot) (sym p) h | inr k ↦ absurd k ] ]
  exports_kept w t x log exports inv h Stays y i = inv.exports y i
  exports_kept w t x log exports inv h Fails y i = inv.exports y i
  exports_kept w t x log exports inv h Aborts y i = inv.exports y i
  exports_kept w t x log exports inv h (Commits c) y i = inv.exports y i
  exports_kept w t x log exports inv h (Runs q fits a b d) y i = inv.exports y i
  exports_kept w t x log exports inv h (Polls a b) y i = inv.exports y i
  exports_kept w t x log exports inv h (Learns a b d) y i = inv.exports y i
  exports_kept w t x log exports inv h (Imports n v a b e) y i = inv.exports y i

  -- The transaction t, which had no commit, is replaced by x.
  replaced_numbers : (w : World A) (t x : Txn A) (log : List (Txn A)) (exports : List Exported_snapshot) → IsNumbered w → In t w.txns → t.commit ≡ 0 → Adds w t x log
      → ((y : Exported_snapshot) → In y exports → Shown w y.snapshot)
      → IsNumbered (record w { log = log; txns = replaced x w.txns; exports = exports; place = w.place + 1 })
  replaced_numbers w t x log exports inv i z a ex = go a.log_is
    where
      txns : List (Txn A)
      txns = replaced x w.txns

      Old : Txn A → Type 0
      Old u = In u w.txns × (eqb u.number x.number ≡ false)

      x_in : In x txns
      x_in = replaced-new t x w.txns i (sym a.number)

      unique : (u v : Txn A) → In u txns → In v txns → u.number ≡ v.number → u ≡ v
      unique u v j k e = both (In-replaced u x w.txns j) (In-replaced v x w.txns k)
        where
          both : (u ≡ x) ⊎ Old u → (v ≡ x) ⊎ Old v → u ≡ v
          both (inl p) (inl q) = p ∙ sym q
          both (inl p) (inr q) = absurd (eqb-false v.number x.number q.1 (sym e ∙ ap (λ (y : Txn A). y.number) p))
          both (inr p) (inl q) = absurd (eqb-false u.number x.number p.1 (e ∙ ap (λ (y : Txn A). y.number) q))
          both (inr p) (inr q) = inv.unique u v p.0 q.0 e

      above : (u : Txn A) → In u txns → w.base.transactions < u.number
      above u j = side (In-replaced u x w.txns j)
        where
          side : (u ≡ x) ⊎ Old u → w.base.transactions < u.number
          side (inl p) = let b : w.base.transactions < t.number = inv.above t i in let e : u.number ≡ t.number = ap (λ (y : Txn A). y.number) p ∙ a.number in omega arith
          side (inr p) = inv.above u p.0

      bounded : (u : Txn A) → In u txns → u.number ≤ w.base.transactions + length txns
      bounded u j = rw length-replaced (side (In-replaced u x w.txns j))
        where
          side : (u ≡ x) ⊎ Old u → u.number ≤ w.base.transactions + length w.txns
          side (inl p) = let b : t.number ≤ w.base.transactions + length w.txns = inv.bounded t i in let e : u.number ≡ t.number = ap (λ (y : Txn A). y.number) p ∙ a.number in omega arith
          side (inr p) = inv.bounded u p.0

      -- what was logged is another one
      kept : (u : Txn A) → In u w.log → In u txns
      kept u j = let l = inv.logged u j in replaced-In u x w.txns l.0 (other (eqb u.number x.number) refl l)
        where
          other : (b : Bool) → eqb u.number x.number ≡ b → In u w.txns × (is_done u.standing ≡ true) × (is_read_write u.mode ≡ true) × (u.snapshot < u.commit) → eqb u.number x.number ≡ false
          other true e l = let same : u ≡ t = inv.unique u t l.0 i (eqb-true u.number x.number e ∙ a.number) in let c : u.commit ≡ 0 = ap (λ (y : Txn A). y.commit) same ∙ z in absurd (omega (arith, l.3))
          other false e l = e

      go : (log ≡ w.log) × (x.commit ≡ 0) × (is_done x.standing ≡ true → is_read_write x.mode ≡ false)
          ⊎ (log ≡ w.log ++ x ∷ []) × (x.commit ≡ commits w + 1) × (is_done x.standing ≡ true) × (is_read_write x.mode ≡ true)
          → IsNumbered (record w { log = log; txns = txns; exports = exports; place = w.place + 1 })
      go (inl p) = subst (λ l. IsNumbered (record w { log = l; txns = txns; exports = exports; place = w.place + 1 })) (sym p.0) (record {
        unique = unique;
        bounded = bounded;
        above = above;
        in_order = inv.in_order;
        logged = λ u j. let l = inv.logged u j in (kept u j, l.1, l.2, l.3);
        kind = λ u j. kind u (In-replaced u x w.txns j);
        shown = λ u j. shown u (In-replaced u x w.txns j);
        exports = ex;
      })
        where
          kind : (u : Txn A) → (u ≡ x) ⊎ Old u → In u w.log ⊎ (u.commit ≡ 0) × (is_done u.standing ≡ true → is_read_write u.mode ≡ false)
          kind u (inl q) = inr (subst (λ (y : Txn A). (y.commit ≡ 0) × (is_done y.standing ≡ true → is_read_write y.mode ≡ false)) (sym q) (p.1, p.2))
          kind u (inr q) = inv.kind u q.0

          shown : (u : Txn A) → (u ≡ x) ⊎ Old u → Shown w u.snapshot
          shown u (inl q) = subst (λ (y : Txn A). Shown w y.snapshot) (sym q) a.shown
          shown u (inr q) = inv.shown u q.0
      go (inr p) = subst (λ l. IsNumbered (record w { log = l; txns = txns; exports = exports; place = w.place + 1 })) (sym p.0) (record {
        unique = unique;
        bounded = bounded;
        above = above;
        in_order = NumberedFrom-push w.base.commits w.log x inv.in_order (omega (arith, p.1));
        logged = λ u j. logged u (In-append (λ (_ : Txn A). (0, 0, 0)) u w.log (x ∷ []) j);
        kind = λ u j. kind u (In-replaced u x w.txns j);
        shown = λ u j. grown u.snapshot (shown u (In-replaced u x w.txns j));
        exports = λ y j. grown y.snapshot (ex y j);
      })
        where
          logged : (u : Txn A) → In u w.log ⊎ ((u ≡ x) ⊎ ⊥) → In u txns × (is_done u.standing ≡ true) × (is_read_write u.mode ≡ true) × (u.snapshot < u.commit)
          logged u (inl j) = let l = inv.logged u j in (kept u j, l.1, l.2, l.3)
          logged u (inr (inl q)) = subst (λ (y : Txn A). In y txns × (is_done y.standing ≡ true) × (is_read_write y.mode ≡ true) × (y.snapshot < y.commit)) (sym q) (x_in, p.2, p.3, omega (arith, a.shown.1, p.1))
          logged u (inr (inr q)) = absurd q

          kind : (u : Txn A) → (u ≡ x) ⊎ Old u → In u (w.log ++ x ∷ []) ⊎ (u.commit ≡ 0) × (is_done u.standing ≡ true → is_read_write u.mode ≡ false)
          kind u (inl q) = inl (In-right (λ (_ : Txn A). (0, 0, 0)) u w.log (x ∷ []) (inl q))
          kind u (inr q) = elim (inv.kind u q.0) [ inl j ↦ inl (In-left (λ (_ : Txn A). (0, 0, 0)) u w.log (x ∷ []) j) | inr j ↦ inr j ]

          grown : (n : ℕ) → Shown w n → (w.base.commits ≤ n) × (n ≤ w.base.commits + length (w.log ++ x ∷ []))
          grown n h = (h.0, rw length-append (omega (arith, h.1)))

          shown : (u : Txn A) → (u ≡ x) ⊎ Old u → Shown w u.snapshot
          shown u (inl q) = subst (λ (y : Txn A). Shown w y.snapshot) (sym q) a.shown
          shown u (inr q) = inv.shown u q.0

  pub numbers_step : (w v : World A) → IsNumbered w → Step w v → IsNumbered v
  numbers_step w v inv Nothing = record { unique = inv.unique; bounded = inv.bounded; above = inv.above; in_order = inv.in_order; logged = inv.logged; kind = inv.kind; shown = inv.shown; exports = inv.exports }
  numbers_step w v inv (Begins s m) = record {
    unique = λ t u i j e. unique t u (In-append (λ (_ : Txn A). (0, 0, 0)) t w.txns (x ∷ []) i) (In-append (λ (_ : Txn A). (0, 0, 0)) u w.txns (x ∷ []) j) e;
    bounded = λ t i. rw length-append (bounded t (In-append (λ (_ : Txn A). (0, 0, 0)) t w.txns (x ∷ []) i));
    above = λ t i. above t (In-append (λ (_ : Txn A). (0, 0, 0)) t w.txns (x ∷ []) i);
    in_order = inv.in_order;
    logged = λ t i. let l = inv.logged t i in (In-left (λ (_ : Txn A). (0, 0, 0)) t w.txns (x ∷ []) l.0, l.1, l.2, l.3);
    kind = λ t i. kind t (In-append (λ (_ : Txn A). (0, 0, 0)) t w.txns (x ∷ []) i);
    shown = λ t i. shown t (In-append (λ (_ : Txn A). (0, 0, 0)) t w.txns (x ∷ []) i);
    exports = inv.exports;
  }
    where
      x : Txn A
      x = begun w s m

      New : Txn A → Type 0
      New t = (t ≡ x) ⊎ ⊥

      number : (t : Txn A) → t ≡ x → t.number ≡ w.base.transactions + length w.txns + 1
      number t p = ap (λ (y : Txn A). y.number) p

      unique : (t u : Txn A) → In t w.txns ⊎ New t → In u w.txns ⊎ New u → t.number ≡ u.number → t ≡ u
      unique t u (inl i) (inl j) e = inv.unique t u i j e
      unique t u (inl i) (inr (inl q)) e = absurd (let b : t.number ≤ w.base.transactions + length w.txns = inv.bounded t i in let n : u.number ≡ w.base.transactions + length w.txns + 1 = number u q in omega arith)
      unique t u (inr (inl p)) (inl j) e = absurd (let b : u.number ≤ w.base.transactions + length w.txns = inv.bounded u j in let n : t.number ≡ w.base.transactions + length w.txns + 1 = number t p in omega arith)
      unique t u (inr (inl p)) (inr (inl q)) e = p ∙ sym q
      unique t u (inr (inr p)) j e = absurd p
      unique t u i (inr (inr q)) e = absurd q

      above : (t : Txn A) → In t w.txns ⊎ New t → w.base.transactions < t.number
      above t (inl i) = inv.above t i
      above t (inr (inl p)) = omega (arith, number t p)
      above t (inr (inr p)) = absurd p

      bounded : (t : Txn A) → In t w.txns ⊎ New t → t.number ≤ w.base.transactions + (length w.txns + 1)
      bounded t (inl i) = omega (arith, inv.bounded t i)
      bounded t (inr (inl p)) = omega (arith, number t p)
      bounded t (inr (inr p)) = absurd p

      kind : (t : Txn A) → In t w.txns ⊎ New t → In t w.log ⊎ (t.commit ≡ 0) × (is_done t.standing ≡ true → is_read_write t.mode ≡ false)
      kind t (inl i) = inv.kind t i
      kind t (inr (inl p)) = inr (ap (λ (y : Txn A). y.commit) p, λ d. absurd (true≢false (sym d ∙ ap (λ (y : Txn A). is_done y.standing) p)))
      kind t (inr (inr p)) = absurd p

      shown : (t : Txn A) → In t w.txns ⊎ New t → Shown w t.snapshot
      shown t (inl i) = inv.shown t i
      shown t (inr (inl p)) = let e : t.snapshot ≡ w.base.commits + length w.log = ap (λ (y : Txn A). y.snapshot) p in (omega arith, omega arith)
      shown t (inr (inr p)) = absurd p
  numbers_step w v inv (Moves s t x log exports c o move) =
      let i = (current_in w s t c).0 in
      let z : t.commit ≡ 0 = no_commit w inv t i o in
      replaced_numbers w t x log exports inv i z (adds w t x log exports inv o z (inv.shown t i) move) (exports_kept w t x log exports inv (inv.shown t i) move)
  numbers_step w v inv (Settles s t st c o d o' d') = replaced_numbers w t (record t { standing = st }) w.log w.exports inv i none (record { number = refl; mode = refl; shown = inv.shown t i; log_is = inl (refl, none, λ e. absurd (true≢false (sym e ∙ d'))) }) inv.exports
    where
      i : In t w.txns
      i = (current_in w s t c).0

      none : t.commit ≡ 0
      none = of_kind (inv.kind t i)
        where
          of_kind : In t w.log ⊎ (t.commit ≡ 0) × (is_done t.standing ≡ true → is_read_write t.mode ≡ false) → t.commit ≡ 0
          of_kind (inl j) = absurd (true≢false (sym (inv.logged t j).1 ∙ d))
          of_kind (inr k) = k.0
  numbers_step w v inv (Dooms cs) = record {
    unique = λ t u i j e. unique t u i j e;
    bounded = λ t i. rw length-doomed (bounded t (In-doomed w.place cs t w.txns i));
    above = λ t i. above t (In-doomed w.place cs t w.txns i);
    in_order = inv.in_order;
    logged = λ t i. let l = inv.logged t i in (done-In w.place cs t w.txns l.1 l.0, l.1, l.2, l.3);
    kind = λ t i. kind t (In-doomed w.place cs t w.txns i);
    shown = λ t i. shown t (In-doomed w.place cs t w.txns i);
    exports = inv.exports;
  }
    where
      Was : Txn A → Type 0
      Was u = (t : Txn A) × In t w.txns × Fate w.place t u

      number : (t u : Txn A) → Fate w.place t u → u.number ≡ t.number
      number t u Spared = refl
      number t u (Over c o) = refl

      snapshot : (t u : Txn A) → Fate w.place t u → u.snapshot ≡ t.snapshot
      snapshot t u Spared = refl
      snapshot t u (Over c o) = refl

      by_origin : (t u : Txn A) → (x : Txn A) × In x w.txns × (t ≡ doomed_by w.place cs x) → (y : Txn A) × In y w.txns × (u ≡ doomed_by w.place cs y) → t.number ≡ u.number → t ≡ u
      by_origin t u x y e =
          let n : x.0.number ≡ y.0.number = sym (ap (λ (z : Txn A). z.number) x.2 ∙ number-doomed w.place cs x.0) ∙ e ∙ ap (λ (z : Txn A). z.number) y.2 ∙ number-doomed w.place cs y.0 in
          x.2 ∙ ap (doomed_by w.place cs) (inv.unique x.0 y.0 x.1 y.1 n) ∙ sym y.2

      unique : (t u : Txn A) → In t (map (doomed_by w.place cs) w.txns) → In u (map (doomed_by w.place cs) w.txns) → t.number ≡ u.number → t ≡ u
      unique t u i j e = by_origin t u (In-made w.place cs t w.txns i) (In-made w.place cs u w.txns j) e

      bounded : (u : Txn A) → Was u → u.number ≤ w.base.transactions + length w.txns
      bounded u x = let b = inv.bounded x.0 x.1 in let e = number x.0 u x.2 in omega arith

      above : (u : Txn A) → Was u → w.base.transactions < u.number
      above u x = let b = inv.above x.0 x.1 in let e = number x.0 u x.2 in omega arith

      shown : (u : Txn A) → Was u → Shown w u.snapshot
      shown u x = subst (λ n. Shown w n) (sym (snapshot x.0 u x.2)) (inv.shown x.0 x.1)

      kind : (u : Txn A) → Was u → In u w.log ⊎ (u.commit ≡ 0) × (is_done u.standing ≡ true → is_read_write u.mode ≡ false)
      kind u x = go x.0 u x.2 (inv.kind x.0 x.1)
        where
          go : (t u : Txn A) → Fate w.place t u → In t w.log ⊎ (t.commit ≡ 0) × (is_done t.standing ≡ true → is_read_write t.mode ≡ false) → In u w.log ⊎ (u.commit ≡ 0) × (is_done u.standing ≡ true → is_read_write u.mode ≡ false)
          go t u Spared k = k
          go t u (Over c o) (inl j) = absurd (not_done t.standing o (inv.logged t j).1)
          go t u (Over c o) (inr k) = inr (k.0, λ d. absurd (true≢false (sym d)))
