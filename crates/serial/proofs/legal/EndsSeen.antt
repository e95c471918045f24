-- A commit that a snapshot shows ended before the snapshot was taken.
use Rattle.std.proofs.Common.{◌≡◌, sym, ap, subst, ◌∙◌, ℕ, ◌+◌, ◌≤◌, Bool, true, false, cond, ◌⊎◌, inl, inr, List, [], ◌∷◌, ◌++◌, eqb, arith}
use Rattle.value.proofs.IsolationLemmas.{In}
use Rattle.value.proofs.SerialLemmas.{In-append}
use Rattle.value.proofs.Basics.{find-In}
use Rattle.history.specs.declared.event.Record.{Record}
use Rattle.history.specs.Opening.{Opening}
use Rattle.history.specs.Transactions.{Done, Txn, World, Exported_snapshot, commits, is_done, is_read_write}
use Rattle.history.specs.Events.{begun, ended, follows, run, start, world_of}
use Rattle.history.specs.Answer.{IsAnswered, Legal, reply_in}
use Rattle.serial.proofs.legal.Legal.{Move, Stays, Fails, Aborts, Commits, Runs, Asks, Polls, Learns, Imports, Step, Nothing, Begins, Moves, Settles, Dooms, Steps, One, Two, current_in, legal_steps}
use Rattle.serial.proofs.structures.Dooms.{Fate, Spared, Over, In-doomed}
use Rattle.serial.proofs.legal.Numbers.{Adds, In-replaced, adds, polled_keeps, no_commit}
use Rattle.serial.proofs.order.SerialTheorem.{IsGood, good_start, good_step, good_steps, sound_proper}

module _ {A : Type 0} where
  -- what is in the log up to commit n ended by place p
  abbrev pub Ended : List (Txn A) → ℕ → ℕ → Type 0
  Ended log n p = (u : Txn A) → In u log → u.commit ≤ n → u.end ≤ p

  pub record EndsSeen (w : World A) : Type 0 where
    pub txns : (t : Txn A) → In t w.txns → Ended w.log t.snapshot t.taken
    pub exports : (y : Exported_snapshot) → In y w.exports → Ended w.log y.snapshot y.taken

  -- A snapshot after a move is that before it, one of now, or an identifier's.
  moved_point : (Q : ℕ → ℕ → Type 0) (w : World A) (t x : Txn A) (log : List (Txn A)) (exports : List Exported_snapshot) → Q t.snapshot t.taken → Q (commits w) (w.place + 1)
      → ((y : Exported_snapshot) → In y w.exports → Q y.snapshot y.taken) → Move w t x log exports → Q x.snapshot x.taken
  moved_point Q w t x log exports q now ex Stays = q
  moved_point Q w t x log exports q now ex Fails = q
  moved_point Q w t x log exports q now ex Aborts = q
  moved_point Q w t x log exports q now ex (Commits e) = by_mode (is_read_write t.mode)
    where
      y : Bool → Txn A
      y b = cond b (record (ended w Done t) { commit = commits w + 1 }) (ended w Done t)

      by_mode : (b : Bool) → Q (y b).snapshot (y b).taken
      by_mode true = q
      by_mode false = q
  moved_point Q w t x log exports q now ex (Runs s fits a b d) = q
  moved_point Q w t x log exports q now ex (Asks a) = q
  moved_point Q w t x log exports q now ex (Polls d k) = polled_keeps (λ y. Q y.snapshot y.taken) w t q now
  moved_point Q w t x log exports q now ex (Learns d k e) = polled_keeps (λ y. Q y.snapshot y.taken) w t q now
  moved_point Q w t x log exports q now ex (Imports n y d a e) = ex y (find-In _ w.exports y e).0

  moved_points : (Q : ℕ → ℕ → Type 0) (w : World A) (t x : Txn A) (log : List (Txn A)) (exports : List Exported_snapshot) → Q t.snapshot t.taken
      → ((y : Exported_snapshot) → In y w.exports → Q y.snapshot y.taken) → Move w t x log exports → (y : Exported_snapshot) → In y exports → Q y.snapshot y.taken
  moved_points Q w t x log exports q ex (Asks a) y j = elim (In-append (λ (_ : Exported_snapshot). (0, 0, 0)) y w.exports _ j) [ inl k ↦ ex y k | inr k ↦ elim k [ inl p ↦ subst (λ (v : Exported_snapshot). Q v.snapshot v.taken) (sym p) q | inr z ↦ absurd z ] ]
  moved_points Q w t x log exports q ex Stays y j = ex y j
  moved_points Q w t x log exports q ex Fails y j = ex y j
  moved_points Q w t x log exports q ex Aborts y j = ex y j
  moved_points Q w t x log exports q ex (Commits c) y j = ex y j
  moved_points Q w t x log exports q ex (Runs s fits a b d) y j = ex y j
  moved_points Q w t x log exports q ex (Polls a b) y j = ex y j
  moved_points Q w t x log exports q ex (Learns a b d) y j = ex y j
  moved_points Q w t x log exports q ex (Imports n v a b e) y j = ex y j

  pub ends_step : (w v : World A) → IsGood w → EndsSeen w → Step w v → EndsSeen v
  ends_step w v g h Nothing = record { txns = h.txns; exports = h.exports }
  ends_step w v g h (Begins s m) = record { txns = λ t i. go t (In-append (λ (_ : Txn A). (0, 0, 0)) t w.txns (begun w s m ∷ []) i); exports = h.exports }
    where
      go : (t : Txn A) → In t w.txns ⊎ ((t ≡ begun w s m) ⊎ ⊥) → Ended w.log t.snapshot t.taken
      go t (inl j) = h.txns t j
      go t (inr (inl q)) = λ u k l. let e : t.taken ≡ w.place + 1 = ap (λ (y : Txn A). y.taken) q in omega (arith, e, g.time.ended_by u (g.numbered.logged u k).0)
      go t (inr (inr z)) = absurd z
  ends_step w v g h (Moves s t x log exports c o move) = record {
    txns = λ u j. of (In-replaced u x w.txns j);
    exports = λ y j. moved_points Q w t x log exports was old_exports move y j;
  }
    where
      i : In t w.txns
      i = (current_in w s t c).0

      z : t.commit ≡ 0
      z = no_commit w g.numbered t i o

      a : Adds w t x log
      a = adds w t x log exports g.numbered o z (g.numbered.shown t i) move

      Q : ℕ → ℕ → Type 0
      Q n p = Ended log n p

      in_log : (u : Txn A) → In u log → In u w.log ⊎ (u.commit ≡ commits w + 1)
      in_log u j = go a.log_is
        where
          go : (log ≡ w.log) × (x.commit ≡ 0) × (is_done x.standing ≡ true → is_read_write x.mode ≡ false)
              ⊎ (log ≡ w.log ++ x ∷ []) × (x.commit ≡ commits w + 1) × (is_done x.standing ≡ true) × (is_read_write x.mode ≡ true) → In u w.log ⊎ (u.commit ≡ commits w + 1)
          go (inl p) = inl (subst (In u) p.0 j)
          go (inr p) = elim (In-append (λ (_ : Txn A). (0, 0, 0)) u w.log (x ∷ []) (subst (In u) p.0 j)) [ inl k ↦ inl k | inr k ↦ elim k [ inl q ↦ inr (ap (λ (y : Txn A). y.commit) q ∙ p.1) | inr y ↦ absurd y ] ]

      point : (n p : ℕ) → n ≤ commits w → Ended w.log n p → Q n p
      point n p m e u j l = go (in_log u j)
        where
          go : In u w.log ⊎ (u.commit ≡ commits w + 1) → u.end ≤ p
          go (inl k) = e u k l
          go (inr q) = absurd (omega (arith, q, l, m))

      was : Q t.snapshot t.taken
      was = point t.snapshot t.taken (g.numbered.shown t i).1 (h.txns t i)

      old_exports : (y : Exported_snapshot) → In y w.exports → Q y.snapshot y.taken
      old_exports y j = point y.snapshot y.taken (g.numbered.exports y j).1 (h.exports y j)

      of : {u : Txn A} → (u ≡ x) ⊎ In u w.txns × (eqb u.number x.number ≡ false) → Q u.snapshot u.taken
      of {u} (inl q) = subst (λ (y : Txn A). Q y.snapshot y.taken) (sym q)
          (moved_point Q w t x log exports was (point (commits w) (w.place + 1) (omega arith) (λ y k l. omega (arith, g.time.ended_by y (g.numbered.logged y k).0))) old_exports move)
      of {u} (inr j) = point u.snapshot u.taken (g.numbered.shown u j.0).1 (h.txns u j.0)
  ends_step w v g h (Settles s t st c o d o' d') = record { txns = λ u j. go u (In-replaced u (record t { standing = st }) w.txns j); exports = h.exports }
    where
      go : (u : Txn A) → (u ≡ record t { standing = st }) ⊎ In u w.txns × (eqb u.number t.number ≡ false) → Ended w.log u.snapshot u.taken
      go u (inl q) = subst (λ (y : Txn A). Ended w.log y.snapshot y.taken) (sym q) (h.txns t (current_in w s t c).0)
      go u (inr j) = h.txns u j.0
  ends_step w v g h (Dooms cs) = record { txns = λ u j. let x = In-doomed w.place cs u w.txns j in go x.0 u x.2 (h.txns x.0 x.1); exports = h.exports }
    where
      go : (t u : Txn A) → Fate w.place t u → Ended w.log t.snapshot t.taken → Ended w.log u.snapshot u.taken
      go t u Spared e = e
      go t u (Over c o) e = e

  ends_steps : (w v : World A) → IsGood w → EndsSeen w → Steps w v → EndsSeen v
  ends_steps w v g h (One v' s) = ends_step w v g h s
  ends_steps w v g h (Two u v' s r) = ends_step u v (good_step w u g s) (ends_step w u g h s) r

  ends_run : (w : World A) (es : List (Record A)) → IsGood w → EndsSeen w → IsAnswered w es → EndsSeen (run w es)
  ends_run w [] g h l = h
  ends_run w (e ∷ es) g h l = ends_run (follows w e) es next.0 next.1 l.2
    where
      now : World A
      now = follows w (record { session = e.session; action = e.action; reply = reply_in w e.session e.action })

      steps : Steps w now
      steps = legal_steps w e.session e.action l.0

      next : IsGood (follows w e) × EndsSeen (follows w e)
      next = subst (λ r. IsGood (follows w (record { session = e.session; action = e.action; reply = r })) × EndsSeen (follows w (record { session = e.session; action = e.action; reply = r }))) (sym l.1)
          (good_steps w now g steps, ends_steps w now g h steps)

  pub ends_seen : (o : Opening A) (es : List (Record A)) → Legal o es → EndsSeen (world_of o es)
  unfolding Legal
  ends_seen o es l = ends_run (start o) es (good_start o (sound_proper o.catalog o.tables l.0)) (record { txns = λ t i. absurd i; exports = λ y i. absurd i }) l.1
