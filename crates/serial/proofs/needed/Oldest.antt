-- The oldest snapshot never falls: an identifier that lives stands for its exporter's snapshot.
use Rattle.std.proofs.Common.{◌≡◌, refl, sym, ap, subst, ◌∙◌, ℕ, ◌+◌, ◌≤◌, Bool, true, false, true≢false, cond, ◌&&◌, ◌⊎◌, inl, inr, List, [], ◌∷◌, length, eqb, length-append, arith}
use Rattle.std.proofs.lemmas.Bool.{eqb-true, eqb-false, and_parts}
use Rattle.value.specs.declared.refusal.Mode.{Mode}
use Rattle.value.specs.declared.refusal.Mode.TheVariants.{ReadWrite, ReadOnly, Deferrable}
use Rattle.value.proofs.IsolationLemmas.{In}
use Rattle.value.proofs.SerialLemmas.{In-append}
use Rattle.value.proofs.Basics.{any-In, find-In}
use Rattle.value.proofs.Lists.{clash}
use Rattle.history.specs.Transactions.{Done, Txn, World, Exported_snapshot, commits, is_living, is_open, is_read_only, is_read_write, must_wait}
use Rattle.history.specs.Events.{begun, ended}
use Rattle.history.specs.Needed.{is_safe_reader}
use Rattle.serial.proofs.legal.Legal.{Move, Stays, Fails, Aborts, Commits, Runs, Asks, Polls, Learns, Imports, Step, Nothing, Begins, Moves, Settles, Dooms, current_in}
use Rattle.serial.proofs.structures.Dooms.{Fate, Spared, Over, In-doomed, length-doomed}
use Rattle.serial.proofs.legal.Faithful.{waits}
use Rattle.serial.proofs.legal.Numbers.{In-replaced, adds, length-replaced, polled_keeps, no_commit}
use Rattle.serial.proofs.order.SerialTheorem.{IsGood}
use Rattle.serial.proofs.legal.EndsSeen.{EndsSeen}
use Rattle.serial.proofs.safe.Readers.{safe_stands, stands_safe, sure, writer_unsafe}
use Rattle.serial.proofs.safe.Stamps.{Stands, stamp_step}

reads : (m : Mode) → is_read_only m ≡ true → is_read_write m ≡ false
reads ReadWrite e = absurd (true≢false (sym e))
reads ReadOnly e = refl
reads Deferrable e = refl

module _ {A : Type 0} where
  -- y stands for t's snapshot
  abbrev pub Stood : Exported_snapshot → Txn A → Type 0
  Stood y t = (t.snapshot ≡ y.snapshot) × (t.known ≡ y.known) × (t.asked ≡ true) × (must_wait t ≡ false) × (t.taken ≡ y.taken)

  pub record Exporting (w : World A) : Type 0 where
    pub begun_before : (y : Exported_snapshot) → In y w.exports → y.exporter ≤ w.base.transactions + length w.txns
    pub stood : (y : Exported_snapshot) → In y w.exports → (t : Txn A) → In t w.txns → t.number ≡ y.exporter → is_open t.standing ≡ true → Stood y t

  stood_moved : (w : World A) (t x : Txn A) (log : List (Txn A)) (exports : List Exported_snapshot) (y : Exported_snapshot) → Move w t x log exports → Stood y t → Stood y x
  stood_moved w t x log exports y Stays f = f
  stood_moved w t x log exports y Fails f = f
  stood_moved w t x log exports y Aborts f = f
  stood_moved w t x log exports y (Commits e) f = by_mode (is_read_write t.mode)
    where
      by_mode : (b : Bool) → Stood y (cond b (record (ended w Done t) { commit = commits w + 1 }) (ended w Done t))
      by_mode true = f
      by_mode false = f
  stood_moved w t x log exports y (Runs q fits a b d) f = (f.0, f.1, refl, f.3, f.4)
  stood_moved w t x log exports y (Asks a) f = (f.0, f.1, refl, f.3, f.4)
  stood_moved w t x log exports y (Polls d k) f = clash (must_wait t) (waits t d k) f.3
  stood_moved w t x log exports y (Learns d k e) f = clash (must_wait t) (waits t d k) f.3
  stood_moved w t x log exports y (Imports n z d a e) f = clash t.asked f.2 a

  moved_exports : (w : World A) (t x : Txn A) (log : List (Txn A)) (exports : List Exported_snapshot) (y : Exported_snapshot) → Move w t x log exports → In y exports → In y w.exports ⊎ (y.exporter ≡ t.number) × Stood y x
  moved_exports w t x log exports y (Asks a) j = elim (In-append (λ (_ : Exported_snapshot). (0, 0, 0)) y w.exports _ j) [ inl k ↦ inl k | inr k ↦ elim k [ inl p ↦ inr (ap (λ (v : Exported_snapshot). v.exporter) p, (sym (ap (λ (v : Exported_snapshot). v.snapshot) p), sym (ap (λ (v : Exported_snapshot). v.known) p), refl, a, sym (ap (λ (v : Exported_snapshot). v.taken) p))) | inr z ↦ absurd z ] ]
  moved_exports w t x log exports y Stays j = inl j
  moved_exports w t x log exports y Fails j = inl j
  moved_exports w t x log exports y Aborts j = inl j
  moved_exports w t x log exports y (Commits c) j = inl j
  moved_exports w t x log exports y (Runs q fits a b d) j = inl j
  moved_exports w t x log exports y (Polls a b) j = inl j
  moved_exports w t x log exports y (Learns a b d) j = inl j
  moved_exports w t x log exports y (Imports n v a b e) j = inl j

  pub exporting_step : (w v : World A) → IsGood w → Exporting w → Step w v → Exporting v
  exporting_step w v g h Nothing = record { begun_before = h.begun_before; stood = h.stood }
  exporting_step w v g h (Begins s m) = record {
    begun_before = λ y j. rw length-append (let b = h.begun_before y j in omega arith);
    stood = λ y j t k e o. go y j t (In-append (λ (_ : Txn A). (0, 0, 0)) t w.txns (begun w s m ∷ []) k) e o;
  }
    where
      go : (y : Exported_snapshot) → In y w.exports → (t : Txn A) → In t w.txns ⊎ ((t ≡ begun w s m) ⊎ ⊥) → t.number ≡ y.exporter → is_open t.standing ≡ true → Stood y t
      go y j t (inl k) e o = h.stood y j t k e o
      go y j t (inr (inl p)) e o = absurd (let b = h.begun_before y j in let q : t.number ≡ w.base.transactions + length w.txns + 1 = ap (λ (z : Txn A). z.number) p in omega arith)
      go y j t (inr (inr z)) e o = absurd z
  exporting_step w v g h (Moves s t x log exports c o move) = record {
    begun_before = λ y j. rw length-replaced (before y (moved_exports w t x log exports y move j));
    stood = λ y j u k e q. stand y u (moved_exports w t x log exports y move j) (In-replaced u x w.txns k) e q;
  }
    where
      i : In t w.txns
      i = (current_in w s t c).0

      z : t.commit ≡ 0
      z = no_commit w g.numbered t i o

      same : x.number ≡ t.number
      same = (adds w t x log exports g.numbered o z (g.numbered.shown t i) move).number

      before : (y : Exported_snapshot) → In y w.exports ⊎ (y.exporter ≡ t.number) × Stood y x → y.exporter ≤ w.base.transactions + length w.txns
      before y (inl j) = h.begun_before y j
      before y (inr p) = omega (arith, p.0, g.numbered.bounded t i)

      stand : (y : Exported_snapshot) (u : Txn A) → In y w.exports ⊎ (y.exporter ≡ t.number) × Stood y x → (u ≡ x) ⊎ In u w.txns × (eqb u.number x.number ≡ false) → u.number ≡ y.exporter → is_open u.standing ≡ true → Stood y u
      stand y u (inl j) (inl p) e q = subst (Stood y) (sym p) (stood_moved w t x log exports y move (h.stood y j t i (sym (ap (λ (a : Txn A). a.number) p ∙ same) ∙ e) o))
      stand y u (inl j) (inr k) e q = h.stood y j u k.0 e q
      stand y u (inr f) (inl p) e q = subst (Stood y) (sym p) f.1
      stand y u (inr f) (inr k) e q = absurd (eqb-false u.number x.number k.1 (e ∙ f.0 ∙ sym same))
  exporting_step w v g h (Settles s t st c o d o' d') = record {
    begun_before = λ y j. rw length-replaced (h.begun_before y j);
    stood = λ y j u k e q. go y j u (In-replaced u (record t { standing = st }) w.txns k) e q;
  }
    where
      go : (y : Exported_snapshot) → In y w.exports → (u : Txn A) → (u ≡ record t { standing = st }) ⊎ In u w.txns × (eqb u.number t.number ≡ false) → u.number ≡ y.exporter → is_open u.standing ≡ true → Stood y u
      go y j u (inl p) e q = clash (is_open u.standing) q (ap (λ (a : Txn A). is_open a.standing) p ∙ o')
      go y j u (inr k) e q = h.stood y j u k.0 e q
  exporting_step w v g h (Dooms cs) = record {
    begun_before = λ y j. rw length-doomed (h.begun_before y j);
    stood = λ y j u k e q. let f = In-doomed w.place cs u w.txns k in go y j f.0 u f.1 f.2 e q;
  }
    where
      go : (y : Exported_snapshot) → In y w.exports → (t u : Txn A) → In t w.txns → Fate w.place t u → u.number ≡ y.exporter → is_open u.standing ≡ true → Stood y u
      go y j t u i Spared e q = h.stood y j t i e q
      go y j t u i (Over c o) e q = absurd (true≢false (sym q))

  -- ---- the oldest snapshot

  abbrev pub Oldest : ℕ → List (Txn A) → Type 0
  Oldest n ts = (t : Txn A) → In t ts → is_open t.standing ≡ true → is_safe_reader ts t ≡ false → n ≤ t.snapshot

  -- x has its snapshot from t, which may write if x may
  pub record HasFrom (t x : Txn A) : Type 0 where
    pub snapshot : x.snapshot ≡ t.snapshot
    pub taken : x.taken ≡ t.taken
    pub writes : is_read_write x.mode ≡ true → is_read_write t.mode ≡ true

  -- its snapshot isn't below n, or one that was open has it
  abbrev Origin : World A → ℕ → Txn A → Type 0
  Origin w n x = (n ≤ x.snapshot) ⊎ ((t : Txn A) × In t w.txns × (is_open t.standing ≡ true) × HasFrom t x)

  has_own : (t : Txn A) → HasFrom t t
  has_own t = record { snapshot = refl; taken = refl; writes = λ e. e }

  moved_origin : (w : World A) (n : ℕ) (t x : Txn A) (log : List (Txn A)) (exports : List Exported_snapshot) → Exporting w → n ≤ commits w → In t w.txns → is_open t.standing ≡ true
      → Move w t x log exports → Origin w n x
  moved_origin w n t x log exports h most i o Stays = inr (t, i, o, has_own t)
  moved_origin w n t x log exports h most i o Fails = inr (t, i, o, record { snapshot = refl; taken = refl; writes = λ e. e })
  moved_origin w n t x log exports h most i o Aborts = inr (t, i, o, record { snapshot = refl; taken = refl; writes = λ e. e })
  moved_origin w n t x log exports h most i o (Commits e) = by_mode (is_read_write t.mode)
    where
      by_mode : (b : Bool) → Origin w n (cond b (record (ended w Done t) { commit = commits w + 1 }) (ended w Done t))
      by_mode true = inr (t, i, o, record { snapshot = refl; taken = refl; writes = λ e. e })
      by_mode false = inr (t, i, o, record { snapshot = refl; taken = refl; writes = λ e. e })
  moved_origin w n t x log exports h most i o (Runs q fits a b d) = inr (t, i, o, record { snapshot = refl; taken = refl; writes = λ e. e })
  moved_origin w n t x log exports h most i o (Asks a) = inr (t, i, o, record { snapshot = refl; taken = refl; writes = λ e. e })
  moved_origin w n t x log exports h most i o (Polls d k) = polled_keeps (λ y. Origin w n y) w t (inr (t, i, o, has_own t)) (inl most)
  moved_origin w n t x log exports h most i o (Learns d k e) = polled_keeps (λ y. Origin w n (record y { known = true })) w t
      (inr (t, i, o, record { snapshot = refl; taken = refl; writes = λ e. e })) (inl most)
  moved_origin w n t x log exports h most i o (Imports j y d a e) = from (any-In (λ u. eqb u.number y.exporter && is_open u.standing) w.txns living)
    where
      f : In y w.exports × ((eqb y.id j && is_living w.txns y) ≡ true)
      f = find-In _ w.exports y e

      living : is_living w.txns y ≡ true
      living = (and_parts (eqb y.id j) (is_living w.txns y) f.1).1

      from : (u : Txn A) × In u w.txns × ((eqb u.number y.exporter && is_open u.standing) ≡ true) → Origin w n x
      from u =
          let q = and_parts (eqb u.0.number y.exporter) (is_open u.0.standing) u.2 in
          let p = h.stood y f.0 u.0 u.1 (eqb-true u.0.number y.exporter q.0) q.1 in
          inr (u.0, u.1, q.1, record { snapshot = sym p.0; taken = sym p.4; writes = λ r. clash (is_read_write t.mode) r (reads t.mode d) })

  origin_step : (w v : World A) (n : ℕ) → Exporting w → n ≤ commits w → Step w v → (x : Txn A) → In x v.txns → is_open x.standing ≡ true → Origin w n x
  origin_step w v n h most Nothing x k o = inr (x, k, o, has_own x)
  origin_step w v n h most (Begins s m) x k o = go (In-append (λ (_ : Txn A). (0, 0, 0)) x w.txns (begun w s m ∷ []) k)
    where
      go : In x w.txns ⊎ ((x ≡ begun w s m) ⊎ ⊥) → Origin w n x
      go (inl j) = inr (x, j, o, has_own x)
      go (inr (inl p)) = inl (let e : x.snapshot ≡ commits w = ap (λ (y : Txn A). y.snapshot) p in omega (arith, e, most))
      go (inr (inr z)) = absurd z
  origin_step w v n h most (Moves s t x log exports c o move) u k q = go (In-replaced u x w.txns k)
    where
      go : (u ≡ x) ⊎ In u w.txns × (eqb u.number x.number ≡ false) → Origin w n u
      go (inl p) = subst (Origin w n) (sym p) (moved_origin w n t x log exports h most (current_in w s t c).0 o move)
      go (inr j) = inr (u, j.0, q, has_own u)
  origin_step w v n h most (Settles s t st c o d o' d') u k q = go (In-replaced u (record t { standing = st }) w.txns k)
    where
      go : (u ≡ record t { standing = st }) ⊎ In u w.txns × (eqb u.number t.number ≡ false) → Origin w n u
      go (inl p) = clash (is_open u.standing) q (ap (λ (a : Txn A). is_open a.standing) p ∙ o')
      go (inr j) = inr (u, j.0, q, has_own u)
  origin_step w v n h most (Dooms cs) u k q = let f = In-doomed w.place cs u w.txns k in go f.0 u f.1 f.2 q
    where
      go : (t u : Txn A) → In t w.txns → Fate w.place t u → is_open u.standing ≡ true → Origin w n u
      go t u i Spared q = inr (t, i, q, has_own t)
      go t u i (Over c o) q = absurd (true≢false (sym q))

  pub oldest_step : (w v : World A) (n : ℕ) → IsGood w → IsGood v → EndsSeen v → Exporting w → Oldest n w.txns → n ≤ commits w → Step w v → Oldest n v.txns
  oldest_step w v n g good ends h old most s x k o unsafe = go (origin_step w v n h most s x k o)
    where
      go : Origin w n x → n ≤ x.snapshot
      go (inl l) = l
      go (inr f) = by_test (is_safe_reader w.txns f.0) refl (is_read_write x.mode) refl
        where
          by_test : (b : Bool) → is_safe_reader w.txns f.0 ≡ b → (r : Bool) → is_read_write x.mode ≡ r → n ≤ x.snapshot
          by_test false e r p = let l = old f.0 f.1 f.2 e in omega (arith, l, f.3.snapshot)
          by_test true e true p = clash (is_safe_reader w.txns f.0) e (writer_unsafe w.txns f.0 (f.3.writes p))
          by_test true e false p = clash (is_safe_reader v.txns x) (stands_safe v good x k ends p later) unsafe
            where
              was : Stands v (sure f.0)
              was = stamp_step w v (sure f.0) (safe_stands w g f.0 f.1 e) s

              later : Stands v (sure x)
              later = subst (λ m. Stands v (record { snapshot = m; taken = x.taken; known = true })) (sym f.3.snapshot)
                  (subst (λ m. Stands v (record { snapshot = f.0.snapshot; taken = m; known = true })) (sym f.3.taken) was)
