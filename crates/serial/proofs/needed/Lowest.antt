-- A transaction that its session has still to end reads a snapshot that one read before the last event, or that of all commits; and an identifier that doesn't live never does again.
use Rattle.std.proofs.Common.{◌≡◌, sym, ap, subst, ◌∙◌, ℕ, ◌+◌, ◌≤◌, Bool, true, false, true≢false, cond, ◌&&◌, ◌⊎◌, inl, inr, List, [], ◌∷◌, ◌++◌, length, eqb, length-append, arith}
use Rattle.std.proofs.lemmas.Bool.{eqb-true, eq-eqb, and_parts, and_from}
use Rattle.value.proofs.IsolationLemmas.{In}
use Rattle.value.proofs.SerialLemmas.{In-append}
use Rattle.value.proofs.Basics.{any-In, In-any, find-In}
use Rattle.value.proofs.Lists.{clash}
use Rattle.history.specs.declared.event.Action.{Action}
use Rattle.history.specs.declared.event.Record.{Record}
use Rattle.history.specs.Opening.{Opening}
use Rattle.history.specs.Transactions.{Done, Txn, World, Exported_snapshot, commits, is_living, is_open, is_owed, is_read_write}
use Rattle.history.specs.Events.{begun, ended, follows, world_of}
use Rattle.history.specs.Answer.{Allowed, Legal, reply_in}
use Rattle.serial.proofs.legal.Legal.{Move, Stays, Fails, Aborts, Commits, Runs, Asks, Polls, Learns, Imports, Step, Nothing, Begins, Moves, Settles, Dooms, Steps, One, Two, current_in, legal_steps}
use Rattle.serial.proofs.structures.Dooms.{Fate, Spared, Over, In-doomed, length-doomed}
use Rattle.serial.proofs.legal.Numbers.{In-replaced, adds, length-replaced, polled_keeps, no_commit}
use Rattle.serial.proofs.order.SerialTheorem.{IsGood, good_step, good_world}
use Rattle.serial.proofs.needed.Cause.{open_owed}
use Rattle.serial.proofs.needed.Oldest.{Exporting, exporting_step}
use Rattle.serial.proofs.needed.From.{commits_step, exporting}

module _ {A : Type 0} where
  -- The snapshot of each transaction that its session has still to end passes.
  abbrev pub AllRead : (ℕ → Type 0) → List (Txn A) → Type 0
  AllRead P ts = (t : Txn A) → In t ts → is_owed t.standing ≡ true → P t.snapshot

  module _ (P : ℕ → Type 0) where
    moved_read : (w : World A) (t x : Txn A) (log : List (Txn A)) (exports : List Exported_snapshot) → Exporting w → AllRead P w.txns → P (commits w) → In t w.txns → is_open t.standing ≡ true
        → Move w t x log exports → P x.snapshot
    moved_read w t x log exports h read now i o Stays = read t i (open_owed t.standing o)
    moved_read w t x log exports h read now i o Fails = read t i (open_owed t.standing o)
    moved_read w t x log exports h read now i o Aborts = read t i (open_owed t.standing o)
    moved_read w t x log exports h read now i o (Commits e) = by_mode (is_read_write t.mode)
      where
        by_mode : (b : Bool) → P (cond b (record (ended w Done t) { commit = commits w + 1 }) (ended w Done t)).snapshot
        by_mode true = read t i (open_owed t.standing o)
        by_mode false = read t i (open_owed t.standing o)
    moved_read w t x log exports h read now i o (Runs q fits a b d) = read t i (open_owed t.standing o)
    moved_read w t x log exports h read now i o (Asks a) = read t i (open_owed t.standing o)
    moved_read w t x log exports h read now i o (Polls d k) = polled_keeps (λ y. P y.snapshot) w t (read t i (open_owed t.standing o)) now
    moved_read w t x log exports h read now i o (Learns d k e) = polled_keeps (λ y. P y.snapshot) w t (read t i (open_owed t.standing o)) now
    moved_read w t x log exports h read now i o (Imports j y d a e) = from (any-In (λ u. eqb u.number y.exporter && is_open u.standing) w.txns living)
      where
        f : In y w.exports × ((eqb y.id j && is_living w.txns y) ≡ true)
        f = find-In _ w.exports y e

        living : is_living w.txns y ≡ true
        living = (and_parts (eqb y.id j) (is_living w.txns y) f.1).1

        from : (u : Txn A) × In u w.txns × ((eqb u.number y.exporter && is_open u.standing) ≡ true) → P y.snapshot
        from u =
            let q = and_parts (eqb u.0.number y.exporter) (is_open u.0.standing) u.2 in
            let p = h.stood y f.0 u.0 u.1 (eqb-true u.0.number y.exporter q.0) q.1 in
            subst P p.0 (read u.0 u.1 (open_owed u.0.standing q.1))

    read_step : (w v : World A) → Exporting w → AllRead P w.txns → P (commits w) → Step w v → AllRead P v.txns
    read_step w v h read now Nothing = read
    read_step w v h read now (Begins s m) = λ t k o. go t (In-append (λ (_ : Txn A). (0, 0, 0)) t w.txns (begun w s m ∷ []) k) o
      where
        go : (t : Txn A) → In t w.txns ⊎ ((t ≡ begun w s m) ⊎ ⊥) → is_owed t.standing ≡ true → P t.snapshot
        go t (inl k) o = read t k o
        go t (inr (inl p)) o = subst P (sym (ap (λ (y : Txn A). y.snapshot) p)) now
        go t (inr (inr z)) o = absurd z
    read_step w v h read now (Moves s t x log exports c o move) = λ u k q. go u (In-replaced u x w.txns k) q
      where
        go : (u : Txn A) → (u ≡ x) ⊎ In u w.txns × (eqb u.number x.number ≡ false) → is_owed u.standing ≡ true → P u.snapshot
        go u (inl p) q = subst P (sym (ap (λ (y : Txn A). y.snapshot) p)) (moved_read w t x log exports h read now (current_in w s t c).0 o move)
        go u (inr k) q = read u k.0 q
    read_step w v h read now (Settles s t st c o d o' d') = λ u k q. go u (In-replaced u (record t { standing = st }) w.txns k) q
      where
        go : (u : Txn A) → (u ≡ record t { standing = st }) ⊎ In u w.txns × (eqb u.number t.number ≡ false) → is_owed u.standing ≡ true → P u.snapshot
        go u (inl p) q =
            let i = current_in w s t c in
            subst P (sym (ap (λ (y : Txn A). y.snapshot) p)) (read t i.0 (and_parts (eqb t.session s) (is_owed t.standing) i.1).1)
        go u (inr k) q = read u k.0 q
    read_step w v h read now (Dooms cs) = λ u k q. let f = In-doomed w.place cs u w.txns k in go f.0 u f.1 f.2 q
      where
        go : (t u : Txn A) → In t w.txns → Fate w.place t u → is_owed u.standing ≡ true → P u.snapshot
        go t u i Spared q = read t i q
        go t u i (Over c o) q = read t i (open_owed t.standing o)

    read_steps : (w v : World A) → IsGood w → Exporting w → AllRead P w.txns → ((n : ℕ) → commits w ≤ n → P n) → Steps w v → AllRead P v.txns
    read_steps w v g h read new (One v' s) = read_step w v h read (new (commits w) (omega arith)) s
    read_steps w v g h read new (Two u v' s r) = read_step u v (exporting_step w u g h s) (read_step w u h read (new (commits w) (omega arith)) s) (new (commits u) (commits_step w u g s)) r

    -- What the snapshots of unfinished transactions pass, and the number of all commits and later ones, they pass after one more event.
    pub read_later : (o : Opening A) (es : List (Record A)) → Legal o es → (s : ℕ) (a : Action A) → Allowed (world_of o es).catalog a → AllRead P (world_of o es).txns → ((n : ℕ) → commits (world_of o es) ≤ n → P n)
        → AllRead P (follows (world_of o es) (record { session = s; action = a; reply = reply_in (world_of o es) s a })).txns
    read_later o es l s a fits read new = read_steps w (follows w (record { session = s; action = a; reply = reply_in w s a })) (good_world o es l) (exporting o es l) read new (legal_steps w s a fits)
      where
        w : World A
        w = world_of o es

  commits_steps : (w v : World A) → IsGood w → Steps w v → commits w ≤ commits v
  commits_steps w v g (One v' s) = commits_step w v g s
  commits_steps w v g (Two u v' s r) = let m = commits_step w u g s in let n = commits_step u v (good_step w u g s) r in omega (arith, m, n)

  pub commits_later : (o : Opening A) (es : List (Record A)) → Legal o es → (s : ℕ) (a : Action A) → Allowed (world_of o es).catalog a
      → commits (world_of o es) ≤ commits (follows (world_of o es) (record { session = s; action = a; reply = reply_in (world_of o es) s a }))
  commits_later o es l s a fits = commits_steps w (follows w (record { session = s; action = a; reply = reply_in w s a })) (good_world o es l) (legal_steps w s a fits)
    where
      w : World A
      w = world_of o es

  -- ---- identifiers

  -- its exporter has begun
  abbrev pub HasBegun : World A → Exported_snapshot → Type 0
  HasBegun w y = y.exporter ≤ w.base.transactions + length w.txns

  -- it lives only if it lived before
  abbrev Lived : List (Txn A) → List (Txn A) → Exported_snapshot → Type 0
  Lived ts us y = is_living us y ≡ true → is_living ts y ≡ true

  lives : (ts : List (Txn A)) (y : Exported_snapshot) (t : Txn A) → In t ts → t.number ≡ y.exporter → is_open t.standing ≡ true → is_living ts y ≡ true
  lives ts y t i e o = In-any (λ u. eqb u.number y.exporter && is_open u.standing) ts t i (and_from _ _ (eq-eqb t.number y.exporter e) o)

  by_one : (ts us : List (Txn A)) (y : Exported_snapshot) → ((u : Txn A) → In u us → u.number ≡ y.exporter → is_open u.standing ≡ true → is_living ts y ≡ true) → Lived ts us y
  by_one ts us y f e = go (any-In (λ u. eqb u.number y.exporter && is_open u.standing) us e)
    where
      go : (u : Txn A) × In u us × ((eqb u.number y.exporter && is_open u.standing) ≡ true) → is_living ts y ≡ true
      go u = let q = and_parts (eqb u.0.number y.exporter) (is_open u.0.standing) u.2 in f u.0 u.1 (eqb-true u.0.number y.exporter q.0) q.1

  lived_step : (w v : World A) (y : Exported_snapshot) → IsGood w → HasBegun w y → Step w v → HasBegun v y × Lived w.txns v.txns y
  lived_step w v y g h Nothing = (h, λ e. e)
  lived_step w v y g h (Begins s m) = (rw length-append (omega arith), by_one w.txns (w.txns ++ begun w s m ∷ []) y (λ u k. go u (In-append (λ (_ : Txn A). (0, 0, 0)) u w.txns (begun w s m ∷ []) k)))
    where
      go : (u : Txn A) → In u w.txns ⊎ ((u ≡ begun w s m) ⊎ ⊥) → u.number ≡ y.exporter → is_open u.standing ≡ true → is_living w.txns y ≡ true
      go u (inl k) e o = lives w.txns y u k e o
      go u (inr (inl p)) e o = absurd (let q : u.number ≡ w.base.transactions + length w.txns + 1 = ap (λ (z : Txn A). z.number) p in omega (arith, q, e, h))
      go u (inr (inr z)) e o = absurd z
  lived_step w v y g h (Moves s t x log exports c o move) = (rw length-replaced h, by_one w.txns _ y (λ u k. go u (In-replaced u x w.txns k)))
    where
      i : In t w.txns
      i = (current_in w s t c).0

      z : t.commit ≡ 0
      z = no_commit w g.numbered t i o

      same : x.number ≡ t.number
      same = (adds w t x log exports g.numbered o z (g.numbered.shown t i) move).number

      go : (u : Txn A) → (u ≡ x) ⊎ In u w.txns × (eqb u.number x.number ≡ false) → u.number ≡ y.exporter → is_open u.standing ≡ true → is_living w.txns y ≡ true
      go u (inl p) e q = lives w.txns y t i (sym same ∙ sym (ap (λ (b : Txn A). b.number) p) ∙ e) o
      go u (inr k) e q = lives w.txns y u k.0 e q
  lived_step w v y g h (Settles s t st c o d o' d') = (rw length-replaced h, by_one w.txns _ y (λ u k. go u (In-replaced u (record t { standing = st }) w.txns k)))
    where
      go : (u : Txn A) → (u ≡ record t { standing = st }) ⊎ In u w.txns × (eqb u.number t.number ≡ false) → u.number ≡ y.exporter → is_open u.standing ≡ true → is_living w.txns y ≡ true
      go u (inl p) e q = clash (is_open u.standing) q (ap (λ (b : Txn A). is_open b.standing) p ∙ o')
      go u (inr k) e q = lives w.txns y u k.0 e q
  lived_step w v y g h (Dooms cs) = (rw length-doomed h, by_one w.txns _ y (λ u k. let f = In-doomed w.place cs u w.txns k in go f.0 u f.1 f.2))
    where
      go : (t u : Txn A) → In t w.txns → Fate w.place t u → u.number ≡ y.exporter → is_open u.standing ≡ true → is_living w.txns y ≡ true
      go t u i Spared e q = lives w.txns y t i e q
      go t u i (Over c o) e q = absurd (true≢false (sym q))

  lived_steps : (w v : World A) (y : Exported_snapshot) → IsGood w → HasBegun w y → Steps w v → HasBegun v y × Lived w.txns v.txns y
  lived_steps w v y g h (One v' s) = lived_step w v y g h s
  lived_steps w v y g h (Two u v' s r) = let p = lived_step w u y g h s in let q = lived_step u v y (good_step w u g s) p.0 r in (q.0, λ e. p.1 (q.1 e))

  -- Where the exporter has begun, an identifier that lives after one more event lived before it.
  pub lived_before : (o : Opening A) (es : List (Record A)) → Legal o es → (s : ℕ) (a : Action A) (y : Exported_snapshot) → Allowed (world_of o es).catalog a → HasBegun (world_of o es) y
      → HasBegun (follows (world_of o es) (record { session = s; action = a; reply = reply_in (world_of o es) s a })) y
      × (is_living (follows (world_of o es) (record { session = s; action = a; reply = reply_in (world_of o es) s a })).txns y ≡ true → is_living (world_of o es).txns y ≡ true)
  lived_before o es l s a y fits h = lived_steps w (follows w (record { session = s; action = a; reply = reply_in w s a })) y (good_world o es l) h (legal_steps w s a fits)
    where
      w : World A
      w = world_of o es

  -- Each exporter has begun.
  pub exporters_begun : (o : Opening A) (es : List (Record A)) → Legal o es → (y : Exported_snapshot) → In y (world_of o es).exports → HasBegun (world_of o es) y
  exporters_begun o es l y i = (exporting o es l).begun_before y i
