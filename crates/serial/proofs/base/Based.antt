-- What lies above the base of a history: its events, its transactions and the exporters of its identifiers.
use Rattle.std.proofs.Common.{◌≡◌, sym, subst, ◌+◌, ◌<◌, ◌≤◌, Bool, true, false, cond, ◌⊎◌, inl, inr, List, [], ◌∷◌, length, eqb, arith, length-append}
use Rattle.value.proofs.IsolationLemmas.{In}
use Rattle.value.proofs.SerialLemmas.{In-append}
use Rattle.value.proofs.Basics.{find-In}
use Rattle.history.specs.Opening.{Opening}
use Rattle.history.specs.declared.event.Record.{Record}
use Rattle.history.specs.Transactions.{Done, Txn, World, Exported_snapshot, commits, is_read_write}
use Rattle.history.specs.Events.{ended, begun, start, follows, run}
use Rattle.history.specs.Answer.{reply_in, IsAnswered}
use Rattle.serial.proofs.legal.Legal.{Move, Stays, Fails, Aborts, Commits, Runs, Asks, Polls, Learns, Imports, Step, Nothing, Begins, Moves, Settles, Dooms, Steps, One, Two, current_in, legal_steps}
use Rattle.serial.proofs.structures.Dooms.{Fate, Spared, Over, In-doomed, length-doomed}
use Rattle.serial.proofs.legal.Numbers.{IsNumbered, In-replaced, length-replaced, polled_keeps}
use Rattle.serial.proofs.legal.InTime.{keeps}
use Rattle.serial.proofs.order.SerialTheorem.{IsGood, good_step, good_steps}

module _ {A : Type 0} where
  pub record IsBased (w : World A) : Type 0 where
    pub placed : w.base.events ≤ w.place
    pub since : (t : Txn A) → In t w.txns → (w.base.events < t.begin) × (w.base.events < t.taken)
    pub exporters : (y : Exported_snapshot) → In y w.exports → (w.base.transactions < y.exporter) × (y.exporter ≤ w.base.transactions + length w.txns) × (w.base.events < y.taken)

  moved_taken : (w : World A) (t x : Txn A) (log : List (Txn A)) (exports : List Exported_snapshot) → IsBased w → w.base.events < t.taken → Move w t x log exports → w.base.events < x.taken
  moved_taken w t x log exports b h Stays = h
  moved_taken w t x log exports b h Fails = h
  moved_taken w t x log exports b h Aborts = h
  moved_taken w t x log exports b h (Commits c) = go (is_read_write t.mode)
    where
      go : (r : Bool) → w.base.events < (cond r (record (ended w Done t) { commit = commits w + 1 }) (ended w Done t)).taken
      go true = h
      go false = h
  moved_taken w t x log exports b h (Runs q fits m wr f) = h
  moved_taken w t x log exports b h (Asks m) = h
  moved_taken w t x log exports b h (Polls d k) = polled_keeps (λ y. w.base.events < y.taken) w t h (let p = b.placed in omega arith)
  moved_taken w t x log exports b h (Learns d k p) = polled_keeps (λ y. w.base.events < y.taken) w t h (let q = b.placed in omega arith)
  moved_taken w t x log exports b h (Imports i y r a e) = (b.exporters y (find-In _ w.exports y e).0).2

  moved_exporters : (w : World A) (t x : Txn A) (log : List (Txn A)) (exports : List Exported_snapshot) → IsNumbered w → IsBased w → In t w.txns → Move w t x log exports
      → (y : Exported_snapshot) → In y exports → (w.base.transactions < y.exporter) × (y.exporter ≤ w.base.transactions + length w.txns) × (w.base.events < y.taken)
  moved_exporters w t x log exports num b i (Asks m) y j = elim (In-append (λ (_ : Exported_snapshot). (0, 0, 0)) y w.exports _ j) [
    | inl k ↦ b.exporters y k
    | inr k ↦ elim k [
      | inl p ↦ subst (λ (v : Exported_snapshot). (w.base.transactions < v.exporter) × (v.exporter ≤ w.base.transactions + length w.txns) × (w.base.events < v.taken)) (sym p) (num.above t i, num.bounded t i, (b.since t i).1)
      | inr z ↦ absurd z
    ]
  ]
  moved_exporters w t x log exports num b i Stays y j = b.exporters y j
  moved_exporters w t x log exports num b i Fails y j = b.exporters y j
  moved_exporters w t x log exports num b i Aborts y j = b.exporters y j
  moved_exporters w t x log exports num b i (Commits c) y j = b.exporters y j
  moved_exporters w t x log exports num b i (Runs q fits m wr f) y j = b.exporters y j
  moved_exporters w t x log exports num b i (Polls d k) y j = b.exporters y j
  moved_exporters w t x log exports num b i (Learns d k p) y j = b.exporters y j
  moved_exporters w t x log exports num b i (Imports n v r a e) y j = b.exporters y j

  based_step : (w v : World A) → IsNumbered w → IsBased w → Step w v → IsBased v
  based_step w v num b Nothing = record { placed = let p = b.placed in omega arith; since = b.since; exporters = b.exporters }
  based_step w v num b (Begins s m) = record {
    placed = let p = b.placed in omega arith;
    since = λ t i. since t (In-append (λ (_ : Txn A). (0, 0, 0)) t w.txns (begun w s m ∷ []) i);
    exporters = λ y i. let k = b.exporters y i in (k.0, rw length-append (let l = k.1 in omega arith), k.2);
  }
    where
      since : (t : Txn A) → In t w.txns ⊎ ((t ≡ begun w s m) ⊎ ⊥) → (w.base.events < t.begin) × (w.base.events < t.taken)
      since t (inl i) = b.since t i
      since t (inr (inl p)) = subst (λ (y : Txn A). (w.base.events < y.begin) × (w.base.events < y.taken)) (sym p) (let q = b.placed in (omega arith, omega arith))
      since t (inr (inr z)) = absurd z
  based_step w v num b (Moves s t x log exports c o move) = record {
    placed = let p = b.placed in omega arith;
    since = λ u i. since u (In-replaced u x w.txns i);
    exporters = λ y i. let k = moved_exporters w t x log exports num b t_in move y i in (k.0, rw length-replaced k.1, k.2);
  }
    where
      t_in : In t w.txns
      t_in = (current_in w s t c).0

      since : (u : Txn A) → (u ≡ x) ⊎ In u w.txns × (eqb u.number x.number ≡ false) → (w.base.events < u.begin) × (w.base.events < u.taken)
      since u (inl p) = subst (λ (y : Txn A). (w.base.events < y.begin) × (w.base.events < y.taken)) (sym p) (rw (keeps w t x log exports o move).begin (b.since t t_in).0, moved_taken w t x log exports b (b.since t t_in).1 move)
      since u (inr j) = b.since u j.0
  based_step w v num b (Settles s t st c o d o' d') = record {
    placed = let p = b.placed in omega arith;
    since = λ u i. since u (In-replaced u (record t { standing = st }) w.txns i);
    exporters = λ y i. let k = b.exporters y i in (k.0, rw length-replaced k.1, k.2);
  }
    where
      since : (u : Txn A) → (u ≡ record t { standing = st }) ⊎ In u w.txns × (eqb u.number t.number ≡ false) → (w.base.events < u.begin) × (w.base.events < u.taken)
      since u (inl p) = subst (λ (y : Txn A). (w.base.events < y.begin) × (w.base.events < y.taken)) (sym p) (b.since t (current_in w s t c).0)
      since u (inr j) = b.since u j.0
  based_step w v num b (Dooms cs) = record {
    placed = b.placed;
    since = λ u i. let x = In-doomed w.place cs u w.txns i in since x.0 u x.2 (b.since x.0 x.1);
    exporters = λ y i. let k = b.exporters y i in (k.0, rw length-doomed k.1, k.2);
  }
    where
      since : (t u : Txn A) → Fate w.place t u → (w.base.events < t.begin) × (w.base.events < t.taken) → (w.base.events < u.begin) × (w.base.events < u.taken)
      since t u Spared h = h
      since t u (Over c o) h = h

  pub based_steps : (w v : World A) → IsGood w → IsBased w → Steps w v → IsBased v
  based_steps w v g b (One v' s) = based_step w v g.numbered b s
  based_steps w v g b (Two u v' s r) = based_step u v (good_step w u g s).numbered (based_step w u g.numbered b s) r

  pub based_start : (o : Opening A) → IsBased (start o)
  based_start o = record { placed = omega arith; since = λ t i. absurd i; exporters = λ y i. absurd i }

  -- what holds after one more answered event
  pub next_good : (w : World A) (e : Record A) → IsGood w → IsBased w → IsAnswered w (e ∷ []) → IsGood (follows w e) × IsBased (follows w e)
  next_good w e g b l = subst (λ r. IsGood (follows w (record { session = e.session; action = e.action; reply = r })) × IsBased (follows w (record { session = e.session; action = e.action; reply = r }))) (sym l.1)
      (good_steps w (follows w (record { session = e.session; action = e.action; reply = reply_in w e.session e.action })) g steps, based_steps w (follows w (record { session = e.session; action = e.action; reply = reply_in w e.session e.action })) g b steps)
    where
      steps : Steps w (follows w (record { session = e.session; action = e.action; reply = reply_in w e.session e.action }))
      steps = legal_steps w e.session e.action l.0

  pub based_run : (w : World A) (es : List (Record A)) → IsGood w → IsBased w → IsAnswered w es → IsBased (run w es)
  based_run w [] g b l = b
  based_run w (e ∷ es) g b l = let n = next_good w e g b (l.0, l.1, tt) in based_run (follows w e) es n.0 n.1 l.2
