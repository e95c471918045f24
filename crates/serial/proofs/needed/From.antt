-- No legal event makes the oldest snapshot fall.
use Rattle.std.proofs.Common.{◌≡◌, refl, sym, ap, subst, ◌∙◌, ℕ, ◌+◌, ◌≤◌, true, false, ◌⊎◌, inl, inr, List, [], ◌∷◌, ◌++◌, length, arith}
use Rattle.value.proofs.IsolationLemmas.{In}
use Rattle.history.specs.declared.event.Action.{Action}
use Rattle.history.specs.declared.event.Record.{Record}
use Rattle.history.specs.Opening.{Opening}
use Rattle.history.specs.Transactions.{Txn, World, commits, is_done, is_open, is_read_write}
use Rattle.history.specs.Events.{follows, run, start, world_of}
use Rattle.history.specs.Answer.{Allowed, IsAnswered, Legal, reply_in}
use Rattle.history.specs.Needed.{IsOldest, is_safe_reader}
use Rattle.serial.proofs.legal.Legal.{Step, Nothing, Begins, Moves, Settles, Dooms, Steps, One, Two, current_in, legal_steps}
use Rattle.serial.proofs.legal.Numbers.{adds, no_commit}
use Rattle.serial.proofs.safe.Prefix.{all_by, by_all}
use Rattle.serial.proofs.order.SerialTheorem.{IsGood, good_start, good_step, good_steps, good_world, sound_proper}
use Rattle.serial.proofs.legal.EndsSeen.{EndsSeen, ends_seen, ends_step}
use Rattle.serial.proofs.needed.Oldest.{Exporting, Oldest, exporting_step, oldest_step}

module _ {A : Type 0} where
  pub commits_step : (w v : World A) → IsGood w → Step w v → commits w ≤ commits v
  commits_step w v g Nothing = omega arith
  commits_step w v g (Begins s m) = omega arith
  commits_step w v g (Moves s t x log exports c o move) = go (adds w t x log exports g.numbered o (no_commit w g.numbered t i o) (g.numbered.shown t i) move).log_is
    where
      i : In t w.txns
      i = (current_in w s t c).0

      go : (log ≡ w.log) × (x.commit ≡ 0) × (is_done x.standing ≡ true → is_read_write x.mode ≡ false)
          ⊎ (log ≡ w.log ++ x ∷ []) × (x.commit ≡ commits w + 1) × (is_done x.standing ≡ true) × (is_read_write x.mode ≡ true) → w.base.commits + length w.log ≤ w.base.commits + length log
      go (inl p) = let e : length log ≡ length w.log = ap length p.0 in omega (arith, e)
      go (inr p) = let e : length log ≡ length w.log + 1 = ap length p.0 ∙ pushed w.log in omega (arith, e)
        where
          pushed : (ts : List (Txn A)) → length (ts ++ x ∷ []) ≡ length ts + 1
          pushed [] = refl
          pushed (y ∷ ts) = omega (arith, pushed ts)
  commits_step w v g (Settles s t st c o d o' d') = omega arith
  commits_step w v g (Dooms cs) = omega arith

  exporting_steps : (w v : World A) → IsGood w → Exporting w → Steps w v → Exporting v
  exporting_steps w v g h (One v' s) = exporting_step w v g h s
  exporting_steps w v g h (Two u v' s r) = exporting_step u v (good_step w u g s) (exporting_step w u g h s) r

  oldest_steps : (w v : World A) (n : ℕ) → IsGood w → EndsSeen w → Exporting w → Oldest n w.txns → n ≤ commits w → Steps w v → Oldest n v.txns
  oldest_steps w v n g ends h old most (One v' s) = oldest_step w v n g (good_step w v g s) (ends_step w v g ends s) h old most s
  oldest_steps w v n g ends h old most (Two u v' s r) =
      oldest_step u v n middle (good_step u v middle r) (ends_step u v middle seen r) (exporting_step w u g h s) (oldest_step w u n g middle seen h old most s) (let m = commits_step w u g s in omega (arith, m, most)) r
    where
      middle : IsGood u
      middle = good_step w u g s

      seen : EndsSeen u
      seen = ends_step w u g ends s

  exporting_run : (w : World A) (es : List (Record A)) → IsGood w → Exporting w → IsAnswered w es → Exporting (run w es)
  exporting_run w [] g h l = h
  exporting_run w (e ∷ es) g h l = exporting_run (follows w e) es next.0 next.1 l.2
    where
      now : World A
      now = follows w (record { session = e.session; action = e.action; reply = reply_in w e.session e.action })

      steps : Steps w now
      steps = legal_steps w e.session e.action l.0

      next : IsGood (follows w e) × Exporting (follows w e)
      next = subst (λ r. IsGood (follows w (record { session = e.session; action = e.action; reply = r })) × Exporting (follows w (record { session = e.session; action = e.action; reply = r }))) (sym l.1)
          (good_steps w now g steps, exporting_steps w now g h steps)

  pub exporting : (o : Opening A) (es : List (Record A)) → Legal o es → Exporting (world_of o es)
  unfolding Legal
  exporting o es l = exporting_run (start o) es (good_start o (sound_proper o.catalog o.tables l.0)) (record { begun_before = λ y i. absurd i; stood = λ y i. absurd i }) l.1

  pub oldest_later : (o : Opening A) (es : List (Record A)) → Legal o es → (s : ℕ) (a : Action A) (n : ℕ) → Allowed (world_of o es).catalog a → IsOldest (world_of o es) n → n ≤ commits (world_of o es)
      → IsOldest (follows (world_of o es) (record { session = s; action = a; reply = reply_in (world_of o es) s a })) n
  oldest_later o es l s a n fits old most = all_by (λ (t : Txn A). is_open t.standing ≡ true → is_safe_reader v.txns t ≡ false → n ≤ t.snapshot) v.txns
      (oldest_steps w v n (good_world o es l) (ends_seen o es l) (exporting o es l) (λ t i q r. by_all (λ u. is_open u.standing ≡ true → is_safe_reader w.txns u ≡ false → n ≤ u.snapshot) w.txns t old i q r) most (legal_steps w s a fits))
    where
      w : World A
      w = world_of o es

      v : World A
      v = follows w (record { session = s; action = a; reply = reply_in w s a })
