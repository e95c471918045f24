-- What doesn't matter any more never does again; and what is kept alone shows what matters.
use Rattle.std.proofs.Common.{◌≡◌, refl, sym, ap, ◌∙◌, ℕ, ◌+◌, ◌<◌, ◌≤◌, Bool, true, false, true≢false, ◌&&◌, ◌||◌, ◌⊎◌, inl, inr, List, [], ◌∷◌, ◌++◌, length, map, Option, Some, None, eqb, nat_lt, arith}
use Rattle.std.proofs.lemmas.Bool.{lt-ltb, and_parts, and_from, or_cases, or_left, or_right}
use Rattle.std.specs.List.{filter, list_any, AllByRecursion}
use Rattle.value.specs.declared.refusal.Cause.{Cause}
use Rattle.value.proofs.IsolationLemmas.{In}
use Rattle.value.proofs.SerialLemmas.{In-append}
use Rattle.value.proofs.Basics.{any-In, In-any}
use Rattle.value.proofs.Lists.{clash, filter-kept, filter_alike}
use Rattle.history.specs.declared.event.Action.{Action}
use Rattle.history.specs.declared.event.Action.TheVariants.{Begin}
use Rattle.history.specs.declared.event.Record.{Record}
use Rattle.history.specs.Opening.{Opening}
use Rattle.history.specs.Transactions.{Txn, World, Exported_snapshot, current, edge, is_open, is_done, is_owed, is_read_write}
use Rattle.history.specs.Events.{begun, causes, doomed_by, followed, follows, numbered, replaced, turned_from, world_of}
use Rattle.history.specs.Answer.{Allowed, Legal, reply_in, reply_of}
use Rattle.history.specs.Needed.{is_recent, is_late_reader, is_met, is_needed, is_safe_reader, IsOldest, Keeps, kept_of}
use Rattle.serial.proofs.legal.Legal.{Move, Stays, Fails, Aborts, Commits, Runs, Asks, Polls, Learns, Imports, Step, Nothing, Begins, Moves, Settles, Dooms, before, current_in, first_step}
use Rattle.serial.proofs.structures.Dooms.{Fate, Spared, Over, In-doomed}
use Rattle.serial.proofs.legal.Numbers.{In-replaced, adds, not_done, polled_keeps, no_commit}
use Rattle.serial.proofs.safe.Prefix.{all_by, by_all}
use Rattle.serial.proofs.order.SerialTheorem.{IsGood, edge_parts, good_world}
use Rattle.serial.proofs.needed.Cause.{c, in_log, open_owed}
use Rattle.serial.proofs.needed.Questions.{any-kept}
use Rattle.serial.proofs.safe.Readers.{writer_unsafe}

module _ {A : Type 0} where
  abbrev pub NeededKept : ℕ → (ℕ → Bool) → List (Txn A) → Type 0
  NeededKept n keep ts = (u : Txn A) → In u ts → is_needed n ts u ≡ true → keep u.number ≡ true

  -- Each of vs is one of ts, or kept; and each recent one is one of ts, or meets none but those that are kept.
  carried : (n : ℕ) (keep : ℕ → Bool) (ts vs : List (Txn A)) → NeededKept n keep ts → ((u : Txn A) → In u vs → In u ts ⊎ (keep u.number ≡ true))
      → ((y : Txn A) → In y vs → is_recent n y ≡ true → In y ts ⊎ ((u : Txn A) → In u ts → edge y u ≡ true → keep u.number ≡ true)) → NeededKept n keep vs
  carried n keep ts vs h origin recent u j e = go (origin u j)
    where
      by_met : In u ts → (is_done u.standing ≡ true) × (list_any (λ v. is_recent n v && edge v u) vs ≡ true) → keep u.number ≡ true
      by_met i p = side (any-In (λ v. is_recent n v && edge v u) vs p.1)
        where
          side : (y : Txn A) × In y vs × ((is_recent n y && edge y u) ≡ true) → keep u.number ≡ true
          side y = last (recent y.0 y.1 q.0)
            where
              q : (is_recent n y.0 ≡ true) × (edge y.0 u ≡ true)
              q = and_parts (is_recent n y.0) (edge y.0 u) y.2

              last : In y.0 ts ⊎ ((z : Txn A) → In z ts → edge y.0 z ≡ true → keep z.number ≡ true) → keep u.number ≡ true
              last (inl k) = h u i (or_right (is_owed u.standing || is_recent n u || is_late_reader n u) _ (and_from _ _ p.0 (In-any (λ v. is_recent n v && edge v u) ts y.0 k y.2)))
              last (inr f) = f u i q.1

      by_need : In u ts → ((is_owed u.standing || is_recent n u || is_late_reader n u) ≡ true) ⊎ (is_met n vs u ≡ true) → keep u.number ≡ true
      by_need i (inl p) = h u i (or_left _ _ p)
      by_need i (inr p) = by_met i (and_parts (is_done u.standing) (list_any (λ v. is_recent n v && edge v u) vs) p)

      go : In u ts ⊎ (keep u.number ≡ true) → keep u.number ≡ true
      go (inr k) = k
      go (inl i) = by_need i (or_cases (is_owed u.standing || is_recent n u || is_late_reader n u) (is_met n vs u) e)

  owed_too : (n : ℕ) (keep : ℕ → Bool) (ts : List (Txn A)) → NeededKept n keep ts → (u : Txn A) → In u ts → is_owed u.standing ≡ true → keep u.number ≡ true
  owed_too n keep ts h u i o = h u i (or_left _ _ (or_left _ _ (or_left _ _ o)))

  -- ---- one step

  doomed_later : (n : ℕ) (keep : ℕ → Bool) (place : ℕ) (cs : List Cause) (ts : List (Txn A)) → NeededKept n keep ts → NeededKept n keep (map (doomed_by place cs) ts)
  doomed_later n keep place cs ts h = carried n keep ts (map (doomed_by place cs) ts) h (λ u j. origin u (In-doomed place cs u ts j)) (λ y j r. inl (recent y (In-doomed place cs y ts j) r))
    where
      origin : (u : Txn A) → (t : Txn A) × In t ts × Fate place t u → In u ts ⊎ (keep u.number ≡ true)
      origin u f = go f.0 u f.1 f.2
        where
          go : (t u : Txn A) → In t ts → Fate place t u → In u ts ⊎ (keep u.number ≡ true)
          go t u i Spared = inl i
          go t u i (Over c o) = inr (owed_too n keep ts h t i (open_owed t.standing o))

      recent : (y : Txn A) → (t : Txn A) × In t ts × Fate place t y → is_recent n y ≡ true → In y ts
      recent y f r = go f.0 y f.1 f.2 r
        where
          go : (t u : Txn A) → In t ts → Fate place t u → is_recent n u ≡ true → In u ts
          go t u i Spared r = i
          go t u i (Over c o) r = absurd (true≢false (sym r))

  -- what a move leaves committed
  pub moved_done : (w : World A) (t x : Txn A) (log : List (Txn A)) (exports : List Exported_snapshot) → is_open t.standing ≡ true → Move w t x log exports → is_done x.standing ≡ true → x ≡ numbered w t
  moved_done w t x log exports o (Commits e) d = refl
  moved_done w t x log exports o Stays d = absurd (not_done t.standing o d)
  moved_done w t x log exports o Fails d = absurd (true≢false (sym d))
  moved_done w t x log exports o Aborts d = absurd (true≢false (sym d))
  moved_done w t x log exports o (Runs q fits a b k) d = absurd (not_done t.standing o d)
  moved_done w t x log exports o (Asks a) d = absurd (not_done t.standing o d)
  moved_done w t x log exports o (Polls a b) d = absurd (polled_keeps (λ y. is_done y.standing ≡ true → ⊥) w t (not_done t.standing o) (not_done t.standing o) d)
  moved_done w t x log exports o (Learns a b k) d = absurd (polled_keeps (λ y. is_done y.standing ≡ true → ⊥) w t (not_done t.standing o) (not_done t.standing o) d)
  moved_done w t x log exports o (Imports i y a b e) d = absurd (not_done t.standing o d)

  needed_step : (w v : World A) (n : ℕ) (keep : ℕ → Bool) → IsGood w → IsOldest w n → keep (w.base.transactions + length w.txns + 1) ≡ true → NeededKept n keep w.txns → Step w v → NeededKept n keep v.txns
  needed_step w v n keep g old new h Nothing = h
  needed_step w v n keep g old new h (Begins s m) = carried n keep w.txns (w.txns ++ begun w s m ∷ []) h
      (λ u j. origin u (In-append (λ (_ : Txn A). (0, 0, 0)) u w.txns (begun w s m ∷ []) j)) (λ y j r. inl (recent y (In-append (λ (_ : Txn A). (0, 0, 0)) y w.txns (begun w s m ∷ []) j) r))
    where
      origin : (u : Txn A) → In u w.txns ⊎ ((u ≡ begun w s m) ⊎ ⊥) → In u w.txns ⊎ (keep u.number ≡ true)
      origin u (inl i) = inl i
      origin u (inr (inl p)) = inr (ap (λ (y : Txn A). keep y.number) p ∙ new)
      origin u (inr (inr z)) = absurd z

      recent : (y : Txn A) → In y w.txns ⊎ ((y ≡ begun w s m) ⊎ ⊥) → is_recent n y ≡ true → In y w.txns
      recent y (inl i) r = i
      recent y (inr (inl p)) r = absurd (true≢false (sym r ∙ ap (λ (z : Txn A). is_recent n z) p))
      recent y (inr (inr z)) r = absurd z
  needed_step w v n keep g old new h (Moves s t x log exports e o move) = carried n keep w.txns (replaced x w.txns) h (λ u j. origin u (In-replaced u x w.txns j)) (λ y j r. recent y (In-replaced y x w.txns j) r)
    where
      i : In t w.txns
      i = (current_in w s t e).0

      z : t.commit ≡ 0
      z = no_commit w g.numbered t i o

      same : x.number ≡ t.number
      same = (adds w t x log exports g.numbered o z (g.numbered.shown t i) move).number

      origin : (u : Txn A) → (u ≡ x) ⊎ In u w.txns × (eqb u.number x.number ≡ false) → In u w.txns ⊎ (keep u.number ≡ true)
      origin u (inl p) = inr (ap (λ (y : Txn A). keep y.number) p ∙ ap keep same ∙ owed_too n keep w.txns h t i (open_owed t.standing o))
      origin u (inr j) = inl j.0

      recent : (y : Txn A) → (y ≡ x) ⊎ In y w.txns × (eqb y.number x.number ≡ false) → is_recent n y ≡ true → In y w.txns ⊎ ((u : Txn A) → In u w.txns → edge y u ≡ true → keep u.number ≡ true)
      recent y (inr j) r = inl j.0
      recent y (inl p) r = inr (λ u j q. met u j q)
        where
          r1 : ((is_done y.standing && is_read_write y.mode) ≡ true) × (nat_lt n y.commit ≡ true)
          r1 = and_parts (is_done y.standing && is_read_write y.mode) (nat_lt n y.commit) r

          r0 : (is_done y.standing ≡ true) × (is_read_write y.mode ≡ true)
          r0 = and_parts (is_done y.standing) (is_read_write y.mode) r1.0

          y_is : y ≡ numbered w t
          y_is = p ∙ moved_done w t x log exports o move (sym (ap (λ (k : Txn A). is_done k.standing) p) ∙ r0.0)

          writes : is_read_write t.mode ≡ true
          writes = sym (ap (λ (k : Txn A). is_read_write k.mode) y_is ∙ ap is_read_write (c w g t i o).mode) ∙ r0.1

          from : n ≤ t.snapshot
          from = by_all (λ k. is_open k.standing ≡ true → is_safe_reader w.txns k ≡ false → n ≤ k.snapshot) w.txns t old i o (writer_unsafe w.txns t writes)

          snapshot : y.snapshot ≡ t.snapshot
          snapshot = ap (λ (k : Txn A). k.snapshot) y_is ∙ (c w g t i o).snapshot

          met : (u : Txn A) → In u w.txns → edge y u ≡ true → keep u.number ≡ true
          met u j q = h u j (or_left _ _ (or_left _ _ (or_right (is_owed u.standing) _ (and_from _ _ (and_from _ _ l.1 l.2) (lt-ltb n u.commit above)))))
            where
              above : n < u.commit
              above = omega (arith, (edge_parts y u q).1, snapshot, from)

              l : In u w.txns × (is_done u.standing ≡ true) × (is_read_write u.mode ≡ true) × (u.snapshot < u.commit)
              l = g.numbered.logged u (in_log w g t i o u j (omega (arith, above)))
  needed_step w v n keep g old new h (Settles s t st e o d o' d') = carried n keep w.txns (replaced (record t { standing = st }) w.txns) h
      (λ u j. origin u (In-replaced u (record t { standing = st }) w.txns j)) (λ y j r. inl (recent y (In-replaced y (record t { standing = st }) w.txns j) r))
    where
      origin : (u : Txn A) → (u ≡ record t { standing = st }) ⊎ In u w.txns × (eqb u.number t.number ≡ false) → In u w.txns ⊎ (keep u.number ≡ true)
      origin u (inl p) = inr (ap (λ (y : Txn A). keep y.number) p ∙ owed_too n keep w.txns h t (current_in w s t e).0 (and_parts (eqb t.session s) (is_owed t.standing) (current_in w s t e).1).1)
      origin u (inr j) = inl j.0

      recent : (y : Txn A) → (y ≡ record t { standing = st }) ⊎ In y w.txns × (eqb y.number t.number ≡ false) → is_recent n y ≡ true → In y w.txns
      recent y (inr j) r = j.0
      recent y (inl p) r = clash (is_done y.standing) (and_parts (is_done y.standing) (is_read_write y.mode) (and_parts (is_done y.standing && is_read_write y.mode) (nat_lt n y.commit) r).0).0 (ap (λ (k : Txn A). is_done k.standing) p ∙ d')
  needed_step w v n keep g old new h (Dooms cs) = doomed_later n keep w.place cs w.txns h

  -- ---- one event

  needed_followed : (w : World A) (s : ℕ) (a : Action A) (n : ℕ) (keep : ℕ → Bool) → IsGood w → IsOldest w n → keep (w.base.transactions + length w.txns + 1) ≡ true → NeededKept n keep w.txns → Allowed w.catalog a
      → (o : Option (Txn A)) → current w s ≡ o → NeededKept n keep (followed w (record { session = s; action = a; reply = reply_of w o a }) o).txns
  needed_followed w s (Begin m) n keep g old new h fits None e = needed_step w _ n keep g old new h (Begins s m)
  needed_followed w s _ n keep g old new h fits None e = h
  needed_followed w s a n keep g old new h fits (Some t) e =
      doomed_later n keep (w.place + 1) (causes w a (reply_of w (Some t) a) t) (replaced (turned_from t.standing w a (reply_of w (Some t) a) t) w.txns)
      (needed_step w (before w a (reply_of w (Some t) a) t (turned_from t.standing w a (reply_of w (Some t) a) t)) n keep g old new h (first_step w s a t fits e t.standing refl))

  -- ---- from what is kept alone

  pub shrunk : (w : World A) (n : ℕ) (keep : ℕ → Bool) → Keeps w n keep → filter (is_needed n (kept_of keep w.txns)) (kept_of keep w.txns) ≡ filter (is_needed n w.txns) w.txns
  shrunk w n keep h =
      filter_alike (is_needed n (kept_of keep w.txns)) (is_needed n w.txns) (kept_of keep w.txns) (λ u j. ap (λ b. is_owed u.standing || is_recent n u || is_late_reader n u || (is_done u.standing && b)) (met u))
      ∙ filter-kept (is_needed n w.txns) (λ u. keep u.number) w.txns all
    where
      all : (u : Txn A) → In u w.txns → is_needed n w.txns u ≡ true → keep u.number ≡ true
      all u j e = by_all (λ v. is_needed n w.txns v ≡ true → keep v.number ≡ true) w.txns u h.needed j e

      met : (u : Txn A) → list_any (λ v. is_recent n v && edge v u) (kept_of keep w.txns) ≡ list_any (λ v. is_recent n v && edge v u) w.txns
      met u = any-kept (λ v. is_recent n v && edge v u) (λ v. keep v.number) w.txns
          (λ v j e. all v j (or_left _ _ (or_left _ _ (or_right (is_owed v.standing) _ (and_parts (is_recent n v) (edge v u) e).0))))

  -- ---- the laws

  pub needed_later : (o : Opening A) (es : List (Record A)) → Legal o es → (s : ℕ) (a : Action A) (n : ℕ) (keep : ℕ → Bool) → Allowed (world_of o es).catalog a → Keeps (world_of o es) n keep
      → keep ((world_of o es).base.transactions + length (world_of o es).txns + 1) ≡ true
      → AllByRecursion (λ u. is_needed n (follows (world_of o es) (record { session = s; action = a; reply = reply_in (world_of o es) s a })).txns u ≡ true → keep u.number ≡ true)
      (follows (world_of o es) (record { session = s; action = a; reply = reply_in (world_of o es) s a })).txns
  needed_later o es l s a n keep fits h new = all_by _ (follows w (record { session = s; action = a; reply = reply_in w s a })).txns
      (needed_followed w s a n keep (good_world o es l) h.oldest new (λ u j e. by_all (λ v. is_needed n w.txns v ≡ true → keep v.number ≡ true) w.txns u h.needed j e) fits (current w s) refl)
    where
      w : World A
      w = world_of o es
