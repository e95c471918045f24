-- The serial key of a committed transaction, from the transactions that matter alone.
use Rattle.std.proofs.Common.{◌≡◌, refl, sym, ap, subst, ◌∙◌, ℕ, ◌+◌, ◌<◌, ◌≤◌, Bool, true, false, true≢false, cond, ◌⊎◌, inl, inr, List, [], ◌∷◌, eqb, Option, Some, None, arith}
use Rattle.std.proofs.lemmas.Bool.{lt-ltb, and_parts, and_from, or_left, or_right}
use Rattle.std.specs.List.{filter}
use Rattle.value.specs.Isolation.{first_part, serial_key, write_key}
use Rattle.value.proofs.IsolationLemmas.{In}
use Rattle.value.proofs.SerialLemmas.{In-append}
use Rattle.value.proofs.Lists.{In-filter, clash, filter-filter}
use Rattle.history.specs.declared.event.Action.{Action}
use Rattle.history.specs.declared.event.Action.TheVariants.{Begin}
use Rattle.history.specs.declared.event.Record.{Record}
use Rattle.history.specs.Opening.{Opening}
use Rattle.history.specs.Transactions.{Standing, Open, Doomed, Failed, Aborted, Done, Txn, World, current, edge, is_done, is_open, is_owed, is_read_write, node}
use Rattle.history.specs.Events.{begun, causes, followed, follows, numbered, replaced, settled, told, turned_from, world_of}
use Rattle.history.specs.Answer.{Allowed, Legal, open_reply, reply_from, reply_in, reply_of}
use Rattle.history.specs.Needed.{Keeps, is_needed, kept_of}
use Rattle.serial.proofs.legal.Legal.{current_in, legal_steps, open_move, settled_is, told_is}
use Rattle.serial.proofs.structures.Dooms.{Fate, Spared, Over, In-doomed}
use Rattle.serial.proofs.legal.Numbers.{In-replaced}
use Rattle.serial.proofs.safe.Prefix.{by_all}
use Rattle.serial.proofs.order.SerialTheorem.{IsGood, edge_parts, good_steps, good_world}
use Rattle.serial.proofs.needed.Cause.{Committed, committed_as, oldest_is, open_owed}
use Rattle.serial.proofs.needed.Later.{moved_done}
use Rattle.serial.proofs.safe.Readers.{writer_unsafe}
use Rattle.serial.proofs.needed.Replies.{owed_stays}
use Rattle.serial.proofs.needed.Questions.{first_part-kept}

module _ {A : Type 0} where
  abbrev done : Txn A → Bool
  done u = is_done u.standing

  -- of one that only reads, or whose snapshot isn't below the oldest
  pub same_key : (w : World A) → IsGood w → (n : ℕ) (keep : ℕ → Bool) → Keeps w n keep → (x : Txn A) → (is_read_write x.mode ≡ true → n ≤ x.snapshot)
      → serial_key node edge (filter (λ u. is_done u.standing) (kept_of keep w.txns)) x ≡ serial_key node edge (filter (λ u. is_done u.standing) w.txns) x
  same_key w g n keep h x from = ap (λ us. serial_key node edge us x) (filter-filter done k w.txns) ∙ by_mode (is_read_write x.mode) refl
    where
      k : Txn A → Bool
      k u = keep u.number

      by_mode : (b : Bool) → is_read_write x.mode ≡ b
          → cond (is_read_write x.mode) (write_key (first_part node edge x (filter k (filter done w.txns))) x.commit) (x.snapshot, 2, x.end)
          ≡ cond (is_read_write x.mode) (write_key (first_part node edge x (filter done w.txns)) x.commit) (x.snapshot, 2, x.end)
      by_mode true r = ap (λ (m : ℕ). cond (is_read_write x.mode) (write_key m x.commit) (x.snapshot, 2, x.end)) (first_part-kept node edge x k (filter done w.txns) (λ u j e. kept u (In-filter done u w.txns j) e))
        where
          kept : (u : Txn A) → In u w.txns × (is_done u.standing ≡ true) → edge x u ≡ true → keep u.number ≡ true
          kept u j e = by_all (λ v. is_needed n w.txns v ≡ true → keep v.number ≡ true) w.txns u h.needed j.0
              (or_left _ _ (or_left _ _ (or_right (is_owed u.standing) _ (and_from _ _ (and_from _ _ j.1 writes) (lt-ltb n u.commit above)))))
            where
              above : n < u.commit
              above = omega (arith, (edge_parts x u e).1, from r)

              writes : is_read_write u.mode ≡ true
              writes = go (g.numbered.kind u j.0)
                where
                  go : In u w.log ⊎ (u.commit ≡ 0) × (is_done u.standing ≡ true → is_read_write u.mode ≡ false) → is_read_write u.mode ≡ true
                  go (inl l) = (g.numbered.logged u l).2
                  go (inr l) = absurd (omega (arith, l.0, above))
      by_mode false r = ap (λ b. cond b (write_key (first_part node edge x (filter k (filter done w.txns))) x.commit) (x.snapshot, 2, x.end)) r
          ∙ sym (ap (λ b. cond b (write_key (first_part node edge x (filter done w.txns)) x.commit) (x.snapshot, 2, x.end)) r)

  -- ---- what the last event committed

  -- It is kept, and has read from the oldest snapshot on, if it writes.
  abbrev pub IsLast : ℕ → (ℕ → Bool) → Txn A → Type 0
  IsLast n keep x = (keep x.number ≡ true) × (is_read_write x.mode ≡ true → n ≤ x.snapshot)

  module _ (w : World A) (g : IsGood w) (n : ℕ) (keep : ℕ → Bool) (h : Keeps w n keep) (s : ℕ) (a : Action A) (fits : Allowed w.catalog a) where
    not_old : {X : Type 0} (x : Txn A) → In x w.txns → x.end ≡ w.place + 1 → X
    not_old x i e = absurd (let l = g.time.ended_by x i in omega (arith, l, e))

    own_last : (t : Txn A) → current w s ≡ Some t → (st : Standing) → t.standing ≡ st → is_done (turned_from st w a (reply_from st w t a) t).standing ≡ true → IsLast n keep (turned_from st w a (reply_from st w t a) t)
    own_last t e Open p d = subst (IsLast n keep) (sym new) (ap keep c.number ∙ owed_stays w n keep h t i (open_owed t.standing o), from)
      where
        i : In t w.txns
        i = (current_in w s t e).0

        o : is_open t.standing ≡ true
        o = ap is_open p

        new : turned_from Open w a (open_reply w t a) t ≡ numbered w t
        new = moved_done w t _ _ _ o (open_move w t a fits) d

        c : Committed w t (numbered w t)
        c = committed_as w t (none (g.numbered.kind t i))
          where
            none : In t w.log ⊎ (t.commit ≡ 0) × (is_done t.standing ≡ true → is_read_write t.mode ≡ false) → t.commit ≡ 0
            none (inl j) = absurd (true≢false (sym (g.numbered.logged t j).1 ∙ ap is_done p))
            none (inr k) = k.0

        from : is_read_write (numbered w t).mode ≡ true → n ≤ (numbered w t).snapshot
        from q = let m = oldest_is w g t i o n keep h (writer_unsafe w.txns t (sym (ap is_read_write c.mode) ∙ q)) in omega (arith, m, c.snapshot)
    own_last t e (Doomed c) p d = clash (is_done (told a t.standing)) d (told_is a t.standing (ap is_open p) (ap is_done p)).1
    own_last t e Failed p d = clash (is_done (settled a t.standing)) d (settled_is a t.standing (ap is_open p) (ap is_done p)).1
    own_last t e Aborted p d = clash (is_owed t.standing) (and_parts (eqb t.session s) (is_owed t.standing) (current_in w s t e).1).1 (ap is_owed p)
    own_last t e Done p d = clash (is_owed t.standing) (and_parts (eqb t.session s) (is_owed t.standing) (current_in w s t e).1).1 (ap is_owed p)

    last_of : (o : Option (Txn A)) → current w s ≡ o → (x : Txn A) → In x (followed w (record { session = s; action = a; reply = reply_of w o a }) o).txns → is_done x.standing ≡ true → x.end ≡ w.place + 1 → IsLast n keep x
    last_of None e x i d l = none a i
      where
        none : (b : Action A) → In x (followed w (record { session = s; action = b; reply = reply_of w None b }) None).txns → IsLast n keep x
        none (Begin m) j = go (In-append (λ (_ : Txn A). (0, 0, 0)) x w.txns (begun w s m ∷ []) j)
          where
            go : In x w.txns ⊎ ((x ≡ begun w s m) ⊎ ⊥) → IsLast n keep x
            go (inl k) = not_old x k l
            go (inr (inl p)) = clash (is_done x.standing) d (ap (λ (y : Txn A). is_done y.standing) p)
            go (inr (inr z)) = absurd z
        none _ j = not_old x j l
    last_of (Some t) e x i d l = let f = In-doomed (w.place + 1) (causes w a (reply_of w (Some t) a) t) x (replaced y w.txns) i in from f.0 x (In-replaced f.0 y w.txns f.1) f.2 d l
      where
        y : Txn A
        y = turned_from t.standing w a (reply_from t.standing w t a) t

        from : (z x : Txn A) → (z ≡ y) ⊎ In z w.txns × (eqb z.number y.number ≡ false) → Fate (w.place + 1) z x → is_done x.standing ≡ true → x.end ≡ w.place + 1 → IsLast n keep x
        from z x (inl p) Spared d l = subst (IsLast n keep) (sym p) (own_last t e t.standing refl (sym (ap (λ (u : Txn A). is_done u.standing) p) ∙ d))
        from z x (inr j) Spared d l = not_old x j.0 l
        from z x j (Over c o) d l = absurd (true≢false (sym d))

  pub last_kept : (o : Opening A) (es : List (Record A)) → Legal o es → (s : ℕ) (a : Action A) → Allowed (world_of o es).catalog a → (n : ℕ) (keep : ℕ → Bool) → Keeps (world_of o es) n keep
      → (x : Txn A) → In x (follows (world_of o es) (record { session = s; action = a; reply = reply_in (world_of o es) s a })).txns → is_done x.standing ≡ true → x.end ≡ (world_of o es).place + 1 → IsLast n keep x
  last_kept o es l s a fits n keep h = last_of (world_of o es) (good_world o es l) n keep h s a fits (current (world_of o es) s) refl

  pub good_next : (o : Opening A) (es : List (Record A)) → Legal o es → (s : ℕ) (a : Action A) → Allowed (world_of o es).catalog a → IsGood (follows (world_of o es) (record { session = s; action = a; reply = reply_in (world_of o es) s a }))
  good_next o es l s a fits = good_steps (world_of o es) (follows (world_of o es) (record { session = s; action = a; reply = reply_in (world_of o es) s a })) (good_world o es l) (legal_steps (world_of o es) s a fits)
