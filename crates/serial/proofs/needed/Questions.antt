-- Serial keys and the questions of a POLL, from the transactions that matter alone.
use Rattle.std.proofs.Common.{◌≡◌, refl, sym, ap, ◌∙◌, ℕ, ◌<◌, ◌≤◌, min, Bool, true, false, true≢false, cond, not, ◌&&◌, ◌||◌, ◌⊎◌, inl, inr, List, [], ◌∷◌, eqb, nat_lt, nat_le, arith}
use Rattle.std.proofs.lemmas.Bool.{and_parts, and_from, or_left, false_from_ne_true}
use Rattle.std.specs.List.{filter, list_any}
use Rattle.value.specs.Isolation.{Node, first_part, serial_key, write_key}
use Rattle.value.proofs.IsolationLemmas.{In}
use Rattle.value.proofs.Basics.{any-same_in, filter-In, any-In, In-any}
use Rattle.value.proofs.Lists.{In-filter, clash, filter-filter}
use Rattle.history.specs.declared.event.Record.{Record}
use Rattle.history.specs.Opening.{Opening}
use Rattle.history.specs.Transactions.{Standing, Txn, World, node, edge, is_open, is_done, is_pending, is_read_write, is_spoilt, spoils, was_active}
use Rattle.history.specs.Events.{numbered, replaced, world_of}
use Rattle.history.specs.Answer.{Legal, committing}
use Rattle.history.specs.Needed.{is_safe_reader, is_settled, IsOldest, Keeps, kept_of, IsOpenOf, is_needed, thin}
use Rattle.serial.proofs.legal.EndsSeen.{EndsSeen, ends_seen}
use Rattle.serial.proofs.legal.Legal.{current_in}
use Rattle.serial.proofs.legal.Numbers.{not_done}
use Rattle.serial.proofs.safe.Prefix.{all_by, by_all}
use Rattle.serial.proofs.safe.Readers.{active_above, writer_unsafe}
use Rattle.serial.proofs.order.SerialTheorem.{IsGood, edge_parts, good_world}
use Rattle.serial.proofs.needed.Cause.{c, in_log, kept_replaced, meets_number, met_kept, oldest_is, open_owed, owed_kept, recent_kept, self, split, writer}

module _ {X : Type 0} where
  pub any-kept : (p k : X → Bool) (xs : List X) → ((x : X) → In x xs → p x ≡ true → k x ≡ true) → list_any p (filter k xs) ≡ list_any p xs
  any-kept p k [] h = refl
  any-kept p k (x ∷ xs) h = go (k x) refl (any-kept p k xs (λ y i. h y (inr i)))
    where
      go : (b : Bool) → k x ≡ b → list_any p (filter k xs) ≡ list_any p xs → list_any p (cond b (x ∷ filter k xs) (filter k xs)) ≡ (p x || list_any p xs)
      go true e rest = ap (λ b. p x || b) rest
      go false e rest = rest ∙ sym (ap (λ b. b || list_any p xs) (false_from_ne_true (p x) (λ q. clash (k x) (h x (inl refl) q) e)))

module _ {T : Type 0} (node : T → Node) (edge : T → T → Bool) where
  pub first_part-kept : (t : T) (k : T → Bool) (us : List T) → ((u : T) → In u us → edge t u ≡ true → k u ≡ true) → first_part node edge t (filter k us) ≡ first_part node edge t us
  first_part-kept t k [] h = refl
  first_part-kept t k (u ∷ us) h = go (k u) refl (first_part-kept t k us (λ y i. h y (inr i)))
    where
      go : (b : Bool) → k u ≡ b → first_part node edge t (filter k us) ≡ first_part node edge t us
          → first_part node edge t (cond b (u ∷ filter k us) (filter k us)) ≡ cond (edge t u && nat_lt (node u).commit (node t).commit) (min (node u).commit (first_part node edge t us)) (first_part node edge t us)
      go true e rest = ap (λ m. cond (edge t u && nat_lt (node u).commit (node t).commit) (min (node u).commit m) m) rest
      go false e rest = rest ∙ sym (ap (λ b. cond b (min (node u).commit (first_part node edge t us)) (first_part node edge t us))
          (false_from_ne_true (edge t u && nat_lt (node u).commit (node t).commit) (λ q. clash (k u) (h u (inl refl) (and_parts (edge t u) (nat_lt (node u).commit (node t).commit) q).0) e)))

done_closed : (st : Standing) → is_done st ≡ true → is_open st ≡ false
done_closed st d = false_from_ne_true (is_open st) (λ o. not_done st o d)

module _ {A : Type 0} where
  -- ---- the key of a commit

  abbrev pub done : Txn A → Bool
  done u = is_done u.standing

  pub key_of_kept : (w : World A) (g : IsGood w) (t : Txn A) (i : In t w.txns) (o : is_open t.standing ≡ true) (n : ℕ) (keep : ℕ → Bool) → Keeps w n keep
      → serial_key node edge (filter (λ u. is_done u.standing) (replaced (numbered w t) (kept_of keep w.txns))) (numbered w t) ≡ serial_key node edge (filter (λ u. is_done u.standing) (committing w t)) (numbered w t)
  key_of_kept w g t i o n keep h =
      ap (λ us. serial_key node edge us x) (ap (filter done) (sym (kept_replaced keep x w.txns)) ∙ filter-filter done k ts)
      ∙ by_mode (is_read_write x.mode) refl
    where
      x : Txn A
      x = numbered w t

      ts : List (Txn A)
      ts = committing w t

      k : Txn A → Bool
      k u = keep u.number

      by_mode : (b : Bool) → is_read_write x.mode ≡ b
          → cond (is_read_write x.mode) (write_key (first_part node edge x (filter k (filter done ts))) x.commit) (x.snapshot, 2, x.end)
          ≡ cond (is_read_write x.mode) (write_key (first_part node edge x (filter done ts)) x.commit) (x.snapshot, 2, x.end)
      by_mode true r = ap (λ (m : ℕ). cond (is_read_write x.mode) (write_key m x.commit) (x.snapshot, 2, x.end)) (first_part-kept node edge x k (filter done ts) (λ u j e. kept u (In-filter done u ts j) e))
        where
          kept : (u : Txn A) → In u ts × (is_done u.standing ≡ true) → edge x u ≡ true → keep u.number ≡ true
          kept u j e = go (split w g t i o u j.0)
            where
              from : n ≤ t.snapshot
              from = oldest_is w g t i o n keep h (writer_unsafe w.txns t (sym (ap is_read_write (c w g t i o).mode) ∙ r))

              go : (u ≡ x) ⊎ In u w.txns × (eqb u.number x.number ≡ false) → keep u.number ≡ true
              go (inl p) = ap (λ (y : Txn A). keep y.number) p ∙ self w g t i o n keep h
              go (inr p) = recent_kept w g t i o n keep h u p.0 j.1 (writer w g t i o u j.0 (meets_number w g t i o x u e)) (omega (arith, from, (c w g t i o).snapshot, (edge_parts x u e).1))
      by_mode false r = ap (λ b. cond b (write_key (first_part node edge x (filter k (filter done ts))) x.commit) (x.snapshot, 2, x.end)) r
          ∙ sym (ap (λ b. cond b (write_key (first_part node edge x (filter done ts)) x.commit) (x.snapshot, 2, x.end)) r)

  -- ---- the questions of a POLL

  pub pending_of_kept : (w : World A) (n : ℕ) (keep : ℕ → Bool) → Keeps w n keep → (t : Txn A) → is_pending (kept_of keep w.txns) t ≡ is_pending w.txns t
  pending_of_kept w n keep h t = any-kept (λ u. was_active t u && is_open u.standing) (λ u. keep u.number) w.txns
      (λ u j e. by_all (λ v. is_needed n w.txns v ≡ true → keep v.number ≡ true) w.txns u h.needed j (or_left _ _ (or_left _ _ (or_left _ _ (open_owed u.standing (and_parts (was_active t u) (is_open u.standing) e).1)))))

  module _ (w : World A) (g : IsGood w) (ends : EndsSeen w) (t : Txn A) (i : In t w.txns) (o : is_open t.standing ≡ true) (n : ℕ) (keep : ℕ → Bool) (h : Keeps w n keep) (from : n ≤ t.snapshot) where
    -- a transaction that was active at the snapshot and has committed has a number above it
    recent_active : (u : Txn A) → In u w.txns → was_active t u ≡ true → is_done u.standing ≡ true → (is_read_write u.mode ≡ true) × (n < u.commit)
    recent_active u j e d = let p = active_above w g t i ends u j e d in (p.1, omega (arith, p.2, from))

    pub spoilt_of_kept : is_spoilt (kept_of keep w.txns) t ≡ is_spoilt w.txns t
    spoilt_of_kept =
        any-same_in (λ u. was_active t u && spoils (kept_of keep w.txns) t u) (λ u. was_active t u && spoils w.txns t u) (kept_of keep w.txns) (λ u j. alike u (In-filter k u w.txns j).0)
        ∙ any-kept (λ u. was_active t u && spoils w.txns t u) k w.txns kept
      where
        k : Txn A → Bool
        k u = keep u.number

        met : Txn A → Txn A → Bool
        met u v = edge u v && nat_le v.commit t.snapshot

        kept : (u : Txn A) → In u w.txns → (was_active t u && spoils w.txns t u) ≡ true → keep u.number ≡ true
        kept u j e =
            let p = and_parts (was_active t u) (is_done u.standing && list_any (λ v. edge u v && nat_le v.commit t.snapshot) w.txns) e in
            let d = (and_parts (is_done u.standing) (list_any (λ v. edge u v && nat_le v.commit t.snapshot) w.txns) p.1).0 in
            let r = recent_active u j p.0 d in recent_kept w g t i o n keep h u j d r.0 r.1

        alike : (u : Txn A) → In u w.txns → (was_active t u && spoils (kept_of keep w.txns) t u) ≡ (was_active t u && spoils w.txns t u)
        alike u j = go (was_active t u) refl (is_done u.standing) refl
          where
            go : (a : Bool) → was_active t u ≡ a → (d : Bool) → is_done u.standing ≡ d
                → (a && (d && list_any (λ v. edge u v && nat_le v.commit t.snapshot) (kept_of keep w.txns))) ≡ (a && (d && list_any (λ v. edge u v && nat_le v.commit t.snapshot) w.txns))
            go false p d q = refl
            go true p false q = refl
            go true p true q = any-kept (λ v. edge u v && nat_le v.commit t.snapshot) (λ v. keep v.number) w.txns
                (λ v m e. let s = and_parts (edge u v) (nat_le v.commit t.snapshot) e in let r = recent_active u j p q in
                met_kept w g t i o n keep h u v j m q (g.numbered.logged v (in_log w g t i o v m (meets_number w g t i o u v s.0))).1 r.0 r.1 s.0)

    settled_of_kept : is_settled (kept_of keep w.txns) t ≡ is_settled w.txns t
    settled_of_kept = ap (λ b. not b && not (is_spoilt (kept_of keep w.txns) t)) (pending_of_kept w n keep h t) ∙ ap (λ b. not (is_pending w.txns t) && not b) spoilt_of_kept

    pub safe_of_kept : is_safe_reader (kept_of keep w.txns) t ≡ is_safe_reader w.txns t
    safe_of_kept = ap (λ b. not (is_read_write t.mode) && (t.known || b)) settled_of_kept

  -- what isn't spoilt by all isn't spoilt by those that are kept
  unspoilt_kept : (k : Txn A → Bool) (ts : List (Txn A)) (t : Txn A) → is_spoilt ts t ≡ false → is_spoilt (filter k ts) t ≡ false
  unspoilt_kept k ts t e = false_from_ne_true (is_spoilt (filter k ts) t) (λ f. go (any-In (λ u. was_active t u && spoils (filter k ts) t u) (filter k ts) f))
    where
      go : (u : Txn A) × In u (filter k ts) × ((was_active t u && spoils (filter k ts) t u) ≡ true) → ⊥
      go u = last (any-In (λ v. edge u.0 v && nat_le v.commit t.snapshot) (filter k ts) q.1)
        where
          p : (was_active t u.0 ≡ true) × (spoils (filter k ts) t u.0 ≡ true)
          p = and_parts (was_active t u.0) (spoils (filter k ts) t u.0) u.2

          q : (is_done u.0.standing ≡ true) × (list_any (λ v. edge u.0 v && nat_le v.commit t.snapshot) (filter k ts) ≡ true)
          q = and_parts (is_done u.0.standing) (list_any (λ v. edge u.0 v && nat_le v.commit t.snapshot) (filter k ts)) p.1

          last : (v : Txn A) × In v (filter k ts) × ((edge u.0 v && nat_le v.commit t.snapshot) ≡ true) → ⊥
          last v = clash (is_spoilt ts t)
              (In-any (λ y. was_active t y && spoils ts t y) ts u.0 (In-filter k u.0 ts u.1).0
              (and_from _ _ p.0 (and_from _ _ q.0 (In-any (λ y. edge u.0 y && nat_le y.commit t.snapshot) ts v.0 (In-filter k v.0 ts v.1).0 v.2)))) e

  module _ (w : World A) (g : IsGood w) (ends : EndsSeen w) (n : ℕ) (keep : ℕ → Bool) (h : Keeps w n keep) where
    -- so a POLL finds the same of a snapshot that isn't known to be safe
    pub poll_of_kept : (t : Txn A) → In t w.txns → is_open t.standing ≡ true → (not (is_read_write t.mode) && t.known) ≡ false → is_spoilt (kept_of keep w.txns) t ≡ is_spoilt w.txns t
    poll_of_kept t i o unknown = go (is_safe_reader w.txns t) refl
      where
        settled : (a b d : Bool) → (not a && b) ≡ false → (not a && (b || d)) ≡ true → d ≡ true
        settled true b d e f = absurd (true≢false (sym f))
        settled false true d e f = absurd (true≢false e)
        settled false false d e f = f

        unspoilt : (a b : Bool) → (not a && not b) ≡ true → b ≡ false
        unspoilt true b e = absurd (true≢false (sym e))
        unspoilt false true e = sym e
        unspoilt false false e = refl

        go : (b : Bool) → is_safe_reader w.txns t ≡ b → is_spoilt (kept_of keep w.txns) t ≡ is_spoilt w.txns t
        go false e = spoilt_of_kept w g ends t i o n keep h (oldest_is w g t i o n keep h e)
        go true e =
            let none = unspoilt (is_pending w.txns t) (is_spoilt w.txns t) (settled (is_read_write t.mode) t.known (is_settled w.txns t) unknown e) in
            unspoilt_kept (λ u. keep u.number) w.txns t none ∙ sym none

    -- A number that no open transaction of those kept has a snapshot below, but safe readers, is such a one for all.
    pub oldest_of_kept : (m : ℕ) → IsOldest (thin keep w) m → IsOldest w m
    oldest_of_kept m old = all_by (λ (t : Txn A). is_open t.standing ≡ true → is_safe_reader w.txns t ≡ false → m ≤ t.snapshot) w.txns (λ t i o e.
        by_all (λ u. is_open u.standing ≡ true → is_safe_reader (kept_of keep w.txns) u ≡ false → m ≤ u.snapshot) (kept_of keep w.txns) t old
        (filter-In (λ u. keep u.number) t w.txns i (owed_kept w g t i o n keep h t i (open_owed t.standing o))) o
        (safe_of_kept w g ends t i o n keep h (oldest_is w g t i o n keep h e) ∙ e))

  -- ---- the laws

  pub key_kept : (o : Opening A) (es : List (Record A)) → Legal o es → (s : ℕ) (t : Txn A) (n : ℕ) (keep : ℕ → Bool) → IsOpenOf (world_of o es) s t → Keeps (world_of o es) n keep
      → serial_key node edge (filter (λ u. is_done u.standing) (replaced (numbered (world_of o es) t) (kept_of keep (world_of o es).txns))) (numbered (world_of o es) t)
      ≡ serial_key node edge (filter (λ u. is_done u.standing) (committing (world_of o es) t)) (numbered (world_of o es) t)
  key_kept o es l s t n keep p h = key_of_kept (world_of o es) (good_world o es l) t (current_in (world_of o es) s t p.0).0 p.1 n keep h

  pub pending_kept : (o : Opening A) (es : List (Record A)) → Legal o es → (n : ℕ) (keep : ℕ → Bool) → Keeps (world_of o es) n keep → (t : Txn A)
      → is_pending (kept_of keep (world_of o es).txns) t ≡ is_pending (world_of o es).txns t
  pending_kept o es l n keep h t = pending_of_kept (world_of o es) n keep h t

  pub spoilt_kept : (o : Opening A) (es : List (Record A)) → Legal o es → (s : ℕ) (t : Txn A) (n : ℕ) (keep : ℕ → Bool) → IsOpenOf (world_of o es) s t → Keeps (world_of o es) n keep → (not (is_read_write t.mode) && t.known) ≡ false
      → is_spoilt (kept_of keep (world_of o es).txns) t ≡ is_spoilt (world_of o es).txns t
  spoilt_kept o es l s t n keep p h k = poll_of_kept (world_of o es) (good_world o es l) (ends_seen o es l) n keep h t (current_in (world_of o es) s t p.0).0 p.1 k

  pub oldest_told : (o : Opening A) (es : List (Record A)) → Legal o es → (n m : ℕ) (keep : ℕ → Bool) → Keeps (world_of o es) n keep → IsOldest (thin keep (world_of o es)) m → IsOldest (world_of o es) m
  oldest_told o es l n m keep h old = oldest_of_kept (world_of o es) (good_world o es l) (ends_seen o es l) n keep h m old
