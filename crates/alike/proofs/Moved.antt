-- What an event makes of its session's open transaction, in alike worlds.
use Rattle.std.proofs.Common.{◌≡◌, refl, sym, ap, subst, ◌∙◌, ℕ, ◌+◌, ◌≤◌, Bool, true, false, true≢false, cond, not, ◌&&◌, ◌⊎◌, inl, inr, ◌++◌, Some, arith}
use Rattle.std.proofs.lemmas.Bool.{and_parts}
use Rattle.value.specs.declared.refusal.Mode.{Mode}
use Rattle.value.specs.declared.refusal.Mode.TheVariants.{ReadWrite, ReadOnly, Deferrable}
use Rattle.value.specs.declared.refusal.Refusal.{Refusal}
use Rattle.value.specs.declared.refusal.Code.TheVariants as code
use Rattle.value.proofs.IsolationLemmas.{In}
use Rattle.siread.specs.Reads.{CoverAlike}
use Rattle.siread.proofs.AlikeLemmas.{alike_more}
use Rattle.statement.specs.declared.statement.Statement.{Statement}
use Rattle.statement.specs.declared.reply.Reply.{Reply}
use Rattle.statement.specs.declared.reply.Reply.TheVariants.{Safe, Wait, Refused}
use Rattle.statement.specs.Evaluation.{outcome}
use Rattle.statement.specs.Footprint.{footprint}
use Rattle.history.specs.declared.event.Action.{Action}
use Rattle.history.specs.declared.event.Action.TheVariants.{Run, Poll}
use Rattle.history.specs.Transactions.{Standing, Open, Doomed, Failed, Aborted, Done, Txn, World, Exported_snapshot, commits, is_deferrable, is_open, is_pending, is_read_only, is_spoilt, must_wait, tables_at}
use Rattle.history.specs.Events.{causes, ended, exports_after, fails, goes_on, import, log_after, moved, polled, ran, with_snapshot}
use Rattle.history.specs.Answer.{poll_reply, refuses}
use Rattle.alike.specs.Worlds.{Alike, DidAlike, FindAlike, ShowAlike, WereActiveAlike, is_waiting}
use Rattle.alike.proofs.Sides.{and2, not_both, open_owed}
use Rattle.alike.proofs.Orderly.{IsOrderly}
use Rattle.alike.proofs.Replies.{outcome_alike, pending_polled, spoils_alike, took}
use Rattle.alike.proofs.Pivots.{DoomAlike}
use Rattle.alike.proofs.Turned.{Exports, Logged, StandsAs, TurnAlike, Turns}
use Rattle.alike.proofs.Twins.{IsPair}

only_reads : (m : Mode) → is_read_only m ≡ true → is_deferrable m ≡ true → ⊥
only_reads ReadWrite e f = true≢false (sym e)
only_reads ReadOnly e f = true≢false (sym f)
only_reads Deferrable e f = true≢false (sym e)

module _ {A : Type 0} where
  -- What an answered action makes of a pair.
  pub record Moves (w v : World A) (t u : Txn A) (a : Action A) (r s : Reply A) : Type 0 where
    pub turn : TurnAlike w v t u (moved w a r t) (moved v a s u)
    pub logs : Logged w v (moved w a r t) (moved v a s u) (log_after w a r t) (log_after v a s u)
    pub exports : Exports w v t u (exports_after w a r t) (exports_after v a s u)
    pub dooms : DoomAlike w v (causes w a r t) (causes v a s u)

  open_stands : (w v : World A) (t u x y : Txn A) (st st' : Standing) → is_open st ≡ true → is_open st' ≡ true → DidAlike x y → FindAlike x y → WereActiveAlike w v t u → tables_at w x.snapshot ≡ tables_at v y.snapshot → x.snapshot ≤ commits w → y.snapshot ≤ commits v → StandsAs w v t u st st' x y
  open_stands w v t u x y Open Open o p d f a b m n = (d, f, a, b, m, n)
  open_stands w v t u x y Open (Doomed c) o p d f a b m n = absurd (true≢false (sym p))
  open_stands w v t u x y Open Failed o p d f a b m n = absurd (true≢false (sym p))
  open_stands w v t u x y Open Aborted o p d f a b m n = absurd (true≢false (sym p))
  open_stands w v t u x y Open Done o p d f a b m n = absurd (true≢false (sym p))
  open_stands w v t u x y (Doomed c) st' o p d f a b m n = absurd (true≢false (sym o))
  open_stands w v t u x y Failed st' o p d f a b m n = absurd (true≢false (sym o))
  open_stands w v t u x y Aborted st' o p d f a b m n = absurd (true≢false (sym o))
  open_stands w v t u x y Done st' o p d f a b m n = absurd (true≢false (sym o))

  -- x is t with other snapshots, reads or changes
  pub record Updates (t x : Txn A) : Type 0 where
    pub number : x.number ≡ t.number
    pub session : x.session ≡ t.session
    pub mode : x.mode ≡ t.mode
    pub begin : x.begin ≡ t.begin
    pub end : x.end ≡ t.end
    pub standing : x.standing ≡ t.standing
    pub waits : is_waiting x ≡ true → is_waiting t ≡ true

  turns_update : (w : World A) (t x : Txn A) → is_open t.standing ≡ true → Updates t x → Turns w t x
  turns_update w t x o h = record { number = h.number; session = h.session; goes = record { mode = h.mode; begin = h.begin; end = inl (h.end, ap is_open h.standing) }; owed = open_owed t.standing o; waits = h.waits }

  same_update : (t : Txn A) → Updates t t
  same_update t = record { number = refl; session = refl; mode = refl; begin = refl; end = refl; standing = refl; waits = λ e. e }

  module _ (w v : World A) (g : IsOrderly w) (f : IsOrderly v) (h : Alike w v) (t u : Txn A) (p : IsPair w v t u) where
    abbrev Taken : Txn A → Txn A → Type 0
    Taken x y = is_waiting x ≡ true → is_waiting y ≡ true → (x.taken ≡ t.taken) × (y.taken ≡ u.taken) ⊎ (x.taken ≡ w.place + 1) × (y.taken ≡ v.place + 1)

    pub updated : (x y : Txn A) → Updates t x → Updates u y → DidAlike x y → FindAlike x y → tables_at w x.snapshot ≡ tables_at v y.snapshot → x.snapshot ≤ commits w → y.snapshot ≤ commits v → Taken x y → TurnAlike w v t u x y
    updated x y a b d e s m n k = record {
      here = p.here;
      there = p.there;
      session = p.session;
      left = turns_update w t x p.is_open a;
      right = turns_update v u y p.opens b;
      stands = open_stands w v t u x y x.standing y.standing (ap is_open a.standing ∙ p.is_open) (ap is_open b.standing ∙ p.opens) d e p.active s m n;
      taken = k;
    }

    -- as they were
    pub stay : TurnAlike w v t u t u
    stay = updated t u (same_update t) (same_update u) p.did p.finds p.shown (g.shown t p.here) (f.shown u p.there) (λ a b. inl (refl, refl))

    over : (w : World A) (t x : Txn A) → x.number ≡ t.number → x.session ≡ t.session → x.mode ≡ t.mode → x.begin ≡ t.begin → x.end ≡ w.place + 1 → is_open x.standing ≡ false → is_open t.standing ≡ true → Turns w t x
    over w t x n s m b e c o = record { number = n; session = s; goes = record { mode = m; begin = b; end = inr (e, c, o) }; owed = open_owed t.standing o; waits = λ q. absurd (not_both (is_open x.standing) (and_parts (is_open x.standing) (must_wait x) q).0 c) }

    closed : (x : Txn A) → is_open x.standing ≡ false → is_waiting x ≡ true → ⊥
    closed x c q = not_both (is_open x.standing) (and_parts (is_open x.standing) (must_wait x) q).0 c

    pub failed_turn : TurnAlike w v t u (ended w Failed t) (ended v Failed u)
    failed_turn = record {
      here = p.here;
      there = p.there;
      session = p.session;
      left = over w t (ended w Failed t) refl refl refl refl refl refl p.is_open;
      right = over v u (ended v Failed u) refl refl refl refl refl refl p.opens;
      stands = tt;
      taken = λ a b. absurd (closed (ended w Failed t) refl a);
    }

    pub aborted_turn : TurnAlike w v t u (ended w Aborted t) (ended v Aborted u)
    aborted_turn = record {
      here = p.here;
      there = p.there;
      session = p.session;
      left = over w t (ended w Aborted t) refl refl refl refl refl refl p.is_open;
      right = over v u (ended v Aborted u) refl refl refl refl refl refl p.opens;
      stands = tt;
      taken = λ a b. absurd (closed (ended w Aborted t) refl a);
    }

    -- ---- a statement

    ran_turn : (q : Statement A) (r : Reply A) → TurnAlike w v t u (ran w q r t) (ran v q r u)
    ran_turn q r = updated (ran w q r t) (ran v q r u) (update w t) (update v u)
        (record {
          mode = p.did.mode;
          snapshot = p.did.snapshot;
          commit = p.did.commit;
          reads = subst (λ c. CoverAlike (t.reads ++ footprint w.catalog q) (u.reads ++ footprint c q)) h.catalog (alike_more t.reads u.reads (footprint w.catalog q) p.did.reads);
          changes = ap (λ cs. cs ++ (outcome w.catalog q t.own).changes) p.did.changes ∙ ap (λ o. u.changes ++ o.changes) (outcome_alike w v g f h t u p q);
          marks = ap (λ ms. ms ++ (outcome w.catalog q t.own).marks) p.did.marks ∙ ap (λ o. u.marks ++ o.marks) (outcome_alike w v g f h t u p q);
        })
        (record { known = p.finds.known; asked = refl })
        p.shown (g.shown t p.here) (f.shown u p.there) (λ a b. inl (refl, refl))
      where
        update : (w : World A) (t : Txn A) → Updates t (ran w q r t)
        update w t = record { number = refl; session = refl; mode = refl; begin = refl; end = refl; standing = refl; waits = λ e. e }

    pub fails_turn : (r : Refusal) → TurnAlike w v t u (fails w r t) (fails v r u)
    fails_turn r = go (goes_on r.code)
      where
        go : (b : Bool) → TurnAlike w v t u (cond b t (ended w Failed t)) (cond b u (ended v Failed u))
        go true = stay
        go false = failed_turn

    pub run_turn : (q : Statement A) (r : Reply A) → TurnAlike w v t u (moved w (Run q) r t) (moved v (Run q) r u)
    run_turn q (Refused r) = fails_turn r
    run_turn q r = ran_turn q r

    -- ---- a POLL

    took_turn : (s : Bool) → TurnAlike w v t u (took w v g f h t u p w t s) (took w v g f h t u p v u s)
    took_turn false = stay
    took_turn true = updated (with_snapshot w (commits w) (w.place + 1) t) (with_snapshot v (commits v) (v.place + 1) u) (update w t) (update v u)
        (record { mode = p.did.mode; snapshot = h.last; commit = p.did.commit; reads = p.did.reads; changes = p.did.changes; marks = p.did.marks })
        (record { known = p.finds.known; asked = p.finds.asked }) h.tables (omega arith) (omega arith) (λ a b. inr (refl, refl))
      where
        update : (w : World A) (t : Txn A) → Updates t (with_snapshot w (commits w) (w.place + 1) t)
        update w t = record { number = refl; session = refl; mode = refl; begin = refl; end = refl; standing = refl; waits = λ e. e }

    known_waits : (x : Txn A) → is_waiting (record x { known = true }) ≡ true → ⊥
    known_waits x q = go (is_open x.standing) (is_deferrable x.mode) q
      where
        go : (a b : Bool) → (a && (b && false)) ≡ true → ⊥
        go true true e = true≢false (sym e)
        go true false e = true≢false (sym e)
        go false b e = true≢false (sym e)

    safe_turn : (s : Bool) → TurnAlike w v t u (record (took w v g f h t u p w t s) { known = true }) (record (took w v g f h t u p v u s) { known = true })
    safe_turn false = updated (record t { known = true }) (record u { known = true }) (update t) (update u)
        (record { mode = p.did.mode; snapshot = p.did.snapshot; commit = p.did.commit; reads = p.did.reads; changes = p.did.changes; marks = p.did.marks })
        (record { known = refl; asked = p.finds.asked }) p.shown (g.shown t p.here) (f.shown u p.there) (λ a b. absurd (known_waits t a))
      where
        update : (t : Txn A) → Updates t (record t { known = true })
        update t = record { number = refl; session = refl; mode = refl; begin = refl; end = refl; standing = refl; waits = λ e. absurd (known_waits t e) }
    safe_turn true = updated (record (with_snapshot w (commits w) (w.place + 1) t) { known = true }) (record (with_snapshot v (commits v) (v.place + 1) u) { known = true }) (update w t) (update v u)
        (record { mode = p.did.mode; snapshot = h.last; commit = p.did.commit; reads = p.did.reads; changes = p.did.changes; marks = p.did.marks })
        (record { known = refl; asked = p.finds.asked }) h.tables (omega arith) (omega arith) (λ a b. inr (refl, refl))
      where
        update : (w : World A) (t : Txn A) → Updates t (record (with_snapshot w (commits w) (w.place + 1) t) { known = true })
        update w t = record { number = refl; session = refl; mode = refl; begin = refl; end = refl; standing = refl; waits = λ e. absurd (known_waits t e) }

    pub poll_turn : TurnAlike w v t u (moved w Poll (poll_reply w t) t) (moved v Poll (poll_reply v u) u)
    poll_turn = subst (λ r. TurnAlike w v t u (moved w Poll r t) (moved v Poll (poll_reply v u) u)) (sym same) (go (is_deferrable u.mode) refl u.known refl)
      where
        whole : Bool → Bool → ℕ → Bool → ℕ → Reply A
        whole d k n b m = cond (not d) (refuses code.ObjectNotInPrerequisiteState) (cond k (Safe n) (cond b Wait (Safe m)))

        same : poll_reply w t ≡ whole (is_deferrable u.mode) u.known t.snapshot (is_pending w.txns (polled w t)) (polled w t).snapshot
        same = ap (λ m. whole (is_deferrable m) t.known t.snapshot (is_pending w.txns (polled w t)) (polled w t).snapshot) p.did.mode
            ∙ ap (λ k. whole (is_deferrable u.mode) k t.snapshot (is_pending w.txns (polled w t)) (polled w t).snapshot) p.finds.known

        -- they take a new snapshot both, or neither
        both : (P : Txn A → Txn A → Type 0) → ((s : Bool) → P (took w v g f h t u p w t s) (took w v g f h t u p v u s)) → (not t.known && is_spoilt w.txns t) ≡ (not u.known && is_spoilt v.txns u) → P (polled w t) (polled v u)
        both P k e = subst (λ s. P (polled w t) (took w v g f h t u p v u s)) e (k (not t.known && is_spoilt w.txns t))

        waiting : (x : Txn A) → is_open x.standing ≡ true → is_deferrable x.mode ≡ true → x.known ≡ false → is_waiting x ≡ true
        waiting x o d k = and2 (is_open x.standing) (must_wait x) o (and2 (is_deferrable x.mode) (not x.known) d (ap not k))

        go : (d : Bool) → is_deferrable u.mode ≡ d → (k : Bool) → u.known ≡ k → TurnAlike w v t u (moved w Poll (whole d k t.snapshot (is_pending w.txns (polled w t)) (polled w t).snapshot) t) (moved v Poll (whole d k u.snapshot (is_pending v.txns (polled v u)) (polled v u).snapshot) u)
        go false e k q = stay
        go true e true q = both (λ x y. TurnAlike w v t u (record x { known = true }) (record y { known = true })) safe_turn
            (ap (λ k. not k && is_spoilt w.txns t) (p.finds.known ∙ q) ∙ sym (ap (λ k. not k && is_spoilt v.txns u) q))
        go true e false q = subst (λ b. TurnAlike w v t u (moved w Poll (cond b Wait (Safe (polled w t).snapshot)) t) (moved v Poll (cond (is_pending v.txns (polled v u)) Wait (Safe (polled v u).snapshot)) u))
            (sym (pending_polled w v g f h t u p a b)) (last (is_pending v.txns (polled v u)))
          where
            a : is_waiting t ≡ true
            a = waiting t p.is_open (ap is_deferrable p.did.mode ∙ e) (p.finds.known ∙ q)

            b : is_waiting u ≡ true
            b = waiting u p.opens e q

            last : (c : Bool) → TurnAlike w v t u (moved w Poll (cond c Wait (Safe (polled w t).snapshot)) t) (moved v Poll (cond c Wait (Safe (polled v u).snapshot)) u)
            last true = both (TurnAlike w v t u) took_turn (spoils_alike w v g f h t u p a b)
            last false = both (λ x y. TurnAlike w v t u (record x { known = true }) (record y { known = true })) safe_turn (spoils_alike w v g f h t u p a b)

    -- ---- an IMPORT

    pub imported_turn : (a b : Exported_snapshot) → In a w.exports → In b v.exports → ShowAlike w v a b → is_read_only u.mode ≡ true → TurnAlike w v t u (import (Some a) w t) (import (Some b) v u)
    imported_turn a b i j s o = updated (import (Some a) w t) (import (Some b) v u) (update w t a (λ e. only_reads t.mode (ap is_read_only p.did.mode ∙ o) e)) (update v u b (only_reads u.mode o))
        (record { mode = p.did.mode; snapshot = s.snapshot; commit = p.did.commit; reads = p.did.reads; changes = p.did.changes; marks = p.did.marks })
        (record { known = s.known; asked = p.finds.asked }) s.tables (g.exports a i) (f.exports b j)
        (λ k l. absurd (waits_not (import (Some b) v u) (only_reads u.mode o) l))
      where
        waits_not : (x : Txn A) → (is_deferrable x.mode ≡ true → ⊥) → is_waiting x ≡ true → ⊥
        waits_not x k e = k (and_parts (is_deferrable x.mode) (not x.known) (and_parts (is_open x.standing) (must_wait x) e).1).0

        update : (w : World A) (t : Txn A) (a : Exported_snapshot) → (is_deferrable t.mode ≡ true → ⊥) → Updates t (import (Some a) w t)
        update w t a k = record { number = refl; session = refl; mode = refl; begin = refl; end = refl; standing = refl; waits = λ e. absurd (waits_not (import (Some a) w t) k e) }
