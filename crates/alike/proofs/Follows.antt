-- Alike worlds stay alike: an event of a session, with its replies.
use Rattle.std.proofs.Common.{◌≡◌, refl, sym, ap, subst, ◌∙◌, ℕ, ◌+◌, Bool, true, false, true≢false, cond, not, ◌⊎◌, inl, inr, List, [], ◌∷◌, ◌++◌, Option, Some, None, is_some, eqb}
use Rattle.std.proofs.lemmas.Bool.{and_parts}
use Rattle.std.specs.List.{list_any}
use Rattle.value.specs.declared.refusal.Cause.{Cause}
use Rattle.value.specs.declared.refusal.Code.TheVariants as code
use Rattle.value.specs.Isolation.{dooms}
use Rattle.value.proofs.IsolationLemmas.{In}
use Rattle.statement.specs.declared.reply.Reply.{Reply}
use Rattle.statement.specs.declared.reply.Reply.TheVariants.{Imported, Exported}
use Rattle.history.specs.declared.event.Action.{Action}
use Rattle.history.specs.declared.event.Action.TheVariants.{Begin, Run, Broken, Poll, Export, Import, Commit, Rollback, Prune}
use Rattle.history.specs.Transactions.{Standing, Open, Doomed, Failed, Done, Txn, World, Exported_snapshot, commits, exported, is_done, is_open, is_owed, is_read_only, is_read_write, must_wait, node, reads_from}
use Rattle.history.specs.Events.{causes, ended, exports_after, import, log_after, moved, next_identifier, numbered, settled, told, turned_from}
use Rattle.history.specs.Answer.{cause_of, commit_reply, doomed, export_reply, failed, import_reply, open_reply, refuses, reply_from, run_reply}
use Rattle.value.proofs.Basics.{find-In}
use Rattle.alike.specs.Worlds.{Alike, DidAlike, ShowAlike, StandAlike, is_waiting}
use Rattle.alike.proofs.Sides.{not_both, open_owed, owed_undone, some_none}
use Rattle.alike.proofs.Orderly.{IsOrderly}
use Rattle.alike.proofs.Edges.{done-numbered, no_cause_alike, numbered_did}
use Rattle.alike.proofs.Questions.{exported_moves}
use Rattle.alike.proofs.Replies.{run_alike, waits_alike}
use Rattle.alike.proofs.Pivots.{DoomAlike, dooms_alike}
use Rattle.alike.proofs.Doomed.{AreSameSessions, alike_doomed, dooming}
use Rattle.serial.proofs.legal.Numbers.{In-replaced}
use Rattle.history.specs.Events.{replaced}
use Rattle.alike.proofs.Turned.{Logged, Longer_log, One_export, Same_exports, Same_log, StandsAs, TurnAlike, Turns, alike_turned, turning}
use Rattle.alike.proofs.Moved.{Moves, aborted_turn, failed_turn, imported_turn, poll_turn, run_turn, stay, updated, Updates}
use Rattle.alike.proofs.Twins.{IsPair, pair, pair_back}

module _ {A : Type 0} where
  module _ (w v : World A) (g : IsOrderly w) (f : IsOrderly v) (h : Alike w v) (t u : Txn A) (p : IsPair w v t u) where
    -- ---- an EXPORT

    asked_turn : TurnAlike w v t u (record t { asked = true }) (record u { asked = true })
    asked_turn = updated w v g f h t u p (record t { asked = true }) (record u { asked = true }) (update t) (update u)
        (record { mode = p.did.mode; snapshot = p.did.snapshot; commit = p.did.commit; reads = p.did.reads; changes = p.did.changes; marks = p.did.marks })
        (record { known = p.finds.known; asked = refl }) p.shown (g.shown t p.here) (f.shown u p.there) (λ a b. inl (refl, refl))
      where
        update : (t : Txn A) → Updates t (record t { asked = true })
        update t = record { number = refl; session = refl; mode = refl; begin = refl; end = refl; standing = refl; waits = λ e. e }

    same_dooms : DoomAlike w v [] []
    same_dooms x y q = refl

    export_moves : Moves w v t u Export (export_reply w t) (export_reply v u)
    export_moves = subst (λ b. Moves w v t u Export (cond b (refuses code.ObjectNotInPrerequisiteState) (Exported (next_identifier w))) (export_reply v u)) (sym (waits_alike w v g f h t u p)) (go (must_wait u))
      where
        go : (b : Bool) → Moves w v t u Export (cond b (refuses code.ObjectNotInPrerequisiteState) (Exported (next_identifier w))) (cond b (refuses code.ObjectNotInPrerequisiteState) (Exported (next_identifier v)))
        go true = record { turn = stay w v g f h t u p; logs = Same_log; exports = Same_exports; dooms = same_dooms }
        go false = record { turn = asked_turn; logs = Same_log; exports = One_export p; dooms = same_dooms }

    -- ---- an IMPORT

    import_moves : (i : ℕ) → Moves w v t u (Import i) (import_reply w t i) (import_reply v u i)
    import_moves i = subst (λ r. Moves w v t u (Import i) r (import_reply v u i)) (sym same) (go (is_read_only u.mode) refl u.asked)
      where
        whole : Bool → Bool → Bool → Reply A
        whole r a s = cond (not r) (refuses code.ObjectNotInPrerequisiteState) (cond a (refuses code.ActiveSqlTransaction) (cond s Imported (refuses code.ObjectNotInPrerequisiteState)))

        same : import_reply w t i ≡ whole (is_read_only u.mode) u.asked (is_some (exported w i))
        same = ap (λ m. whole (is_read_only m) t.asked (is_some (exported w i))) p.did.mode ∙ ap (λ a. whole (is_read_only u.mode) a (is_some (exported w i))) p.finds.asked

        still : Moves w v t u (Import i) (refuses code.ObjectNotInPrerequisiteState) (refuses code.ObjectNotInPrerequisiteState)
        still = record { turn = stay w v g f h t u p; logs = Same_log; exports = Same_exports; dooms = same_dooms }

        at : (o o' : Option Exported_snapshot) → exported w i ≡ o → exported v i ≡ o' → is_read_only u.mode ≡ true
            → Moves w v t u (Import i) (cond (is_some o) Imported (refuses code.ObjectNotInPrerequisiteState)) (cond (is_some o') Imported (refuses code.ObjectNotInPrerequisiteState))
        at None None e e' r = still
        at None (Some b) e e' r = let a = exported_moves v w f g h.back i b e' in absurd (some_none a.0 (sym a.1 ∙ e))
        at (Some a) None e e' r = let b = exported_moves w v g f h.there i a e in absurd (some_none b.0 (sym b.1 ∙ e'))
        at (Some a) (Some b) e e' r = record {
          turn = subst (λ o. TurnAlike w v t u (import o w t) (import (exported v i) v u)) (sym e) (subst (λ o. TurnAlike w v t u (import (Some a) w t) (import o v u)) (sym c.1)
              (imported_turn w v g f h t u p a c.0 (find-In _ w.exports a e).0 (find-In _ v.exports c.0 c.1).0 c.2 r));
          logs = Same_log;
          exports = Same_exports;
          dooms = same_dooms;
        }
          where
            c : (c : Exported_snapshot) × (exported v i ≡ Some c) × ShowAlike w v a c
            c = exported_moves w v g f h.there i a e

        go : (r : Bool) → is_read_only u.mode ≡ r → (a : Bool) → Moves w v t u (Import i) (whole r a (is_some (exported w i))) (whole r a (is_some (exported v i)))
        go false e a = still
        go true e true = record { turn = stay w v g f h t u p; logs = Same_log; exports = Same_exports; dooms = same_dooms }
        go true e false = at (exported w i) (exported v i) refl refl e

    -- ---- a COMMIT

    abbrev as_done : World A → Txn A → Bool → Txn A
    as_done w t b = cond b (record (ended w Done t) { commit = commits w + 1 }) (ended w Done t)

    done_turns : (w : World A) (t : Txn A) → is_open t.standing ≡ true → Turns w t (numbered w t)
    done_turns w t o = go (is_read_write t.mode)
      where
        shut : (b : Bool) → is_waiting (as_done w t b) ≡ true → ⊥
        shut true q = true≢false (sym q)
        shut false q = true≢false (sym q)

        go : (b : Bool) → Turns w t (as_done w t b)
        go true = record { number = refl; session = refl; goes = record { mode = refl; begin = refl; end = inr (refl, refl, o) }; owed = open_owed t.standing o; waits = λ q. absurd (true≢false (sym q)) }
        go false = record { number = refl; session = refl; goes = record { mode = refl; begin = refl; end = inr (refl, refl, o) }; owed = open_owed t.standing o; waits = λ q. absurd (true≢false (sym q)) }

    done_stands : (x y : Txn A) (st st' : Standing) → st ≡ Done → st' ≡ Done → DidAlike x y → StandsAs w v t u st st' x y
    done_stands x y st st' a b d = subst (λ r. StandsAs w v t u r st' x y) (sym a) (subst (λ r. StandsAs w v t u Done r x y) (sym b) (d, p.active))

    committed_turn : TurnAlike w v t u (numbered w t) (numbered v u)
    committed_turn = record {
      here = p.here;
      there = p.there;
      session = p.session;
      left = done_turns w t p.is_open;
      right = done_turns v u p.opens;
      stands = done_stands (numbered w t) (numbered v u) (numbered w t).standing (numbered v u).standing (done-numbered w t) (done-numbered v u) (numbered_did w v t u h.last p.did);
      taken = λ a b. absurd (not_both (is_open (numbered w t).standing) (and_parts (is_open (numbered w t).standing) (must_wait (numbered w t)) a).0 (ap is_open (done-numbered w t)));
    }

    commit_moves : (o o' : Option Cause) → cause_of w t ≡ o → cause_of v u ≡ o' → Moves w v t u Commit (commit_reply o) (commit_reply o')
    commit_moves None (Some d) e e' = absurd (some_none d (sym e' ∙ no_cause_alike v w f g h.back (sym h.last) u t (pair_back p) e))
    commit_moves (Some c) None e e' = absurd (some_none c (sym e ∙ no_cause_alike w v g f h.there h.last t u p e'))
    commit_moves (Some c) (Some d) e e' = record { turn = aborted_turn w v g f h t u p; logs = Same_log; exports = Same_exports; dooms = same_dooms }
    commit_moves None None e e' = record { turn = committed_turn; logs = subst Logs same (logs (is_read_write t.mode)); exports = Same_exports; dooms = subst Fates same (fates (is_read_write t.mode)) }
      where
        same : is_read_write t.mode ≡ is_read_write u.mode
        same = ap is_read_write p.did.mode

        Logs : Bool → Type 0
        Logs b = Logged w v (numbered w t) (numbered v u) (cond (is_read_write t.mode) (w.log ++ numbered w t ∷ []) w.log) (cond b (v.log ++ numbered v u ∷ []) v.log)

        Fates : Bool → Type 0
        Fates b = DoomAlike w v (cond (is_read_write t.mode) (dooms node reads_from w.txns t) []) (cond b (dooms node reads_from v.txns u) [])

        logs : (b : Bool) → Logged w v (numbered w t) (numbered v u) (cond b (w.log ++ numbered w t ∷ []) w.log) (cond b (v.log ++ numbered v u ∷ []) v.log)
        logs true = Longer_log (numbered_did w v t u h.last p.did)
        logs false = Same_log

        fates : (b : Bool) → DoomAlike w v (cond b (dooms node reads_from w.txns t) []) (cond b (dooms node reads_from v.txns u) [])
        fates true = dooms_alike w v g f h t u p
        fates false = same_dooms

    -- ---- any action

    run_moves : (r s : Reply A) (q : _) → r ≡ s → Moves w v t u (Run q) r s
    run_moves r s q e = subst (Moves w v t u (Run q) r) e (record { turn = run_turn w v g f h t u p q r; logs = Same_log; exports = Same_exports; dooms = same_dooms })

    open_moves : (a : Action A) → Moves w v t u a (open_reply w t a) (open_reply v u a)
    open_moves (Begin m) = record { turn = stay w v g f h t u p; logs = Same_log; exports = Same_exports; dooms = same_dooms }
    open_moves (Run q) = run_moves (run_reply w t q) (run_reply v u q) q (run_alike w v g f h t u p q)
    open_moves (Broken r) = record { turn = failed_turn w v g f h t u p; logs = Same_log; exports = Same_exports; dooms = same_dooms }
    open_moves Poll = record { turn = poll_turn w v g f h t u p; logs = Same_log; exports = Same_exports; dooms = same_dooms }
    open_moves Export = export_moves
    open_moves (Import i) = import_moves i
    open_moves Commit = commit_moves (cause_of w t) (cause_of v u) refl refl
    open_moves Rollback = record { turn = aborted_turn w v g f h t u p; logs = Same_log; exports = Same_exports; dooms = same_dooms }
    open_moves Prune = record { turn = stay w v g f h t u p; logs = Same_log; exports = Same_exports; dooms = same_dooms }

  -- ---- a transaction that is over

  shut_turn : (w v : World A) (t u : Txn A) → In t w.txns → In u v.txns → t.session ≡ u.session → is_owed t.standing ≡ true → is_owed u.standing ≡ true → is_open t.standing ≡ false → is_open u.standing ≡ false
      → (st st' : Standing) → is_open st ≡ false → is_open st' ≡ false → StandsAs w v t u st st' (record t { standing = st }) (record u { standing = st' })
      → TurnAlike w v t u (record t { standing = st }) (record u { standing = st' })
  shut_turn w v t u i j n o o' s s' st st' c c' k = record {
    here = i;
    there = j;
    session = n;
    left = turns w t st o s c;
    right = turns v u st' o' s' c';
    stands = k;
    taken = λ a b. absurd (shut t st c a);
  }
    where
      shut : (t : Txn A) (st : Standing) → is_open st ≡ false → is_waiting (record t { standing = st }) ≡ true → ⊥
      shut t st c q = not_both (is_open st) (and_parts (is_open st) (must_wait t) q).0 c

      turns : (w : World A) (t : Txn A) (st : Standing) → is_owed t.standing ≡ true → is_open t.standing ≡ false → is_open st ≡ false → Turns w t (record t { standing = st })
      turns w t st o s c = record { number = refl; session = refl; goes = record { mode = refl; begin = refl; end = inl (refl, c ∙ sym s) }; owed = o; waits = λ q. absurd (not_both (is_open st) (and_parts (is_open st) (must_wait t) q).0 c) }

  told_shut : (a : Action A) (c : Cause) → is_open (told a (Doomed c)) ≡ false
  told_shut (Begin m) c = refl
  told_shut Prune c = refl
  told_shut Commit c = refl
  told_shut Rollback c = refl
  told_shut _ c = refl

  settled_shut : (a : Action A) → is_open (settled a Failed) ≡ false
  settled_shut Commit = refl
  settled_shut Rollback = refl
  settled_shut _ = refl

  told_stands : (w v : World A) (t u x y : Txn A) (a : Action A) (c d : Cause) → StandsAs w v t u (told a (Doomed c)) (told a (Doomed d)) x y
  told_stands w v t u x y (Begin m) c d = tt
  told_stands w v t u x y Prune c d = tt
  told_stands w v t u x y Commit c d = tt
  told_stands w v t u x y Rollback c d = tt
  told_stands w v t u x y _ c d = tt

  settled_stands : (w v : World A) (t u x y : Txn A) (a : Action A) → StandsAs w v t u (settled a Failed) (settled a Failed) x y
  settled_stands w v t u x y Commit = tt
  settled_stands w v t u x y Rollback = tt
  settled_stands w v t u x y _ = tt

  -- what is open was there and open
  was_open : (w : World A) (t x : Txn A) → In t w.txns → Turns w t x → (z : Txn A) → In z (replaced x w.txns) → is_open z.standing ≡ true → (a : Txn A) × In a w.txns × (is_open a.standing ≡ true) × (z.number ≡ a.number) × (z.session ≡ a.session)
  was_open w t x j c z i o = go (In-replaced z x w.txns i)
    where
      go : (z ≡ x) ⊎ In z w.txns × (eqb z.number x.number ≡ false) → (a : Txn A) × In a w.txns × (is_open a.standing ≡ true) × (z.number ≡ a.number) × (z.session ≡ a.session)
      go (inl q) = (t, j, was c.goes.end, ap (λ (b : Txn A). b.number) q ∙ c.number, ap (λ (b : Txn A). b.session) q ∙ c.session)
        where
          was : (x.end ≡ t.end) × (is_open x.standing ≡ is_open t.standing) ⊎ (x.end ≡ w.place + 1) × (is_open x.standing ≡ false) × (is_open t.standing ≡ true) → is_open t.standing ≡ true
          was (inl r) = sym r.1 ∙ sym (ap (λ (b : Txn A). is_open b.standing) q) ∙ o
          was (inr r) = r.2
      go (inr r) = (z, r.0, o, refl, refl)

  -- the world after an event of a session whose transaction t it makes x
  abbrev pub happened : World A → Action A → Reply A → Txn A → Txn A → World A
  happened w a r t x = dooming (turning w x (log_after w a r t) (exports_after w a r t)) (causes w a r t)

  module _ (w v : World A) (g : IsOrderly w) (f : IsOrderly v) (h : Alike w v) where
    open_happened : (t u : Txn A) (p : IsPair w v t u) (a : Action A) → Alike (happened w a (open_reply w t a) t (moved w a (open_reply w t a) t)) (happened v a (open_reply v u a) u (moved v a (open_reply v u a) u))
    open_happened t u p a = alike_doomed (turning w x l k) (turning v y m n) cs ds (alike_turned w v g f h t u x y o.turn l m o.logs k n o.exports) same
      where
        r : Reply A
        r = open_reply w t a

        s : Reply A
        s = open_reply v u a

        x : Txn A
        x = moved w a r t

        y : Txn A
        y = moved v a s u

        l : List (Txn A)
        l = log_after w a r t

        m : List (Txn A)
        m = log_after v a s u

        k : List Exported_snapshot
        k = exports_after w a r t

        n : List Exported_snapshot
        n = exports_after v a s u

        cs : List Cause
        cs = causes w a r t

        ds : List Cause
        ds = causes v a s u

        o : Moves w v t u a r s
        o = open_moves w v g f h t u p a

        same : AreSameSessions (turning w x l k) (turning v y m n) cs ds
        same b d i j q q' e = ap (λ (z : ℕ). list_any (λ (c : Cause). eqb c.b.0 z) cs) b0.3 ∙ o.dooms b0.0 d0.0 (pair w v h.there f b0.0 d0.0 b0.1 d0.1 b0.2 d0.2 (sym b0.4 ∙ e ∙ d0.4)) ∙ ap (λ (z : ℕ). list_any (λ (c : Cause). eqb c.b.0 z) ds) (sym d0.3)
          where
            b0 : (z : Txn A) × In z w.txns × (is_open z.standing ≡ true) × (b.number ≡ z.number) × (b.session ≡ z.session)
            b0 = was_open w t x o.turn.here o.turn.left b i q

            d0 : (z : Txn A) × In z v.txns × (is_open z.standing ≡ true) × (d.number ≡ z.number) × (d.session ≡ z.session)
            d0 = was_open v u y o.turn.there o.turn.right d j q'

    -- where only how it stands changes
    shut_happened : (t u x y : Txn A) → TurnAlike w v t u x y → Alike (dooming (turning w x w.log w.exports) []) (dooming (turning v y v.log v.exports) [])
    shut_happened t u x y c = alike_doomed (turning w x w.log w.exports) (turning v y v.log v.exports) [] [] (alike_turned w v g f h t u x y c w.log v.log Same_log w.exports v.exports Same_exports) (λ b d i j q q' e. refl)

    doomed_happened : (t u x y : Txn A) (c d : Cause) → TurnAlike w v t u x y → (a : Action A) → Alike (happened w a (doomed c a) t x) (happened v a (doomed d a) u y)
    doomed_happened t u x y c d k (Begin m) = shut_happened t u x y k
    doomed_happened t u x y c d k Commit = shut_happened t u x y k
    doomed_happened t u x y c d k Export = shut_happened t u x y k
    doomed_happened t u x y c d k _ = shut_happened t u x y k

    failed_happened : (t u x y : Txn A) → TurnAlike w v t u x y → (a : Action A) → Alike (happened w a (failed a) t x) (happened v a (failed a) u y)
    failed_happened t u x y k Commit = shut_happened t u x y k
    failed_happened t u x y k Export = shut_happened t u x y k
    failed_happened t u x y k _ = shut_happened t u x y k

    pub twin_happened : (t u : Txn A) → In t w.txns → In u v.txns → t.session ≡ u.session → is_owed t.standing ≡ true → is_owed u.standing ≡ true → (a : Action A) → (st st' : Standing) → t.standing ≡ st → u.standing ≡ st' → StandAlike w v st st' t u
        → Alike (happened w a (reply_from st w t a) t (turned_from st w a (reply_from st w t a) t)) (happened v a (reply_from st' v u a) u (turned_from st' v a (reply_from st' v u a) u))
    twin_happened t u i j n o o' a Open Open e e' s = open_happened t u (pair w v h.there f t u i j (ap is_open e) (ap is_open e') n) a
    twin_happened t u i j n o o' a (Doomed c) (Doomed d) e e' s = doomed_happened t u (record t { standing = told a t.standing }) (record u { standing = told a u.standing }) c d
        (shut_turn w v t u i j n o o' (ap is_open e) (ap is_open e') (told a t.standing) (told a u.standing) (ap (λ r. is_open (told a r)) e ∙ told_shut a c) (ap (λ r. is_open (told a r)) e' ∙ told_shut a d)
        (subst (λ r. StandsAs w v t u (told a r) (told a u.standing) x y) (sym e) (subst (λ r. StandsAs w v t u (told a (Doomed c)) (told a r) x y) (sym e') (told_stands w v t u x y a c d)))) a
      where
        x : Txn A
        x = record t { standing = told a t.standing }

        y : Txn A
        y = record u { standing = told a u.standing }
    twin_happened t u i j n o o' a Failed Failed e e' s = failed_happened t u (record t { standing = settled a t.standing }) (record u { standing = settled a u.standing })
        (shut_turn w v t u i j n o o' (ap is_open e) (ap is_open e') (settled a t.standing) (settled a u.standing) (ap (λ r. is_open (settled a r)) e ∙ settled_shut a) (ap (λ r. is_open (settled a r)) e' ∙ settled_shut a)
        (subst (λ r. StandsAs w v t u (settled a r) (settled a u.standing) x y) (sym e) (subst (λ r. StandsAs w v t u (settled a Failed) (settled a r) x y) (sym e') (settled_stands w v t u x y a)))) a
      where
        x : Txn A
        x = record t { standing = settled a t.standing }

        y : Txn A
        y = record u { standing = settled a u.standing }
    twin_happened t u i j n o o' a Done Done e e' s = absurd (not_both (is_done t.standing) (ap is_done e) (owed_undone t.standing o))
    twin_happened t u i j n o o' a _ _ e e' s = absurd s
