-- Each action of each session gets the same reply, but for numbers, in alike worlds.
use Rattle.std.proofs.Common.{◌≡◌, refl, sym, ap, ◌∙◌, ℕ, ◌+◌, Bool, true, false, true≢false, cond, not, ◌&&◌, Option, Some, None, is_some}
use Rattle.value.proofs.IsolationLemmas.{In}
use Rattle.value.specs.declared.refusal.Cause.{Cause}
use Rattle.value.specs.declared.refusal.Mode.{Mode}
use Rattle.value.specs.declared.refusal.Code.TheVariants as code
use Rattle.statement.specs.declared.statement.Statement.{Statement}
use Rattle.statement.specs.declared.outcome.Outcome.{Outcome}
use Rattle.statement.specs.declared.reply.Reply.{Reply}
use Rattle.statement.specs.declared.reply.Reply.TheVariants.{Imported, Safe, Wait, Exported}
use Rattle.statement.specs.Evaluation.{outcome, writes}
use Rattle.schema.specs.Plain.{put_all}
use Rattle.history.specs.declared.event.Action.{Action}
use Rattle.history.specs.declared.event.Action.TheVariants.{Begin, Run, Broken, Poll, Export, Import, Commit, Rollback, Prune}
use Rattle.history.specs.Transactions.{Standing, Open, Doomed, Failed, Done, Txn, World, Exported_snapshot, commits, current, exported, is_deferrable, is_open, is_owed, is_pending, is_read_only, is_read_write, is_spoilt, must_wait, tables_at}
use Rattle.history.specs.Events.{next_identifier, polled, with_snapshot}
use Rattle.history.specs.Answer.{cause_of, commit_reply, doomed, is_refused, meets_another, open_reply, poll_reply, refuses, refuses_row, reply_from, reply_in, reply_of, run_reply}
use Rattle.alike.specs.Told.{as_told}
use Rattle.alike.specs.Worlds.{Alike, AreTwins, HasLike, StandAlike, is_waiting}
use Rattle.alike.proofs.Sides.{and2, same_bool, some_none}
use Rattle.alike.proofs.Orderly.{IsOrderly, current_has, current_is}
use Rattle.alike.proofs.Edges.{no_cause_alike}
use Rattle.alike.proofs.Questions.{exported_moves, meets_alike, pending_alike, sees, sees_now, spoilt_alike}
use Rattle.alike.proofs.Twins.{IsPair, owed_counts, owed_twin, pair, pair_back, twin}

module _ {A : Type 0} where
  doomed_alike : (c d : Cause) (a : Action A) → as_told (doomed c a) ≡ as_told (doomed d a)
  doomed_alike c d (Begin m) = refl
  doomed_alike c d Rollback = refl
  doomed_alike c d Prune = refl
  doomed_alike c d _ = refl

  -- a session's transaction has its twin
  pub current_moves : (w v : World A) → IsOrderly w → IsOrderly v → HasLike w v → (s : ℕ) (t : Txn A) → current w s ≡ Some t → (u : Txn A) × (current v s ≡ Some u) × In t w.txns × In u v.txns × AreTwins w v t u
  current_moves w v g f h s t e = (y.0, current_is v f s y.0 y.1 (owed_twin w v t y.0 t.standing y.0.standing c.2 y.2.1) (sym y.2.0 ∙ c.1), c.0, y.1, y.2)
    where
      c : In t w.txns × (t.session ≡ s) × (is_owed t.standing ≡ true)
      c = current_has w g s t e

      y : (u : Txn A) × In u v.txns × AreTwins w v t u
      y = twin w v h t c.0 (owed_counts t c.2)

  module _ (w v : World A) (g : IsOrderly w) (f : IsOrderly v) (h : Alike w v) where
    pub exported_alike : (n : ℕ) → is_some (exported w n) ≡ is_some (exported v n)
    exported_alike n = same_bool (is_some (exported w n)) (is_some (exported v n)) (λ e. one (exported w n) refl e) (λ e. other (exported v n) refl e)
      where
        one : (o : Option Exported_snapshot) → exported w n ≡ o → is_some (exported w n) ≡ true → is_some (exported v n) ≡ true
        one (Some x) q e = ap is_some (exported_moves w v g f h.there n x q).1
        one None q e = absurd (true≢false (sym e ∙ ap is_some q))

        other : (o : Option Exported_snapshot) → exported v n ≡ o → is_some (exported v n) ≡ true → is_some (exported w n) ≡ true
        other (Some x) q e = ap is_some (exported_moves v w f g h.back n x q).1
        other None q e = absurd (true≢false (sym e ∙ ap is_some q))

    module _ (t u : Txn A) (p : IsPair w v t u) where
      pub waits_alike : must_wait t ≡ must_wait u
      waits_alike = ap (λ m. is_deferrable m && not t.known) p.did.mode ∙ ap (λ k. is_deferrable u.mode && not k) p.finds.known

      pub own_alike : t.own ≡ u.own
      own_alike = g.owns t p.here ∙ ap (λ cs. put_all cs (tables_at w t.snapshot)) p.did.changes ∙ ap (put_all u.changes) p.shown ∙ sym (f.owns u p.there)

      pub outcome_alike : (q : Statement A) → outcome w.catalog q t.own ≡ outcome v.catalog q u.own
      outcome_alike q = ap (λ c. outcome c q t.own) h.catalog ∙ ap (outcome v.catalog q) own_alike

      pub run_alike : (q : Statement A) → run_reply w t q ≡ run_reply v u q
      run_alike q =
          ap (λ b. whole b (writes q && not (is_read_write t.mode)) (outcome w.catalog q t.own) (meets_another w t (outcome w.catalog q t.own).changes)) waits_alike
          ∙ ap (λ m. whole (must_wait u) (writes q && not (is_read_write m)) (outcome w.catalog q t.own) (meets_another w t (outcome w.catalog q t.own).changes)) p.did.mode
          ∙ ap (whole (must_wait u) (writes q && not (is_read_write u.mode)) (outcome w.catalog q t.own)) (meets_alike w v g f h t u p (outcome w.catalog q t.own).changes)
          ∙ ap (λ o. whole (must_wait u) (writes q && not (is_read_write u.mode)) o (meets_another v u o.changes)) (outcome_alike q)
        where
          whole : Bool → Bool → Outcome A → Bool → Reply A
          whole wait only o m = cond wait (refuses code.ObjectNotInPrerequisiteState) (cond only (refuses code.ReadOnlySqlTransaction) (cond (is_refused o.reply) o.reply (cond m refuses_row o.reply)))

      -- ---- a POLL

      abbrev pub took : World A → Txn A → Bool → Txn A
      took r x b = cond b (with_snapshot r (commits r) (r.place + 1) x) x

      pub spoils_alike : is_waiting t ≡ true → is_waiting u ≡ true → (not t.known && is_spoilt w.txns t) ≡ (not u.known && is_spoilt v.txns u)
      spoils_alike a b = ap (λ k. not k && is_spoilt w.txns t) p.finds.known ∙ ap (λ s. not u.known && s) (spoilt_alike w v g f h t u p a b)

      pub pending_polled : is_waiting t ≡ true → is_waiting u ≡ true → is_pending w.txns (polled w t) ≡ is_pending v.txns (polled v u)
      pending_polled a b = go (not t.known && is_spoilt w.txns t) ∙ ap (λ s. is_pending v.txns (took v u s)) (spoils_alike a b)
        where
          go : (s : Bool) → is_pending w.txns (took w t s) ≡ is_pending v.txns (took v u s)
          go true = pending_alike w v g f h (took w t true) (took v u true) (sees_now w v g f h.there t u)
          go false = pending_alike w v g f h t u (sees w v g f h.there t u p a b)

      waiting : (x : Txn A) → is_open x.standing ≡ true → is_deferrable x.mode ≡ true → x.known ≡ false → is_waiting x ≡ true
      waiting x o d k = and2 (is_open x.standing) (must_wait x) o (and2 (is_deferrable x.mode) (not x.known) d (ap not k))

      pub poll_alike : as_told (poll_reply w t) ≡ as_told (poll_reply v u)
      poll_alike = ap (λ m. whole (is_deferrable m) t.known t.snapshot (is_pending w.txns (polled w t)) (polled w t).snapshot) p.did.mode
          ∙ ap (λ k. whole (is_deferrable u.mode) k t.snapshot (is_pending w.txns (polled w t)) (polled w t).snapshot) p.finds.known
          ∙ go (is_deferrable u.mode) refl u.known refl
        where
          whole : Bool → Bool → ℕ → Bool → ℕ → Reply A
          whole d k n b m = as_told (cond (not d) (refuses code.ObjectNotInPrerequisiteState) (cond k (Safe n) (cond b Wait (Safe m))))

          last : (b : Bool) (n m : ℕ) → as_told {A = A} (cond b Wait (Safe n)) ≡ as_told (cond b Wait (Safe m))
          last true n m = refl
          last false n m = refl

          go : (d : Bool) → is_deferrable u.mode ≡ d → (k : Bool) → u.known ≡ k → whole d k t.snapshot (is_pending w.txns (polled w t)) (polled w t).snapshot ≡ whole d k u.snapshot (is_pending v.txns (polled v u)) (polled v u).snapshot
          go false e k q = refl
          go true e true q = refl
          go true e false q = ap (λ b. as_told (cond b Wait (Safe (polled w t).snapshot)))
              (pending_polled (waiting t p.is_open (ap is_deferrable p.did.mode ∙ e) (p.finds.known ∙ q)) (waiting u p.opens e q)) ∙ last (is_pending v.txns (polled v u)) (polled w t).snapshot (polled v u).snapshot

      -- ---- a COMMIT

      pub commit_alike : (o o' : Option Cause) → cause_of w t ≡ o → cause_of v u ≡ o' → as_told {A = A} (commit_reply o) ≡ as_told (commit_reply o')
      commit_alike None None e e' = refl
      commit_alike (Some c) (Some d) e e' = refl
      commit_alike None (Some d) e e' = absurd (some_none d (sym e' ∙ no_cause_alike v w f g h.back (sym h.last) u t (pair_back p) e))
      commit_alike (Some c) None e e' = absurd (some_none c (sym e ∙ no_cause_alike w v g f h.there h.last t u p e'))

      pub open_alike : (a : Action A) → as_told (open_reply w t a) ≡ as_told (open_reply v u a)
      open_alike (Begin m) = refl
      open_alike (Run q) = ap as_told (run_alike q)
      open_alike (Broken r) = refl
      open_alike Poll = poll_alike
      open_alike Export = ap (λ b. as_told (cond b (refuses code.ObjectNotInPrerequisiteState) (Exported (next_identifier w)))) waits_alike
          ∙ ap (λ n. as_told (cond (must_wait u) (refuses code.ObjectNotInPrerequisiteState) (Exported n))) h.identifiers
      open_alike (Import n) = ap (λ m. whole m t.asked (is_some (exported w n))) p.did.mode ∙ ap (λ b. whole u.mode b (is_some (exported w n))) p.finds.asked ∙ ap (whole u.mode u.asked) (exported_alike n)
        where
          whole : Mode → Bool → Bool → Reply A
          whole m b s = as_told (cond (not (is_read_only m)) (refuses code.ObjectNotInPrerequisiteState) (cond b (refuses code.ActiveSqlTransaction) (cond s Imported (refuses code.ObjectNotInPrerequisiteState))))
      open_alike Commit = commit_alike (cause_of w t) (cause_of v u) refl refl
      open_alike Rollback = refl
      open_alike Prune = refl

    pub reply_alike : (s : ℕ) (a : Action A) → as_told (reply_in w s a) ≡ as_told (reply_in v s a)
    reply_alike s a = go (current w s) (current v s) refl refl
      where
        stand : (t u : Txn A) → In t w.txns → In u v.txns → t.session ≡ u.session → (st st' : Standing) → t.standing ≡ st → u.standing ≡ st' → StandAlike w v st st' t u → as_told (reply_from st w t a) ≡ as_told (reply_from st' v u a)
        stand t u i j n Open Open e e' k = open_alike t u (pair w v h.there f t u i j (ap is_open e) (ap is_open e') n) a
        stand t u i j n (Doomed c) (Doomed d) e e' k = doomed_alike c d a
        stand t u i j n Failed Failed e e' k = refl
        stand t u i j n Done Done e e' k = refl
        stand t u i j n _ _ e e' k = absurd k

        go : (o o' : Option (Txn A)) → current w s ≡ o → current v s ≡ o' → as_told (reply_of w o a) ≡ as_told (reply_of v o' a)
        go None None e e' = refl
        go None (Some u) e e' = let r = current_moves v w f g h.back s u e' in absurd (some_none r.0 (sym r.1 ∙ e))
        go (Some t) o' e e' = let r = current_moves w v g f h.there s t e in
            stand t r.0 r.2 r.3 r.4.0 t.standing r.0.standing refl refl r.4.1 ∙ ap (λ o. as_told (reply_of v o a)) (sym r.1 ∙ e')
