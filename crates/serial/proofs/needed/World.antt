-- The world of what is kept answers as the world of the whole history does, and an event makes of it what is kept of what it makes of the whole.
use Rattle.std.proofs.Common.{◌≡◌, refl, sym, ap, ◌∙◌, ℕ, ◌+◌, Bool, true, false, true≢false, cond, not, ◌&&◌, ◌||◌, List, [], ◌∷◌, map, Option, Some, None, is_some, eqb}
use Rattle.std.proofs.lemmas.Bool.{and_parts}
use Rattle.std.specs.List.{find, list_any}
use Rattle.value.specs.declared.refusal.Cause.{Cause}
use Rattle.value.specs.declared.refusal.Code.TheVariants as code
use Rattle.value.proofs.IsolationLemmas.{In}
use Rattle.schema.specs.Definition.{Catalog}
use Rattle.schema.specs.declared.tables.Tables.{Tables}
use Rattle.schema.specs.declared.changes.Change.{Change}
use Rattle.statement.specs.declared.statement.Statement.{Statement}
use Rattle.statement.specs.declared.statement.Statement.TheVariants.{Select}
use Rattle.statement.specs.declared.reply.Reply.{Reply}
use Rattle.statement.specs.declared.reply.Reply.TheVariants.{Imported, Safe, Wait}
use Rattle.statement.specs.Evaluation.{outcome, writes}
use Rattle.history.specs.declared.event.Action.{Action}
use Rattle.history.specs.declared.event.Action.TheVariants.{Begin, Run, Broken, Poll, Export, Import, Commit, Rollback, Prune}
use Rattle.history.specs.declared.event.Record.{Record}
use Rattle.history.specs.Opening.{Opening}
use Rattle.history.specs.Transactions.{Standing, Open, Doomed, Failed, Aborted, Done, Txn, World, commits, current, exported, is_deferrable, is_living, is_open, is_pending, is_read_only, is_read_write, must_wait}
use Rattle.history.specs.Events.{doomed_by, polled, with_snapshot, world_of}
use Rattle.history.specs.Answer.{Legal, commit_reply, is_refused, is_taken, meets_another, open_reply, poll_reply, refuses, refuses_row, reply_from, reply_in, reply_of, run_reply}
use Rattle.history.specs.Needed.{Keeps, is_safe_reader, is_settled, kept_of, thin}
use Rattle.serial.proofs.legal.Legal.{current_in}
use Rattle.serial.proofs.structures.Dooms.{number-doomed}
use Rattle.serial.proofs.legal.EndsSeen.{EndsSeen, ends_seen}
use Rattle.serial.proofs.order.SerialTheorem.{IsGood, good_world}
use Rattle.serial.proofs.needed.Cause.{cause_of_kept}
use Rattle.serial.proofs.needed.Questions.{pending_of_kept, poll_of_kept}
use Rattle.serial.proofs.needed.Replies.{current_of_kept, living_of_kept, taken_of_kept}

find_same : {X : Type 0} (p q : X → Bool) (xs : List X) → ((x : X) → p x ≡ q x) → find p xs ≡ find q xs
find_same p q [] h = refl
find_same p q (x ∷ xs) h = ap (λ b. cond b (Some x) (find p xs)) (h x) ∙ ap (λ o. cond (q x) (Some x) o) (find_same p q xs h)

module _ {A : Type 0} where
  reads_only : (c : Catalog) (q : Statement A) (X : Tables A) → writes q ≡ false → (outcome c q X).changes ≡ []
  reads_only c (Select t p conditions) X e = refl
  reads_only c _ X e = absurd (true≢false e)

  none_taken : (ts us : List (Txn A)) (t : Txn A) (xs : List (Change A)) → xs ≡ [] → list_any (λ x. list_any (λ u. is_taken t u x) ts) xs ≡ list_any (λ x. list_any (λ u. is_taken t u x) us) xs
  none_taken ts us t xs e = ap (list_any (λ x. list_any (λ u. is_taken t u x) ts)) e ∙ sym (ap (list_any (λ x. list_any (λ u. is_taken t u x) us)) e)

  module _ (w : World A) (g : IsGood w) (ends : EndsSeen w) (n : ℕ) (keep : ℕ → Bool) (h : Keeps w n keep) where
    pub exported_alike : (i : ℕ) → exported (thin keep w) i ≡ exported w i
    exported_alike i = find_same (λ x. eqb x.id i && is_living (kept_of keep w.txns) x) (λ x. eqb x.id i && is_living w.txns x) w.exports (λ x. ap (λ b. eqb x.id i && b) (living_of_kept w n keep h x))

    module _ (t : Txn A) (i : In t w.txns) (o : is_open t.standing ≡ true) where
      pub polled_alike : t.known ≡ false → polled (thin keep w) t ≡ polled w t
      polled_alike k = ap (λ b. cond (not t.known && b) (with_snapshot w (commits w) (w.place + 1) t) t) (poll_of_kept w g ends n keep h t i o (unknown (is_read_write t.mode) t.known k))
        where
          unknown : (a b : Bool) → b ≡ false → (not a && b) ≡ false
          unknown true b e = refl
          unknown false b e = e

      poll_alike : poll_reply (thin keep w) t ≡ poll_reply w t
      poll_alike = go t.known refl
        where
          last : World A → Reply A
          last v = cond (is_pending v.txns (polled v t)) Wait (Safe (polled v t).snapshot)

          whole : Bool → Reply A → Reply A
          whole k r = cond (not (is_deferrable t.mode)) (refuses code.ObjectNotInPrerequisiteState) (cond k (Safe t.snapshot) r)

          go : (k : Bool) → t.known ≡ k → whole t.known (last (thin keep w)) ≡ whole t.known (last w)
          go true k = ap (λ b. whole b (last (thin keep w))) k ∙ sym (ap (λ b. whole b (last w)) k)
          go false k = ap (whole t.known)
              (ap (λ b. cond b Wait (Safe (polled (thin keep w) t).snapshot)) (pending_of_kept w n keep h (polled (thin keep w) t))
              ∙ ap (λ (y : Txn A). cond (is_pending w.txns y) Wait (Safe y.snapshot)) (polled_alike k))

      run_alike : (q : Statement A) → run_reply (thin keep w) t q ≡ run_reply w t q
      run_alike q = go (is_safe_reader w.txns t) refl
        where
          r : Reply A
          r = (outcome w.catalog q t.own).reply

          xs : List (Change A)
          xs = (outcome w.catalog q t.own).changes

          met : World A → Bool
          met v = meets_another v t xs

          whole : Bool → Bool → Reply A
          whole b m = cond (must_wait t) (refuses code.ObjectNotInPrerequisiteState) (cond b (refuses code.ReadOnlySqlTransaction) (cond (is_refused r) r (cond m refuses_row r)))

          by_writes : is_safe_reader w.txns t ≡ true → (b : Bool) → writes q ≡ b → whole (writes q && not (is_read_write t.mode)) (met (thin keep w)) ≡ whole (writes q && not (is_read_write t.mode)) (met w)
          by_writes s true e = ap (λ b. whole b (met (thin keep w))) refused ∙ sym (ap (λ b. whole b (met w)) refused)
            where
              refused : (writes q && not (is_read_write t.mode)) ≡ true
              refused = ap (λ b. b && not (is_read_write t.mode)) e ∙ (and_parts (not (is_read_write t.mode)) (t.known || is_settled w.txns t) s).0
          by_writes s false e = ap (whole (writes q && not (is_read_write t.mode))) (none_taken (kept_of keep w.txns) w.txns t xs (reads_only w.catalog q t.own e))

          go : (s : Bool) → is_safe_reader w.txns t ≡ s → whole (writes q && not (is_read_write t.mode)) (met (thin keep w)) ≡ whole (writes q && not (is_read_write t.mode)) (met w)
          go true s = by_writes s (writes q) refl
          go false s = ap (whole (writes q && not (is_read_write t.mode))) (taken_of_kept w n keep h g t i o s xs)

      open_alike : (a : Action A) → open_reply (thin keep w) t a ≡ open_reply w t a
      open_alike (Begin m) = refl
      open_alike (Run q) = run_alike q
      open_alike (Broken r) = refl
      open_alike Poll = poll_alike
      open_alike Export = refl
      open_alike (Import j) = ap (λ x. cond (not (is_read_only t.mode)) (refuses code.ObjectNotInPrerequisiteState) (cond t.asked (refuses code.ActiveSqlTransaction)
          (cond (is_some x) Imported (refuses code.ObjectNotInPrerequisiteState)))) (exported_alike j)
      open_alike Commit = ap commit_reply (cause_of_kept w g t i o n keep h)
      open_alike Rollback = refl
      open_alike Prune = refl

    reply_alike : (s : ℕ) (a : Action A) → reply_in (thin keep w) s a ≡ reply_in w s a
    reply_alike s a = ap (λ o. reply_of (thin keep w) o a) (current_of_kept w n keep h s) ∙ go (current w s) refl
      where
        standing : (t : Txn A) → current w s ≡ Some t → (st : Standing) → t.standing ≡ st → reply_from st (thin keep w) t a ≡ reply_from st w t a
        standing t e Open p = open_alike t (current_in w s t e).0 (ap is_open p) a
        standing t e (Doomed c) p = refl
        standing t e Failed p = refl
        standing t e Aborted p = refl
        standing t e Done p = refl

        go : (o : Option (Txn A)) → current w s ≡ o → reply_of (thin keep w) o a ≡ reply_of w o a
        go None e = refl
        go (Some t) e = standing t e t.standing refl

  pub replies_kept : (o : Opening A) (es : List (Record A)) → Legal o es → (n : ℕ) (keep : ℕ → Bool) → Keeps (world_of o es) n keep → (s : ℕ) (a : Action A) → reply_in (thin keep (world_of o es)) s a ≡ reply_in (world_of o es) s a
  replies_kept o es l n keep h s a = reply_alike (world_of o es) (good_world o es l) (ends_seen o es l) n keep h s a

  -- ---- what an event makes of them

  pub kept_doomed : (keep : ℕ → Bool) (place : ℕ) (cs : List Cause) (ts : List (Txn A)) → kept_of keep (map (doomed_by place cs) ts) ≡ map (doomed_by place cs) (kept_of keep ts)
  kept_doomed keep place cs [] = refl
  kept_doomed keep place cs (t ∷ ts) = ap (λ m. cond (keep m) (doomed_by place cs t ∷ kept_of keep (map (doomed_by place cs) ts)) (kept_of keep (map (doomed_by place cs) ts))) (number-doomed place cs t) ∙ go (keep t.number) (kept_doomed keep place cs ts)
    where
      go : (b : Bool) → kept_of keep (map (doomed_by place cs) ts) ≡ map (doomed_by place cs) (kept_of keep ts)
          → cond b (doomed_by place cs t ∷ kept_of keep (map (doomed_by place cs) ts)) (kept_of keep (map (doomed_by place cs) ts)) ≡ map (doomed_by place cs) (cond b (t ∷ kept_of keep ts) (kept_of keep ts))
      go true e = ap (λ us. doomed_by place cs t ∷ us) e
      go false e = e
