-- What a legal event makes of a world.
use Rattle.std.proofs.Common.{◌≡◌, refl, sym, ap, subst, ◌∙◌, ℕ, ◌+◌, Bool, true, false, true≢false, cond, not, ◌&&◌, List, [], ◌∷◌, ◌++◌, map, Option, Some, None, is_some, if◌then◌else◌, eqb}
use Rattle.std.specs.Cmp.{second_so}
use Rattle.std.specs.List.{list_any}
use Rattle.value.specs.declared.refusal.Mode.{Mode}
use Rattle.value.specs.declared.refusal.Refusal.{Refusal}
use Rattle.value.specs.declared.refusal.Cause.{Cause}
use Rattle.value.specs.declared.refusal.Code.TheVariants as code
use Rattle.value.proofs.IsolationLemmas.{In}
use Rattle.value.proofs.Basics.{find-In}
use Rattle.statement.specs.declared.statement.Statement.{Statement}
use Rattle.statement.specs.declared.reply.Reply.{Reply}
use Rattle.statement.specs.declared.reply.Reply.TheVariants.{Imported, Safe, Wait, Exported, Refused}
use Rattle.statement.specs.Evaluation.{outcome, writes}
use Rattle.history.specs.declared.event.Action.{Action}
use Rattle.history.specs.declared.event.Action.TheVariants.{Begin, Run, Broken, Poll, Export, Import, Commit, Rollback, Prune}
use Rattle.history.specs.Transactions.{Standing, Open, Doomed, Failed, Aborted, Done, Txn, World, Exported_snapshot, commits, is_open, is_done, is_owed, is_read_write, is_read_only, is_deferrable, is_of, is_spoilt, is_pending, must_wait, exported, current}
use Rattle.history.specs.Events.{goes_on, fails, moved, told, settled, turned_from, ended, numbered, ran, polled, import, begun, causes, doomed_by, log_after, exports_after, next_identifier, with_snapshot, replaced, followed, follows}
use Rattle.history.specs.Answer.{reply_in, reply_of, reply_from, open_reply, run_reply, poll_reply, export_reply, import_reply, commit_reply, cause_of, is_refused, is_taken, refuses, failed, doomed, Allowed}
use Rattle.statement.specs.Fits.{Fits}

module _ {A : Type 0} where
  -- What an answered action makes of the open transaction that took it, and what is known where it does.
  pub data Move (w : World A) (t : Txn A) : Txn A → List (Txn A) → List Exported_snapshot → Type 0 where
    Stays : Move w t t w.log w.exports
    Fails : Move w t (ended w Failed t) w.log w.exports
    Aborts : Move w t (ended w Aborted t) w.log w.exports
    Commits : cause_of w t ≡ None → Move w t (numbered w t) (if is_read_write t.mode then w.log ++ numbered w t ∷ [] else w.log) w.exports
    Runs : (q : Statement A) → Fits w.catalog q → must_wait t ≡ false → (writes q && not (is_read_write t.mode)) ≡ false
        → list_any (λ x. list_any (λ u. is_taken t u x) w.txns) (outcome w.catalog q t.own).changes ≡ false → Move w t (ran w q (outcome w.catalog q t.own).reply t) w.log w.exports
    Asks : must_wait t ≡ false → Move w t (record t { asked = true }) w.log (w.exports ++ record { id = next_identifier w; exporter = t.number; snapshot = t.snapshot; taken = t.taken; known = t.known } ∷ [])
    Polls : is_deferrable t.mode ≡ true → t.known ≡ false → Move w t (polled w t) w.log w.exports
    Learns : is_deferrable t.mode ≡ true → t.known ≡ false → is_pending w.txns (polled w t) ≡ false → Move w t (record (polled w t) { known = true }) w.log w.exports
    Imports : (i : ℕ) (x : Exported_snapshot) → is_read_only t.mode ≡ true → t.asked ≡ false → exported w i ≡ Some x → Move w t (import (Some x) w t) w.log w.exports

  fails_is : (w : World A) (r : Refusal) (t : Txn A) → Move w t (fails w r t) w.log w.exports
  fails_is w r t = go (goes_on r.code)
    where
      go : (b : Bool) → Move w t (cond b t (ended w Failed t)) w.log w.exports
      go true = Stays
      go false = Fails

  -- a refused statement
  run_refused : (w : World A) (q : Statement A) (t : Txn A) (r : Reply A) → is_refused r ≡ true → Move w t (moved w (Run q) r t) w.log w.exports
  run_refused w q t (Refused r) e = fails_is w r t
  run_refused w q t _ e = absurd (true≢false (sym e))

  ran_is : (w : World A) (q : Statement A) (t : Txn A) (r : Reply A) → is_refused r ≡ false → ran w q r t ≡ moved w (Run q) r t
  ran_is w q t (Refused r) e = absurd (true≢false e)
  ran_is w q t _ e = refl

  run_move : (w : World A) (q : Statement A) (t : Txn A) → Fits w.catalog q → Move w t (moved w (Run q) (run_reply w t q) t) w.log w.exports
  run_move w q t fits = first (must_wait t) refl
    where
      o : Reply A
      o = (outcome w.catalog q t.own).reply

      taken : Bool
      taken = list_any (λ x. list_any (λ u. is_taken t u x) w.txns) (outcome w.catalog q t.own).changes

      fourth : must_wait t ≡ false → (writes q && not (is_read_write t.mode)) ≡ false → is_refused o ≡ false → (b : Bool) → taken ≡ b
          → Move w t (moved w (Run q) (cond b (Refused (record { code = code.SerializationFailure; place = Rattle.value.specs.declared.refusal.Place.TheVariants.Row })) o) t) w.log w.exports
      fourth e f g true h = Fails
      fourth e f g false h = subst (λ x. Move w t x w.log w.exports) (ran_is w q t o g) (Runs q fits e f h)

      third : must_wait t ≡ false → (writes q && not (is_read_write t.mode)) ≡ false → (b : Bool) → is_refused o ≡ b
          → Move w t (moved w (Run q) (cond b o (cond taken (Refused (record { code = code.SerializationFailure; place = Rattle.value.specs.declared.refusal.Place.TheVariants.Row })) o)) t) w.log w.exports
      third e f true g = run_refused w q t o g
      third e f false g = fourth e f g taken refl

      second : must_wait t ≡ false → (b : Bool) → (writes q && not (is_read_write t.mode)) ≡ b
          → Move w t (moved w (Run q) (cond b (refuses code.ReadOnlySqlTransaction) (cond (is_refused o) o (cond taken (Refused (record { code = code.SerializationFailure; place = Rattle.value.specs.declared.refusal.Place.TheVariants.Row })) o))) t) w.log w.exports
      second e true f = Fails
      second e false f = third e f (is_refused o) refl

      first : (b : Bool) → must_wait t ≡ b → Move w t (moved w (Run q) (cond b (refuses code.ObjectNotInPrerequisiteState) (cond (writes q && not (is_read_write t.mode)) (refuses code.ReadOnlySqlTransaction) (cond (is_refused o) o (cond taken (Refused (record { code = code.SerializationFailure; place = Rattle.value.specs.declared.refusal.Place.TheVariants.Row })) o)))) t) w.log w.exports
      first true e = Stays
      first false e = second e (writes q && not (is_read_write t.mode)) refl

  -- a transaction whose snapshot is known stays as it is at a POLL
  known_stays : (w : World A) (t : Txn A) → t.known ≡ true → polled w t ≡ t
  known_stays w t e = ap (λ b. cond (not b && is_spoilt w.txns t) (with_snapshot w (commits w) (w.place + 1) t) t) e

  poll_move : (w : World A) (t : Txn A) → Move w t (moved w Poll (poll_reply w t) t) w.log w.exports
  poll_move w t = first (is_deferrable t.mode) refl
    where
      waits : Bool
      waits = is_pending w.txns (polled w t)

      third : is_deferrable t.mode ≡ true → t.known ≡ false → (b : Bool) → waits ≡ b → Move w t (moved w Poll (cond b Wait (Safe (polled w t).snapshot)) t) w.log w.exports
      third e f true g = Polls e f
      third e f false g = Learns e f g

      second : is_deferrable t.mode ≡ true → (b : Bool) → t.known ≡ b → Move w t (moved w Poll (cond b (Safe t.snapshot) (cond waits Wait (Safe (polled w t).snapshot))) t) w.log w.exports
      second e true f = subst (λ x. Move w t x w.log w.exports) (known_path (polled w t) t (known_stays w t f) f) Stays
        where
          known_path : (x y : Txn A) → x ≡ y → y.known ≡ true → y ≡ record x { known = true }
          known_path x y p q = ap (λ (b : Bool). record y { known = b }) q ∙ ap (λ (z : Txn A). record z { known = true }) (sym p)
      second e false f = third e f waits refl

      first : (b : Bool) → is_deferrable t.mode ≡ b → Move w t (moved w Poll (cond (not b) (refuses code.ObjectNotInPrerequisiteState) (cond t.known (Safe t.snapshot) (cond waits Wait (Safe (polled w t).snapshot)))) t) w.log w.exports
      first false e = Stays
      first true e = second e t.known refl

  export_move : (w : World A) (t : Txn A) → Move w t (moved w Export (export_reply w t) t) w.log (exports_after w Export (export_reply w t) t)
  export_move w t = go (must_wait t) refl
    where
      go : (b : Bool) → must_wait t ≡ b → Move w t (moved w Export (cond b (refuses code.ObjectNotInPrerequisiteState) (Exported (next_identifier w))) t) w.log (exports_after w Export (cond b (refuses code.ObjectNotInPrerequisiteState) (Exported (next_identifier w))) t)
      go true e = Stays
      go false e = Asks e

  import_move : (w : World A) (i : ℕ) (t : Txn A) → Move w t (moved w (Import i) (import_reply w t i) t) w.log w.exports
  import_move w i t = first (is_read_only t.mode) refl
    where
      third : is_read_only t.mode ≡ true → t.asked ≡ false → (o : Option Exported_snapshot) → exported w i ≡ o → Move w t (moved w (Import i) (cond (is_some o) Imported (refuses code.ObjectNotInPrerequisiteState)) t) w.log w.exports
      third e f None g = Stays
      third e f (Some x) g = subst (λ o. Move w t (import o w t) w.log w.exports) (sym g) (Imports i x e f g)

      second : is_read_only t.mode ≡ true → (b : Bool) → t.asked ≡ b → Move w t (moved w (Import i) (cond b (refuses code.ActiveSqlTransaction) (cond (is_some (exported w i)) Imported (refuses code.ObjectNotInPrerequisiteState))) t) w.log w.exports
      second e true f = Stays
      second e false f = third e f (exported w i) refl

      first : (b : Bool) → is_read_only t.mode ≡ b → Move w t (moved w (Import i) (cond (not b) (refuses code.ObjectNotInPrerequisiteState) (cond t.asked (refuses code.ActiveSqlTransaction) (cond (is_some (exported w i)) Imported (refuses code.ObjectNotInPrerequisiteState)))) t) w.log w.exports
      first false e = Stays
      first true e = second e t.asked refl

  commit_move : (w : World A) (t : Txn A) (o : Option Cause) → cause_of w t ≡ o → Move w t (moved w Commit (commit_reply o) t) (log_after w Commit (commit_reply o) t) w.exports
  commit_move w t None e = Commits e
  commit_move w t (Some c) e = Aborts

  pub open_move : (w : World A) (t : Txn A) (a : Action A) → Allowed w.catalog a → Move w t (moved w a (open_reply w t a) t) (log_after w a (open_reply w t a) t) (exports_after w a (open_reply w t a) t)
  open_move w t (Begin m) fits = Stays
  open_move w t (Run q) fits = run_move w q t fits
  open_move w t (Broken r) fits = Fails
  open_move w t Poll fits = poll_move w t
  open_move w t Export fits = export_move w t
  open_move w t (Import i) fits = import_move w i t
  open_move w t Commit fits = commit_move w t (cause_of w t) refl
  open_move w t Rollback fits = Aborts
  open_move w t Prune fits = Stays

  -- ---- one legal event

  -- What an event does: what becomes of its session's transaction, and then which others are doomed.
  pub data Step (w : World A) : World A → Type 0 where
    Nothing : Step w (record w { place = w.place + 1 })
    Begins : (s : ℕ) (m : Mode) → Step w (record w { txns = w.txns ++ begun w s m ∷ []; place = w.place + 1 })
    Moves : (s : ℕ) (t x : Txn A) (log : List (Txn A)) (exports : List Exported_snapshot) → current w s ≡ Some t → is_open t.standing ≡ true → Move w t x log exports
        → Step w (record w { log = log; txns = replaced x w.txns; exports = exports; place = w.place + 1 })
    Settles : (s : ℕ) (t : Txn A) (st : Standing) → current w s ≡ Some t → is_open t.standing ≡ false → is_done t.standing ≡ false → is_open st ≡ false → is_done st ≡ false
        → Step w (record w { txns = replaced (record t { standing = st }) w.txns; place = w.place + 1 })
    Dooms : (cs : List Cause) → Step w (record w { txns = map (doomed_by w.place cs) w.txns })

  -- An event is one step, or one and the dooms after it.
  pub data Steps (w : World A) : World A → Type 0 where
    One : (v : World A) → Step w v → Steps w v
    Two : (u v : World A) → Step w u → Step u v → Steps w v

  pub current_in : (w : World A) (s : ℕ) (t : Txn A) → current w s ≡ Some t → In t w.txns × (is_of s t ≡ true)
  current_in w s t e = find-In (is_of s) w.txns t e

  -- what a doomed one's or a failed one's session is answered leaves the log and the identifiers as they are
  doomed_log : (w : World A) (c : Cause) (a : Action A) (t : Txn A) → log_after w a (doomed c a) t ≡ w.log
  doomed_log w c Commit t = refl
  doomed_log w c _ t = refl

  doomed_exports : (w : World A) (c : Cause) (a : Action A) (t : Txn A) → exports_after w a (doomed c a) t ≡ w.exports
  doomed_exports w c Export t = refl
  doomed_exports w c _ t = refl

  failed_log : (w : World A) (a : Action A) (t : Txn A) → log_after w a (failed a) t ≡ w.log
  failed_log w Commit t = refl
  failed_log w _ t = refl

  failed_exports : (w : World A) (a : Action A) (t : Txn A) → exports_after w a (failed a) t ≡ w.exports
  failed_exports w Export t = refl
  failed_exports w _ t = refl

  pub told_is : (a : Action A) (st : Standing) → is_open st ≡ false → is_done st ≡ false → (is_open (told a st) ≡ false) × (is_done (told a st) ≡ false)
  told_is (Begin m) st o d = (o, d)
  told_is Prune st o d = (o, d)
  told_is Commit st o d = (refl, refl)
  told_is Rollback st o d = (refl, refl)
  told_is _ st o d = (refl, refl)

  pub settled_is : (a : Action A) (st : Standing) → is_open st ≡ false → is_done st ≡ false → (is_open (settled a st) ≡ false) × (is_done (settled a st) ≡ false)
  settled_is Commit st o d = (refl, refl)
  settled_is Rollback st o d = (refl, refl)
  settled_is _ st o d = (o, d)

  -- its session has still to end it
  owed : (w : World A) (s : ℕ) (t : Txn A) → current w s ≡ Some t → is_owed t.standing ≡ true
  owed w s t e = second_so (eqb t.session s) (is_owed t.standing) (current_in w s t e).1

  -- the world before the dooms
  abbrev pub before : World A → Action A → Reply A → Txn A → Txn A → World A
  before w a r t x = record w { log = log_after w a r t; txns = replaced x w.txns; exports = exports_after w a r t; place = w.place + 1 }

  -- what becomes of its session's transaction
  pub first_step : (w : World A) (s : ℕ) (a : Action A) (t : Txn A) → Allowed w.catalog a → current w s ≡ Some t → (st : Standing) → t.standing ≡ st
      → Step w (before w a (reply_from st w t a) t (turned_from st w a (reply_from st w t a) t))
  first_step w s a t fits e Open p = Moves s t _ _ _ e (ap is_open p) (open_move w t a fits)
  first_step w s a t fits e (Doomed c) p =
      let k = told_is a t.standing (ap is_open p) (ap is_done p) in
      subst (λ log. Step w (record w { log = log; txns = replaced (record t { standing = told a t.standing }) w.txns; exports = exports_after w a (doomed c a) t; place = w.place + 1 })) (sym (doomed_log w c a t))
      (subst (λ exports. Step w (record w { txns = replaced (record t { standing = told a t.standing }) w.txns; exports = exports; place = w.place + 1 })) (sym (doomed_exports w c a t))
      (Settles s t (told a t.standing) e (ap is_open p) (ap is_done p) k.0 k.1))
  first_step w s a t fits e Failed p =
      let k = settled_is a t.standing (ap is_open p) (ap is_done p) in
      subst (λ log. Step w (record w { log = log; txns = replaced (record t { standing = settled a t.standing }) w.txns; exports = exports_after w a (failed a) t; place = w.place + 1 })) (sym (failed_log w a t))
      (subst (λ exports. Step w (record w { txns = replaced (record t { standing = settled a t.standing }) w.txns; exports = exports; place = w.place + 1 })) (sym (failed_exports w a t))
      (Settles s t (settled a t.standing) e (ap is_open p) (ap is_done p) k.0 k.1))
  first_step w s a t fits e Aborted p = absurd (true≢false (sym (owed w s t e) ∙ ap is_owed p))
  first_step w s a t fits e Done p = absurd (true≢false (sym (owed w s t e) ∙ ap is_owed p))

  steps_of : (w : World A) (s : ℕ) (a : Action A) (o : Option (Txn A)) → Allowed w.catalog a → current w s ≡ o → Steps w (followed w (record { session = s; action = a; reply = reply_of w o a }) o)
  steps_of w s (Begin m) None fits e = One _ (Begins s m)
  steps_of w s _ None fits e = One _ Nothing
  steps_of w s a (Some t) fits e = Two _ _ (first_step w s a t fits e t.standing refl) (Dooms (causes w a (reply_of w (Some t) a) t))

  pub legal_steps : (w : World A) (s : ℕ) (a : Action A) → Allowed w.catalog a → Steps w (follows w (record { session = s; action = a; reply = reply_in w s a }))
  legal_steps w s a fits = steps_of w s a (current w s) fits refl
