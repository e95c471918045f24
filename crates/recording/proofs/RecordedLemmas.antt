-- What a history records of a transaction's statements was no refusal.
use Rattle.std.proofs.Common.{◌≡◌, refl, sym, subst, ℕ, ◌+◌, Bool, true, false, cond, ◌⊎◌, inl, inr, List, [], ◌∷◌, ◌++◌, eqb, Option, Some, None}
use Rattle.value.proofs.IsolationLemmas.{In}
use Rattle.value.proofs.SerialLemmas.{In-append}
use Rattle.value.proofs.Basics.{find-In}
use Rattle.statement.specs.declared.reply.Reply.{Reply}
use Rattle.statement.specs.declared.reply.Reply.TheVariants.{Begun, Committed, Exported, Imported, Refused, Safe, Wait}
use Rattle.statement.specs.declared.statement.Statement.{Statement}
use Rattle.history.specs.Answer.{is_refused}
use Rattle.history.specs.Events.{begun, causes, ended, follows, followed, goes_on, import, moved, replaced, run, turned_from, without_transaction}
use Rattle.history.specs.Transactions.{Aborted, Done, Doomed, Exported_snapshot, Failed, Open, Standing, Txn, World, commits, current, exported, is_of, is_read_write}
use Rattle.history.specs.declared.event.Action.{Action}
use Rattle.history.specs.declared.event.Action.TheVariants.{Begin, Broken, Commit, Export, Import, Poll, Rollback, Run}
use Rattle.history.specs.declared.event.Record.{Record}
use Rattle.serial.proofs.legal.Numbers.{In-replaced, polled_keeps}
use Rattle.serial.proofs.structures.Dooms.{Fate, In-doomed, Over, Spared}
use Rattle.recording.proofs.AnswersLemmas.{AreAnswered}

module _ {A : Type 0} where
  push_answered : (qs : List (Statement A × Reply A)) (q : Statement A × Reply A) → AreAnswered qs → is_refused q.1 ≡ false → AreAnswered (qs ++ q ∷ [])
  push_answered [] q h e = (e, tt)
  push_answered (p ∷ qs) q h e = (h.0, push_answered qs q h.1 e)

  abbrev Has : Txn A → Type 0
  Has t = AreAnswered t.statements

  import_answered : (o : Option Exported_snapshot) (w : World A) (t : Txn A) → Has t → Has (import o w t)
  import_answered None w t h = h
  import_answered (Some x) w t h = h

  either_answered : (b : Bool) (t u : Txn A) → Has t → Has u → Has (cond b t u)
  either_answered true t u h k = h
  either_answered false t u h k = k

  moved_answered : (w : World A) (a : Action A) (r : Reply A) (t : Txn A) → Has t → Has (moved w a r t)
  moved_answered w (Run q) (Refused r) t h = either_answered (goes_on r.code) t (ended w Failed t) h h
  moved_answered w (Run q) r t h = push_answered t.statements (q, r) h refl
  moved_answered w (Broken r) reply t h = h
  moved_answered w Poll (Safe s) t h = polled_keeps (λ y. Has y) w t h h
  moved_answered w Poll Wait t h = polled_keeps (λ y. Has y) w t h h
  moved_answered w Export (Exported i) t h = h
  moved_answered w (Import i) Imported t h = import_answered (exported w i) w t h
  moved_answered w Commit Committed t h = either_answered (is_read_write t.mode) (record (ended w Done t) { commit = commits w + 1 }) (ended w Done t) h h
  moved_answered w Commit (Refused r) t h = h
  moved_answered w Rollback reply t h = h
  moved_answered w _ _ t h = h

  turned_answered : (st : Standing) (w : World A) (a : Action A) (r : Reply A) (t : Txn A) → Has t → Has (turned_from st w a r t)
  turned_answered Open w a r t h = moved_answered w a r t h
  turned_answered (Doomed c) w a r t h = h
  turned_answered Failed w a r t h = h
  turned_answered Aborted w a r t h = h
  turned_answered Done w a r t h = h

  abbrev pub AllAnswered : World A → Type 0
  AllAnswered w = (t : Txn A) → In t w.txns → AreAnswered t.statements

  without_answered : (w : World A) (s : ℕ) (a : Action A) (r : Reply A) → AllAnswered w → AllAnswered (without_transaction w s a r)
  without_answered w s (Begin m) Begun all t i = go (In-append (λ (_ : Txn A). (0, 0, 0)) t w.txns (begun w s m ∷ []) i)
    where
      go : In t w.txns ⊎ ((t ≡ begun w s m) ⊎ ⊥) → AreAnswered t.statements
      go (inl j) = all t j
      go (inr (inl e)) = subst (λ (y : Txn A). AreAnswered y.statements) (sym e) tt
      go (inr (inr z)) = absurd z
  without_answered w s _ _ all t i = all t i

  fate_answered : (place : ℕ) (t u : Txn A) → Fate place t u → Has t → Has u
  fate_answered place t u Spared h = h
  fate_answered place t u (Over c o) h = h

  followed_answered : (w : World A) (e : Record A) (o : Option (Txn A)) → current w e.session ≡ o → AllAnswered w → AllAnswered (followed w e o)
  followed_answered w e None c all u i = without_answered w e.session e.action e.reply all u i
  followed_answered w e (Some t) c all u i =
      let d = In-doomed (w.place + 1) (causes w e.action e.reply t) u (replaced x w.txns) i in
      fate_answered (w.place + 1) d.0 u d.2 (of d.0 (In-replaced d.0 x w.txns d.1))
    where
      x : Txn A
      x = turned_from t.standing w e.action e.reply t

      of : (y : Txn A) → (y ≡ x) ⊎ In y w.txns × (eqb y.number x.number ≡ false) → Has y
      of y (inl p) = subst (λ (z : Txn A). AreAnswered z.statements) (sym p) (turned_answered t.standing w e.action e.reply t (all t (find-In (is_of e.session) w.txns t c).0))
      of y (inr j) = all y j.0

  -- No event records a refusal with a statement.
  pub run_answered : (w : World A) (es : List (Record A)) → AllAnswered w → AllAnswered (run w es)
  run_answered w [] all = all
  run_answered w (e ∷ es) all = run_answered (follows w e) es (followed_answered w e (current w e.session) refl all)
