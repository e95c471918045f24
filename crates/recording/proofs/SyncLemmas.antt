-- A session has a transaction recorded exactly while it has still to end one, so each of its replies can be read.
use Rattle.std.proofs.Common.{◌≡◌, ◌⊎◌, inl, inr, ℕ, suc, ◌+◌, Bool, true, false, true≢false, cond, not, ◌&&◌, eqb, eq-eqb, List, [], ◌∷◌, length, map, set, Option, Some, None, is_some, refl, sym, ap, subst, ◌∙◌, arith}
use Rattle.std.specs.Prelude.{slice_get}
use Rattle.std.proofs.lemmas.Bool.{and_from, eqb-true}
use Rattle.value.specs.declared.refusal.Cause.{Cause}
use Rattle.value.specs.declared.refusal.Code.TheVariants as code
use Rattle.value.specs.declared.refusal.Mode.{Mode}
use Rattle.value.specs.declared.refusal.Refusal.{Refusal}
use Rattle.value.proofs.IsolationLemmas.{In}
use Rattle.value.proofs.SerialLemmas.{In-append, In-left, In-right}
use Rattle.schema.specs.Definition.{Catalog, columns_of}
use Rattle.schema.specs.Plain.{row_at}
use Rattle.schema.specs.declared.tables.Tables.{Tables}
use Rattle.statement.specs.Conditions.{chosen}
use Rattle.statement.specs.Evaluation.{assigned_lacks_row, assigned_lacks_value, assigned_out_of_range, at_column, at_table, first_bad, lacks_row, lacks_value, least_column, least_table, outcome, puts, removes, updated_row, writes, writes_rows, ◌or_else◌}
use Rattle.statement.specs.declared.outcome.Outcome.{Outcome as Evaluated}
use Rattle.statement.specs.declared.reply.Reply.{Reply}
use Rattle.statement.specs.declared.reply.Reply.TheVariants as reply
use Rattle.statement.specs.declared.statement.Statement.{Statement}
use Rattle.statement.specs.declared.statement.Statement.TheVariants.{Select, Insert, Update, Delete}
use Rattle.history.specs.Answer.{cause_of, commit_reply, doomed, evaluated, failed, idle, is_refused, meets_another, open_reply, refuses, refuses_row, reply_from, reply_in, reply_of, run_reply}
use Rattle.history.specs.Events.{begun, causes, doomed_by, ended, follows, followed, goes_on, import, moved, next_identifier, polled, replaced, settled, told, turned_from, without_transaction}
use Rattle.history.specs.Transactions.{Aborted, Done, Doomed, Exported_snapshot, Failed, Open, Standing, Txn, World, current, exported, is_deferrable, is_of, is_owed, is_pending, is_read_only, is_read_write, must_wait}
use Rattle.history.specs.declared.event.Action.{Action}
use Rattle.history.specs.declared.event.Action.TheVariants as action
use Rattle.history.specs.declared.event.Record.{Record}
use Rattle.serial.proofs.legal.Numbers.{In-replaced, polled_keeps, replaced-In, replaced-new}
use Rattle.serial.proofs.structures.Dooms.{Fate, In-doomed, Over, Spared, doomed-In, fate}
use Rattle.transcript.specs.Recorded.{Recorded}
use Rattle.transcript.specs.Sessions.{answer_to, to_change}
use Rattle.recording.proofs.CourseLemmas.{Next, begins_idle, get_after}
use Rattle.recording.proofs.MoveLemmas.{AreSingle, Moved, none_found, numbered_is, owed_before, owed_of, turned_is}
use Rattle.recording.proofs.Names.{Ended, Session}
use Rattle.recording.proofs.ReadingLemmas.{comes}
use Rattle.recording.proofs.SayingLemmas.{said_of}
use Rattle.recording.proofs.TurnLemmas.{Fresh, Kept, Older, Turn, are_rows, asks_for, begins_by, closes_by}

module _ {A : Type 0} where
  -- ---- replies that can be read

  abbrev pub IsThere : Option (Recorded A) → Type 0
  IsThere None = ⊥
  IsThere (Some d) = Unit {0}

  abbrev pub IsNone : Option (Recorded A) → Type 0
  IsNone None = Unit {0}
  IsNone (Some d) = ⊥

  -- a statement can have this reply
  abbrev pub Answers : Statement A → Reply A → Type 0
  Answers (Insert t vs) reply.Inserted = Unit {0}
  Answers (Update t us ws) (reply.Updated k) = Unit {0}
  Answers (Delete t ws) (reply.Deleted k) = Unit {0}
  Answers (Select t p ws) (reply.Rows rows) = Unit {0}
  Answers _ _ = ⊥

  -- an action can have this reply of a session with this transaction recorded, or with none
  abbrev pub Suits : Action A → Reply A → Option (Recorded A) → Type 0
  Suits a (reply.Refused e) o = Unit {0}
  Suits (action.Begin m) reply.Begun o = IsNone o
  Suits (action.Run q) r o = Answers q r × IsThere o
  Suits action.Poll (reply.Safe k) o = Unit {0}
  Suits action.Poll reply.Wait o = Unit {0}
  Suits action.Export (reply.Exported k) o = Unit {0}
  Suits (action.Import j) reply.Imported o = IsThere o
  Suits action.Commit reply.Committed o = IsThere o
  Suits action.Commit reply.RolledBack o = Unit {0}
  Suits action.Rollback reply.RolledBack o = Unit {0}
  Suits action.Prune reply.Pruned o = Unit {0}
  Suits _ _ o = ⊥

  module _ (c : Catalog) (ss : List (Session A)) (begins : List ℕ) (ended : List (Ended A)) (n m s i : ℕ) (x : Session A) where
    abbrev so : Option (Recorded A) → Session A
    so o = record x { draft = o }

    abbrev Present : Action A → Reply A → Option (Recorded A) → Type 0
    Present a r o = is_some (comes c ss begins ended s i m (answer_to s n (so o) (said_of r) (asks_for a))) ≡ true

    refused_read : (a : Action A) (e : Refusal) (o : Option (Recorded A)) → Present a (reply.Refused e) o
    refused_read (action.Begin k) e o = refl
    refused_read (action.Run q) e o = refl
    refused_read (action.Broken f) e o = refl
    refused_read action.Poll e o = refl
    refused_read action.Export e o = refl
    refused_read (action.Import j) e o = refl
    refused_read action.Commit e o = refl
    refused_read action.Rollback e o = refl
    refused_read action.Prune e o = refl

    run_read : (q : Statement A) (r : Reply A) (o : Option (Recorded A)) → are_rows r ≡ false → Answers q r × IsThere o → Present (action.Run q) r o
    unfolding to_change
    run_read q r None h k = absurd k.1
    run_read (Insert t vs) reply.Inserted (Some d) h k = refl
    run_read (Update t us ws) (reply.Updated j) (Some d) h k = refl
    run_read (Delete t ws) (reply.Deleted j) (Some d) h k = refl
    run_read (Select t p ws) (reply.Rows rows) (Some d) h k = absurd (true≢false h)
    run_read _ _ (Some d) h k = absurd k.0

    can_read : (a : Action A) (r : Reply A) (o : Option (Recorded A)) → are_rows r ≡ false → Suits a r o → Present a r o
    can_read a (reply.Refused e) o h k = refused_read a e o
    can_read (action.Begin j) reply.Begun None h k = refl
    can_read (action.Begin j) reply.Begun (Some d) h k = absurd k
    can_read (action.Run q) r o h k = run_read q r o h k
    can_read action.Poll (reply.Safe j) o h k = refl
    can_read action.Poll reply.Wait o h k = refl
    can_read action.Export (reply.Exported j) o h k = refl
    can_read (action.Import j) reply.Imported (Some d) h k = refl
    can_read (action.Import j) reply.Imported None h k = absurd k
    can_read action.Commit reply.Committed (Some d) h k = refl
    can_read action.Commit reply.Committed None h k = absurd k
    can_read action.Commit reply.RolledBack o h k = refl
    can_read action.Rollback reply.RolledBack o h k = refl
    can_read action.Prune reply.Pruned o h k = refl
    can_read _ _ o h k = absurd k

    -- such a reply, where it has no rows, is read
    pub present : (a : Action A) (r : Reply A) → are_rows r ≡ false → Suits a r x.draft → is_some (comes c ss begins ended s i m (answer_to s n x (said_of r) (asks_for a))) ≡ true
    present a r h k = can_read a r x.draft h k

  -- ---- the replies of a legal history suit

  suits_cond : (a : Action A) (d : Option (Recorded A)) (b : Bool) (r k : Reply A) → Suits a r d → Suits a k d → Suits a (cond b r k) d
  suits_cond a d true r k h g = h
  suits_cond a d false r k h g = g

  suits_else : (q : Statement A) (d : Option (Recorded A)) (o p u : Option Refusal) (x : Evaluated A) → Suits (action.Run q) x.reply d → Suits (action.Run q) (o or_else p or_else u or_else x).reply d
  suits_else q d (Some e) p u x h = tt
  suits_else q d None (Some e) u x h = tt
  suits_else q d None None (Some e) x h = tt
  suits_else q d None None None x h = h

  suits_outcome : (c : Catalog) (q : Statement A) (X : Tables A) (d : Option (Recorded A)) → IsThere d → Suits (action.Run q) (outcome c q X).reply d
  suits_outcome c (Select t p ws) X d h = (tt, h)
  suits_outcome c (Insert t []) X d h = (tt, h)
  suits_outcome c (Insert t (k ∷ fields)) X d h = suits_else (Insert t (k ∷ fields)) d
      (at_column code.NotNullViolation (least_column lacks_value 0 (columns_of c t) (k ∷ fields)))
      (at_column code.UniqueViolation (cond (is_some (row_at X t k)) (Some 0) None))
      (at_column code.ForeignKeyViolation (least_column (lacks_row X) 0 (columns_of c t) (k ∷ fields)))
      (writes_rows c X reply.Inserted (puts t (k, fields) ∷ [])) (tt, h)
  suits_outcome c (Update t more ws) X d h = suits_else (Update t more ws) d
      (at_column code.NotNullViolation (first_bad (assigned_lacks_value more) (columns_of c t) (map (updated_row more) (chosen X t ws))))
      (at_column code.NumericValueOutOfRange (first_bad (assigned_out_of_range more) (columns_of c t) (map (updated_row more) (chosen X t ws))))
      (at_column code.ForeignKeyViolation (first_bad (assigned_lacks_row X more) (columns_of c t) (map (updated_row more) (chosen X t ws))))
      (writes_rows c X (reply.Updated (length (chosen X t ws))) (map (λ row. puts t (updated_row more row)) (chosen X t ws))) (tt, h)
  suits_outcome c (Delete t ws) X d h = suits_else (Delete t ws) d
      None None
      (at_table code.ForeignKeyViolation (least_table t (chosen X t ws) 0 c X))
      (writes_rows c X (reply.Deleted (length (chosen X t ws))) (map (removes t) (chosen X t ws))) (tt, h)

  pub suits_idle : (a : Action A) (d : Option (Recorded A)) → IsNone d → Suits a (idle a) d
  suits_idle (action.Begin m) d h = h
  suits_idle _ d h = tt

  suits_doomed : (k : Cause) (a : Action A) (d : Option (Recorded A)) → Suits a (doomed k a) d
  suits_doomed k (action.Begin m) d = tt
  suits_doomed k _ d = tt

  suits_failed : (a : Action A) (d : Option (Recorded A)) → Suits a (failed a) d
  suits_failed action.Commit d = tt
  suits_failed _ d = tt

  suits_run : (w : World A) (t : Txn A) (q : Statement A) (d : Option (Recorded A)) → IsThere d → Suits (action.Run q) (run_reply w t q) d
  suits_run w t q d h =
      suits_cond (action.Run q) d (must_wait t) (refuses code.ObjectNotInPrerequisiteState) (cond (writes q && not (is_read_write t.mode)) (refuses code.ReadOnlySqlTransaction) (evaluated w t o)) tt
      (suits_cond (action.Run q) d (writes q && not (is_read_write t.mode)) (refuses code.ReadOnlySqlTransaction) (evaluated w t o) tt
      (suits_cond (action.Run q) d (is_refused o.reply) o.reply (cond (meets_another w t o.changes) refuses_row o.reply) (suits_outcome w.catalog q t.own d h)
      (suits_cond (action.Run q) d (meets_another w t o.changes) refuses_row o.reply tt (suits_outcome w.catalog q t.own d h))))
    where
      o : Evaluated A
      o = outcome w.catalog q t.own

  suits_commit : (o : Option Cause) (d : Option (Recorded A)) → IsThere d → Suits action.Commit (commit_reply o) d
  suits_commit None d h = h
  suits_commit (Some k) d h = tt

  suits_open : (w : World A) (t : Txn A) (a : Action A) (d : Option (Recorded A)) → IsThere d → Suits a (open_reply w t a) d
  suits_open w t (action.Begin m) d h = tt
  suits_open w t (action.Run q) d h = suits_run w t q d h
  suits_open w t (action.Broken r) d h = tt
  suits_open w t action.Poll d h =
      suits_cond action.Poll d (not (is_deferrable t.mode)) (refuses code.ObjectNotInPrerequisiteState) (cond t.known (reply.Safe t.snapshot) (cond (is_pending w.txns (polled w t)) reply.Wait (reply.Safe (polled w t).snapshot))) tt
      (suits_cond action.Poll d t.known (reply.Safe t.snapshot) (cond (is_pending w.txns (polled w t)) reply.Wait (reply.Safe (polled w t).snapshot)) tt
      (suits_cond action.Poll d (is_pending w.txns (polled w t)) reply.Wait (reply.Safe (polled w t).snapshot) tt tt))
  suits_open w t action.Export d h = suits_cond action.Export d (must_wait t) (refuses code.ObjectNotInPrerequisiteState) (reply.Exported (next_identifier w)) tt tt
  suits_open w t (action.Import i) d h =
      suits_cond (action.Import i) d (not (is_read_only t.mode)) (refuses code.ObjectNotInPrerequisiteState) (cond t.asked (refuses code.ActiveSqlTransaction) (cond (is_some (exported w i)) reply.Imported (refuses code.ObjectNotInPrerequisiteState))) tt
      (suits_cond (action.Import i) d t.asked (refuses code.ActiveSqlTransaction) (cond (is_some (exported w i)) reply.Imported (refuses code.ObjectNotInPrerequisiteState)) tt
      (suits_cond (action.Import i) d (is_some (exported w i)) reply.Imported (refuses code.ObjectNotInPrerequisiteState) h tt))
  suits_open w t action.Commit d h = suits_commit (cause_of w t) d h
  suits_open w t action.Rollback d h = tt
  suits_open w t action.Prune d h = tt

  pub suits_from : (w : World A) (t : Txn A) (a : Action A) (d : Option (Recorded A)) → IsThere d → (st : Standing) → is_owed st ≡ true → Suits a (reply_from st w t a) d
  suits_from w t a d h Open e = suits_open w t a d h
  suits_from w t a d h (Doomed k) e = suits_doomed k a d
  suits_from w t a d h Failed e = suits_failed a d
  suits_from w t a d h Aborted e = absurd (true≢false (sym e))
  suits_from w t a d h Done e = absurd (true≢false (sym e))

  -- ---- sessions in step with the world

  pub record InStep (w : World A) (ss : List (Session A)) : Type 0 where
    pub none : (i : ℕ) (x : Session A) (t : Txn A) → slice_get ss i ≡ Some x → x.draft ≡ None → In t w.txns → t.session ≡ suc i → is_owed t.standing ≡ true → ⊥
    pub some : (i : ℕ) (x : Session A) (d : Recorded A) → slice_get ss i ≡ Some x → x.draft ≡ Some d → (t : Txn A) × In t w.txns × (t.session ≡ suc i) × (is_owed t.standing ≡ true)

  none_current : (w : World A) (s : ℕ) (t : Txn A) → current w s ≡ None → In t w.txns → t.session ≡ s → is_owed t.standing ≡ true → ⊥
  none_current w s t c i e h = none_found (is_of s) w.txns c t i (and_from (eqb t.session s) (is_owed t.standing) (eq-eqb t.session s e) h)

  -- the reply of a legal history can be read
  pub suits : (w : World A) (ss : List (Session A)) → InStep w ss → (s i : ℕ) (a : Action A) (x : Session A) → s ≡ suc i → slice_get ss i ≡ Some x → Suits a (reply_in w s a) x.draft
  suits w ss step s i a x number there = go (current w s) refl
    where
      missing : current w s ≡ None → (o : Option (Recorded A)) → x.draft ≡ o → IsNone o
      missing c None e = tt
      missing c (Some d) e = let t = step.some i x d there e in none_current w s t.0 c t.1 (t.2 ∙ sym number) t.3

      held : (t : Txn A) → current w s ≡ Some t → (o : Option (Recorded A)) → x.draft ≡ o → IsThere o
      held t c None e = let p = owed_of w s t c in step.none i x t there e p.0 (p.1 ∙ number) p.2
      held t c (Some d) e = tt

      go : (o : Option (Txn A)) → current w s ≡ o → Suits a (reply_of w o a) x.draft
      go None c = suits_idle a x.draft (missing c x.draft refl)
      go (Some t) c = suits_from w t a x.draft (held t c x.draft refl) t.standing (owed_of w s t c).2

  -- ---- what an event makes of a session's transaction

  either_owed : (b : Bool) (t u : Txn A) → is_owed t.standing ≡ true → is_owed u.standing ≡ true → is_owed (cond b t u).standing ≡ true
  either_owed true t u h k = h
  either_owed false t u h k = k

  import_owed : (o : Option Exported_snapshot) (w : World A) (t : Txn A) → is_owed t.standing ≡ true → is_owed (import o w t).standing ≡ true
  import_owed None w t h = h
  import_owed (Some x) w t h = h

  -- a reply to ROLLBACK in a transaction
  closed_contradiction : (r k : Reply A) → closes_by action.Rollback r ≡ false → r ≡ k → closes_by action.Rollback k ≡ true → ⊥
  closed_contradiction r k h e g = true≢false (sym g ∙ sym (ap (closes_by action.Rollback) e) ∙ h)

  moved_owed : (w : World A) (a : Action A) (r : Reply A) (t : Txn A) → is_owed t.standing ≡ true → closes_by a r ≡ false → r ≡ open_reply w t a → is_owed (moved w a r t).standing ≡ true
  moved_owed w (action.Run q) (reply.Refused e) t h k l = either_owed (goes_on e.code) t (ended w Failed t) h refl
  moved_owed w (action.Run q) r t h k l = h
  moved_owed w (action.Broken f) r t h k l = refl
  moved_owed w action.Poll (reply.Safe n) t h k l = polled_keeps (λ y. is_owed y.standing ≡ true) w t h h
  moved_owed w action.Poll reply.Wait t h k l = polled_keeps (λ y. is_owed y.standing ≡ true) w t h h
  moved_owed w action.Export (reply.Exported n) t h k l = h
  moved_owed w (action.Import i) reply.Imported t h k l = import_owed (exported w i) w t h
  moved_owed w action.Commit r t h k l = absurd (true≢false k)
  moved_owed w action.Rollback r t h k l = absurd (closed_contradiction r reply.RolledBack k l refl)
  moved_owed w _ _ t h k l = h

  told_owed : (a : Action A) (r : Reply A) (k : Cause) (st : Standing) → is_owed st ≡ true → closes_by a r ≡ false → r ≡ doomed k a → is_owed (told a st) ≡ true
  told_owed (action.Begin m) r k st h e l = h
  told_owed action.Prune r k st h e l = h
  told_owed action.Commit r k st h e l = absurd (true≢false e)
  told_owed action.Rollback r k st h e l = absurd (closed_contradiction r reply.RolledBack e l refl)
  told_owed _ r k st h e l = refl

  settled_owed : (a : Action A) (r : Reply A) (st : Standing) → is_owed st ≡ true → closes_by a r ≡ false → r ≡ failed a → is_owed (settled a st) ≡ true
  settled_owed action.Commit r st h e l = absurd (true≢false e)
  settled_owed action.Rollback r st h e l = absurd (closed_contradiction r reply.RolledBack e l refl)
  settled_owed _ r st h e l = h

  turned_owed : (w : World A) (a : Action A) (r : Reply A) (t : Txn A) → is_owed t.standing ≡ true → closes_by a r ≡ false → (st : Standing) → t.standing ≡ st → r ≡ reply_from st w t a → is_owed (turned_from st w a r t).standing ≡ true
  turned_owed w a r t h k Open e l = moved_owed w a r t h k l
  turned_owed w a r t h k (Doomed c) e l = told_owed a r c t.standing h k l
  turned_owed w a r t h k Failed e l = settled_owed a r t.standing h k l
  turned_owed w a r t h k Aborted e l = absurd (true≢false (sym h ∙ ap is_owed e))
  turned_owed w a r t h k Done e l = absurd (true≢false (sym h ∙ ap is_owed e))

  commit_over : (w : World A) (t : Txn A) (r : Reply A) (o : Option Cause) → r ≡ commit_reply o → is_owed (moved w action.Commit r t).standing ≡ false
  commit_over w t r None e = ap (λ k. is_owed (moved w action.Commit k t).standing) e ∙ ap is_owed (numbered_is w t).done
  commit_over w t r (Some c) e = ap (λ k. is_owed (moved w action.Commit k t).standing) e

  turned_over : (w : World A) (a : Action A) (r : Reply A) (t : Txn A) → closes_by a r ≡ true → is_owed t.standing ≡ true → (st : Standing) → t.standing ≡ st → r ≡ reply_from st w t a → is_owed (turned_from st w a r t).standing ≡ false
  turned_over w action.Commit r t k h Open e l = commit_over w t r (cause_of w t) l
  turned_over w action.Commit r t k h (Doomed c) e l = refl
  turned_over w action.Commit r t k h Failed e l = refl
  turned_over w action.Commit r t k h Aborted e l = absurd (true≢false (sym h ∙ ap is_owed e))
  turned_over w action.Commit r t k h Done e l = absurd (true≢false (sym h ∙ ap is_owed e))
  turned_over w action.Rollback r t k h Open e l = refl
  turned_over w action.Rollback r t k h (Doomed c) e l = refl
  turned_over w action.Rollback r t k h Failed e l = refl
  turned_over w action.Rollback r t k h Aborted e l = absurd (true≢false (sym h ∙ ap is_owed e))
  turned_over w action.Rollback r t k h Done e l = absurd (true≢false (sym h ∙ ap is_owed e))
  turned_over w _ r t k h st e l = absurd (true≢false (sym k))

  no_begin : (a : Action A) (r : Reply A) → closes_by a r ≡ true → begins_by a r ≡ true → ⊥
  no_begin action.Commit r h k = true≢false (sym k)
  no_begin action.Rollback r h k = true≢false (sym k)
  no_begin _ r h k = true≢false (sym h)

  -- ---- what it makes of all transactions

  fate_owed : (place : ℕ) (t u : Txn A) → Fate place t u → is_owed t.standing ≡ true → (is_owed u.standing ≡ true) × (u.session ≡ t.session)
  fate_owed place t u Spared h = (h, refl)
  fate_owed place t u (Over c o) h = (refl, refl)

  without_new : (w : World A) (s : ℕ) (a : Action A) (r : Reply A) (u : Txn A) → In u (without_transaction w s a r).txns → In u w.txns ⊎ ((begins_by a r ≡ true) × (u.session ≡ s))
  without_new w s (action.Begin m) reply.Begun u i = go (In-append (λ (_ : Txn A). (0, 0, 0)) u w.txns (begun w s m ∷ []) i)
    where
      go : In u w.txns ⊎ ((u ≡ begun w s m) ⊎ ⊥) → In u w.txns ⊎ ((true ≡ true) × (u.session ≡ s))
      go (inl k) = inl k
      go (inr (inl p)) = inr (refl, ap (λ (z : Txn A). z.session) p)
      go (inr (inr z)) = absurd z
  without_new w s _ _ u i = inl i

  without_keeps : (w : World A) (s : ℕ) (a : Action A) (r : Reply A) (u : Txn A) → In u w.txns → In u (without_transaction w s a r).txns
  without_keeps w s (action.Begin m) reply.Begun u i = In-left (λ (_ : Txn A). (0, 0, 0)) u w.txns (begun w s m ∷ []) i
  without_keeps w s _ _ u i = i

  abbrev HasOwed : List (Txn A) → ℕ → Type 0
  HasOwed ts s = (t : Txn A) × In t ts × (t.session ≡ s) × (is_owed t.standing ≡ true)

  module _ (w : World A) (e : Record A) (answered : e.reply ≡ reply_in w e.session e.action) (unique : (t u : Txn A) → In t w.txns → In u w.txns → t.number ≡ u.number → t ≡ u) (single : AreSingle w.txns) where
    -- that of another session was there
    owed_before_it : (o : Option (Txn A)) → current w e.session ≡ o → (u : Txn A) → In u (followed w e o).txns → is_owed u.standing ≡ true → (u.session ≡ e.session → ⊥) → HasOwed w.txns u.session
    owed_before_it None c u i h apart = go (without_new w e.session e.action e.reply u i)
      where
        go : In u w.txns ⊎ ((begins_by e.action e.reply ≡ true) × (u.session ≡ e.session)) → HasOwed w.txns u.session
        go (inl k) = (u, k, refl, h)
        go (inr k) = absurd (apart k.1)
    owed_before_it (Some t) c u i h apart = go d.0 (owed_before (w.place + 1) d.0 u d.2 h) (In-replaced d.0 x w.txns d.1)
      where
        x : Txn A
        x = turned_from t.standing w e.action e.reply t

        d : (y : Txn A) × In y (replaced x w.txns) × Fate (w.place + 1) y u
        d = In-doomed (w.place + 1) (causes w e.action e.reply t) u (replaced x w.txns) i

        own : In t w.txns × (t.session ≡ e.session) × (is_owed t.standing ≡ true)
        own = owed_of w e.session t c

        is : Moved w e.action e.reply t x
        is = turned_is w e.action e.reply t own.2 t.standing refl

        go : (y : Txn A) → (is_owed y.standing ≡ true) × (y.session ≡ u.session) → (y ≡ x) ⊎ In y w.txns × (eqb y.number x.number ≡ false) → HasOwed w.txns u.session
        go y k (inl p) = absurd (apart (sym k.1 ∙ ap (λ (z : Txn A). z.session) p ∙ is.session ∙ own.1))
        go y k (inr p) = (y, p.0, k.1, k.0)

    -- that of another session is there still
    owed_after_it : (o : Option (Txn A)) → current w e.session ≡ o → (z : Txn A) → In z w.txns → is_owed z.standing ≡ true → (z.session ≡ e.session → ⊥) → HasOwed (followed w e o).txns z.session
    owed_after_it None c z i h apart = (z, without_keeps w e.session e.action e.reply z i, refl, h)
    owed_after_it (Some t) c z i h apart =
        let own = owed_of w e.session t c in
        let is = turned_is w e.action e.reply t own.2 t.standing refl in
        let cs = causes w e.action e.reply t in
        let k = fate_owed (w.place + 1) z (doomed_by (w.place + 1) cs z) (fate (w.place + 1) cs z) h in (
          doomed_by (w.place + 1) cs z,
          doomed-In (w.place + 1) cs z (replaced (turned_from t.standing w e.action e.reply t) w.txns) (replaced-In z (turned_from t.standing w e.action e.reply t) w.txns i (other own.0 own.1 is.number (eqb z.number (turned_from t.standing w e.action e.reply t).number) refl)),
          k.1,
          k.0,
        )
      where
        other : In t w.txns → t.session ≡ e.session → (turned_from t.standing w e.action e.reply t).number ≡ t.number → (b : Bool) → eqb z.number (turned_from t.standing w e.action e.reply t).number ≡ b → eqb z.number (turned_from t.standing w e.action e.reply t).number ≡ false
        other j se n true q = absurd (apart (ap (λ (y : Txn A). y.session) (unique z t i j (eqb-true z.number (turned_from t.standing w e.action e.reply t).number q ∙ n)) ∙ se))
        other j se n false q = q

    -- the session's own is there still, unless the answer closes it
    own_after_it : (o : Option (Txn A)) → current w e.session ≡ o → HasOwed w.txns e.session → closes_by e.action e.reply ≡ false → HasOwed (followed w e o).txns e.session
    own_after_it None c z k = absurd (none_current w e.session z.0 c z.1 z.2 z.3)
    own_after_it (Some t) c z k =
        let own = owed_of w e.session t c in
        let x = turned_from t.standing w e.action e.reply t in
        let is = turned_is w e.action e.reply t own.2 t.standing refl in
        let cs = causes w e.action e.reply t in
        let owed = turned_owed w e.action e.reply t own.2 k t.standing refl (answered ∙ ap (λ y. reply_of w y e.action) c) in
        let f = fate_owed (w.place + 1) x (doomed_by (w.place + 1) cs x) (fate (w.place + 1) cs x) owed in
        (doomed_by (w.place + 1) cs x, doomed-In (w.place + 1) cs x (replaced x w.txns) (replaced-new t x w.txns own.0 (sym is.number)), f.1 ∙ is.session ∙ own.1, f.0)

    -- none of the session is there after an answer that closes it
    none_after_it : (o : Option (Txn A)) → current w e.session ≡ o → closes_by e.action e.reply ≡ true → (u : Txn A) → In u (followed w e o).txns → u.session ≡ e.session → is_owed u.standing ≡ true → ⊥
    none_after_it None c k u i se h = go (without_new w e.session e.action e.reply u i)
      where
        go : In u w.txns ⊎ ((begins_by e.action e.reply ≡ true) × (u.session ≡ e.session)) → ⊥
        go (inl j) = none_current w e.session u c j se h
        go (inr j) = no_begin e.action e.reply k j.0
    none_after_it (Some t) c k u i se h = go d.0 (owed_before (w.place + 1) d.0 u d.2 h) (In-replaced d.0 x w.txns d.1)
      where
        x : Txn A
        x = turned_from t.standing w e.action e.reply t

        d : (y : Txn A) × In y (replaced x w.txns) × Fate (w.place + 1) y u
        d = In-doomed (w.place + 1) (causes w e.action e.reply t) u (replaced x w.txns) i

        own : In t w.txns × (t.session ≡ e.session) × (is_owed t.standing ≡ true)
        own = owed_of w e.session t c

        is : Moved w e.action e.reply t x
        is = turned_is w e.action e.reply t own.2 t.standing refl

        go : (y : Txn A) → (is_owed y.standing ≡ true) × (y.session ≡ u.session) → (y ≡ x) ⊎ In y w.txns × (eqb y.number x.number ≡ false) → ⊥
        go y p (inl q) = true≢false (sym p.0 ∙ ap (λ (z : Txn A). is_owed z.standing) q ∙ turned_over w e.action e.reply t k own.2 t.standing refl (answered ∙ ap (λ z. reply_of w z e.action) c))
        go y p (inr q) = true≢false (sym (eq-eqb y.number x.number (ap (λ (z : Txn A). z.number) (single y t q.0 own.0 p.0 own.2 (p.1 ∙ se ∙ sym own.1)) ∙ sym is.number)) ∙ q.1)

    -- none is there where there was none, unless one begins
    still_none : (o : Option (Txn A)) → current w e.session ≡ o → (HasOwed w.txns e.session → ⊥) → begins_by e.action e.reply ≡ false → (u : Txn A) → In u (followed w e o).txns → u.session ≡ e.session → is_owed u.standing ≡ true → ⊥
    still_none (Some t) c none b u i se h = let own = owed_of w e.session t c in none (t, own.0, own.1, own.2)
    still_none None c none b u i se h = go (without_new w e.session e.action e.reply u i)
      where
        go : In u w.txns ⊎ ((begins_by e.action e.reply ≡ true) × (u.session ≡ e.session)) → ⊥
        go (inl j) = none_current w e.session u c j se h
        go (inr j) = true≢false (sym j.0 ∙ b)

    -- the one that begins
    begun_after_it : (o : Option (Txn A)) → current w e.session ≡ o → (m : Mode) → e.action ≡ action.Begin m → e.reply ≡ reply.Begun → HasOwed (followed w e o).txns e.session
    begun_after_it (Some t) c m a r =
        absurd (begins_idle w t m t.standing (owed_of w e.session t c).2 (ap (reply_of w (Some t)) (sym a) ∙ sym (ap (λ o. reply_of w o e.action) c) ∙ sym answered ∙ r))
    begun_after_it None c m a r = (
      begun w e.session m,
      subst (λ b. In (begun w e.session m) (without_transaction w e.session b e.reply).txns) (sym a)
          (subst (λ y. In (begun w e.session m) (without_transaction w e.session (action.Begin m) y).txns) (sym r) (In-right (λ (_ : Txn A). (0, 0, 0)) (begun w e.session m) w.txns (begun w e.session m ∷ []) (inl refl))),
      refl,
      refl,
    )

  -- after an event the sessions are in step again
  pub in_step_then : (w v : World A) (e : Record A) → Next w v e → AreSingle w.txns → (ss : List (Session A)) (n i : ℕ) (x y : Session A) → InStep w ss → e.session ≡ suc i → slice_get ss i ≡ Some x → Turn n e.session e.action e.reply x y → InStep v (set ss i y)
  in_step_then w v e next single ss n i x y step number there turn = record {
    none = λ j z t h f k se o. none_now j z t f (subst (λ (u : World A). In t u.txns) next.is k) se o (get_after ss i j y z h);
    some = λ j z d h f. some_now j z d f (get_after ss i j y z h);
  }
    where
      unique : (t u : Txn A) → In t w.txns → In u w.txns → t.number ≡ u.number → t ≡ u
      unique = next.good.numbered.unique

      none_now : (j : ℕ) (z : Session A) (t : Txn A) → z.draft ≡ None → In t (follows w e).txns → t.session ≡ suc j → is_owed t.standing ≡ true → ((j ≡ i) × (z ≡ y)) ⊎ ((slice_get ss j ≡ Some z) × (j ≡ i → ⊥)) → ⊥
      none_now j z t f k se o (inr p) =
          let apart : t.session ≡ e.session → ⊥ = λ q. p.1 (let r : suc j ≡ suc i = sym se ∙ q ∙ number in omega (arith, r)) in
          let was = owed_before_it w e next.answered unique single (current w e.session) refl t k o apart in
          step.none j z was.0 p.0 f was.1 (was.2 ∙ se) was.3
      none_now j z t f k se o (inl p) = own (turn.lost (sym (ap (λ (u : Session A). u.draft) p.1) ∙ f))
        where
          own_session : t.session ≡ e.session
          own_session = se ∙ ap suc p.0 ∙ sym number

          own : ((x.draft ≡ None) × (begins_by e.action e.reply ≡ false)) ⊎ (closes_by e.action e.reply ≡ true) → ⊥
          own (inl h) = still_none w e next.answered unique single (current w e.session) refl (λ u. step.none i x u.0 there h.0 u.1 (u.2 ∙ number) u.3) h.1 t k own_session o
          own (inr h) = none_after_it w e next.answered unique single (current w e.session) refl h t k own_session o

      moved_on : (s : ℕ) → HasOwed (follows w e).txns s → (k : ℕ) → s ≡ suc k → (t : Txn A) × In t v.txns × (t.session ≡ suc k) × (is_owed t.standing ≡ true)
      moved_on s u k q = (u.0, subst (λ (z : World A). In u.0 z.txns) (sym next.is) u.1, u.2 ∙ q, u.3)

      some_now : (j : ℕ) (z : Session A) (d : Recorded A) → z.draft ≡ Some d → ((j ≡ i) × (z ≡ y)) ⊎ ((slice_get ss j ≡ Some z) × (j ≡ i → ⊥)) → (t : Txn A) × In t v.txns × (t.session ≡ suc j) × (is_owed t.standing ≡ true)
      some_now j z d f (inr p) =
          let was = step.some j z d p.0 f in
          let apart : was.0.session ≡ e.session → ⊥ = λ q. p.1 (let r : suc j ≡ suc i = sym was.2 ∙ q ∙ number in omega (arith, r)) in
          moved_on was.0.session (owed_after_it w e next.answered unique single (current w e.session) refl was.0 was.1 was.3 apart) j was.2
      some_now j z d f (inl p) = own (turn.drafts d (sym (ap (λ (u : Session A). u.draft) p.1) ∙ f))
        where
          own : Kept n e.session e.action e.reply x.draft d → (t : Txn A) × In t v.txns × (t.session ≡ suc j) × (is_owed t.standing ≡ true)
          own (Fresh m a r q) = moved_on e.session (begun_after_it w e next.answered unique single (current w e.session) refl m a r) j (number ∙ ap suc (sym p.0))
          own (Older k b other close q g h) =
              let was = step.some i x k there b in
              moved_on e.session (own_after_it w e next.answered unique single (current w e.session) refl (was.0, was.1, was.2 ∙ sym number, was.3) close) j (number ∙ ap suc (sym p.0))

  -- after a refusal that is no event they are, too, unless it is of a COMMIT
  pub in_step_still : (w : World A) (ss : List (Session A)) (n s i : ℕ) (x y : Session A) (a : Action A) (r : Reply A) → InStep w ss → slice_get ss i ≡ Some x → is_refused r ≡ true → closes_by a r ≡ false → Turn n s a r x y → InStep w (set ss i y)
  in_step_still w ss n s i x y a r step there refused open_still turn = record {
    none = λ j z t h f k se o. none_now j z t f k se o (get_after ss i j y z h);
    some = λ j z d h f. some_now j z d f (get_after ss i j y z h);
  }
    where
      none_now : (j : ℕ) (z : Session A) (t : Txn A) → z.draft ≡ None → In t w.txns → t.session ≡ suc j → is_owed t.standing ≡ true → ((j ≡ i) × (z ≡ y)) ⊎ ((slice_get ss j ≡ Some z) × (j ≡ i → ⊥)) → ⊥
      none_now j z t f k se o (inr p) = step.none j z t p.0 f k se o
      none_now j z t f k se o (inl p) = own (turn.lost (sym (ap (λ (u : Session A). u.draft) p.1) ∙ f))
        where
          own : ((x.draft ≡ None) × (begins_by a r ≡ false)) ⊎ (closes_by a r ≡ true) → ⊥
          own (inl h) = step.none i x t there h.0 k (se ∙ ap suc p.0) o
          own (inr h) = true≢false (sym h ∙ open_still)

      some_now : (j : ℕ) (z : Session A) (d : Recorded A) → z.draft ≡ Some d → ((j ≡ i) × (z ≡ y)) ⊎ ((slice_get ss j ≡ Some z) × (j ≡ i → ⊥)) → (t : Txn A) × In t w.txns × (t.session ≡ suc j) × (is_owed t.standing ≡ true)
      some_now j z d f (inr p) = step.some j z d p.0 f
      some_now j z d f (inl p) = own (turn.drafts d (sym (ap (λ (u : Session A). u.draft) p.1) ∙ f))
        where
          own : Kept n s a r x.draft d → (t : Txn A) × In t w.txns × (t.session ≡ suc j) × (is_owed t.standing ≡ true)
          own (Fresh m b q z2) = absurd (true≢false (sym refused ∙ ap is_refused q))
          own (Older k b other close q g h) = let was = step.some i x k there b in (was.0, was.1, was.2 ∙ ap suc (sym p.0), was.3)
