-- The courses that records tell are those of the transactions that they come to.
use Rattle.std.proofs.Common.{◌≡◌, refl, sym, ap, subst, ◌∙◌, ℕ, ◌+◌, ◌-◌, ◌<◌, ◌≤◌, Bool, true, false, true≢false, cond, not, ◌||◌, inl, inr, List, [], ◌∷◌, ◌++◌, length, map, Option, Some, None, is_some, eqb, arith}
use Rattle.std.proofs.lemmas.Bool.{eq-eqb, eqb-true}
use Rattle.std.proofs.lemmas.List.{map-append, length-map}
use Rattle.std.specs.Cmp.{second_so}
use Rattle.std.specs.List.{find, list_any}
use Rattle.value.specs.declared.refusal.Cause.{Cause}
use Rattle.value.specs.declared.refusal.Code.TheVariants as code
use Rattle.value.proofs.IsolationLemmas.{In}
use Rattle.value.proofs.LastWriter.{Rising}
use Rattle.value.proofs.Basics.{find-In}
use Rattle.statement.specs.declared.statement.Statement.{Statement}
use Rattle.statement.specs.declared.reply.Reply.{Reply}
use Rattle.statement.specs.declared.reply.Reply.TheVariants.{Begun, Imported, Safe, Wait, Exported, Refused}
use Rattle.history.specs.declared.event.Action.{Action}
use Rattle.history.specs.declared.event.Action.TheVariants.{Begin, Run, Broken, Poll, Export, Import, Commit, Rollback, Prune}
use Rattle.history.specs.declared.event.Record.{Record}
use Rattle.history.specs.Transactions.{Standing, Open, Doomed, Failed, Aborted, Done, Txn, World, Exported_snapshot, is_of, is_open, is_done, is_owed, is_read_write, is_read_only, commits, current, exported}
use Rattle.history.specs.Events.{goes_on, ended, moved, told, settled, turned_from, import, begun, causes, doomed_by, replaced, without_transaction, followed, follows, run}
use Rattle.history.specs.declared.base.Base.{Base}
use Rattle.history.specs.Answer.{reply_in, reply_of, reply_from, open_reply, import_reply, commit_reply, cause_of, doomed, failed, refuses, IsAnswered}
use Rattle.serial.proofs.structures.Dooms.{Fate, Spared, Over, fate}
use Rattle.serial.proofs.legal.Numbers.{polled_keeps}
use Rattle.serial.proofs.order.SerialTheorem.{IsGood, good_run}
use Rattle.audit.specs.Course.{Track, course_of, gone_on, is_its, course_begun, at_first, begins, with_record, courses_after}

open_parts : (st : Standing) → is_open st ≡ true → (is_owed st ≡ true) × (is_done st ≡ false)
open_parts Open e = (refl, refl)
open_parts (Doomed c) e = absurd (true≢false (sym e))
open_parts Failed e = absurd (true≢false (sym e))
open_parts Aborted e = absurd (true≢false (sym e))
open_parts Done e = absurd (true≢false (sym e))

module _ {A : Type 0} (n p : ℕ) where
  -- a transaction's course, by how it stands and where it ended
  abbrev tell : Bool → Bool → ℕ → Txn A → Track A
  tell owed done end t = record { session = t.session; number = t.number - n; begin = t.begin - p; end = cond done (end - p) 0; owed = owed; committed = done; imported = t.imported; statements = t.statements }

  -- ---- a doomed one's course is as it was

  course-doomed : (place : ℕ) (cs : List Cause) (t : Txn A) → course_of n p (doomed_by place cs t) ≡ course_of n p t
  course-doomed place cs t = go (doomed_by place cs t) (fate place cs t)
    where
      go : (u : Txn A) → Fate place t u → course_of n p u ≡ course_of n p t
      go u Spared = refl
      go u (Over c e) = let q = open_parts t.standing e in sym (ap (λ o. tell o (is_done t.standing) t.end t) q.0 ∙ ap (λ d. tell true d t.end t) q.1)

  courses-doomed : (place : ℕ) (cs : List Cause) (ts : List (Txn A)) → map (course_of n p) (map (doomed_by place cs) ts) ≡ map (course_of n p) ts
  courses-doomed place cs [] = refl
  courses-doomed place cs (t ∷ ts) = ap (λ c. c ∷ map (course_of n p) (map (doomed_by place cs) ts)) (course-doomed place cs t) ∙ ap (λ us. course_of n p t ∷ us) (courses-doomed place cs ts)

  -- ---- what an action makes of an open transaction

  -- y is what t's course goes on to, under t's number
  abbrev Told : Txn A → Txn A → Track A → Type 0
  Told t y c = (course_of n p y ≡ c) × (y.number ≡ t.number)

  abbrev opened : Txn A → Txn A
  opened t = record t { standing = Open }

  told_run : (w : World A) (q : Statement A) (place : ℕ) (t : Txn A) (r : Reply A) → Told (opened t) (moved w (Run q) r (opened t)) (gone_on place (Run q) r (course_of n p (opened t)))
  told_run w q place t (Refused r) = go (goes_on r.code)
    where
      go : (b : Bool) → Told (opened t) (cond b (opened t) (ended w Failed (opened t))) (course_of n p (opened t))
      go true = (refl, refl)
      go false = (refl, refl)
  told_run w q place t _ = (refl, refl)

  told_poll : (w : World A) (place : ℕ) (t : Txn A) (r : Reply A) → Told (opened t) (moved w Poll r (opened t)) (course_of n p (opened t))
  told_poll w place t (Safe s) = polled_keeps (λ y. Told (opened t) (record y { known = true }) (course_of n p (opened t))) w (opened t) (refl, refl) (refl, refl)
  told_poll w place t Wait = polled_keeps (λ y. Told (opened t) y (course_of n p (opened t))) w (opened t) (refl, refl) (refl, refl)
  told_poll w place t _ = (refl, refl)

  told_export : (w : World A) (place : ℕ) (t : Txn A) (r : Reply A) → Told (opened t) (moved w Export r (opened t)) (course_of n p (opened t))
  told_export w place t (Exported i) = (refl, refl)
  told_export w place t _ = (refl, refl)

  told_import : (w : World A) (i place : ℕ) (t : Txn A) → Told (opened t) (moved w (Import i) (import_reply w (opened t) i) (opened t)) (gone_on place (Import i) (import_reply w (opened t) i) (course_of n p (opened t)))
  told_import w i place t = first (is_read_only t.mode)
    where
      Goal : Reply A → Type 0
      Goal r = Told (opened t) (moved w (Import i) r (opened t)) (gone_on place (Import i) r (course_of n p (opened t)))

      third : (o : Option Exported_snapshot) → exported w i ≡ o → Goal (cond (is_some o) Imported (refuses code.ObjectNotInPrerequisiteState))
      third None e = (refl, refl)
      third (Some x) e = subst (λ o. Told (opened t) (import o w (opened t)) (record (course_of n p (opened t)) { imported = true })) (sym e) (refl, refl)

      second : (b : Bool) → Goal (cond b (refuses code.ActiveSqlTransaction) (cond (is_some (exported w i)) Imported (refuses code.ObjectNotInPrerequisiteState)))
      second true = (refl, refl)
      second false = third (exported w i) refl

      first : (b : Bool) → Goal (cond (not b) (refuses code.ObjectNotInPrerequisiteState) (cond t.asked (refuses code.ActiveSqlTransaction) (cond (is_some (exported w i)) Imported (refuses code.ObjectNotInPrerequisiteState))))
      first false = (refl, refl)
      first true = second t.asked

  told_commit : (w : World A) (t : Txn A) (o : Option Cause) → Told (opened t) (moved w Commit (commit_reply o) (opened t)) (gone_on (w.place + 1 - p) Commit (commit_reply o) (course_of n p (opened t)))
  told_commit w t None = go (is_read_write t.mode)
    where
      go : (b : Bool) → Told (opened t) (cond b (record (ended w Done (opened t)) { commit = commits w + 1 }) (ended w Done (opened t))) (record (course_of n p (opened t)) { owed = false; committed = true; end = w.place + 1 - p })
      go true = (refl, refl)
      go false = (refl, refl)
  told_commit w t (Some c) = (refl, refl)

  told_open : (w : World A) (t : Txn A) (a : Action A) → Told (opened t) (moved w a (open_reply w (opened t) a) (opened t)) (gone_on (w.place + 1 - p) a (open_reply w (opened t) a) (course_of n p (opened t)))
  told_open w t (Begin m) = (refl, refl)
  told_open w t (Run q) = told_run w q (w.place + 1 - p) t (open_reply w (opened t) (Run q))
  told_open w t (Broken r) = (refl, refl)
  told_open w t Poll = told_poll w (w.place + 1 - p) t (open_reply w (opened t) Poll)
  told_open w t Export = told_export w (w.place + 1 - p) t (open_reply w (opened t) Export)
  told_open w t (Import i) = told_import w i (w.place + 1 - p) t
  told_open w t Commit = told_commit w t (cause_of w (opened t))
  told_open w t Rollback = (refl, refl)
  told_open w t Prune = (refl, refl)

  -- ---- of a doomed and of a failed one

  told_doomed : (place : ℕ) (t : Txn A) (c : Cause) (a : Action A) → Told t (record t { standing = told a (Doomed c) }) (gone_on place a (doomed c a) (course_of n p (record t { standing = Doomed c })))
  told_doomed place t c (Begin m) = (refl, refl)
  told_doomed place t c (Run q) = (refl, refl)
  told_doomed place t c (Broken r) = (refl, refl)
  told_doomed place t c Poll = (refl, refl)
  told_doomed place t c Export = (refl, refl)
  told_doomed place t c (Import i) = (refl, refl)
  told_doomed place t c Commit = (refl, refl)
  told_doomed place t c Rollback = (refl, refl)
  told_doomed place t c Prune = (refl, refl)

  told_failed : (place : ℕ) (t : Txn A) (a : Action A) → Told t (record t { standing = settled a Failed }) (gone_on place a (failed a) (course_of n p (record t { standing = Failed })))
  told_failed place t (Begin m) = (refl, refl)
  told_failed place t (Run q) = (refl, refl)
  told_failed place t (Broken r) = (refl, refl)
  told_failed place t Poll = (refl, refl)
  told_failed place t Export = (refl, refl)
  told_failed place t (Import i) = (refl, refl)
  told_failed place t Commit = (refl, refl)
  told_failed place t Rollback = (refl, refl)
  told_failed place t Prune = (refl, refl)

  -- of one that its session has still to end
  told_any : (w : World A) (t : Txn A) (a : Action A) (st : Standing) → is_owed st ≡ true
      → let u : Txn A = record t { standing = st } in Told u (turned_from st w a (reply_from st w u a) u) (gone_on (w.place + 1 - p) a (reply_from st w u a) (course_of n p u))
  told_any w t a Open o = told_open w t a
  told_any w t a (Doomed c) o = told_doomed (w.place + 1 - p) t c a
  told_any w t a Failed o = told_failed (w.place + 1 - p) t a
  told_any w t a Aborted o = absurd (true≢false (sym o))
  told_any w t a Done o = absurd (true≢false (sym o))

  -- ---- one transaction replaced

  replaced-none : (x : Txn A) (ts : List (Txn A)) → ((y : Txn A) → In y ts → x.number < y.number) → replaced x ts ≡ ts
  replaced-none x [] h = refl
  replaced-none x (t ∷ ts) h = ap (λ y. y ∷ replaced x ts) (go (eqb t.number x.number) refl) ∙ ap (λ us. t ∷ us) (replaced-none x ts (λ y i. h y (inr i)))
    where
      go : (b : Bool) → eqb t.number x.number ≡ b → cond b x t ≡ t
      go true e = absurd (omega (arith, h t (inl refl), eqb-true t.number x.number e))
      go false e = refl

  courses-replaced : (s : ℕ) (t x : Txn A) (f : Track A → Track A) (ts : List (Txn A)) → Rising (λ (u : Txn A). u.number) ts → find (is_of s) ts ≡ Some t → course_of n p x ≡ f (course_of n p t) → x.number ≡ t.number
      → map (course_of n p) (replaced x ts) ≡ at_first (is_its s) f (map (course_of n p) ts)
  courses-replaced s t x f [] r e c k = cc
  courses-replaced s t x f (u ∷ us) r e c k = go (is_of s u) refl e (courses-replaced s t x f us r.1)
    where
      Rest : Type 0
      Rest = find (is_of s) us ≡ Some t → course_of n p x ≡ f (course_of n p t) → x.number ≡ t.number → map (course_of n p) (replaced x us) ≡ at_first (is_its s) f (map (course_of n p) us)

      other : (b : Bool) → eqb u.number x.number ≡ b → u.number < x.number → cond b x u ≡ u
      other true q l = absurd (omega (arith, eqb-true u.number x.number q))
      other false q l = refl

      go : (b : Bool) → is_of s u ≡ b → cond b (Some u) (find (is_of s) us) ≡ Some t → Rest
          → map (course_of n p) (cond (eqb u.number x.number) x u ∷ replaced x us) ≡ cond b (f (course_of n p u) ∷ map (course_of n p) us) (course_of n p u ∷ at_first (is_its s) f (map (course_of n p) us))
      go true q g rest =
          let same : u ≡ t = cc in
          let number : x.number ≡ u.number = k ∙ ap (λ (y : Txn A). y.number) (sym same) in
          ap (λ b. course_of n p (cond b x u) ∷ map (course_of n p) (replaced x us)) (eq-eqb u.number x.number (sym number))
          ∙ ap (λ d. d ∷ map (course_of n p) (replaced x us)) (c ∙ ap (λ y. f (course_of n p y)) (sym same))
          ∙ ap (λ ys. f (course_of n p u) ∷ map (course_of n p) ys) (replaced-none x us (λ y i. subst (λ m. m < y.number) (sym number) (r.0 y i)))
      go false q g rest =
          let below : u.number < t.number = r.0 t (find-In (is_of s) us t g).0 in
          ap (λ y. course_of n p y ∷ map (course_of n p) (replaced x us)) (other (eqb u.number x.number) refl (omega arith))
          ∙ ap (λ ys. course_of n p u ∷ ys) (rest g c k)

  -- ---- an event

  any_its : (s : ℕ) (ts : List (Txn A)) (o : Option (Txn A)) → find (is_of s) ts ≡ o → list_any (is_its s) (map (course_of n p) ts) ≡ is_some o
  any_its s [] o e = ap is_some e
  any_its s (t ∷ ts) o e = go (is_of s t) (any_its s ts) e
    where
      go : (b : Bool) → ((q : Option (Txn A)) → find (is_of s) ts ≡ q → list_any (is_its s) (map (course_of n p) ts) ≡ is_some q) → cond b (Some t) (find (is_of s) ts) ≡ o
          → (b || list_any (is_its s) (map (course_of n p) ts)) ≡ is_some o
      go true rest g = ap is_some g
      go false rest g = rest o g

  begins_course : (w : World A) (s : ℕ) (a : Action A) → w.base.transactions ≡ n
      → map (course_of n p) (followed w (record { session = s; action = a; reply = reply_of w None a }) None).txns ≡ begins (w.place + 1 - p) s a (map (course_of n p) w.txns)
  begins_course w s (Begin m) e =
      let number : w.base.transactions + length w.txns + 1 - n ≡ length (map (course_of n p) w.txns) + 1 = omega (arith, length-map w.txns (course_of n p)) in
      map-append (course_of n p) w.txns (begun w s m ∷ []) ∙ ap (λ k. map (course_of n p) w.txns ++ course_begun s k (w.place + 1 - p) ∷ []) number
  begins_course w s _ e = refl

  pub event-courses : (w : World A) (s : ℕ) (a : Action A) → w.base.transactions ≡ n → Rising (λ (u : Txn A). u.number) w.txns
      → let e : Record A = record { session = s; action = a; reply = reply_in w s a } in map (course_of n p) (follows w e).txns ≡ with_record (w.place + 1 - p) e (map (course_of n p) w.txns)
  event-courses w s a b r = go (current w s) refl
    where
      go : (o : Option (Txn A)) → current w s ≡ o
          → let e : Record A = record { session = s; action = a; reply = reply_of w o a } in map (course_of n p) (followed w e o).txns ≡ with_record (w.place + 1 - p) e (map (course_of n p) w.txns)
      go None e = begins_course w s a b ∙ sym (ap (λ c. cond c (at_first (is_its s) (gone_on (w.place + 1 - p) a (reply_of w None a)) (map (course_of n p) w.txns)) (begins (w.place + 1 - p) s a (map (course_of n p) w.txns))) (any_its s w.txns None e))
      go (Some t) e =
          let in_list = find-In (is_of s) w.txns t e in
          let k = told_any w t a t.standing (second_so (eqb t.session s) (is_owed t.standing) in_list.1) in
          courses-doomed (w.place + 1) (causes w a (reply_of w (Some t) a) t) (replaced (turned_from t.standing w a (reply_from t.standing w t a) t) w.txns)
          ∙ courses-replaced s t (turned_from t.standing w a (reply_from t.standing w t a) t) (gone_on (w.place + 1 - p) a (reply_from t.standing w t a)) w.txns r e k.0 k.1
          ∙ sym (ap (λ c. cond c (at_first (is_its s) (gone_on (w.place + 1 - p) a (reply_of w (Some t) a)) (map (course_of n p) w.txns)) (begins (w.place + 1 - p) s a (map (course_of n p) w.txns))) (any_its s w.txns (Some t) e))

  -- ---- all events

  follows-place : (w : World A) (e : Record A) → ((follows w e).place ≡ w.place + 1) × ((follows w e).base ≡ w.base) × ((follows w e).opening ≡ w.opening)
  follows-place w e = go (current w e.session)
    where
      without : (s : ℕ) (a : Action A) (r : Reply A) → ((without_transaction w s a r).place ≡ w.place + 1) × ((without_transaction w s a r).base ≡ w.base) × ((without_transaction w s a r).opening ≡ w.opening)
      without s (Begin m) Begun = (refl, refl, refl)
      without s _ _ = (refl, refl, refl)

      go : (o : Option (Txn A)) → ((followed w e o).place ≡ w.place + 1) × ((followed w e o).base ≡ w.base) × ((followed w e o).opening ≡ w.opening)
      go None = without e.session e.action e.reply
      go (Some t) = (refl, refl, refl)

  pub run-base : (w : World A) (es : List (Record A)) → ((run w es).base ≡ w.base) × ((run w es).opening ≡ w.opening)
  run-base w [] = (refl, refl)
  run-base w (e ∷ es) = let r = run-base (follows w e) es in let f = follows-place w e in (r.0 ∙ f.1, r.1 ∙ f.2)

  pub all-courses : (w : World A) (es : List (Record A)) (k : ℕ) → IsAnswered w es → IsGood w → w.base.transactions ≡ n → p ≤ w.place → k ≡ w.place - p
      → courses_after k es (map (course_of n p) w.txns) ≡ map (course_of n p) (run w es).txns
  all-courses w [] k l g b h e = refl
  all-courses w (d ∷ es) k l g b h e =
      let f = follows-place w d in
      let one : k + 1 ≡ w.place + 1 - p = omega arith in
      let two : k + 1 ≡ (follows w d).place - p = omega (arith, f.0) in
      let below : p ≤ (follows w d).place = omega (arith, f.0) in
      let answered : IsAnswered w (d ∷ []) = (l.0, l.1, tt) in
      ap (λ cs. courses_after (k + 1) es cs) (ap (λ i. with_record i d (map (course_of n p) w.txns)) one ∙ step)
      ∙ all-courses (follows w d) es (k + 1) l.2 (good_run w (d ∷ []) g answered) (ap (λ (x : Base). x.transactions) f.1 ∙ b) below two
    where
      step : with_record (w.place + 1 - p) d (map (course_of n p) w.txns) ≡ map (course_of n p) (follows w d).txns
      step = sym (subst (λ r. let e' : Record A = record { session = d.session; action = d.action; reply = r } in map (course_of n p) (follows w e').txns ≡ with_record (w.place + 1 - p) e' (map (course_of n p) w.txns)) (sym l.1) (event-courses w d.session d.action b g.rising.rising))
