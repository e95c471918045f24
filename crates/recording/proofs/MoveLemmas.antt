-- What an event makes of transactions, as far as a recording shows it.
use Rattle.std.proofs.Common.{◌≡◌, ◌⊎◌, inl, inr, ℕ, ◌+◌, Bool, true, false, true≢false, cond, ◌||◌, eqb, eq-eqb, List, [], ◌∷◌, ◌++◌, map, Option, Some, None, refl, sym, ap, subst, ◌∙◌}
use Rattle.std.specs.List.{find}
use Rattle.std.proofs.lemmas.Bool.{and_from, and_parts, eqb-true}
use Rattle.value.specs.declared.refusal.Cause.{Cause}
use Rattle.value.specs.declared.refusal.Mode.{Mode}
use Rattle.value.proofs.Basics.{find-In}
use Rattle.value.proofs.IsolationLemmas.{In}
use Rattle.value.proofs.SerialLemmas.{In-append}
use Rattle.statement.specs.declared.reply.Reply.{Reply}
use Rattle.statement.specs.declared.reply.Reply.TheVariants as reply
use Rattle.statement.specs.declared.statement.Statement.{Statement}
use Rattle.history.specs.declared.event.Action.{Action}
use Rattle.history.specs.declared.event.Action.TheVariants as action
use Rattle.history.specs.declared.event.Record.{Record}
use Rattle.history.specs.Events.{begun, causes, doomed_by, ended, exports_after, follows, followed, goes_on, import, log_after, moved, numbered, polled, replaced, settled, told, turned_from, with_snapshot, without_transaction}
use Rattle.history.specs.Transactions.{Aborted, Done, Doomed, Exported_snapshot, Failed, Open, Standing, Txn, World, commits, current, exported, is_done, is_of, is_open, is_owed, is_read_write}
use Rattle.serial.proofs.legal.Legal.{settled_is, told_is}
use Rattle.serial.proofs.legal.Numbers.{In-replaced, not_done, polled_keeps}
use Rattle.serial.proofs.structures.Dooms.{Fate, In-doomed, In-made, Over, Spared, fate}
use Rattle.recording.proofs.TurnLemmas.{commits_by, grown, imports}

or_true : (b : Bool) → (b || true) ≡ true
or_true true = refl
or_true false = refl

from_left : (b c : Bool) → b ≡ true → (b || c) ≡ true
from_left b c h = ap (λ x. x || c) h

pub open_owed : (st : Standing) → is_open st ≡ true → is_owed st ≡ true
open_owed Open e = refl
open_owed (Doomed c) e = absurd (true≢false (sym e))
open_owed Failed e = absurd (true≢false (sym e))
open_owed Aborted e = absurd (true≢false (sym e))
open_owed Done e = absurd (true≢false (sym e))

pub none_found : {T : Type 0} (p : T → Bool) (xs : List T) → find p xs ≡ None → (x : T) → In x xs → p x ≡ true → ⊥
none_found p [] e x i q = absurd i
none_found {T} p (y ∷ ys) e x i q = go (p y) refl (none_found p ys) e i
  where
    go : (b : Bool) → p y ≡ b → (find p ys ≡ None → (z : T) → In z ys → p z ≡ true → ⊥) → cond b (Some y) (find p ys) ≡ None → (x ≡ y) ⊎ In x ys → ⊥
    go true h rest f j = absurd cc
    go false h rest f (inl r) = true≢false (sym q ∙ ap p r ∙ h)
    go false h rest f (inr j) = rest f x j q

module _ {A : Type 0} where
  -- x is open still, and was t before the answer r to a.
  pub record StillOpen (a : Action A) (r : Reply A) (t x : Txn A) : Type 0 where
    pub was : is_open t.standing ≡ true
    pub begin : x.begin ≡ t.begin
    pub statements : x.statements ≡ grown a r t.statements
    pub imported : x.imported ≡ true → (t.imported || imports a r) ≡ true

  -- A transaction t has become x by the answer r to a.
  pub record Moved (w : World A) (a : Action A) (r : Reply A) (t x : Txn A) : Type 0 where
    pub number : x.number ≡ t.number
    pub session : x.session ≡ t.session
    pub remains : is_open x.standing ≡ true → StillOpen a r t x
    pub done : is_done x.standing ≡ true → (commits_by a r ≡ true) × (x ≡ numbered w t)

  numbered_keeps : (P : Txn A → Type 0) (w : World A) (t : Txn A) → P (record (ended w Done t) { commit = commits w + 1 }) → P (ended w Done t) → P (numbered w t)
  numbered_keeps P w t p q = go (is_read_write t.mode)
    where
      go : (b : Bool) → P (cond b (record (ended w Done t) { commit = commits w + 1 }) (ended w Done t))
      go true = p
      go false = q

  pub record IsNumbered (w : World A) (t x : Txn A) : Type 0 where
    pub number : x.number ≡ t.number
    pub session : x.session ≡ t.session
    pub done : x.standing ≡ Done
    pub begin : x.begin ≡ t.begin
    pub end : x.end ≡ w.place + 1
    pub imported : x.imported ≡ t.imported
    pub statements : x.statements ≡ t.statements

  pub numbered_is : (w : World A) (t : Txn A) → IsNumbered w t (numbered w t)
  numbered_is w t = numbered_keeps (λ x. IsNumbered w t x) w t
      (record { number = refl; session = refl; done = refl; begin = refl; end = refl; imported = refl; statements = refl })
      (record { number = refl; session = refl; done = refl; begin = refl; end = refl; imported = refl; statements = refl })

  module _ (w : World A) (t : Txn A) (o : is_open t.standing ≡ true) where
    -- with other fields, but as open as before
    alike : (a : Action A) (r : Reply A) (x : Txn A) → ((qs : List (Statement A × Reply A)) → grown a r qs ≡ qs) → x.number ≡ t.number → x.session ≡ t.session → x.standing ≡ t.standing → x.begin ≡ t.begin → x.statements ≡ t.statements
        → (x.imported ≡ true → (t.imported || imports a r) ≡ true) → Moved w a r t x
    alike a r x same n s st b q i = record {
      number = n;
      session = s;
      remains = λ e. record { was = o; begin = b; statements = q ∙ sym (same t.statements); imported = i };
      done = λ d. absurd (not_done t.standing o (ap is_done (sym st) ∙ d));
    }

    itself : (a : Action A) (r : Reply A) → ((qs : List (Statement A × Reply A)) → grown a r qs ≡ qs) → Moved w a r t t
    itself a r same = alike a r t same refl refl refl refl refl (λ h. from_left t.imported (imports a r) h)

    over : (a : Action A) (r : Reply A) (x : Txn A) → x.number ≡ t.number → x.session ≡ t.session → is_open x.standing ≡ false → is_done x.standing ≡ false → Moved w a r t x
    over a r x n s e d = record { number = n; session = s; remains = λ h. absurd (true≢false (sym h ∙ e)); done = λ h. absurd (true≢false (sym h ∙ d)) }

    either : (a : Action A) (r : Reply A) (b : Bool) (x y : Txn A) → Moved w a r t x → Moved w a r t y → Moved w a r t (cond b x y)
    either a r true x y p q = p
    either a r false x y p q = q

    imported_is : (i : ℕ) (e : Option Exported_snapshot) → Moved w (action.Import i) reply.Imported t (import e w t)
    imported_is i None = alike (action.Import i) reply.Imported t (λ qs. refl) refl refl refl refl refl (λ h. or_true t.imported)
    imported_is i (Some x) = alike (action.Import i) reply.Imported (import (Some x) w t) (λ qs. refl) refl refl refl refl refl (λ h. or_true t.imported)

    ran_is : (q : Statement A) (r : Reply A) → grown (action.Run q) r t.statements ≡ t.statements ++ (q, r) ∷ [] → imports (action.Run q) r ≡ false → Moved w (action.Run q) r t (Rattle.history.specs.Events.ran w q r t)
    ran_is q r more none = record {
      number = refl;
      session = refl;
      remains = λ e. record { was = o; begin = refl; statements = sym more; imported = λ h. from_left t.imported (imports (action.Run q) r) h };
      done = λ d. absurd (not_done t.standing o d);
    }

    moved_is : (a : Action A) (r : Reply A) → Moved w a r t (moved w a r t)
    moved_is (action.Run q) (reply.Refused e) = either (action.Run q) (reply.Refused e) (goes_on e.code) t (ended w Failed t) (itself (action.Run q) (reply.Refused e) (λ qs. refl)) (over (action.Run q) (reply.Refused e) (ended w Failed t) refl refl refl refl)
    moved_is (action.Run q) reply.Begun = ran_is q reply.Begun refl refl
    moved_is (action.Run q) reply.Committed = ran_is q reply.Committed refl refl
    moved_is (action.Run q) reply.RolledBack = ran_is q reply.RolledBack refl refl
    moved_is (action.Run q) reply.Pruned = ran_is q reply.Pruned refl refl
    moved_is (action.Run q) reply.Imported = ran_is q reply.Imported refl refl
    moved_is (action.Run q) reply.Inserted = ran_is q reply.Inserted refl refl
    moved_is (action.Run q) (reply.Updated n) = ran_is q (reply.Updated n) refl refl
    moved_is (action.Run q) (reply.Deleted n) = ran_is q (reply.Deleted n) refl refl
    moved_is (action.Run q) (reply.Rows rows) = ran_is q (reply.Rows rows) refl refl
    moved_is (action.Run q) (reply.Safe n) = ran_is q (reply.Safe n) refl refl
    moved_is (action.Run q) reply.Wait = ran_is q reply.Wait refl refl
    moved_is (action.Run q) (reply.Exported n) = ran_is q (reply.Exported n) refl refl
    moved_is (action.Broken f) r = over (action.Broken f) r (ended w Failed t) refl refl refl refl
    moved_is action.Poll (reply.Safe n) = polled_keeps (λ y. Moved w action.Poll (reply.Safe n) t (record y { known = true })) w t
        (alike action.Poll (reply.Safe n) (record t { known = true }) (λ qs. refl) refl refl refl refl refl (λ h. from_left t.imported false h))
        (alike action.Poll (reply.Safe n) (record (with_snapshot w (commits w) (w.place + 1) t) { known = true }) (λ qs. refl) refl refl refl refl refl (λ h. from_left t.imported false h))
    moved_is action.Poll reply.Wait = polled_keeps (λ y. Moved w action.Poll reply.Wait t y) w t (itself action.Poll reply.Wait (λ qs. refl))
        (alike action.Poll reply.Wait (with_snapshot w (commits w) (w.place + 1) t) (λ qs. refl) refl refl refl refl refl (λ h. from_left t.imported false h))
    moved_is action.Export (reply.Exported n) = alike action.Export (reply.Exported n) (record t { asked = true }) (λ qs. refl) refl refl refl refl refl (λ h. from_left t.imported false h)
    moved_is (action.Import i) reply.Imported = imported_is i (exported w i)
    moved_is action.Commit reply.Committed =
        let is = numbered_is w t in
        record { number = is.number; session = is.session; remains = λ h. absurd (true≢false (sym h ∙ ap is_open is.done)); done = λ h. (refl, refl) }
    moved_is action.Commit (reply.Refused e) = over action.Commit (reply.Refused e) (ended w Aborted t) refl refl refl refl
    moved_is action.Rollback r = over action.Rollback r (ended w Aborted t) refl refl refl refl
    moved_is (action.Begin m) r = itself (action.Begin m) r (λ qs. refl)
    moved_is action.Prune r = itself action.Prune r (λ qs. refl)
    moved_is action.Poll r = itself action.Poll r (λ qs. refl)
    moved_is action.Export r = itself action.Export r (λ qs. refl)
    moved_is (action.Import i) r = itself (action.Import i) r (λ qs. refl)
    moved_is action.Commit r = itself action.Commit r (λ qs. refl)

  settles : (w : World A) (a : Action A) (r : Reply A) (t : Txn A) (st : Standing) → is_open st ≡ false → is_done st ≡ false → Moved w a r t (record t { standing = st })
  settles w a r t st e d = record { number = refl; session = refl; remains = λ h. absurd (true≢false (sym h ∙ e)); done = λ h. absurd (true≢false (sym h ∙ d)) }

  -- what becomes of the session's transaction
  pub turned_is : (w : World A) (a : Action A) (r : Reply A) (t : Txn A) → is_owed t.standing ≡ true → (st : Standing) → t.standing ≡ st → Moved w a r t (turned_from st w a r t)
  turned_is w a r t h Open e = moved_is w t (ap is_open e) a r
  turned_is w a r t h (Doomed c) e = let k = told_is a t.standing (ap is_open e) (ap is_done e) in settles w a r t (told a t.standing) k.0 k.1
  turned_is w a r t h Failed e = let k = settled_is a t.standing (ap is_open e) (ap is_done e) in settles w a r t (settled a t.standing) k.0 k.1
  turned_is w a r t h Aborted e = absurd (true≢false (sym h ∙ ap is_owed e))
  turned_is w a r t h Done e = absurd (true≢false (sym h ∙ ap is_owed e))

  -- ---- one transaction a session

  abbrev pub AreSingle : List (Txn A) → Type 0
  AreSingle ts = (t u : Txn A) → In t ts → In u ts → is_owed t.standing ≡ true → is_owed u.standing ≡ true → t.session ≡ u.session → t ≡ u

  pub owed_before : (place : ℕ) (t u : Txn A) → Fate place t u → is_owed u.standing ≡ true → (is_owed t.standing ≡ true) × (t.session ≡ u.session)
  owed_before place t u Spared h = (h, refl)
  owed_before place t u (Over c o) h = (open_owed t.standing o, refl)

  single_doomed : (place : ℕ) (cs : List Cause) (ts : List (Txn A)) → AreSingle ts → AreSingle (map (doomed_by place cs) ts)
  single_doomed place cs ts one t u i j h k e =
      let p = In-made place cs t ts i in
      let q = In-made place cs u ts j in
      let from_t = owed_before place p.0 t (subst (Fate place p.0) (sym p.2) (fate place cs p.0)) h in
      let from_u = owed_before place q.0 u (subst (Fate place q.0) (sym q.2) (fate place cs q.0)) k in
      p.2 ∙ ap (doomed_by place cs) (one p.0 q.0 p.1 q.1 from_t.0 from_u.0 (from_t.1 ∙ e ∙ sym from_u.1)) ∙ sym q.2

  -- x stands in the place of t
  single_replaced : (t x : Txn A) (ts : List (Txn A)) → AreSingle ts → In t ts → is_owed t.standing ≡ true → x.number ≡ t.number → x.session ≡ t.session → AreSingle (replaced x ts)
  single_replaced t x ts one i h n s u v j k hu hv e = go (In-replaced u x ts j) (In-replaced v x ts k)
    where
      apart : (y : Txn A) → In y ts → eqb y.number x.number ≡ false → is_owed y.standing ≡ true → y.session ≡ x.session → ⊥
      apart y m f hy se = true≢false (sym (eq-eqb y.number x.number (ap (λ (z : Txn A). z.number) (one y t m i hy h (se ∙ s)) ∙ sym n)) ∙ f)

      go : (u ≡ x) ⊎ In u ts × (eqb u.number x.number ≡ false) → (v ≡ x) ⊎ In v ts × (eqb v.number x.number ≡ false) → u ≡ v
      go (inl p) (inl q) = p ∙ sym q
      go (inl p) (inr q) = absurd (apart v q.0 q.1 hv (sym e ∙ ap (λ (z : Txn A). z.session) p))
      go (inr p) (inl q) = absurd (apart u p.0 p.1 hu (e ∙ ap (λ (z : Txn A). z.session) q))
      go (inr p) (inr q) = one u v p.0 q.0 hu hv e

  single_begun : (w : World A) (s : ℕ) (m : Mode) → AreSingle w.txns → current w s ≡ None → AreSingle (w.txns ++ begun w s m ∷ [])
  single_begun w s m one none t u i j h k e = go (In-append (λ (_ : Txn A). (0, 0, 0)) t w.txns (begun w s m ∷ []) i) (In-append (λ (_ : Txn A). (0, 0, 0)) u w.txns (begun w s m ∷ []) j)
    where
      apart : (y : Txn A) → In y w.txns → is_owed y.standing ≡ true → y.session ≡ s → ⊥
      apart y l hy se = none_found (is_of s) w.txns none y l (and_from (eqb y.session s) (is_owed y.standing) (eq-eqb y.session s se) hy)

      go : In t w.txns ⊎ ((t ≡ begun w s m) ⊎ ⊥) → In u w.txns ⊎ ((u ≡ begun w s m) ⊎ ⊥) → t ≡ u
      go (inl p) (inl q) = one t u p q h k e
      go (inl p) (inr (inl q)) = absurd (apart t p h (e ∙ ap (λ (z : Txn A). z.session) q))
      go (inr (inl p)) (inl q) = absurd (apart u q k (sym e ∙ ap (λ (z : Txn A). z.session) p))
      go (inr (inl p)) (inr (inl q)) = p ∙ sym q
      go (inr (inr z)) q = absurd z
      go p (inr (inr z)) = absurd z

  single_without : (w : World A) (s : ℕ) (a : Action A) (r : Reply A) → AreSingle w.txns → current w s ≡ None → AreSingle (without_transaction w s a r).txns
  single_without w s (action.Begin m) reply.Begun one none = single_begun w s m one none
  single_without w s _ _ one none = one

  pub owed_of : (w : World A) (s : ℕ) (t : Txn A) → current w s ≡ Some t → In t w.txns × (t.session ≡ s) × (is_owed t.standing ≡ true)
  owed_of w s t c =
      let p = find-In (is_of s) w.txns t c in
      let q = and_parts (eqb t.session s) (is_owed t.standing) p.1 in
      (p.0, eqb-true t.session s q.0, q.1)

  -- a session has one transaction at most that it has still to end
  pub single_follows : (w : World A) (e : Record A) (o : Option (Txn A)) → current w e.session ≡ o → AreSingle w.txns → AreSingle (followed w e o).txns
  single_follows w e None c one = single_without w e.session e.action e.reply one c
  single_follows w e (Some t) c one =
      let p = owed_of w e.session t c in
      let x = turned_is w e.action e.reply t p.2 t.standing refl in
      single_doomed (w.place + 1) (causes w e.action e.reply t) (replaced (turned_from t.standing w e.action e.reply t) w.txns)
      (single_replaced t (turned_from t.standing w e.action e.reply t) w.txns one p.0 p.2 x.number x.session)

  -- ---- where the open transactions after an event come from

  pub data Source (w : World A) (s : ℕ) (a : Action A) (r : Reply A) (u : Txn A) : Type 0 where
    Other : In u w.txns → (u.session ≡ s → ⊥) → Source w s a r u
    Fresh : (m : Mode) → a ≡ action.Begin m → r ≡ reply.Begun → u ≡ begun w s m → Source w s a r u
    Own : (t : Txn A) → current w s ≡ Some t → In t w.txns → t.session ≡ s → u.session ≡ s → StillOpen a r t u → Source w s a r u

  from_without : (w : World A) (s : ℕ) (a : Action A) (r : Reply A) (u : Txn A) → current w s ≡ None → In u (without_transaction w s a r).txns → is_open u.standing ≡ true → Source w s a r u
  from_without w s a r u none i o = by_action a r i
    where
      old : (b : Action A) (y : Reply A) → In u w.txns → Source w s b y u
      old b y j = Other j (λ e. none_found (is_of s) w.txns none u j (and_from (eqb u.session s) (is_owed u.standing) (eq-eqb u.session s e) (open_owed u.standing o)))

      by_action : (b : Action A) (y : Reply A) → In u (without_transaction w s b y).txns → Source w s b y u
      by_action (action.Begin m) reply.Begun j = new (In-append (λ (_ : Txn A). (0, 0, 0)) u w.txns (begun w s m ∷ []) j)
        where
          new : In u w.txns ⊎ ((u ≡ begun w s m) ⊎ ⊥) → Source w s (action.Begin m) reply.Begun u
          new (inl k) = old (action.Begin m) reply.Begun k
          new (inr (inl p)) = Fresh m refl refl p
          new (inr (inr z)) = absurd z
      by_action b y j = old b y j

  pub source : (w : World A) (e : Record A) (o : Option (Txn A)) → current w e.session ≡ o → AreSingle w.txns → (u : Txn A) → In u (followed w e o).txns → is_open u.standing ≡ true → Source w e.session e.action e.reply u
  source w e None c one u i h = from_without w e.session e.action e.reply u c i h
  source w e (Some t) c one u i h = spared d.0 u d.2 h (In-replaced d.0 x w.txns d.1)
    where
      x : Txn A
      x = turned_from t.standing w e.action e.reply t

      d : (y : Txn A) × In y (replaced x w.txns) × Fate (w.place + 1) y u
      d = In-doomed (w.place + 1) (causes w e.action e.reply t) u (replaced x w.txns) i

      own : In t w.txns × (t.session ≡ e.session) × (is_owed t.standing ≡ true)
      own = owed_of w e.session t c

      is : Moved w e.action e.reply t x
      is = turned_is w e.action e.reply t own.2 t.standing refl

      from : (y : Txn A) → is_open y.standing ≡ true → (y ≡ x) ⊎ In y w.txns × (eqb y.number x.number ≡ false) → Source w e.session e.action e.reply y
      from y o (inl p) = subst (λ (z : Txn A). Source w e.session e.action e.reply z) (sym p) (Own t c own.0 own.1 (is.session ∙ own.1) (is.remains (sym (ap (λ (z : Txn A). is_open z.standing) p) ∙ o)))
      from y o (inr q) = Other q.0 (λ se. true≢false (sym (eq-eqb y.number x.number (ap (λ (z : Txn A). z.number) (one y t q.0 own.0 (open_owed y.standing o) own.2 (se ∙ sym own.1)) ∙ sym is.number)) ∙ q.1))

      spared : (y z : Txn A) → Fate (w.place + 1) y z → is_open z.standing ≡ true → (y ≡ x) ⊎ In y w.txns × (eqb y.number x.number ≡ false) → Source w e.session e.action e.reply z
      spared y z Spared o r = from y o r
      spared y z (Over k p) o r = absurd (true≢false (sym o))

  -- ---- who has committed by an event

  done_before : (place : ℕ) (t u : Txn A) → Fate place t u → is_done u.standing ≡ true → t ≡ u
  done_before place t u Spared d = refl
  done_before place t u (Over c o) d = absurd (true≢false (sym d))

  without_old : (w : World A) (s : ℕ) (a : Action A) (r : Reply A) (u : Txn A) → In u (without_transaction w s a r).txns → is_done u.standing ≡ true → In u w.txns
  without_old w s (action.Begin m) reply.Begun u i d = go (In-append (λ (_ : Txn A). (0, 0, 0)) u w.txns (begun w s m ∷ []) i)
    where
      go : In u w.txns ⊎ ((u ≡ begun w s m) ⊎ ⊥) → In u w.txns
      go (inl k) = k
      go (inr (inl p)) = absurd (true≢false (sym d ∙ ap (λ (z : Txn A). is_done z.standing) p))
      go (inr (inr z)) = absurd z
  without_old w s _ _ u i d = i

  -- one that has committed had done so before, or is the session's, by a COMMIT
  abbrev pub CommitsNow : World A → Record A → Txn A → Type 0
  CommitsNow w e u = (t : Txn A) × (current w e.session ≡ Some t) × (commits_by e.action e.reply ≡ true) × (u ≡ numbered w t)

  pub done_source : (w : World A) (e : Record A) (o : Option (Txn A)) → current w e.session ≡ o → (u : Txn A) → In u (followed w e o).txns → is_done u.standing ≡ true → In u w.txns ⊎ CommitsNow w e u
  done_source w e None c u i d = inl (without_old w e.session e.action e.reply u i d)
  done_source w e (Some t) c u i d = go (In-replaced u x w.txns (subst (λ (z : Txn A). In z (replaced x w.txns)) (done_before (w.place + 1) f.0 u f.2 d) f.1))
    where
      x : Txn A
      x = turned_from t.standing w e.action e.reply t

      f : (y : Txn A) × In y (replaced x w.txns) × Fate (w.place + 1) y u
      f = In-doomed (w.place + 1) (causes w e.action e.reply t) u (replaced x w.txns) i

      own : In t w.txns × (t.session ≡ e.session) × (is_owed t.standing ≡ true)
      own = owed_of w e.session t c

      is : Moved w e.action e.reply t x
      is = turned_is w e.action e.reply t own.2 t.standing refl

      go : (u ≡ x) ⊎ In u w.txns × (eqb u.number x.number ≡ false) → In u w.txns ⊎ CommitsNow w e u
      go (inr p) = inl p.0
      go (inl p) = let k = is.done (sym (ap (λ (z : Txn A). is_done z.standing) p) ∙ d) in inr (t, c, k.0, p ∙ k.1)
