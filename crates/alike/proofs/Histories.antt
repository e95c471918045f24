-- The worlds after legal histories are orderly.
use Rattle.std.proofs.Common.{◌≡◌, refl, sym, ap, subst, ◌∙◌, ℕ, ◌+◌, ◌<◌, ◌≤◌, Bool, true, false, true≢false, cond, ◌&&◌, ◌||◌, ◌⊎◌, inl, inr, List, [], ◌∷◌, ◌++◌, map, length, Option, Some, None, eqb, arith, length-append}
use Rattle.std.proofs.lemmas.Bool.{and_parts, eq-eqb}
use Rattle.value.specs.declared.refusal.Cause.{Cause}
use Rattle.value.specs.declared.refusal.Code.TheVariants as code
use Rattle.value.proofs.IsolationLemmas.{In}
use Rattle.value.proofs.Lists.{In-append}
use Rattle.value.proofs.SerialLemmas.{NumberedFrom-apart}
use Rattle.statement.specs.declared.reply.Reply.{Reply}
use Rattle.statement.specs.declared.reply.Reply.TheVariants.{Committed, Imported, Safe, Wait, Exported, Refused}
use Rattle.history.specs.declared.event.Action.{Action}
use Rattle.history.specs.declared.event.Action.TheVariants.{Begin, Run, Broken, Poll, Export, Import, Commit, Rollback}
use Rattle.history.specs.declared.event.Record.{Record}
use Rattle.history.specs.Opening.{Opening}
use Rattle.history.specs.Transactions.{Standing, Open, Doomed, Failed, Aborted, Done, Txn, World, Exported_snapshot, commits, current, exported, is_done, is_of, is_owed, is_read_write, is_spoilt, must_wait}
use Rattle.history.specs.Events.{begun, causes, doomed_by, ended, exports_after, followed, follows, goes_on, import, moved, next_identifier, replaced, run, start, turned_from, with_snapshot, world_of}
use Rattle.history.specs.Answer.{IsAnswered, Legal, refuses, reply_from, reply_in, reply_of}
use Rattle.serial.proofs.legal.Numbers.{In-replaced}
use Rattle.serial.proofs.structures.Dooms.{In-made, number-doomed}
use Rattle.serial.proofs.order.SerialTheorem.{IsGood}
use Rattle.alike.proofs.Sides.{and2, find_none, not_both, open_owed}
use Rattle.alike.proofs.Orderly.{IsOrderly}
use Rattle.alike.proofs.Doomed.{Becomes, Is_doomed, Is_spared, becomes, session-doomed}

module _ {A : Type 0} where
  -- A session has one transaction to end at most, and identifiers are apart.
  pub record IsNamed (w : World A) : Type 0 where
    pub one : (t u : Txn A) → In t w.txns → In u w.txns → is_owed t.standing ≡ true → is_owed u.standing ≡ true → t.session ≡ u.session → t.number ≡ u.number
    pub identified : (x y : Exported_snapshot) → In x w.exports → In y w.exports → x.id ≡ y.id → x ≡ y
    pub counted : (x : Exported_snapshot) → In x w.exports → x.id ≤ w.base.identifiers + length w.exports

  -- ---- what an event leaves of a transaction's name

  abbrev Named : Txn A → Txn A → Type 0
  Named t x = (x.session ≡ t.session) × (x.number ≡ t.number)

  named_fails : (w : World A) (t : Txn A) (b : Bool) → Named t (cond b t (ended w Failed t))
  named_fails w t true = (refl, refl)
  named_fails w t false = (refl, refl)

  named_done : (w : World A) (t : Txn A) (b : Bool) → Named t (cond b (record (ended w Done t) { commit = commits w + 1 }) (ended w Done t))
  named_done w t true = (refl, refl)
  named_done w t false = (refl, refl)

  named_polled : (w : World A) (t : Txn A) (b : Bool) → Named t (cond b (with_snapshot w (commits w) (w.place + 1) t) t)
  named_polled w t true = (refl, refl)
  named_polled w t false = (refl, refl)

  named_import : (w : World A) (t : Txn A) (o : Option Exported_snapshot) → Named t (import o w t)
  named_import w t None = (refl, refl)
  named_import w t (Some x) = (refl, refl)

  named_moved : (w : World A) (a : Action A) (r : Reply A) (t : Txn A) → Named t (moved w a r t)
  named_moved w (Run q) (Refused r) t = named_fails w t (goes_on r.code)
  named_moved w (Run q) _ t = (refl, refl)
  named_moved w (Broken r) _ t = (refl, refl)
  named_moved w Poll (Safe n) t = named_polled w t (Rattle.std.proofs.Common.not t.known && is_spoilt w.txns t)
  named_moved w Poll Wait t = named_polled w t (Rattle.std.proofs.Common.not t.known && is_spoilt w.txns t)
  named_moved w Export (Exported i) t = (refl, refl)
  named_moved w (Import i) Imported t = named_import w t (exported w i)
  named_moved w Commit Committed t = named_done w t (is_read_write t.mode)
  named_moved w Commit (Refused r) t = (refl, refl)
  named_moved w Rollback _ t = (refl, refl)
  named_moved w _ _ t = (refl, refl)

  named_turned : (st : Standing) (w : World A) (a : Action A) (r : Reply A) (t : Txn A) → Named t (turned_from st w a r t)
  named_turned Open w a r t = named_moved w a r t
  named_turned (Doomed c) w a r t = (refl, refl)
  named_turned Failed w a r t = (refl, refl)
  named_turned Aborted w a r t = (refl, refl)
  named_turned Done w a r t = (refl, refl)

  -- ---- identifiers

  exports_are : (st : Standing) (w : World A) (a : Action A) (t : Txn A) → (exports_after w a (reply_from st w t a) t ≡ w.exports) ⊎ ((y : Exported_snapshot) × (exports_after w a (reply_from st w t a) t ≡ w.exports ++ y ∷ []) × (y.id ≡ next_identifier w))
  exports_are Open w Export t = go (must_wait t)
    where
      go : (b : Bool) → (exports_after w Export (cond b (refuses code.ObjectNotInPrerequisiteState) (Exported (next_identifier w))) t ≡ w.exports) ⊎ ((y : Exported_snapshot) × (exports_after w Export (cond b (refuses code.ObjectNotInPrerequisiteState) (Exported (next_identifier w))) t ≡ w.exports ++ y ∷ []) × (y.id ≡ next_identifier w))
      go true = inl refl
      go false = inr (_, refl, refl)
  exports_are (Doomed c) w Export t = inl refl
  exports_are Failed w Export t = inl refl
  exports_are Aborted w Export t = inl refl
  exports_are Done w Export t = inl refl
  exports_are st w _ t = inl refl

  abbrev Apart : World A → List Exported_snapshot → Type 0
  Apart w es = ((x y : Exported_snapshot) → In x es → In y es → x.id ≡ y.id → x ≡ y) × ((x : Exported_snapshot) → In x es → x.id ≤ w.base.identifiers + length es)

  longer_apart : (w : World A) → IsNamed w → (y : Exported_snapshot) → y.id ≡ next_identifier w → Apart w (w.exports ++ y ∷ [])
  longer_apart w h y e = (λ a b i j q. same a b (In-append a w.exports (y ∷ []) i) (In-append b w.exports (y ∷ []) j) q, λ a i. rw length-append (least a (In-append a w.exports (y ∷ []) i)))
    where
      same : (a b : Exported_snapshot) → In a w.exports ⊎ ((a ≡ y) ⊎ ⊥) → In b w.exports ⊎ ((b ≡ y) ⊎ ⊥) → a.id ≡ b.id → a ≡ b
      same a b (inl i) (inl j) q = h.identified a b i j q
      same a b (inl i) (inr (inl p)) q = absurd (let l : a.id ≤ w.base.identifiers + length w.exports = h.counted a i in let n : b.id ≡ y.id = ap (λ (z : Exported_snapshot). z.id) p in omega (arith, e))
      same a b (inr (inl p)) (inl j) q = absurd (let l : b.id ≤ w.base.identifiers + length w.exports = h.counted b j in let n : a.id ≡ y.id = ap (λ (z : Exported_snapshot). z.id) p in omega (arith, e))
      same a b (inr (inl p)) (inr (inl q')) q = p ∙ sym q'
      same a b (inr (inr z)) j q = absurd z
      same a b i (inr (inr z)) q = absurd z

      least : (a : Exported_snapshot) → In a w.exports ⊎ ((a ≡ y) ⊎ ⊥) → a.id ≤ w.base.identifiers + (length w.exports + 1)
      least a (inl i) = let l : a.id ≤ w.base.identifiers + length w.exports = h.counted a i in omega arith
      least a (inr (inl p)) = let n : a.id ≡ y.id = ap (λ (z : Exported_snapshot). z.id) p in omega (arith, e)
      least a (inr (inr z)) = absurd z

  exports_apart : (w : World A) → IsNamed w → (es : List Exported_snapshot) → (es ≡ w.exports) ⊎ ((y : Exported_snapshot) × (es ≡ w.exports ++ y ∷ []) × (y.id ≡ next_identifier w)) → Apart w es
  exports_apart w h es (inl e) = subst (Apart w) (sym e) (h.identified, h.counted)
  exports_apart w h es (inr k) = subst (Apart w) (sym k.1) (longer_apart w h k.0 k.2)

  -- ---- an event

  owed_before : (place : ℕ) (cs : List Cause) (z : Txn A) → is_owed (doomed_by place cs z).standing ≡ true → is_owed z.standing ≡ true
  owed_before place cs z e = go (doomed_by place cs z) (becomes place cs z) e
    where
      go : (u : Txn A) → Becomes place cs z u → is_owed u.standing ≡ true → is_owed z.standing ≡ true
      go u (Is_spared f) q = q
      go u (Is_doomed c o m) q = open_owed z.standing o

  module _ (w : World A) (h : IsNamed w) (s : ℕ) where
    named_some : (a : Action A) (t : Txn A) → current w s ≡ Some t → IsNamed (followed w (record { session = s; action = a; reply = reply_of w (Some t) a }) (Some t))
    named_some a t e = record {
      one = λ b d i j o q n. both b d (origin b i o) (origin d j q) n;
      identified = apart.0;
      counted = apart.1;
    }
      where
        r : Reply A
        r = reply_from t.standing w t a

        x : Txn A
        x = turned_from t.standing w a r t

        cs : List Cause
        cs = causes w a r t

        name : Named t x
        name = named_turned t.standing w a r t

        apart : Apart w (exports_after w a r t)
        apart = exports_apart w h (exports_after w a r t) (exports_are t.standing w a t)

        self : In t w.txns × (is_of s t ≡ true)
        self = Rattle.value.proofs.Basics.find-In (is_of s) w.txns t e

        owes : is_owed t.standing ≡ true
        owes = (and_parts (eqb t.session s) (is_owed t.standing) self.1).1

        Origin : Txn A → Type 0
        Origin z = (b : Txn A) × In b w.txns × (is_owed b.standing ≡ true) × (z.number ≡ b.number) × (z.session ≡ b.session)

        origin : (z : Txn A) → In z (map (doomed_by (w.place + 1) cs) (replaced x w.txns)) → is_owed z.standing ≡ true → Origin z
        origin z i o = at (In-replaced y.0 x w.txns y.1)
          where
            y : (y : Txn A) × In y (replaced x w.txns) × (z ≡ doomed_by (w.place + 1) cs y)
            y = In-made (w.place + 1) cs z (replaced x w.txns) i

            number : z.number ≡ y.0.number
            number = ap (λ (b : Txn A). b.number) y.2 ∙ number-doomed (w.place + 1) cs y.0

            session : z.session ≡ y.0.session
            session = ap (λ (b : Txn A). b.session) y.2 ∙ session-doomed (w.place + 1) cs y.0

            at : (y.0 ≡ x) ⊎ In y.0 w.txns × (eqb y.0.number x.number ≡ false) → Origin z
            at (inl q) = (t, self.0, owes, number ∙ ap (λ (b : Txn A). b.number) q ∙ name.1, session ∙ ap (λ (b : Txn A). b.session) q ∙ name.0)
            at (inr q) = (y.0, q.0, owed_before (w.place + 1) cs y.0 (sym (ap (λ (b : Txn A). is_owed b.standing) y.2) ∙ o), number, session)

        both : (b d : Txn A) → Origin b → Origin d → b.session ≡ d.session → b.number ≡ d.number
        both b d i j n = i.3 ∙ h.one i.0 j.0 i.1 j.1 i.2 j.2 (sym i.4 ∙ n ∙ j.4) ∙ sym j.3

    named_none : (a : Action A) → current w s ≡ None → IsNamed (followed w (record { session = s; action = a; reply = reply_of w None a }) None)
    named_none (Begin m) e = record {
      one = λ b d i j o q n. both b d (In-append b w.txns (begun w s m ∷ []) i) (In-append d w.txns (begun w s m ∷ []) j) o q n;
      identified = h.identified;
      counted = h.counted;
    }
      where
        x : Txn A
        x = begun w s m

        free : (b : Txn A) → In b w.txns → is_owed b.standing ≡ true → b.session ≡ s → ⊥
        free b i o n = not_both (is_of s b) (and2 (eqb b.session s) (is_owed b.standing) (eq-eqb b.session s n) o) (find_none (is_of s) w.txns e b i)

        both : (b d : Txn A) → In b w.txns ⊎ ((b ≡ x) ⊎ ⊥) → In d w.txns ⊎ ((d ≡ x) ⊎ ⊥) → is_owed b.standing ≡ true → is_owed d.standing ≡ true → b.session ≡ d.session → b.number ≡ d.number
        both b d (inl i) (inl j) o q n = h.one b d i j o q n
        both b d (inl i) (inr (inl p)) o q n = absurd (free b i o (n ∙ ap (λ (z : Txn A). z.session) p))
        both b d (inr (inl p)) (inl j) o q n = absurd (free d j q (sym n ∙ ap (λ (z : Txn A). z.session) p))
        both b d (inr (inl p)) (inr (inl p')) o q n = ap (λ (z : Txn A). z.number) (p ∙ sym p')
        both b d (inr (inr z)) j o q n = absurd z
        both b d i (inr (inr z)) o q n = absurd z
    named_none _ e = record { one = h.one; identified = h.identified; counted = h.counted }

    pub named_follows : (a : Action A) → IsNamed (follows w (record { session = s; action = a; reply = reply_in w s a }))
    named_follows a = go (current w s) refl
      where
        go : (o : Option (Txn A)) → current w s ≡ o → IsNamed (followed w (record { session = s; action = a; reply = reply_of w o a }) o)
        go None e = named_none a e
        go (Some t) e = named_some a t e

  -- ---- histories

  named_run : (w : World A) (es : List (Record A)) → IsNamed w → IsAnswered w es → IsNamed (run w es)
  named_run w [] h l = h
  named_run w (e ∷ es) h l = named_run (follows w e) es
      (subst (λ r. IsNamed (follows w (record { session = e.session; action = e.action; reply = r }))) (sym l.1) (named_follows w h e.session e.action)) l.2

  pub named_world : (o : Opening A) (es : List (Record A)) → Legal o es → IsNamed (world_of o es)
  unfolding Legal
  named_world o es l = named_run (start o) es (record { one = λ t u i. absurd i; identified = λ x y i. absurd i; counted = λ x i. absurd i }) l.1

  pub orderly : (w : World A) → IsGood w → IsNamed w → IsOrderly w
  orderly w g h = record {
    unique = g.numbered.unique;
    one = λ t u i j o q e. g.numbered.unique t u i j (h.one t u i j o q e);
    apart = λ t u i j c d e m. NumberedFrom-apart (λ (y : Txn A). y.commit) w.base.commits w.log t u g.numbered.in_order (logged t i (omega (arith, e, m))) (logged u j m) e;
    uncommitted = λ t i c. bare t i c;
    committed = λ t i. most t i;
    shown = λ t i. (g.numbered.shown t i).1;
    begun = g.time.begun_by;
    ended = g.time.ended_by;
    taken = λ t i. (g.stands.txns t i).taken_by;
    owns = λ t i. (g.faithful.each t i).own;
    exports = λ x i. (g.numbered.exports x i).1;
    identified = h.identified;
  }
    where
      logged : (t : Txn A) → In t w.txns → 0 < t.commit → In t w.log
      logged t i m = go (g.numbered.kind t i)
        where
          go : In t w.log ⊎ (t.commit ≡ 0) × (is_done t.standing ≡ true → is_read_write t.mode ≡ false) → In t w.log
          go (inl j) = j
          go (inr k) = absurd (omega (arith, k.0, m))

      bare : (t : Txn A) → In t w.txns → is_done t.standing ≡ false → t.commit ≡ 0
      bare t i c = go (g.numbered.kind t i)
        where
          go : In t w.log ⊎ (t.commit ≡ 0) × (is_done t.standing ≡ true → is_read_write t.mode ≡ false) → t.commit ≡ 0
          go (inl j) = absurd (not_both (is_done t.standing) (g.numbered.logged t j).1 c)
          go (inr k) = k.0

      upto : (n : ℕ) (ts : List (Txn A)) (u : Txn A) → Rattle.value.proofs.SerialLemmas.NumberedFrom (λ (t : Txn A). t.commit) n ts → In u ts → u.commit ≤ n + length ts
      upto n [] u k i = absurd i
      upto n (t ∷ ts) u k (inl p) = omega (arith, k.0, ap (λ (y : Txn A). y.commit) p)
      upto n (t ∷ ts) u k (inr i) = omega (arith, upto (n + 1) ts u k.1 i)

      most : (t : Txn A) → In t w.txns → t.commit ≤ commits w
      most t i = go (g.numbered.kind t i)
        where
          go : In t w.log ⊎ (t.commit ≡ 0) × (is_done t.standing ≡ true → is_read_write t.mode ≡ false) → t.commit ≤ commits w
          go (inl j) = upto w.base.commits w.log t g.numbered.in_order j
          go (inr k) = omega (arith, k.0)
