-- What the events of other sessions leave of a session's transaction: it is as it was, or a commit has doomed it.
use Rattle.std.proofs.Common.{◌≡◌, refl, sym, ap, subst, ◌∙◌, ℕ, ◌+◌, Bool, true, false, true≢false, cond, ◌&&◌, ◌⊎◌, inl, inr, List, [], ◌∷◌, ◌++◌, map, Option, Some, None, Ok, Err, eqb}
use Rattle.std.specs.List.{find}
use Rattle.std.specs.Option.{option_map}
use Rattle.std.proofs.lemmas.Bool.{eqb-true}
use Rattle.std.specs.Cmp.{first_so}
use Rattle.value.specs.declared.refusal.Cause.{Cause}
use Rattle.value.proofs.IsolationLemmas.{In}
use Rattle.schema.specs.declared.tables.Tables.{Tables}
use Rattle.statement.specs.declared.reply.Reply.{Reply}
use Rattle.statement.specs.declared.reply.Reply.TheVariants.{Begun}
use Rattle.history.specs.declared.event.Action.{Action}
use Rattle.history.specs.declared.event.Action.TheVariants.{Begin}
use Rattle.history.specs.declared.event.Record.{Record}
use Rattle.history.specs.Opening.{Opening}
use Rattle.history.specs.Transactions.{Standing, Open, Doomed, Failed, Aborted, Done, Txn, World, Exported_snapshot, current, is_of, is_open, is_owed}
use Rattle.history.specs.Events.{begun, causes, doomed_by, follows, followed, numbered, polled, replaced, run, start, turned, turned_from, without_transaction, world_of}
use Rattle.history.specs.Answer.{Allowed, IsAnswered, Legal, of_cause, of_session, reader_answer, reader_from, reader_of, reply_from, reply_in, reply_of}
use Rattle.serial.proofs.structures.Dooms.{Fate, Spared, Over, fate}
use Rattle.serial.proofs.legal.Legal.{Move, Stays, Fails, Aborts, Commits, Runs, Asks, Polls, Learns, Imports, current_in, legal_steps, open_move}
use Rattle.serial.proofs.legal.Numbers.{IsNumbered, polled_keeps}
use Rattle.serial.proofs.order.SerialTheorem.{IsGood, good_steps, good_world}

open_is_owed : (st : Standing) → is_open st ≡ true → is_owed st ≡ true
open_is_owed Open e = refl
open_is_owed (Doomed c) e = absurd (true≢false (sym e))
open_is_owed Failed e = absurd (true≢false (sym e))
open_is_owed Aborted e = absurd (true≢false (sym e))
open_is_owed Done e = absurd (true≢false (sym e))

-- a session and another one
other_session : (s n m : ℕ) → eqb n s ≡ false → m ≡ n → eqb m s ≡ false
other_session s n m e p = ap (λ k. eqb k s) p ∙ e

module _ {A : Type 0} where
  -- ---- whose transaction it is

  -- x stands in the place of t: it has its number, and is of its session
  pub record IsSameParty (t x : Txn A) : Type 0 where
    pub number : x.number ≡ t.number
    pub session : x.session ≡ t.session

  itself : (t : Txn A) → IsSameParty t t
  itself t = record { number = refl; session = refl }

  numbered_party : (w : World A) (t : Txn A) → IsSameParty t (numbered w t)
  numbered_party w t = go (Rattle.history.specs.Transactions.is_read_write t.mode)
    where
      go : (b : Bool) → IsSameParty t (cond b (record (Rattle.history.specs.Events.ended w Done t) { commit = Rattle.history.specs.Transactions.commits w + 1 }) (Rattle.history.specs.Events.ended w Done t))
      go true = record { number = refl; session = refl }
      go false = record { number = refl; session = refl }

  polled_party : (w : World A) (t : Txn A) → IsSameParty t (polled w t)
  polled_party w t = polled_keeps (IsSameParty t) w t (itself t) (record { number = refl; session = refl })

  learned_party : (t y : Txn A) → IsSameParty t y → IsSameParty t (record y { known = true })
  learned_party t y p = record { number = p.number; session = p.session }

  moved_party : (w : World A) (t x : Txn A) (log : List (Txn A)) (exports : List Exported_snapshot) → Move w t x log exports → IsSameParty t x
  moved_party w t x log exports Stays = itself t
  moved_party w t x log exports Fails = record { number = refl; session = refl }
  moved_party w t x log exports Aborts = record { number = refl; session = refl }
  moved_party w t x log exports (Commits c) = numbered_party w t
  moved_party w t x log exports (Runs q fits a b d) = record { number = refl; session = refl }
  moved_party w t x log exports (Asks a) = record { number = refl; session = refl }
  moved_party w t x log exports (Polls a b) = polled_party w t
  moved_party w t x log exports (Learns a b d) = learned_party t (polled w t) (polled_party w t)
  moved_party w t x log exports (Imports i y a b e) = record { number = refl; session = refl }

  turned_party : (w : World A) (a : Action A) (t : Txn A) → Allowed w.catalog a → (st : Standing) → IsSameParty t (turned_from st w a (reply_from st w t a) t)
  turned_party w a t fits Open = moved_party w t _ _ _ (open_move w t a fits)
  turned_party w a t fits (Doomed c) = record { number = refl; session = refl }
  turned_party w a t fits Failed = record { number = refl; session = refl }
  turned_party w a t fits Aborted = itself t
  turned_party w a t fits Done = itself t

  -- ---- what an event of another session leaves

  -- u is t as it was, or was doomed
  abbrev pub Left : Txn A → Txn A → Type 0
  Left t u = (u ≡ t) ⊎ ((c : Cause) × (u.standing ≡ Doomed c))

  left_twice : (t u v : Txn A) → Left t u → Left u v → Left t v
  left_twice t u v (inl p) (inl q) = inl (q ∙ p)
  left_twice t u v (inr d) (inl q) = inr (d.0, ap (λ (y : Txn A). y.standing) q ∙ d.1)
  left_twice t u v l (inr d) = inr d

  left_by : (place : ℕ) (cs : List Cause) (t : Txn A) → Left t (doomed_by place cs t)
  left_by place cs t = go (doomed_by place cs t) (fate place cs t)
    where
      go : (u : Txn A) → Fate place t u → Left t u
      go u Spared = inl refl
      go u (Over c e) = inr (c, refl)

  of_doomed : (s place : ℕ) (cs : List Cause) (t : Txn A) → is_of s (doomed_by place cs t) ≡ is_of s t
  of_doomed s place cs t = go (doomed_by place cs t) (fate place cs t)
    where
      go : (u : Txn A) → Fate place t u → is_of s u ≡ is_of s t
      go u Spared = refl
      go u (Over c e) = ap (λ b. eqb t.session s && b) (sym (open_is_owed t.standing e))

  find_doomed : (s place : ℕ) (cs : List Cause) (ts : List (Txn A)) → find (is_of s) (map (doomed_by place cs) ts) ≡ option_map (doomed_by place cs) (find (is_of s) ts)
  find_doomed s place cs [] = refl
  find_doomed s place cs (t ∷ ts) = ap (λ b. cond b (Some (doomed_by place cs t)) (find (is_of s) (map (doomed_by place cs) ts))) (of_doomed s place cs t) ∙ go (is_of s t) (find_doomed s place cs ts)
    where
      go : (b : Bool) → find (is_of s) (map (doomed_by place cs) ts) ≡ option_map (doomed_by place cs) (find (is_of s) ts)
          → cond b (Some (doomed_by place cs t)) (find (is_of s) (map (doomed_by place cs) ts)) ≡ option_map (doomed_by place cs) (cond b (Some t) (find (is_of s) ts))
      go true e = refl
      go false e = e

  -- neither x nor those that it replaces are the session's
  find_replaced : (s : ℕ) (x : Txn A) (ts : List (Txn A)) → is_of s x ≡ false → ((u : Txn A) → In u ts → eqb u.number x.number ≡ true → is_of s u ≡ false) → find (is_of s) (replaced x ts) ≡ find (is_of s) ts
  find_replaced s x [] e h = refl
  find_replaced s x (t ∷ ts) e h = go (eqb t.number x.number) refl (find_replaced s x ts e (λ u i. h u (inr i)))
    where
      go : (b : Bool) → eqb t.number x.number ≡ b → find (is_of s) (replaced x ts) ≡ find (is_of s) ts
          → cond (is_of s (cond b x t)) (Some (cond b x t)) (find (is_of s) (replaced x ts)) ≡ cond (is_of s t) (Some t) (find (is_of s) ts)
      go true n rest = ap (λ b. cond b (Some x) (find (is_of s) (replaced x ts))) e ∙ rest ∙ sym (ap (λ b. cond b (Some t) (find (is_of s) ts)) (h t (inl refl) n))
      go false n rest = ap (λ o. cond (is_of s t) (Some t) o) rest

  find_more : (s : ℕ) (t : Txn A) (ts us : List (Txn A)) → find (is_of s) ts ≡ Some t → find (is_of s) (ts ++ us) ≡ Some t
  find_more s t [] us e = cc
  find_more s t (u ∷ ts) us e = go (is_of s u) e (find_more s t ts us)
    where
      go : (b : Bool) → cond b (Some u) (find (is_of s) ts) ≡ Some t → (find (is_of s) ts ≡ Some t → find (is_of s) (ts ++ us) ≡ Some t) → cond b (Some u) (find (is_of s) (ts ++ us)) ≡ Some t
      go true f rest = f
      go false f rest = rest f

  -- the session's transaction after an event of another session
  abbrev Kept : World A → ℕ → Txn A → Type 0
  Kept w s t = (u : Txn A) × (current w s ≡ Some u) × Left t u

  without_leaves : (w : World A) (s n : ℕ) (a : Action A) (r : Reply A) (t : Txn A) → current w s ≡ Some t → Kept (without_transaction w n a r) s t
  without_leaves w s n (Begin m) Begun t c = (t, find_more s t w.txns (begun w n m ∷ []) c, inl refl)
  without_leaves w s n _ _ t c = (t, c, inl refl)

  with_leaves : (w : World A) (s n : ℕ) (a : Action A) (t own : Txn A) → IsNumbered w → Allowed w.catalog a → eqb n s ≡ false → current w n ≡ Some own → current w s ≡ Some t
      → Kept (followed w (record { session = n; action = a; reply = reply_of w (Some own) a }) (Some own)) s t
  with_leaves w s n a t own num fits e c d = (doomed_by place cs t, find_doomed s place cs (replaced x w.txns) ∙ ap (option_map (doomed_by place cs)) (find_replaced s x w.txns (not_of x party.session) others ∙ d), left_by place cs t)
    where
      r : Reply A
      r = reply_of w (Some own) a

      place : ℕ
      place = w.place + 1

      cs : List Cause
      cs = causes w a r own

      x : Txn A
      x = turned w a r own

      party : IsSameParty own x
      party = turned_party w a own fits own.standing

      owned : own.session ≡ n
      owned = eqb-true own.session n (first_so (eqb own.session n) (is_owed own.standing) (current_in w n own c).1)

      not_of : (u : Txn A) → u.session ≡ own.session → is_of s u ≡ false
      not_of u p = ap (λ b. b && is_owed u.standing) (other_session s n u.session e (p ∙ owned))

      others : (u : Txn A) → In u w.txns → eqb u.number x.number ≡ true → is_of s u ≡ false
      others u i q = not_of u (ap (λ (y : Txn A). y.session) (num.unique u own i (current_in w n own c).0 (eqb-true u.number x.number q ∙ party.number)))

  event_leaves : (w : World A) (s n : ℕ) (a : Action A) (t : Txn A) → IsNumbered w → Allowed w.catalog a → eqb n s ≡ false → current w s ≡ Some t → Kept (follows w (record { session = n; action = a; reply = reply_in w n a })) s t
  event_leaves w s n a t num fits e d = go (current w n) refl
    where
      go : (o : Option (Txn A)) → current w n ≡ o → Kept (followed w (record { session = n; action = a; reply = reply_of w o a }) o) s t
      go None c = without_leaves w s n a (reply_of w None a) t d
      go (Some own) c = with_leaves w s n a t own num fits e c d

  -- ---- what events of other sessions leave

  none_is_own : (s : ℕ) (e : Record A) (es : List (Record A)) → of_session s (e ∷ es) ≡ [] → (eqb e.session s ≡ false) × (of_session s es ≡ [])
  none_is_own s e es h = go (eqb e.session s) refl h
    where
      go : (b : Bool) → eqb e.session s ≡ b → cond b ((e.action, e.reply) ∷ of_session s es) (of_session s es) ≡ [] → (eqb e.session s ≡ false) × (of_session s es ≡ [])
      go true p f = cc
      go false p f = (p, f)

  leaves : (w : World A) (s : ℕ) (es : List (Record A)) (t : Txn A) → IsGood w → IsAnswered w es → of_session s es ≡ [] → current w s ≡ Some t → Kept (run w es) s t
  leaves w s [] t g l none c = (t, c, inl refl)
  leaves w s (e ∷ es) t g l none c = join (leaves (follows w e) s es next.0 good l.2 mine.1 next.1)
    where
      mine : (eqb e.session s ≡ false) × (of_session s es ≡ [])
      mine = none_is_own s e es none

      now : World A
      now = follows w (record { session = e.session; action = e.action; reply = reply_in w e.session e.action })

      same : now ≡ follows w e
      same = ap (λ r. follows w (record { session = e.session; action = e.action; reply = r })) (sym l.1)

      next : Kept (follows w e) s t
      next = subst (λ (v : World A). Kept v s t) same (event_leaves w s e.session e.action t g.numbered l.0 mine.0 c)

      good : IsGood (follows w e)
      good = subst (λ (v : World A). IsGood v) same (good_steps w now g (legal_steps w e.session e.action l.0))

      join : Kept (run (follows w e) es) s next.0 → Kept (run (follows w e) es) s t
      join last = (last.0, last.1, left_twice t next.0 last.0 next.2 last.2)

  -- ---- histories

  run_more : (w : World A) (es more : List (Record A)) → run w (es ++ more) ≡ run (run w es) more
  run_more w [] more = refl
  run_more w (e ∷ es) more = run_more (follows w e) es more

  answered_more : (w : World A) (es more : List (Record A)) → IsAnswered w (es ++ more) → IsAnswered w es × IsAnswered (run w es) more
  answered_more w [] more l = (tt, l)
  answered_more w (e ∷ es) more l = let r = answered_more (follows w e) es more l.2 in ((l.0, l.1, r.0), r.1)

  own_more : (s : ℕ) (es more : List (Record A)) → of_session s (es ++ more) ≡ of_session s es → of_session s more ≡ []
  own_more s [] more h = h
  own_more s (e ∷ es) more h = own_more s es more (go (eqb e.session s) h)
    where
      go : (b : Bool) → cond b ((e.action, e.reply) ∷ of_session s (es ++ more)) (of_session s (es ++ more)) ≡ cond b ((e.action, e.reply) ∷ of_session s es) (of_session s es) → of_session s (es ++ more) ≡ of_session s es
      go true f = cc
      go false f = f

  same_tables : (t u : Txn A) → Left t u → (X Y : Tables A) → reader_of (Some t) ≡ Ok X → reader_of (Some u) ≡ Ok Y → Y ≡ X
  same_tables t u (inl p) X Y e f = let g : reader_of (Some u) ≡ reader_of (Some t) = ap (λ (y : Txn A). reader_of (Some y)) p in cc
  same_tables t u (inr d) X Y e f = let g : reader_of (Some u) ≡ Err (of_cause d.0) = ap (λ st. reader_from st u) d.1 in cc

  -- As long as a session does nothing, what it may read stays.
  pub readers_stay : (o : Opening A) (es more : List (Record A)) (s : ℕ) (X Y : Tables A) → Legal o (es ++ more) → of_session s (es ++ more) ≡ of_session s es → reader_answer o es s ≡ Ok X → reader_answer o (es ++ more) s ≡ Ok Y → Y ≡ X
  unfolding Legal
  readers_stay o es more s X Y l none e f = go (current w s) refl e
    where
      w : World A
      w = world_of o es

      parts : IsAnswered (start o) es × IsAnswered w more
      parts = answered_more (start o) es more l.1

      good : IsGood w
      good = good_world o es (l.0, parts.0)

      go : (c : Option (Txn A)) → current w s ≡ c → reader_of c ≡ Ok X → Y ≡ X
      go None c g = cc
      go (Some t) c g =
          let k = leaves w s more t good parts.1 (own_more s es more none) c in
          same_tables t k.0 k.2 X Y g (ap reader_of (sym (ap (λ (v : World A). current v s) (run_more (start o) es more) ∙ k.1)) ∙ f)
