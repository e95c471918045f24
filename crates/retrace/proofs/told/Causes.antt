-- Each cause that a legal history names, of a doomed transaction or of a refused COMMIT, is a structure of its transactions.
use Rattle.std.proofs.Common.{◌≡◌, refl, sym, ap, subst, ◌∙◌, ℕ, ◌+◌, ◌<◌, ◌≤◌, Bool, true, false, true≢false, cond, not, ◌&&◌, ◌||◌, ◌⊎◌, inl, inr, List, [], ◌∷◌, ◌++◌, Option, Some, None, is_some, eqb, nat_lt, nat_le, arith}
use Rattle.std.proofs.lemmas.Bool.{and_from, and_parts, eq-eqb, eqb-true, lt-ltb, ltb-true}
use Rattle.std.specs.Cmp.{second_so}
use Rattle.std.specs.List.{filter, find, fold}
use Rattle.std.specs.Option.{option_map_or, option_to_list}
use Rattle.value.specs.declared.refusal.Cause.{Cause}
use Rattle.value.specs.Isolation.{cause_from, caused, doom_of, dooms, earlier, earliest, first_some, bound, is_dangerous, is_doomed, is_first, is_live, is_other, structure, with_doom}
use Rattle.value.proofs.IsolationLemmas.{In}
use Rattle.value.proofs.SerialLemmas.{In-append}
use Rattle.value.proofs.Basics.{find-In}
use Rattle.statement.specs.declared.reply.Reply.{Reply}
use Rattle.statement.specs.declared.reply.Reply.TheVariants.{Committed}
use Rattle.history.specs.declared.event.Action.{Action}
use Rattle.history.specs.declared.event.Action.TheVariants.{Begin, Commit, Rollback, Prune}
use Rattle.history.specs.declared.event.Record.{Record}
use Rattle.history.specs.Opening.{Opening}
use Rattle.history.specs.Transactions.{Standing, Open, Doomed, Failed, Aborted, Done, Txn, World, Exported_snapshot, commits, current, edge, is_done, is_open, is_owed, is_read_write, node, reads_from}
use Rattle.history.specs.Events.{begun, causes, doomed_by, doomed_with, ended, exports_after, followed, follows, log_after, moved, numbered, replaced, run, settled, start, told, turned, turned_from, without_transaction, world_of}
use Rattle.history.specs.Answer.{Allowed, IsAnswered, Legal, cause_of, committing, idle, open_reply, reply_from, reply_in, reply_of}
use Rattle.history.proofs.Alone.{In-filter}
use Rattle.serial.proofs.legal.Legal.{Move, Stays, Fails, Aborts, Commits, Runs, Asks, Polls, Learns, Imports, Steps, One, Two, current_in, legal_steps, open_move}
use Rattle.serial.proofs.legal.Numbers.{IsNumbered, In-replaced, polled_keeps}
use Rattle.serial.proofs.order.SerialTheorem.{IsGood, good_start, good_step, good_steps, sound_proper}
use Rattle.serial.proofs.structures.Dooms.{In-made}
use Rattle.retrace.specs.Told.{committing_now}
use Rattle.retrace.proofs.told.Grown.{AllGrew, commit_now, edge-grew, edge-now, grew-step}

some-same : {X : Type 0} (x y : X) → Some x ≡ Some y → x ≡ y
some-same x y e = ap (λ (o : Option _). option_map_or (λ z. z) o x) e

abbrev is_doom : Standing → Bool
is_doom (Doomed c) = true
is_doom _ = false

open_not_done : (st : Standing) → is_open st ≡ true → is_done st ≡ false
open_not_done Open e = refl
open_not_done (Doomed c) e = refl
open_not_done Failed e = refl
open_not_done Aborted e = refl
open_not_done Done e = sym e

pub owed_not_done : (st : Standing) → is_owed st ≡ true → is_done st ≡ false
owed_not_done Open e = refl
owed_not_done (Doomed c) e = refl
owed_not_done Failed e = refl
owed_not_done Aborted e = refl
owed_not_done Done e = sym e

not_doomed : (st : Standing) (k : Cause) → is_doom st ≡ false → st ≡ Doomed k → ⊥
not_doomed st k e p = true≢false (sym (ap is_doom p) ∙ e)

first_found : {X : Type 0} (f : X → Option Cause) (xs : List X) (k : Cause) → first_some f xs ≡ Some k → (x : X) × In x xs × (f x ≡ Some k)
first_found f [] k e = absurd (true≢false (sym (ap is_some e)))
first_found {X} f (x ∷ xs) k e = go (is_some (f x)) (first_found f xs k) e
  where
    go : (b : Bool) → (first_some f xs ≡ Some k → (y : X) × In y xs × (f y ≡ Some k)) → cond b (f x) (first_some f xs) ≡ Some k → (y : X) × In y (x ∷ xs) × (f y ≡ Some k)
    go true rest h = (x, inl refl, h)
    go false rest h = let r = rest h in (r.0, inr r.1, r.2)

danger_parts : (a b c d e f g : Bool) → (a && b && c && d && e && f && g) ≡ true → (d ≡ true) × (e ≡ true)
danger_parts a b c d e f g h =
    let x = and_parts (a && b && c && d && e && f) g h in
    let y = and_parts (a && b && c && d && e) f x.0 in
    let z = and_parts (a && b && c && d) e y.0 in
    ((and_parts (a && b && c) d z.0).1, z.1)

module _ {A : Type 0} where
  -- The cause names three transactions of the world, two pairs of which conflict; one that hasn't committed counts as committing now.
  pub record Shows (w : World A) (k : Cause) : Type 0 where
    pub a : Txn A
    pub b : Txn A
    pub c : Txn A
    pub a_in : In a w.txns
    pub b_in : In b w.txns
    pub c_in : In c w.txns
    pub a_is : a.number ≡ k.a.0
    pub b_is : b.number ≡ k.b.0
    pub c_is : c.number ≡ k.c.0
    pub first : edge a (committing_now w b) ≡ true
    pub second : edge b (committing_now w c) ≡ true

  shows-grew : (w v : World A) (k : Cause) → AllGrew w v → Shows w k → Shows v k
  shows-grew w v k g h =
      let x = g.each h.a h.a_in in
      let y = g.each h.b h.b_in in
      let z = g.each h.c h.c_in in
      record {
        a = x.0;
        b = y.0;
        c = z.0;
        a_in = x.1;
        b_in = y.1;
        c_in = z.1;
        a_is = x.2.number ∙ h.a_is;
        b_is = y.2.number ∙ h.b_is;
        c_is = z.2.number ∙ h.c_is;
        first = edge-grew w v g.far h.a x.0 h.b y.0 x.2 y.2 h.first;
        second = edge-grew w v g.far h.b y.0 h.c z.0 y.2 z.2 h.second;
      }

  pub shows-steps : (w v : World A) (k : Cause) → IsGood w → Steps w v → Shows w k → Shows v k
  shows-steps w v k g (One u s) h = shows-grew w v k (grew-step w v g s) h
  shows-steps w v k g (Two u x s r) h = shows-grew u v k (grew-step u v (good_step w u g s) r) (shows-grew w u k (grew-step w u g s) h)

  -- ---- the causes of dooms

  in_fold : (ts : List (Txn A)) (c : Txn A) (cs : List Cause) (us : List (Txn A)) (k : Cause) → In k (fold (with_doom node reads_from ts c) cs us) → In k cs ⊎ (u : Txn A) × In u us × (ds : List Cause) × (doom_of node reads_from ts c ds u ≡ Some k)
  in_fold ts c cs [] k i = inl i
  in_fold ts c cs (u ∷ us) k i = go (in_fold ts c (with_doom node reads_from ts c cs u) us k i)
    where
      last : (o : Option Cause) → In k (option_to_list o) → o ≡ Some k
      last None j = absurd j
      last (Some d) (inl p) = ap Some (sym p)
      last (Some d) (inr j) = absurd j

      go : In k (cs ++ option_to_list (doom_of node reads_from ts c cs u)) ⊎ (v : Txn A) × In v us × (ds : List Cause) × (doom_of node reads_from ts c ds v ≡ Some k)
          → In k cs ⊎ (v : Txn A) × In v (u ∷ us) × (ds : List Cause) × (doom_of node reads_from ts c ds v ≡ Some k)
      go (inr r) = inr (r.0, inr r.1, r.2, r.3)
      go (inl j) = elim (In-append (λ (_ : Cause). (0, 0, 0)) k cs (option_to_list (doom_of node reads_from ts c cs u)) j) [ inl l ↦ inl l | inr l ↦ inr (u, inl refl, cs, last (doom_of node reads_from ts c cs u) l) ]

  -- one that hasn't committed counts as committing now
  edge-uncommitted : (w : World A) (t u : Txn A) → u.commit ≡ 0 → t.snapshot ≤ commits w → not (eqb t.number u.number) ≡ true → reads_from t u ≡ true → edge t (committing_now w u) ≡ true
  edge-uncommitted w t u z l o r = edge-now w t u
      ∙ and_from (not (eqb t.number u.number) && nat_lt t.snapshot (commit_now w u)) (reads_from t u)
      (and_from (not (eqb t.number u.number)) (nat_lt t.snapshot (commit_now w u)) o (ap (λ b. nat_lt t.snapshot (cond b (commits w + 1) u.commit)) (eq-eqb u.commit 0 z) ∙ lt-ltb t.snapshot (commits w + 1) (omega arith))) r

  pub no_number : (w : World A) → IsNumbered w → (t : Txn A) → In t w.txns → is_done t.standing ≡ false → t.commit ≡ 0
  no_number w n t i d = go (n.kind t i)
    where
      go : In t w.log ⊎ (t.commit ≡ 0) × (is_done t.standing ≡ true → is_read_write t.mode ≡ false) → t.commit ≡ 0
      go (inl j) = absurd (true≢false (sym (n.logged t j).1 ∙ d))
      go (inr k) = k.0

  shows-doom : (w : World A) (c : Txn A) (k : Cause) → IsNumbered w → In c w.txns → c.commit ≡ 0 → In k (dooms node reads_from w.txns c) → Shows w k
  shows-doom w c k n ci z i = go (in_fold w.txns c [] w.txns k i)
    where
      from : (u : Txn A) → In u w.txns → (ds : List Cause) → is_live node reads_from c u ≡ true → reads_from u c ≡ true → (o : Option (Txn A)) → find (is_first node reads_from c ds u) w.txns ≡ o → cause_from node reads_from u c o ≡ Some k → Shows w k
      from u ui ds l r None q e = absurd (true≢false (sym (ap is_some e)))
      from u ui ds l r (Some a) q e =
          let p = find-In (is_first node reads_from c ds u) w.txns a q in
          let live = and_parts (is_other node reads_from u c) (is_open u.standing) (and_parts (is_other node reads_from u c && is_open u.standing) (is_read_write u.mode) l).0 in
          let may : Bool = not (is_other node reads_from a c) || is_live node reads_from c a && not (is_doomed node reads_from ds a) in
          let firsts = and_parts (is_other node reads_from a u && may) (reads_from a u) p.1 in
          let is : structure (node a) (node u) (node c) ≡ k = some-same (structure (node a) (node u) (node c)) k e in
          record {
            a = a;
            b = u;
            c = c;
            a_in = p.0;
            b_in = ui;
            c_in = ci;
            a_is = ap (λ (d : Cause). d.a.0) is;
            b_is = ap (λ (d : Cause). d.b.0) is;
            c_is = ap (λ (d : Cause). d.c.0) is;
            first = edge-uncommitted w a u (no_number w n u ui (open_not_done u.standing live.1)) (n.shown a p.0).1 (and_parts (is_other node reads_from a u) may firsts.0).0 firsts.1;
            second = edge-uncommitted w u c z (n.shown u ui).1 live.0 r;
          }

      doomed : (u : Txn A) → In u w.txns → (ds : List Cause) → (b : Bool) → (is_live node reads_from c u && reads_from u c) ≡ b → cond b (cause_from node reads_from u c (find (is_first node reads_from c ds u) w.txns)) None ≡ Some k → Shows w k
      doomed u ui ds true q e = let p = and_parts (is_live node reads_from c u) (reads_from u c) q in from u ui ds p.0 p.1 (find (is_first node reads_from c ds u) w.txns) refl e
      doomed u ui ds false q e = absurd (true≢false (sym (ap is_some e)))

      go : In k [] ⊎ (u : Txn A) × In u w.txns × (ds : List Cause) × (doom_of node reads_from w.txns c ds u ≡ Some k) → Shows w k
      go (inl j) = absurd j
      go (inr r) = doomed r.0 r.1 r.2 (is_live node reads_from c r.0 && reads_from r.0 c) refl r.3

  -- ---- each doomed transaction

  pub record DoomsShown (w : World A) : Type 0 where
    pub each : (t : Txn A) → In t w.txns → (k : Cause) → t.standing ≡ Doomed k → Shows w k

  moved_standing : (w : World A) (t x : Txn A) (log : List (Txn A)) (exports : List Exported_snapshot) (k : Cause) → Move w t x log exports → x.standing ≡ Doomed k → t.standing ≡ Doomed k
  moved_standing w t x log exports k Stays e = e
  moved_standing w t x log exports k Fails e = absurd (not_doomed Failed k refl e)
  moved_standing w t x log exports k Aborts e = absurd (not_doomed Aborted k refl e)
  moved_standing w t x log exports k (Commits c) e = absurd (not_doomed Done k refl (sym (go (is_read_write t.mode)) ∙ e))
    where
      go : (b : Bool) → (cond b (record (ended w Done t) { commit = commits w + 1 }) (ended w Done t)).standing ≡ Done
      go true = refl
      go false = refl
  moved_standing w t x log exports k (Runs q fits a b d) e = e
  moved_standing w t x log exports k (Asks a) e = e
  moved_standing w t x log exports k (Polls d n) e = polled_keeps (λ y. y.standing ≡ Doomed k → t.standing ≡ Doomed k) w t (λ h. h) (λ h. h) e
  moved_standing w t x log exports k (Learns d n f) e = polled_keeps (λ y. y.standing ≡ Doomed k → t.standing ≡ Doomed k) w t (λ h. h) (λ h. h) e
  moved_standing w t x log exports k (Imports i y r l f) e = e

  told_standing : (a : Action A) (st : Standing) (k : Cause) → told a st ≡ Doomed k → st ≡ Doomed k
  told_standing (Begin m) st k e = e
  told_standing Prune st k e = e
  told_standing Commit st k e = absurd (not_doomed Aborted k refl e)
  told_standing Rollback st k e = absurd (not_doomed Aborted k refl e)
  told_standing _ st k e = absurd (not_doomed Failed k refl e)

  settled_standing : (a : Action A) (st : Standing) (k : Cause) → settled a st ≡ Doomed k → st ≡ Doomed k
  settled_standing Commit st k e = absurd (not_doomed Aborted k refl e)
  settled_standing Rollback st k e = absurd (not_doomed Aborted k refl e)
  settled_standing _ st k e = e

  turned_standing : (w : World A) (a : Action A) (t : Txn A) (k : Cause) → Allowed w.catalog a → (st : Standing) → (turned_from st w a (reply_from st w t a) t).standing ≡ Doomed k → t.standing ≡ Doomed k
  turned_standing w a t k f Open e = moved_standing w t (moved w a (open_reply w t a) t) (log_after w a (open_reply w t a) t) (exports_after w a (open_reply w t a) t) k (open_move w t a f) e
  turned_standing w a t k f (Doomed c) e = told_standing a t.standing k e
  turned_standing w a t k f Failed e = settled_standing a t.standing k e
  turned_standing w a t k f Aborted e = e
  turned_standing w a t k f Done e = e

  doomed_standing : (place : ℕ) (cs : List Cause) (y : Txn A) (k : Cause) → (doomed_by place cs y).standing ≡ Doomed k → (y.standing ≡ Doomed k) ⊎ In k cs
  doomed_standing place cs y k e = go (is_open y.standing) (find (λ c. eqb c.b.0 y.number) cs) refl e
    where
      chosen : (o : Option Cause) → find (λ c. eqb c.b.0 y.number) cs ≡ o → (doomed_with place o y).standing ≡ Doomed k → (y.standing ≡ Doomed k) ⊎ In k cs
      chosen None q p = inl p
      chosen (Some c) q p = inr (subst (λ d. In d cs) (same c p) (find-In (λ d. eqb d.b.0 y.number) cs c q).0)
        where
          cause_in : Cause → Standing → Cause
          cause_in d (Doomed x) = x
          cause_in d _ = d

          same : (c : Cause) → Doomed c ≡ Doomed k → c ≡ k
          same d h = ap (cause_in d) h

      go : (b : Bool) (o : Option Cause) → find (λ c. eqb c.b.0 y.number) cs ≡ o → (doomed_with place (cond b o None) y).standing ≡ Doomed k → (y.standing ≡ Doomed k) ⊎ In k cs
      go true o q p = chosen o q p
      go false o q p = inl p

  -- where one is doomed after an event, its cause was shown before
  before : (w : World A) (s : ℕ) (a : Action A) → IsNumbered w → DoomsShown w → Allowed w.catalog a → (o : Option (Txn A)) → current w s ≡ o → (t : Txn A)
      → In t (followed w (record { session = s; action = a; reply = reply_of w o a }) o).txns → (k : Cause) → t.standing ≡ Doomed k → Shows w k
  before w s a n d f None c t i k e = go a i
    where
      go : (b : Action A) → In t (without_transaction w s b (idle b)).txns → Shows w k
      go (Begin m) j = elim (In-append (λ (_ : Txn A). (0, 0, 0)) t w.txns (begun w s m ∷ []) j) [ inl l ↦ d.each t l k e | inr l ↦ elim l [ inl p ↦ absurd (true≢false (ap is_open (sym (ap (λ (y : Txn A). y.standing) p) ∙ e))) | inr z ↦ absurd z ] ]
      go _ j = d.each t j k e
  before w s a n d f (Some u) c t i k e = go (In-made (w.place + 1) (causes w a r u) t (replaced (turned w a r u) w.txns) i)
    where
      r : Reply A
      r = reply_of w (Some u) a

      committer : u.commit ≡ 0
      committer = no_number w n u (current_in w s u c).0 (owed_not_done u.standing (second_so (eqb u.session s) (is_owed u.standing) (current_in w s u c).1))

      caused_now : (b : Action A) (q : Reply A) → In k (causes w b q u) → Shows w k
      caused_now Commit Committed j = either (is_read_write u.mode) j
        where
          either : (x : Bool) → In k (cond x (dooms node reads_from w.txns u) []) → Shows w k
          either true l = shows-doom w u k n (current_in w s u c).0 committer l
          either false l = absurd l
      caused_now _ _ j = absurd j

      stood : (y : Txn A) → (y ≡ turned w a r u) ⊎ In y w.txns × (eqb y.number (turned w a r u).number ≡ false) → y.standing ≡ Doomed k → Shows w k
      stood y (inl p) h = d.each u (current_in w s u c).0 k (turned_standing w a u k f u.standing (sym (ap (λ (z : Txn A). z.standing) p) ∙ h))
      stood y (inr j) h = d.each y j.0 k h

      go : (y : Txn A) × In y (replaced (turned w a r u) w.txns) × (t ≡ doomed_by (w.place + 1) (causes w a r u) y) → Shows w k
      go m = elim (doomed_standing (w.place + 1) (causes w a r u) m.0 k (sym (ap (λ (z : Txn A). z.standing) m.2) ∙ e)) [ inl h ↦ stood m.0 (In-replaced m.0 (turned w a r u) w.txns m.1) h | inr j ↦ caused_now a r j ]

  dooms-event : (w : World A) (s : ℕ) (a : Action A) → IsGood w → DoomsShown w → Allowed w.catalog a → DoomsShown (follows w (record { session = s; action = a; reply = reply_in w s a }))
  dooms-event w s a g d f = record { each = λ t i k e. shows-steps w (follows w (record { session = s; action = a; reply = reply_in w s a })) k g (legal_steps w s a f) (before w s a g.numbered d f (current w s) refl t i k e) }

  dooms-run : (w : World A) (es : List (Record A)) → IsGood w → DoomsShown w → IsAnswered w es → DoomsShown (run w es)
  dooms-run w [] g d l = d
  dooms-run w (e ∷ es) g d l = dooms-run (follows w e) es next.0 next.1 l.2
    where
      now : World A
      now = follows w (record { session = e.session; action = e.action; reply = reply_in w e.session e.action })

      next : IsGood (follows w e) × DoomsShown (follows w e)
      next = subst (λ r. IsGood (follows w (record { session = e.session; action = e.action; reply = r })) × DoomsShown (follows w (record { session = e.session; action = e.action; reply = r }))) (sym l.1)
          (good_steps w now g (legal_steps w e.session e.action l.0), dooms-event w e.session e.action g d l.0)

  pub dooms-shown : (o : Opening A) (es : List (Record A)) → Legal o es → DoomsShown (world_of o es)
  unfolding Legal
  dooms-shown o es l = dooms-run (start o) es (good_start o (sound_proper o.catalog o.tables l.0)) (record { each = λ t i k e. absurd i }) l.1

  -- ---- the cause of a refused COMMIT

  earliest-in : (xs : List (Txn A)) (c : Txn A) → earliest node edge xs ≡ Some c → In c xs
  earliest-in [] c e = absurd (true≢false (sym (ap is_some e)))
  earliest-in (x ∷ xs) c e = go (earliest node edge xs) (earliest-in xs) (some-same (earlier node edge x (earliest node edge xs)) c e)
    where
      go : (o : Option (Txn A)) → ((d : Txn A) → o ≡ Some d → In d xs) → earlier node edge x o ≡ c → (c ≡ x) ⊎ In c xs
      go None rest h = inl (sym h)
      go (Some y) rest h = either (nat_lt y.commit x.commit) h
        where
          either : (b : Bool) → cond b y x ≡ c → (c ≡ x) ⊎ In c xs
          either true p = inr (rest c (ap Some p))
          either false p = inl (sym p)

  -- a transaction, and what it was before the COMMIT
  record Was (w : World A) (z y : Txn A) : Type 0 where
    is_in : In y w.txns
    number : y.number ≡ z.number
    snapshot : y.snapshot ≡ z.snapshot
    reads : y.reads ≡ z.reads
    changes : y.changes ≡ z.changes
    marks : y.marks ≡ z.marks
    commit : (n : ℕ) → n < z.commit → commit_now w y ≡ z.commit

  was : (w : World A) (t : Txn A) → In t w.txns → t.commit ≡ 0 → (z : Txn A) → In z (committing w t) → (y : Txn A) × Was w z y
  was w t ti tz z i = go (In-replaced z (numbered w t) w.txns i)
    where
      itself : In z w.txns → Was w z z
      itself j = record { is_in = j; number = refl; snapshot = refl; reads = refl; changes = refl; marks = refl; commit = λ n l. other (eqb z.commit 0) refl (λ p. omega (arith, l, p)) }
        where
          other : (b : Bool) → eqb z.commit 0 ≡ b → (z.commit ≡ 0 → ⊥) → cond b (commits w + 1) z.commit ≡ z.commit
          other true p h = absurd (h (eqb-true z.commit 0 p))
          other false p h = refl

      committer : (b : Bool) → Was w (cond b (record (ended w Done t) { commit = commits w + 1 }) (ended w Done t)) t
      committer true = record { is_in = ti; number = refl; snapshot = refl; reads = refl; changes = refl; marks = refl; commit = λ n l. ap (λ b. cond b (commits w + 1) t.commit) (eq-eqb t.commit 0 tz) }
      committer false = record { is_in = ti; number = refl; snapshot = refl; reads = refl; changes = refl; marks = refl; commit = λ n l. absurd (omega (arith, l, tz)) }

      go : (z ≡ numbered w t) ⊎ In z w.txns × (eqb z.number (numbered w t).number ≡ false) → (y : Txn A) × Was w z y
      go (inl p) = (t, subst (λ (x : Txn A). Was w x t) (sym p) (committer (is_read_write t.mode)))
      go (inr j) = (z, itself j.0)

  edge-was : (w : World A) (x y x' y' : Txn A) → Was w x x' → Was w y y' → edge x y ≡ true → edge x' (committing_now w y') ≡ true
  edge-was w x y x' y' a b e =
      let p = and_parts (not (eqb x.number y.number) && nat_lt x.snapshot y.commit) (reads_from x y) e in
      let q = and_parts (not (eqb x.number y.number)) (nat_lt x.snapshot y.commit) p.0 in
      edge-now w x' y'
      ∙ and_from (not (eqb x'.number y'.number) && nat_lt x'.snapshot (commit_now w y')) (reads_from x' y')
      (and_from (not (eqb x'.number y'.number)) (nat_lt x'.snapshot (commit_now w y')) (ap (λ n. not (eqb n y'.number)) a.number ∙ ap (λ n. not (eqb x.number n)) b.number ∙ q.0)
      (ap (λ n. nat_lt n (commit_now w y')) a.snapshot ∙ ap (nat_lt x.snapshot) (b.commit x.snapshot (ltb-true x.snapshot y.commit q.1)) ∙ q.1))
      (ap (λ rs. reads_from (record x' { reads = rs }) y') a.reads ∙ ap (λ xs. reads_from x (record y' { changes = xs })) b.changes ∙ ap (λ ms. reads_from x (record y { marks = ms })) b.marks ∙ p.1)

  pub shows-commit : (w : World A) (t : Txn A) (k : Cause) → In t w.txns → t.commit ≡ 0 → cause_of w t ≡ Some k → Shows w k
  shows-commit w t k ti tz e =
      let ts = committing w t in
      let f = first_found (λ a. first_some (λ b. caused node edge a b (earliest node edge (filter (is_dangerous node edge a b) ts))) ts) ts k e in
      let g = first_found (λ b. caused node edge f.0 b (earliest node edge (filter (is_dangerous node edge f.0 b) ts))) ts k f.2 in
      made f.0 g.0 f.1 g.1 (earliest node edge (filter (is_dangerous node edge f.0 g.0) ts)) refl g.2
    where
      made : (a b : Txn A) → In a (committing w t) → In b (committing w t) → (o : Option (Txn A)) → earliest node edge (filter (is_dangerous node edge a b) (committing w t)) ≡ o → caused node edge a b o ≡ Some k → Shows w k
      made a b i j None q h = absurd (true≢false (sym (ap is_some h)))
      made a b i j (Some c) q h =
          let m = In-filter (is_dangerous node edge a b) (committing w t) c (earliest-in (filter (is_dangerous node edge a b) (committing w t)) c q) in
          let is : structure (node a) (node b) (node c) ≡ k = some-same (structure (node a) (node b) (node c)) k h in
          let x = was w t ti tz a i in
          let y = was w t ti tz b j in
          let z = was w t ti tz c m.0 in
          let edges = danger_parts (is_done a.standing) (is_done b.standing) (is_done c.standing) (edge a b) (edge b c) (nat_lt c.commit b.commit) (nat_le c.commit (bound node edge a)) m.1 in
          record {
            a = x.0;
            b = y.0;
            c = z.0;
            a_in = x.1.is_in;
            b_in = y.1.is_in;
            c_in = z.1.is_in;
            a_is = x.1.number ∙ ap (λ (d : Cause). d.a.0) is;
            b_is = y.1.number ∙ ap (λ (d : Cause). d.b.0) is;
            c_is = z.1.number ∙ ap (λ (d : Cause). d.c.0) is;
            first = edge-was w a b x.0 y.0 x.1 y.1 edges.0;
            second = edge-was w b c y.0 z.0 y.1 z.1 edges.1;
          }
