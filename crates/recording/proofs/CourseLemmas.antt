-- What is read of a history's events stays what a client records of its transactions.
use Rattle.std.proofs.Common.{◌≡◌, ◌⊎◌, inl, inr, ℕ, zero, suc, ◌+◌, ◌<◌, ◌≤◌, Bool, true, false, true≢false, cond, not, ◌||◌, eqb, eq-eqb, nat_le, List, [], ◌∷◌, ◌++◌, length, length-set, map, set, Option, Some, None, IfSome, refl, sym, ap, subst, ◌∙◌, arith}
use Rattle.std.specs.Prelude.{slice_get}
use Rattle.std.specs.List.{find}
use Rattle.std.proofs.lemmas.Bool.{and_from, and_parts, eqb-true, le-leb, leb-true}
use Rattle.std.proofs.lemmas.List.{append-nil, map-append}
use Rattle.value.specs.declared.refusal.Mode.{Mode}
use Rattle.value.proofs.Basics.{find-In}
use Rattle.value.proofs.IsolationLemmas.{In}
use Rattle.value.proofs.SortLemmas.{In-sorted}
use Rattle.statement.specs.declared.reply.Reply.{Reply}
use Rattle.statement.specs.declared.reply.Reply.TheVariants as reply
use Rattle.statement.specs.declared.statement.Statement.{Statement}
use Rattle.schema.specs.Definition.{Catalog}
use Rattle.history.specs.Answer.{Allowed, Legal, is_refused, reply_from, reply_in, reply_of}
use Rattle.history.specs.Events.{causes, follows, followed, numbered, replaced, start, turned_from, without_transaction, world_of}
use Rattle.history.specs.Opening.{Opening}
use Rattle.history.specs.Serial.{Stays, committed, in_commit_order}
use Rattle.history.specs.Transactions.{Aborted, Done, Doomed, Failed, Open, Standing, Txn, World, current, is_done, is_open, is_owed}
use Rattle.history.specs.declared.event.Action.{Action}
use Rattle.history.specs.declared.event.Action.TheVariants as action
use Rattle.history.specs.declared.event.Record.{Record}
use Rattle.serial.proofs.legal.Later.{legal_begins, legal_rest, legal_stays, run-append}
use Rattle.serial.proofs.legal.Numbers.{replaced-new}
use Rattle.serial.proofs.order.SerialTheorem.{IsGood, good_world}
use Rattle.serial.proofs.structures.Dooms.{done-In}
use Rattle.orders.specs.Explains.{Trace}
use Rattle.recording.specs.Traces.{AreToldOf, IsToldBy}
use Rattle.transcript.specs.Reading.{trace_of}
use Rattle.transcript.specs.Recorded.{Recorded}
use Rattle.transcript.specs.Sessions.{most_sessions, nothing_but}
use Rattle.recording.proofs.CommitLemmas.{by_end, is_at, members, pushed}
use Rattle.recording.proofs.MoveLemmas.{AreSingle, CommitsNow, Fresh as Begins, IsNumbered, Other, Own, Source, done_source, none_found, numbered_is, owed_of, single_follows, source}
use Rattle.recording.proofs.Names.{Ended, Session}
use Rattle.recording.proofs.TurnLemmas.{Fresh, Kept, Older, Turn, begins_by, commits_by, grown, imports}

or_more : (b c d : Bool) → (b ≡ true → c ≡ true) → (b || d) ≡ true → (c || d) ≡ true
or_more true c d f h = ap (λ x. x || d) (f refl)
or_more false true d f h = refl
or_more false false d f h = h

-- an element of a list in which one was set
pub get_after : {X : Type 0} (xs : List X) (i j : ℕ) (y z : X) → slice_get (set xs i y) j ≡ Some z → ((j ≡ i) × (z ≡ y)) ⊎ ((slice_get xs j ≡ Some z) × (j ≡ i → ⊥))
get_after [] i j y z e = absurd cc
get_after (x ∷ xs) zero zero y z e = inl (refl, let same : y ≡ z = cc in sym same)
get_after (x ∷ xs) zero (suc j) y z e = inr (e, λ p. absurd (omega (arith, p)))
get_after (x ∷ xs) (suc i) zero y z e = inr (e, λ p. absurd (omega (arith, p)))
get_after (x ∷ xs) (suc i) (suc j) y z e = go (get_after xs i j y z e)
  where
    go : ((j ≡ i) × (z ≡ y)) ⊎ ((slice_get xs j ≡ Some z) × (j ≡ i → ⊥)) → ((suc j ≡ suc i) × (z ≡ y)) ⊎ ((slice_get xs j ≡ Some z) × (suc j ≡ suc i → ⊥))
    go (inl p) = inl (ap suc p.0, p.1)
    go (inr p) = inr (p.0, λ q. p.1 (omega (arith, q)))

-- ---- clocks

-- after the events up to this place it is m
abbrev pub later : (ℕ → ℕ) → ℕ → ℕ → ℕ → ℕ
later clock place m p = cond (nat_le p place) (clock p) m

later_before : (clock : ℕ → ℕ) (place m p : ℕ) → p ≤ place → later clock place m p ≡ clock p
later_before clock place m p l = ap (λ b. cond b (clock p) m) (le-leb p place l)

later_steady : (clock : ℕ → ℕ) (place m : ℕ) → ((p q : ℕ) → p ≤ q → clock p ≤ clock q) → ((p : ℕ) → clock p ≤ m) → (p q : ℕ) → p ≤ q → later clock place m p ≤ later clock place m q
later_steady clock place m steady below p q l = go (nat_le p place) (nat_le q place) refl refl
  where
    go : (b c : Bool) → nat_le p place ≡ b → nat_le q place ≡ c → cond b (clock p) m ≤ cond c (clock q) m
    go true true e f = steady p q l
    go true false e f = below p
    go false false e f = omega arith
    go false true e f = let h : q ≤ place = leb-true q place f in absurd (true≢false (sym (le-leb p place (omega (arith, h, l))) ∙ e))

later_below : (clock : ℕ → ℕ) (place m n : ℕ) → ((p : ℕ) → clock p < n) → m < n → (p : ℕ) → later clock place m p < n
later_below clock place m n below l p = go (nat_le p place)
  where
    go : (b : Bool) → cond b (clock p) m < n
    go true = below p
    go false = l

module _ {A : Type 0} where
  -- ---- one more event of a legal history

  pub record Next (w v : World A) (e : Record A) : Type 0 where
    pub is : v ≡ follows w e
    pub good : IsGood w
    pub good_then : IsGood v
    pub stays : Stays w v
    pub place : v.place ≡ w.place + 1
    pub allowed : Allowed w.catalog e.action
    pub answered : e.reply ≡ reply_in w e.session e.action

  without_place : (w : World A) (s : ℕ) (a : Action A) (r : Reply A) → (without_transaction w s a r).place ≡ w.place + 1
  without_place w s (action.Begin m) reply.Begun = refl
  without_place w s _ _ = refl

  followed_place : (w : World A) (e : Record A) (o : Option (Txn A)) → (followed w e o).place ≡ w.place + 1
  followed_place w e None = without_place w e.session e.action e.reply
  followed_place w e (Some t) = refl

  pub next_of : (o : Opening A) (es : List (Record A)) (e : Record A) → Legal o (es ++ e ∷ []) → Next (world_of o es) (world_of o (es ++ e ∷ [])) e
  next_of o es e l = record {
    is = run-append (start o) es (e ∷ []);
    good = good_world o es (legal_begins o es (e ∷ []) l);
    good_then = good_world o (es ++ e ∷ []) l;
    stays = legal_stays o es (e ∷ []) l;
    place = ap (λ (u : World A). u.place) (run-append (start o) es (e ∷ [])) ∙ followed_place (world_of o es) e (current (world_of o es) e.session);
    allowed = (legal_rest o es (e ∷ []) l).0;
    answered = (legal_rest o es (e ∷ []) l).1;
  }

  -- a BEGIN is refused in a transaction
  pub begins_idle : (w : World A) (t : Txn A) (m : Mode) (st : Standing) → is_owed st ≡ true → reply_from st w t (action.Begin m) ≡ reply.Begun → ⊥
  begins_idle w t m Open h e = true≢false (ap is_refused e)
  begins_idle w t m (Doomed c) h e = true≢false (ap is_refused e)
  begins_idle w t m Failed h e = true≢false (ap is_refused e)
  begins_idle w t m Aborted h e = true≢false (sym h)
  begins_idle w t m Done h e = true≢false (sym h)

  -- a COMMIT succeeds of an open transaction alone
  abbrev is_commit : Reply A → Bool
  is_commit reply.Committed = true
  is_commit _ = false

  commits_open : (w : World A) (t : Txn A) (st : Standing) → reply_from st w t action.Commit ≡ reply.Committed → is_open st ≡ true
  commits_open w t Open e = refl
  commits_open w t (Doomed c) e = absurd (true≢false (sym (ap is_commit e)))
  commits_open w t Failed e = absurd (true≢false (sym (ap is_commit e)))
  commits_open w t Aborted e = absurd (true≢false (sym (ap is_commit e)))
  commits_open w t Done e = absurd (true≢false (sym (ap is_commit e)))

  committer : (w : World A) (s : ℕ) (o : Option (Txn A)) → current w s ≡ o → reply_of w o action.Commit ≡ reply.Committed → (t : Txn A) × (current w s ≡ Some t) × (is_open t.standing ≡ true)
  committer w s None c e = absurd (true≢false (sym (ap is_commit e)))
  committer w s (Some t) c e = (t, c, commits_open w t t.standing e)

  -- ---- the transactions that have committed, in the order of their commits

  ended_at : (w v : World A) (e : Record A) → Next w v e → (u : Txn A) → In u v.txns → is_at v.place u ≡ true → CommitsNow w e u
  ended_at w v e n u i h = go (done_source w e (current w e.session) refl u (subst (λ (x : World A). In u x.txns) n.is i) p.0)
    where
      p : (is_done u.standing ≡ true) × (eqb u.end v.place ≡ true)
      p = and_parts (is_done u.standing) (eqb u.end v.place) h

      go : In u w.txns ⊎ CommitsNow w e u → CommitsNow w e u
      go (inl j) = let l = n.good.time.ended_by u j in let q = eqb-true u.end v.place p.1 in let k = n.place in absurd (omega (arith, l, q, k))
      go (inr c) = c

  order_stays : (w v : World A) (e : Record A) → Next w v e → commits_by e.action e.reply ≡ false → in_commit_order v ≡ in_commit_order w
  order_stays w v e n none = go (find (is_at v.place) v.txns) refl
    where
      go : (o : Option (Txn A)) → find (is_at v.place) v.txns ≡ o → in_commit_order v ≡ in_commit_order w
      go None f = pushed w v n.good n.good_then n.stays n.place None f ∙ append-nil (in_commit_order w)
      go (Some u) f = let q = find-In (is_at v.place) v.txns u f in let c = ended_at w v e n u q.0 q.1 in absurd (true≢false (sym c.2 ∙ none))

  committed_in : (w : World A) (e : Record A) (t : Txn A) → current w e.session ≡ Some t → is_open t.standing ≡ true → e.action ≡ action.Commit → e.reply ≡ reply.Committed → In (numbered w t) (followed w e (Some t)).txns
  committed_in w e t c o a r =
      let is = numbered_is w t in
      let x : turned_from t.standing w e.action e.reply t ≡ numbered w t = turned t.standing refl in
      done-In (w.place + 1) (causes w e.action e.reply t) (numbered w t) (replaced (turned_from t.standing w e.action e.reply t) w.txns) (ap is_done is.done)
      (subst (λ (y : Txn A). In y (replaced (turned_from t.standing w e.action e.reply t) w.txns)) x
      (replaced-new t (turned_from t.standing w e.action e.reply t) w.txns (owed_of w e.session t c).0 (sym (ap (λ (y : Txn A). y.number) x ∙ is.number))))
    where
      turned : (st : Standing) → t.standing ≡ st → turned_from st w e.action e.reply t ≡ numbered w t
      turned Open p = ap (λ b. turned_from Open w b e.reply t) a ∙ ap (λ y. turned_from Open w action.Commit y t) r
      turned (Doomed k) p = absurd (true≢false (sym o ∙ ap is_open p))
      turned Failed p = absurd (true≢false (sym o ∙ ap is_open p))
      turned Aborted p = absurd (true≢false (sym o ∙ ap is_open p))
      turned Done p = absurd (true≢false (sym o ∙ ap is_open p))

  order_grows : (w v : World A) (e : Record A) → Next w v e → (t : Txn A) → current w e.session ≡ Some t → is_open t.standing ≡ true → e.action ≡ action.Commit → e.reply ≡ reply.Committed
      → in_commit_order v ≡ in_commit_order w ++ numbered w t ∷ []
  order_grows w v e n t c o a r = go (find (is_at v.place) v.txns) refl
    where
      is : IsNumbered w t (numbered w t)
      is = numbered_is w t

      there : In (numbered w t) v.txns
      there = subst (λ (x : World A). In (numbered w t) x.txns) (sym (n.is ∙ ap (followed w e) c)) (committed_in w e t c o a r)

      now : is_at v.place (numbered w t) ≡ true
      now = and_from (is_done (numbered w t).standing) (eqb (numbered w t).end v.place) (ap is_done is.done) (eq-eqb (numbered w t).end v.place (is.end ∙ sym n.place))

      go : (x : Option (Txn A)) → find (is_at v.place) v.txns ≡ x → in_commit_order v ≡ in_commit_order w ++ numbered w t ∷ []
      go None f = absurd (none_found (is_at v.place) v.txns f (numbered w t) there now)
      go (Some u) f =
          let q = find-In (is_at v.place) v.txns u f in
          let k = ended_at w v e n u q.0 q.1 in
          let alike : Some k.0 ≡ Some t = sym k.1 ∙ c in
          let same : k.0 ≡ t = cc in
          pushed w v n.good n.good_then n.stays n.place (Some u) f ∙ ap (λ (y : Txn A). in_commit_order w ++ y ∷ []) (k.3 ∙ ap (numbered w) same)

  -- ---- what is told by a clock

  -- what is recorded of committed transactions alone
  abbrev pub AreToldBy : (ℕ → ℕ) → List (Txn A) → List (Trace A) → Type 0
  AreToldBy clock [] [] = Unit {0}
  AreToldBy clock (t ∷ ts) (r ∷ rs) = IsToldBy clock t r × AreToldBy clock ts rs
  AreToldBy clock _ _ = ⊥

  -- it is so with others beside, of which there are none
  pub told_of : (c : Catalog) (clock : ℕ → ℕ) (ts : List (Txn A)) (rs : List (Trace A)) → AreToldBy clock ts rs → AreToldOf c clock (map Some ts) rs
  told_of c clock [] [] a = tt
  told_of c clock [] (r ∷ rs) a = absurd a
  told_of c clock (t ∷ ts) [] a = absurd a
  told_of c clock (t ∷ ts) (r ∷ rs) a = (a.0, told_of c clock ts rs a.1)

  told_later : (clock : ℕ → ℕ) (place m : ℕ) (ts : List (Txn A)) (rs : List (Trace A)) → ((t : Txn A) → In t ts → (t.begin ≤ place) × (t.end ≤ place)) → AreToldBy clock ts rs → AreToldBy (later clock place m) ts rs
  told_later clock place m [] [] h a = tt
  told_later clock place m [] (r ∷ rs) h a = absurd a
  told_later clock place m (t ∷ ts) [] h a = absurd a
  told_later clock place m (t ∷ ts) (r ∷ rs) h a = (told a.0, told_later clock place m ts rs (λ u i. h u (inr i)) a.1)
    where
      ends : (o : Option ℕ) → IfSome o (λ e. clock t.end ≤ e) → IfSome o (λ e. later clock place m t.end ≤ e)
      ends None k = k
      ends (Some e) k = subst (λ x. x ≤ e) (sym (later_before clock place m t.end (h t (inl refl)).1)) k

      told : IsToldBy clock t r → IsToldBy (later clock place m) t r
      told k = record { begin = subst (λ x. r.begin ≤ x) (sym (later_before clock place m t.begin (h t (inl refl)).0)) k.begin; end = ends r.end k.end; imported = k.imported; statements = k.statements }

  told_push : (clock : ℕ → ℕ) (ts : List (Txn A)) (rs : List (Trace A)) (t : Txn A) (r : Trace A) → AreToldBy clock ts rs → IsToldBy clock t r → AreToldBy clock (ts ++ t ∷ []) (rs ++ r ∷ [])
  told_push clock [] [] t r a h = (h, tt)
  told_push clock [] (x ∷ rs) t r a h = absurd a
  told_push clock (u ∷ ts) [] t r a h = absurd a
  told_push clock (u ∷ ts) (x ∷ rs) t r a h = (a.0, told_push clock ts rs t r a.1 h)

  in_time : (w : World A) → IsGood w → (t : Txn A) → In t (in_commit_order w) → (t.begin ≤ w.place) × (t.end ≤ w.place)
  in_time w g t i = let m = members w t (In-sorted by_end t (committed w) i) in (g.time.begun_by t m.0, g.time.ended_by t m.0)

  -- ---- what is read stays true

  -- What is recorded of an open transaction is what it has done, by a clock.
  pub record IsDrafted (clock : ℕ → ℕ) (d : Recorded A) (t : Txn A) : Type 0 where
    pub begin : d.begin ≤ clock t.begin
    pub statements : d.statements ≡ t.statements
    pub imported : t.imported ≡ true → d.imported ≡ true

  -- The sessions are as the world has them. Before line n the clock was at less than n.
  pub record Agree (w : World A) (ss : List (Session A)) (clock : ℕ → ℕ) (n : ℕ) : Type 0 where
    pub idle : (i : ℕ) (x : Session A) → slice_get ss i ≡ Some x → x.pending ≡ None
    pub drafted : (i : ℕ) (x : Session A) (d : Recorded A) (t : Txn A) → slice_get ss i ≡ Some x → x.draft ≡ Some d → In t w.txns → t.session ≡ suc i → is_open t.standing ≡ true → IsDrafted clock d t
    pub single : AreSingle w.txns
    pub steady : (p q : ℕ) → p ≤ q → clock p ≤ clock q
    pub below : (p : ℕ) → clock p < n
    pub many : length ss ≡ most_sessions

  drafted_later : (clock : ℕ → ℕ) (place m : ℕ) (d : Recorded A) (t : Txn A) → t.begin ≤ place → IsDrafted clock d t → IsDrafted (later clock place m) d t
  drafted_later clock place m d t l h = record { begin = subst (λ x. d.begin ≤ x) (sym (later_before clock place m t.begin l)) h.begin; statements = h.statements; imported = h.imported }

  -- ---- after an event

  module _ (w v : World A) (e : Record A) (next : Next w v e) (ss : List (Session A)) (clock : ℕ → ℕ) (n m i : ℕ) (x y : Session A) (agree : Agree w ss clock n) (number : e.session ≡ suc i) (there : slice_get ss i ≡ Some x)
      (turn : Turn n e.session e.action e.reply x y) (on : n + 1 < m) where
    abbrev tick : ℕ → ℕ
    tick = later clock w.place (n + 1)

    clock_below : (p : ℕ) → clock p ≤ n + 1
    clock_below p = let l = agree.below p in omega (arith, l)

    idle_then : (j : ℕ) (z : Session A) → slice_get (set ss i y) j ≡ Some z → z.pending ≡ None
    idle_then j z h = go (get_after ss i j y z h)
      where
        go : ((j ≡ i) × (z ≡ y)) ⊎ ((slice_get ss j ≡ Some z) × (j ≡ i → ⊥)) → z.pending ≡ None
        go (inl p) = ap (λ (u : Session A). u.pending) p.1 ∙ turn.idle
        go (inr p) = agree.idle j z p.0

    -- of the session's own transaction
    own_drafted : (d : Recorded A) (t : Txn A) → y.draft ≡ Some d → Source w e.session e.action e.reply t → t.session ≡ e.session → IsDrafted tick d t
    own_drafted d t f (Other k apart) s = absurd (apart s)
    own_drafted d t f (Begins k a r p) s = by_kept (turn.drafts d f)
      where
        begun_now : d ≡ nothing_but e.session n → IsDrafted tick d t
        begun_now q = subst (λ (z : Recorded A). IsDrafted tick z t) (sym q) (subst (λ (z : Txn A). IsDrafted tick (nothing_but e.session n) z) (sym p)
            (record { begin = now (nat_le (w.place + 1) w.place) refl; statements = refl; imported = λ h. absurd (true≢false (sym h)) }))
          where
            now : (b : Bool) → nat_le (w.place + 1) w.place ≡ b → n ≤ cond b (clock (w.place + 1)) (n + 1)
            now true h = let l = leb-true (w.place + 1) w.place h in absurd (omega (arith, l))
            now false h = omega arith

        by_kept : Kept n e.session e.action e.reply x.draft d → IsDrafted tick d t
        by_kept (Fresh k2 a2 r2 q) = begun_now q
        by_kept (Older p2 b other close c g h) = absurd (true≢false (sym (sym other ∙ ap (λ b2. begins_by b2 e.reply) a ∙ ap (begins_by (action.Begin k)) r)))
    own_drafted d t f (Own u c j us ts still) s = by_kept (turn.drafts d f)
      where
        by_kept : Kept n e.session e.action e.reply x.draft d → IsDrafted tick d t
        by_kept (Fresh k a r q) =
            absurd (begins_idle w u k u.standing (owed_of w e.session u c).2
            (ap (reply_of w (Some u)) (sym a) ∙ sym (ap (λ o. reply_of w o e.action) c) ∙ sym next.answered ∙ r))
        by_kept (Older p b other close q g h) =
            let old = agree.drafted i x p u there b j (us ∙ number) still.was in
            let l : p.begin ≤ clock u.begin = old.begin in
            let k : tick u.begin ≡ clock u.begin = later_before clock w.place (n + 1) u.begin (next.good.time.begun_by u j) in
            let z : tick t.begin ≡ clock u.begin = ap tick still.begin ∙ k in
            record {
              begin = subst (λ a. a ≤ tick t.begin) (sym q) (subst (λ a. p.begin ≤ a) (sym z) l);
              statements = g ∙ ap (grown e.action e.reply) old.statements ∙ sym still.statements;
              imported = λ a. h (or_more u.imported p.imported (imports e.action e.reply) old.imported (still.imported a));
            }

    drafted_then : (j : ℕ) (z : Session A) (d : Recorded A) (t : Txn A) → slice_get (set ss i y) j ≡ Some z → z.draft ≡ Some d → In t v.txns → t.session ≡ suc j → is_open t.standing ≡ true → IsDrafted tick d t
    drafted_then j z d t h f k s o = go (get_after ss i j y z h)
      where
        from : Source w e.session e.action e.reply t
        from = source w e (current w e.session) refl agree.single t (subst (λ (u : World A). In t u.txns) next.is k) o

        old : Source w e.session e.action e.reply t → slice_get ss j ≡ Some z → (t.session ≡ e.session → ⊥) → IsDrafted tick d t
        old (Other l apart) g other = drafted_later clock w.place (n + 1) d t (next.good.time.begun_by t l) (agree.drafted j z d t g f l s o)
        old (Begins l a r p) g other = absurd (other (ap (λ (u : Txn A). u.session) p))
        old (Own u c l us ts still) g other = absurd (other ts)

        go : ((j ≡ i) × (z ≡ y)) ⊎ ((slice_get ss j ≡ Some z) × (j ≡ i → ⊥)) → IsDrafted tick d t
        go (inl p) = own_drafted d t (sym (ap (λ (u : Session A). u.draft) p.1) ∙ f) from (s ∙ ap suc p.0 ∙ sym number)
        go (inr p) = old from p.0 (λ q. p.1 (let r : suc j ≡ suc i = sym s ∙ q ∙ number in omega (arith, r)))

    pub agree_then : Agree v (set ss i y) tick m
    agree_then = record {
      idle = idle_then;
      drafted = drafted_then;
      single = subst (λ (u : World A). AreSingle u.txns) (sym next.is) (single_follows w e (current w e.session) refl agree.single);
      steady = later_steady clock w.place (n + 1) agree.steady clock_below;
      below = later_below clock w.place (n + 1) m (λ p. let l = agree.below p in omega (arith, l, on)) on;
      many = length-set ss i y ∙ agree.many;
    }

    module _ (has_time : Bool) (ended : List (Ended A)) (told : AreToldBy clock (in_commit_order w) (map (trace_of has_time) ended)) where
      -- what was told before
      told_before : AreToldBy tick (in_commit_order w) (map (trace_of has_time) ended)
      told_before = told_later clock w.place (n + 1) (in_commit_order w) (map (trace_of has_time) ended) (in_time w next.good) told

      pub told_then : commits_by e.action e.reply ≡ false → AreToldBy tick (in_commit_order v) (map (trace_of has_time) ended)
      told_then none = subst (λ ts. AreToldBy tick ts (map (trace_of has_time) ended)) (sym (order_stays w v e next none)) told_before

      -- the transaction that commits
      pub told_more : (d : Recorded A) → x.draft ≡ Some d → e.action ≡ action.Commit → e.reply ≡ reply.Committed
          → AreToldBy tick (in_commit_order v) (map (trace_of has_time) (ended ++ record { draft = d; end = Some (n + 1) } ∷ []))
      told_more d f a r =
          let c = committer w e.session (current w e.session) refl (sym (ap (reply_in w e.session) a) ∙ sym next.answered ∙ r) in
          let own = owed_of w e.session c.0 c.1 in
          let old = agree.drafted i x d c.0 there f own.0 (own.1 ∙ number) c.2 in
          let is = numbered_is w c.0 in
          let l : d.begin ≤ clock c.0.begin = old.begin in
          let k : tick (numbered w c.0).begin ≡ clock c.0.begin = ap tick is.begin ∙ later_before clock w.place (n + 1) c.0.begin (next.good.time.begun_by c.0 own.0) in
          subst (λ ts. AreToldBy tick ts (map (trace_of has_time) (ended ++ record { draft = d; end = Some (n + 1) } ∷ []))) (sym (order_grows w v e next c.0 c.1 c.2 a r))
          (subst (λ rs. AreToldBy tick (in_commit_order w ++ numbered w c.0 ∷ []) rs) (sym (map-append (trace_of has_time) ended (record { draft = d; end = Some (n + 1) } ∷ [])))
          (told_push tick (in_commit_order w) (map (trace_of has_time) ended) (numbered w c.0) (trace_of has_time (record { draft = d; end = Some (n + 1) })) told_before
          (record {
            begin = subst (λ a. d.begin ≤ a) (sym k) l;
            end = subst (λ p. tick p ≤ n + 1) (sym is.end) (now (nat_le (w.place + 1) w.place) refl);
            imported = λ h. ap (λ b. b || not has_time) (old.imported (sym is.imported ∙ h));
            statements = old.statements ∙ sym is.statements;
          })))
        where
          now : (b : Bool) → nat_le (w.place + 1) w.place ≡ b → cond b (clock (w.place + 1)) (n + 1) ≤ n + 1
          now true h = let l = leb-true (w.place + 1) w.place h in absurd (omega (arith, l))
          now false h = omega arith

  -- ---- a refusal that is no event

  grown_refused : (a : Action A) (r : Reply A) → is_refused r ≡ true → (qs : List (Statement A × Reply A)) → grown a r qs ≡ qs
  grown_refused (action.Run q) (reply.Refused f) h qs = refl
  grown_refused (action.Run q) _ h qs = absurd (true≢false (sym h))
  grown_refused _ r h qs = refl

  imports_none : (a : Action A) (r : Reply A) → is_refused r ≡ true → imports a r ≡ false
  imports_none a (reply.Refused f) h = none a
    where
      none : (b : Action A) → imports b (reply.Refused f) ≡ false
      none (action.Import j) = refl
      none _ = refl
  imports_none a _ h = absurd (true≢false (sym h))

  pub agree_still : (w : World A) (ss : List (Session A)) (clock : ℕ → ℕ) (n m i s : ℕ) (x y : Session A) (a : Action A) (r : Reply A) → Agree w ss clock n → slice_get ss i ≡ Some x → is_refused r ≡ true
      → Turn n s a r x y → n < m → Agree w (set ss i y) clock m
  agree_still w ss clock n m i s x y a r agree there refused turn on = record {
    idle = λ j z h. idle_now j z (get_after ss i j y z h);
    drafted = λ j z d t h f k e o. drafted_now j z d t f k e o (get_after ss i j y z h);
    single = agree.single;
    steady = agree.steady;
    below = λ p. let l = agree.below p in omega (arith, l, on);
    many = length-set ss i y ∙ agree.many;
  }
    where
      idle_now : (j : ℕ) (z : Session A) → ((j ≡ i) × (z ≡ y)) ⊎ ((slice_get ss j ≡ Some z) × (j ≡ i → ⊥)) → z.pending ≡ None
      idle_now j z (inl p) = ap (λ (u : Session A). u.pending) p.1 ∙ turn.idle
      idle_now j z (inr p) = agree.idle j z p.0

      kept : (d : Recorded A) (t : Txn A) → Kept n s a r x.draft d → In t w.txns → t.session ≡ suc i → is_open t.standing ≡ true → IsDrafted clock d t
      kept d t (Fresh k b q p) j e o = absurd (true≢false (sym refused ∙ ap is_refused q))
      kept d t (Older p b other close q g h) j e o =
          let old = agree.drafted i x p t there b j e o in
          record {
            begin = subst (λ c. c ≤ clock t.begin) (sym q) old.begin;
            statements = g ∙ grown_refused a r refused p.statements ∙ old.statements;
            imported = λ c. h (ap (λ b2. b2 || imports a r) (old.imported c));
          }

      drafted_now : (j : ℕ) (z : Session A) (d : Recorded A) (t : Txn A) → z.draft ≡ Some d → In t w.txns → t.session ≡ suc j → is_open t.standing ≡ true
          → ((j ≡ i) × (z ≡ y)) ⊎ ((slice_get ss j ≡ Some z) × (j ≡ i → ⊥)) → IsDrafted clock d t
      drafted_now j z d t f k e o (inl p) = kept d t (turn.drafts d (sym (ap (λ (u : Session A). u.draft) p.1) ∙ f)) k (e ∙ ap suc p.0) o
      drafted_now j z d t f k e o (inr p) = agree.drafted j z d t p.0 f k e o
