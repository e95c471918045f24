-- Alike worlds stay alike where an event turns the twins of one session alike.
use Rattle.std.proofs.Common.{◌≡◌, refl, sym, ap, subst, ◌∙◌, ℕ, zero, suc, ◌+◌, ◌-◌, ◌≤◌, Bool, true, false, true≢false, cond, ◌&&◌, ◌||◌, ◌⊎◌, inl, inr, List, [], ◌∷◌, ◌++◌, length, take, eqb, nat_lt, arith, length-append, take_all}
use Rattle.std.proofs.lemmas.Bool.{and_parts, eqb-true, eq-eqb, lt-ltb, le-ltb}
use Rattle.std.specs.List.{filter}
use Rattle.value.proofs.IsolationLemmas.{In}
use Rattle.value.proofs.Basics.{In-any, any-In}
use Rattle.value.proofs.Lists.{In-append, In-filter}
use Rattle.schema.specs.declared.tables.Tables.{Tables}
use Rattle.schema.specs.Plain.{put_all}
use Rattle.history.specs.Transactions.{Standing, Open, Doomed, Failed, Aborted, Done, Txn, World, Exported_snapshot, commits, is_done, is_open, is_owed, is_read_write, tables_at, was_active, with_all}
use Rattle.history.specs.Events.{next_identifier, replaced}
use Rattle.serial.proofs.legal.Numbers.{In-replaced, replaced-In, replaced-new}
use Rattle.alike.specs.Worlds.{Alike, AreTwins, DidAlike, FindAlike, HasLike, ShowAlike, StandAlike, WereActiveAlike, counts, is_exported_by, is_exporter, is_waiting, is_writer}
use Rattle.alike.proofs.Sides.{and2, none_passes, not_both, open_owed, same_bool}
use Rattle.alike.proofs.Orderly.{IsOrderly}
use Rattle.alike.proofs.Twins.{IsPair, active_back, active_in, alike_back, did_back, find_back, has_like, in_active, like, open_twin, owed_twin, pair, pair_back, pair_of, twin, twins_back, waiting_owed}
use Rattle.alike.proofs.Writers.{same_stay, writers_after}

same_take : {X : Type 0} (n : ℕ) (xs ys : List X) → n ≤ length xs → take n (xs ++ ys) ≡ take n xs
same_take zero xs ys h = refl
same_take (suc n) [] ys h = absurd (omega arith)
same_take (suc n) (x ∷ xs) ys h = ap (λ zs. x ∷ zs) (same_take n xs ys (omega arith))

module _ {A : Type 0} where
  -- ---- what becomes of a transaction

  -- z has become x with an event: it is open as before, or it was open and is over now
  pub record GoesOn (w : World A) (z x : Txn A) : Type 0 where
    pub mode : x.mode ≡ z.mode
    pub begin : x.begin ≡ z.begin
    pub end : (x.end ≡ z.end) × (is_open x.standing ≡ is_open z.standing) ⊎ (x.end ≡ w.place + 1) × (is_open x.standing ≡ false) × (is_open z.standing ≡ true)

  pub goes_itself : (w : World A) (z : Txn A) → GoesOn w z z
  goes_itself w z = record { mode = refl; begin = refl; end = inl (refl, refl) }

  -- the event's own transaction, t, has become x
  pub record Turns (w : World A) (t x : Txn A) : Type 0 where
    pub number : x.number ≡ t.number
    pub session : x.session ≡ t.session
    pub goes : GoesOn w t x
    pub owed : is_owed t.standing ≡ true
    pub waits : is_waiting x ≡ true → is_waiting t ≡ true

  -- x and y stand alike, which t and u have become
  abbrev pub StandsAs : World A → World A → Txn A → Txn A → Standing → Standing → Txn A → Txn A → Type 0
  StandsAs w v t u Open Open x y = DidAlike x y × FindAlike x y × WereActiveAlike w v t u × (tables_at w x.snapshot ≡ tables_at v y.snapshot) × (x.snapshot ≤ commits w) × (y.snapshot ≤ commits v)
  StandsAs w v t u Done Done x y = DidAlike x y × WereActiveAlike w v t u
  StandsAs w v t u (Doomed c) (Doomed d) x y = Unit {0}
  StandsAs w v t u Failed Failed x y = Unit {0}
  StandsAs w v t u Aborted Aborted x y = Unit {0}
  StandsAs w v t u _ _ x y = ⊥

  pub record TurnAlike (w v : World A) (t u x y : Txn A) : Type 0 where
    pub here : In t w.txns
    pub there : In u v.txns
    pub session : t.session ≡ u.session
    pub left : Turns w t x
    pub right : Turns v u y
    pub stands : StandsAs w v t u x.standing y.standing x y
    pub taken : is_waiting x ≡ true → is_waiting y ≡ true → (x.taken ≡ t.taken) × (y.taken ≡ u.taken) ⊎ (x.taken ≡ w.place + 1) × (y.taken ≡ v.place + 1)

  stands_back : (w v : World A) (t u x y : Txn A) (st st' : Standing) → StandsAs w v t u st st' x y → StandsAs v w u t st' st y x
  stands_back w v t u x y Open Open s = (did_back s.0, find_back s.1, active_back w v t u s.2, sym s.3, s.5, s.4)
  stands_back w v t u x y Done Done s = (did_back s.0, active_back w v t u s.1)
  stands_back w v t u x y (Doomed c) (Doomed d) s = tt
  stands_back w v t u x y Failed Failed s = tt
  stands_back w v t u x y Aborted Aborted s = tt
  stands_back w v t u x y _ _ s = absurd s

  pub turn_back : (w v : World A) (t u x y : Txn A) → TurnAlike w v t u x y → TurnAlike v w u t y x
  turn_back w v t u x y h = record {
    here = h.there;
    there = h.here;
    session = sym h.session;
    left = h.right;
    right = h.left;
    stands = stands_back w v t u x y x.standing y.standing h.stands;
    taken = λ p q. elim (h.taken q p) [ inl r ↦ inl (r.1, r.0) | inr r ↦ inr (r.1, r.0) ];
  }

  -- ---- who was active

  was_same : (w : World A) (a z x : Txn A) → a.taken ≤ w.place → GoesOn w z x → was_active a x ≡ was_active a z
  was_same w a z x m g = ap (λ k. is_read_write k && nat_lt x.begin a.taken && (is_open x.standing || nat_lt a.taken x.end)) g.mode
      ∙ ap (λ n. is_read_write z.mode && nat_lt n a.taken && (is_open x.standing || nat_lt a.taken x.end)) g.begin
      ∙ ap (λ b. is_read_write z.mode && nat_lt z.begin a.taken && b) (at g.end)
    where
      at : (x.end ≡ z.end) × (is_open x.standing ≡ is_open z.standing) ⊎ (x.end ≡ w.place + 1) × (is_open x.standing ≡ false) × (is_open z.standing ≡ true)
          → (is_open x.standing || nat_lt a.taken x.end) ≡ (is_open z.standing || nat_lt a.taken z.end)
      at (inl e) = ap (λ b. b || nat_lt a.taken x.end) e.1 ∙ ap (λ n. is_open z.standing || nat_lt a.taken n) e.0
      at (inr e) = ap (λ b. b || nat_lt a.taken x.end) e.1 ∙ ap (nat_lt a.taken) e.0 ∙ lt-ltb a.taken (w.place + 1) (omega (arith, m)) ∙ sym (ap (λ b. b || nat_lt a.taken z.end) e.2)

  pub was_now : (w : World A) (a x : Txn A) → a.taken ≡ w.place + 1 → x.begin ≤ w.place → x.end ≤ w.place + 1 → was_active a x ≡ (is_read_write x.mode && is_open x.standing)
  was_now w a x e m n = ap (λ k. is_read_write x.mode && nat_lt x.begin k && (is_open x.standing || nat_lt k x.end)) e
      ∙ ap (λ b. is_read_write x.mode && b && (is_open x.standing || nat_lt (w.place + 1) x.end)) (lt-ltb x.begin (w.place + 1) (omega (arith, m)))
      ∙ ap (λ b. is_read_write x.mode && true && (is_open x.standing || b)) (le-ltb (w.place + 1) x.end n)
      ∙ last (is_read_write x.mode) (is_open x.standing)
    where
      last : (a b : Bool) → (a && true && (b || false)) ≡ (a && b)
      last true true = refl
      last true false = refl
      last false b = refl

  -- ---- tables

  abbrev pub turning : World A → Txn A → List (Txn A) → List Exported_snapshot → World A
  turning w x log exports = record w { log = log; txns = replaced x w.txns; exports = exports; place = w.place + 1 }

  tables_kept : (w : World A) (x : Txn A) (log : List (Txn A)) (exports : List Exported_snapshot) → (rest : List (Txn A)) × (log ≡ w.log ++ rest) → (n : ℕ) → n ≤ commits w → tables_at (turning w x log exports) n ≡ tables_at w n
  tables_kept w x log exports more n m = ap (λ l. with_all (take (n - w.base.commits) l) w.opening) more.1 ∙ ap (λ ts. with_all ts w.opening) (same_take (n - w.base.commits) w.log more.0 (omega (arith, m)))

  with_push : (ts : List (Txn A)) (x : Txn A) (X : Tables A) → with_all (ts ++ x ∷ []) X ≡ put_all x.changes (with_all ts X)
  with_push [] x X = refl
  with_push (t ∷ ts) x X = with_push ts x (put_all t.changes X)

  all_taken : (b : ℕ) (ts : List (Txn A)) → take (b + length ts - b) ts ≡ ts
  all_taken b ts = let e : b + length ts - b ≡ length ts = omega arith in ap (λ n. take n ts) e ∙ take_all (length ts) ts (omega arith)

  tables_last : (w : World A) → tables_at w (commits w) ≡ with_all w.log w.opening
  tables_last w = ap (λ ts. with_all ts w.opening) (all_taken w.base.commits w.log)

  -- ---- logs and identifiers

  pub data Logged (w v : World A) (x y : Txn A) : List (Txn A) → List (Txn A) → Type 0 where
    Same_log : Logged w v x y w.log v.log
    Longer_log : DidAlike x y → Logged w v x y (w.log ++ x ∷ []) (v.log ++ y ∷ [])

  abbrev pub made : World A → Txn A → Exported_snapshot
  made w t = record { id = next_identifier w; exporter = t.number; snapshot = t.snapshot; taken = t.taken; known = t.known }

  pub data Exports (w v : World A) (t u : Txn A) : List Exported_snapshot → List Exported_snapshot → Type 0 where
    Same_exports : Exports w v t u w.exports v.exports
    One_export : IsPair w v t u → Exports w v t u (w.exports ++ made w t ∷ []) (v.exports ++ made v u ∷ [])

  logged_back : (w v : World A) (x y : Txn A) (l m : List (Txn A)) → Logged w v x y l m → Logged v w y x m l
  logged_back w v x y l m Same_log = Same_log
  logged_back w v x y l m (Longer_log d) = Longer_log (did_back d)

  exports_back : (w v : World A) (t u : Txn A) (l m : List Exported_snapshot) → Exports w v t u l m → Exports v w u t m l
  exports_back w v t u l m Same_exports = Same_exports
  exports_back w v t u l m (One_export p) = One_export (pair_back p)

  append_nil : (ts : List (Txn A)) → ts ≡ ts ++ []
  append_nil [] = refl
  append_nil (t ∷ ts) = ap (λ us. t ∷ us) (append_nil ts)

  extends : (w v : World A) (x y : Txn A) (l m : List (Txn A)) → Logged w v x y l m → ((rest : List (Txn A)) × (l ≡ w.log ++ rest)) × ((rest : List (Txn A)) × (m ≡ v.log ++ rest))
  extends w v x y l m Same_log = (([], append_nil w.log), ([], append_nil v.log))
  extends w v x y l m (Longer_log d) = ((x ∷ [], refl), (y ∷ [], refl))

  -- ---- the worlds

  module _ (w v : World A) (g : IsOrderly w) (f : IsOrderly v) (t u x y : Txn A) (c : TurnAlike w v t u x y) where
    -- the other's is the session's own
    own_there : (b : Txn A) → In b v.txns → is_owed b.standing ≡ true → b.session ≡ t.session → b.number ≡ y.number
    own_there b i o e = ap (λ (z : Txn A). z.number) (f.one b u i c.there o c.right.owed (e ∙ c.session)) ∙ sym c.right.number

    own_here : (a : Txn A) → In a w.txns → is_owed a.standing ≡ true → a.session ≡ t.session → a.number ≡ x.number
    own_here a i o e = ap (λ (z : Txn A). z.number) (g.one a t i c.here o c.left.owed e) ∙ sym c.left.number

    module _ (h : HasLike w v) (l m : List (Txn A)) (log : Logged w v x y l m) (k n : List Exported_snapshot) (ex : Exports w v t u k n) where
      abbrev w1 : World A
      w1 = turning w x l k

      abbrev v1 : World A
      v1 = turning v y m n

      abbrev New : Txn A → Txn A → List (Txn A) → Type 0
      New a b ts = (a ≡ b) ⊎ In a ts × (eqb a.number b.number ≡ false)

      active_turned : (z s z1 s1 : Txn A) → In z w.txns → In s v.txns → GoesOn w z z1 → GoesOn v s s1 → z1.mode ≡ s1.mode → is_open z1.standing ≡ is_open s1.standing → WereActiveAlike w v z s → WereActiveAlike w1 v1 z1 s1
      active_turned z s z1 s1 i j p q e o act = in_active w1 v1 z1 s1 (λ a b i' j' r r' e'. both a b r r' e' (In-replaced a x w.txns i') (In-replaced b y v.txns j'))
        where
          ends : (r : World A) (z x : Txn A) → z.end ≤ r.place → GoesOn r z x → x.end ≤ r.place + 1
          ends r z x b g = go g.end
            where
              go : (x.end ≡ z.end) × (is_open x.standing ≡ is_open z.standing) ⊎ (x.end ≡ r.place + 1) × (is_open x.standing ≡ false) × (is_open z.standing ≡ true) → x.end ≤ r.place + 1
              go (inl e) = omega (arith, e.0, b)
              go (inr e) = omega (arith, e.0)

          begins : (r : World A) (z x : Txn A) → z.begin ≤ r.place → GoesOn r z x → x.begin ≤ r.place
          begins r z x b g = omega (arith, g.begin, b)

          at : ℕ → Txn A → Bool
          at n z = is_read_write z.mode && nat_lt z.begin n && (is_open z.standing || nat_lt n z.end)

          by_taken : is_waiting x ≡ true → is_waiting y ≡ true → (x.taken ≡ t.taken) × (y.taken ≡ u.taken) ⊎ (x.taken ≡ w.place + 1) × (y.taken ≡ v.place + 1) → was_active x z1 ≡ was_active y s1
          by_taken r r' (inl k) = ap (λ n. at n z1) k.0 ∙ was_same w t z z1 (g.taken t c.here) p ∙ active_in w v z s act t u c.here c.there (c.left.waits r) (c.right.waits r') c.session
              ∙ sym (was_same v u s s1 (f.taken u c.there) q) ∙ sym (ap (λ n. at n s1) k.1)
          by_taken r r' (inr k) = was_now w x z1 k.0 (begins w z z1 (g.begun z i) p) (ends w z z1 (g.ended z i) p) ∙ ap (λ a. is_read_write a && is_open z1.standing) e ∙ ap (λ b. is_read_write s1.mode && b) o
              ∙ sym (was_now v y s1 k.1 (begins v s s1 (f.begun s j) q) (ends v s s1 (f.ended s j) q))

          both : (a b : Txn A) → is_waiting a ≡ true → is_waiting b ≡ true → a.session ≡ b.session → New a x w.txns → New b y v.txns → was_active a z1 ≡ was_active b s1
          both a b r r' e' (inl ea) (inl eb) = subst (λ a. was_active a z1 ≡ was_active b s1) (sym ea) (subst (λ b. was_active x z1 ≡ was_active b s1) (sym eb)
              (by_taken (subst (λ a. is_waiting a ≡ true) ea r) (subst (λ b. is_waiting b ≡ true) eb r') (c.taken (subst (λ a. is_waiting a ≡ true) ea r) (subst (λ b. is_waiting b ≡ true) eb r'))))
          both a b r r' e' (inl ea) (inr ob) = absurd (not_both (eqb b.number y.number) (eq-eqb b.number y.number (own_there b ob.0 (waiting_owed b r') (sym e' ∙ ap (λ (z : Txn A). z.session) ea ∙ c.left.session))) ob.1)
          both a b r r' e' (inr oa) (inl eb) = absurd (not_both (eqb a.number x.number) (eq-eqb a.number x.number (own_here a oa.0 (waiting_owed a r) (e' ∙ ap (λ (z : Txn A). z.session) eb ∙ c.right.session ∙ sym c.session))) oa.1)
          both a b r r' e' (inr oa) (inr ob) = was_same w a z z1 (g.taken a oa.0) p ∙ active_in w v z s act a b oa.0 ob.0 r r' e' ∙ sym (was_same v b s s1 (f.taken b ob.0) q)

      longer : ((rest : List (Txn A)) × (l ≡ w.log ++ rest)) × ((rest : List (Txn A)) × (m ≡ v.log ++ rest))
      longer = extends w v x y l m log

      tables_same : (i j : ℕ) → i ≤ commits w → j ≤ commits v → tables_at w i ≡ tables_at v j → tables_at w1 i ≡ tables_at v1 j
      tables_same i j p q e = tables_kept w x l k longer.0 i p ∙ e ∙ sym (tables_kept v y m n longer.1 j q)

      -- its own twin
      self_twin : (st st' : Standing) → x.standing ≡ st → y.standing ≡ st' → StandsAs w v t u st st' x y → counts x ≡ true → StandAlike w1 v1 st st' x y
      self_twin Open Open a b s e = (s.0, s.1, active_turned t u x y c.here c.there c.left.goes c.right.goes s.0.mode (ap is_open a ∙ sym (ap is_open b)) s.2, tables_same x.snapshot y.snapshot s.4 s.5 s.3)
      self_twin Done Done a b s e = (s.0, active_turned t u x y c.here c.there c.left.goes c.right.goes s.0.mode (ap is_open a ∙ sym (ap is_open b)) s.1)
      self_twin (Doomed p) (Doomed q) a b s e = tt
      self_twin Failed Failed a b s e = tt
      self_twin Aborted Aborted a b s e = absurd (true≢false (sym e ∙ ap (λ st. is_owed st || is_done st) a))
      self_twin _ _ a b s e = absurd s

      -- another's
      other_twin : (z s : Txn A) → In z w.txns → In s v.txns → (st st' : Standing) → z.standing ≡ st → s.standing ≡ st' → StandAlike w v st st' z s → StandAlike w1 v1 st st' z s
      other_twin z s i j Open Open a b d = (d.0, d.1, active_turned z s z s i j (goes_itself w z) (goes_itself v s) d.0.mode (ap is_open a ∙ sym (ap is_open b)) d.2, tables_same z.snapshot s.snapshot (g.shown z i) (f.shown s j) d.3)
      other_twin z s i j Done Done a b d = (d.0, active_turned z s z s i j (goes_itself w z) (goes_itself v s) d.0.mode (ap is_open a ∙ sym (ap is_open b)) d.1)
      other_twin z s i j (Doomed p) (Doomed q) a b d = tt
      other_twin z s i j Failed Failed a b d = tt
      other_twin z s i j _ _ a b d = absurd d

      twin_turned : (z : Txn A) → In z w1.txns → counts z ≡ true → (s : Txn A) × In s v1.txns × AreTwins w1 v1 z s
      twin_turned z i e = go (In-replaced z x w.txns i)
        where
          go : New z x w.txns → (s : Txn A) × In s v1.txns × AreTwins w1 v1 z s
          go (inl q) = (
            y,
            replaced-new u y v.txns c.there (sym c.right.number),
            subst (λ z. AreTwins w1 v1 z y) (sym q)
                (c.left.session ∙ c.session ∙ sym c.right.session, self_twin x.standing y.standing refl refl c.stands (subst (λ z. counts z ≡ true) q e)),
          )
          go (inr o) = (s.0, replaced-In s.0 y v.txns s.1 (none_passes (eqb s.0.number y.number) own), (s.2.0, other_twin z s.0 o.0 s.1 z.standing s.0.standing refl refl s.2.1))
            where
              s : (s : Txn A) × In s v.txns × AreTwins w v z s
              s = twin w v h z o.0 e

              own : eqb s.0.number y.number ≡ true → ⊥
              own q = not_both (eqb z.number x.number) (eq-eqb z.number x.number (own_here z o.0 owes (s.2.0 ∙ ap (λ (a : Txn A). a.session) same ∙ sym c.session))) o.1
                where
                  same : s.0 ≡ u
                  same = f.unique s.0 u s.1 c.there (eqb-true s.0.number y.number q ∙ c.right.number)

                  back : AreTwins v w s.0 z
                  back = twins_back w v z s.0 s.2

                  owes : is_owed z.standing ≡ true
                  owes = owed_twin v w s.0 z s.0.standing z.standing (ap (λ (a : Txn A). is_owed a.standing) same ∙ c.right.owed) back.1

      -- ---- exported snapshots

      -- what is open was there and open
      open_here : (z : Txn A) → In z w1.txns → is_open z.standing ≡ true → (a : Txn A) × In a w.txns × (is_open a.standing ≡ true) × (z.number ≡ a.number) × (z.session ≡ a.session)
      open_here z i o = go (In-replaced z x w.txns i)
        where
          go : New z x w.txns → (a : Txn A) × In a w.txns × (is_open a.standing ≡ true) × (z.number ≡ a.number) × (z.session ≡ a.session)
          go (inl q) = (t, c.here, was c.left.goes.end, ap (λ (b : Txn A). b.number) q ∙ c.left.number, ap (λ (b : Txn A). b.session) q ∙ c.left.session)
            where
              was : (x.end ≡ t.end) × (is_open x.standing ≡ is_open t.standing) ⊎ (x.end ≡ w.place + 1) × (is_open x.standing ≡ false) × (is_open t.standing ≡ true) → is_open t.standing ≡ true
              was (inl r) = sym r.1 ∙ sym (ap (λ (b : Txn A). is_open b.standing) q) ∙ o
              was (inr r) = r.2
          go (inr r) = (z, r.0, o, refl, refl)

      open_there : (z : Txn A) → In z v1.txns → is_open z.standing ≡ true → (a : Txn A) × In a v.txns × (is_open a.standing ≡ true) × (z.number ≡ a.number) × (z.session ≡ a.session)
      open_there z i o = go (In-replaced z y v.txns i)
        where
          go : New z y v.txns → (a : Txn A) × In a v.txns × (is_open a.standing ≡ true) × (z.number ≡ a.number) × (z.session ≡ a.session)
          go (inl q) = (u, c.there, was c.right.goes.end, ap (λ (b : Txn A). b.number) q ∙ c.right.number, ap (λ (b : Txn A). b.session) q ∙ c.right.session)
            where
              was : (y.end ≡ u.end) × (is_open y.standing ≡ is_open u.standing) ⊎ (y.end ≡ v.place + 1) × (is_open y.standing ≡ false) × (is_open u.standing ≡ true) → is_open u.standing ≡ true
              was (inl r) = sym r.1 ∙ sym (ap (λ (b : Txn A). is_open b.standing) q) ∙ o
              was (inr r) = r.2
          go (inr r) = (z, r.0, o, refl, refl)

      by_exporter : (s : ℕ) (a : Exported_snapshot) (z : Txn A) → is_exporter s a z ≡ true → (z.number ≡ a.exporter) × (is_open z.standing ≡ true) × (z.session ≡ s)
      by_exporter s a z e = (eqb-true z.number a.exporter p.0, p.1, eqb-true z.session s q.1)
        where
          q : ((eqb z.number a.exporter && is_open z.standing) ≡ true) × (eqb z.session s ≡ true)
          q = and_parts (eqb z.number a.exporter && is_open z.standing) (eqb z.session s) e

          p : (eqb z.number a.exporter ≡ true) × (is_open z.standing ≡ true)
          p = and_parts (eqb z.number a.exporter) (is_open z.standing) q.0

      exporter_by : (s : ℕ) (a : Exported_snapshot) (z : Txn A) → z.number ≡ a.exporter → is_open z.standing ≡ true → z.session ≡ s → is_exporter s a z ≡ true
      exporter_by s a z e o q = and2 (eqb z.number a.exporter && is_open z.standing) (eqb z.session s) (and2 (eqb z.number a.exporter) (is_open z.standing) (eq-eqb z.number a.exporter e) o) (eq-eqb z.session s q)

      -- the other's open transaction of a session, where b was it before
      still : (z : Txn A) → In z w1.txns → is_open z.standing ≡ true → (b : Txn A) → In b v.txns → is_open b.standing ≡ true → b.session ≡ z.session → (s : Txn A) × In s v1.txns × (is_open s.standing ≡ true) × (s.number ≡ b.number) × (s.session ≡ z.session)
      still z i o b j p e = (s.0, s.1, q.0, r.3 ∙ ap (λ (a : Txn A). a.number) (f.one r.0 b r.1 j (open_owed r.0.standing r.2) (open_owed b.standing p) (sym r.4 ∙ sym s.2.0 ∙ sym e)), sym s.2.0)
        where
          s : (s : Txn A) × In s v1.txns × AreTwins w1 v1 z s
          s = twin_turned z i (Rattle.alike.proofs.Twins.owed_counts z (open_owed z.standing o))

          q : (is_open s.0.standing ≡ true) × DidAlike z s.0 × FindAlike z s.0 × WereActiveAlike w1 v1 z s.0 × (tables_at w1 z.snapshot ≡ tables_at v1 s.0.snapshot)
          q = open_twin w1 v1 z s.0 z.standing s.0.standing o s.2.1

          r : (a : Txn A) × In a v.txns × (is_open a.standing ≡ true) × (s.0.number ≡ a.number) × (s.0.session ≡ a.session)
          r = open_there s.0 s.1 q.0

      abbrev Likes : Exported_snapshot → ℕ → List Exported_snapshot → Type 0
      Likes a s bs = (b : Exported_snapshot) × In b bs × (is_exported_by v1 s b ≡ true) × ShowAlike w1 v1 a b

      old_like : (a : Exported_snapshot) → In a w.exports → (s : ℕ) → is_exported_by w1 s a ≡ true → Likes a s v.exports
      old_like a i s e = (
        b.0,
        b.1,
        In-any (is_exporter s b.0) v1.txns d.0 d.1 (exporter_by s b.0 d.0 (d.3 ∙ pb.0) d.2 (d.4 ∙ pz.2)),
        record { id = b.3.id; snapshot = b.3.snapshot; known = b.3.known; tables = tables_same a.snapshot b.0.snapshot (g.exports a i) (f.exports b.0 b.1) b.3.tables },
      )
        where
          z : (z : Txn A) × In z w1.txns × (is_exporter s a z ≡ true)
          z = any-In (is_exporter s a) w1.txns e

          pz : (z.0.number ≡ a.exporter) × (is_open z.0.standing ≡ true) × (z.0.session ≡ s)
          pz = by_exporter s a z.0 z.2

          o : (b : Txn A) × In b w.txns × (is_open b.standing ≡ true) × (z.0.number ≡ b.number) × (z.0.session ≡ b.session)
          o = open_here z.0 z.1 pz.1

          b : (b : Exported_snapshot) × In b v.exports × (is_exported_by v s b ≡ true) × ShowAlike w v a b
          b = like w v h a i s (In-any (is_exporter s a) w.txns o.0 o.1 (exporter_by s a o.0 (sym o.3 ∙ pz.0) o.2 (sym o.4 ∙ pz.2)))

          z' : (z : Txn A) × In z v.txns × (is_exporter s b.0 z ≡ true)
          z' = any-In (is_exporter s b.0) v.txns b.2

          pb : (z'.0.number ≡ b.0.exporter) × (is_open z'.0.standing ≡ true) × (z'.0.session ≡ s)
          pb = by_exporter s b.0 z'.0 z'.2

          d : (r : Txn A) × In r v1.txns × (is_open r.standing ≡ true) × (r.number ≡ z'.0.number) × (r.session ≡ z.0.session)
          d = still z.0 z.1 pz.1 z'.0 z'.1 pb.1 (pb.2 ∙ sym pz.2)

      new_like : IsPair w v t u → next_identifier w ≡ next_identifier v → (s : ℕ) → is_exported_by w1 s (made w t) ≡ true → (is_exported_by v1 s (made v u) ≡ true) × ShowAlike w1 v1 (made w t) (made v u)
      new_like p e s q = (
        In-any (is_exporter s (made v u)) v1.txns d.0 d.1 (exporter_by s (made v u) d.0 d.3 d.2 (d.4 ∙ pz.2)),
        record { id = e; snapshot = p.did.snapshot; known = p.finds.known; tables = tables_same t.snapshot u.snapshot (g.shown t c.here) (f.shown u c.there) p.shown },
      )
        where
          z : (z : Txn A) × In z w1.txns × (is_exporter s (made w t) z ≡ true)
          z = any-In (is_exporter s (made w t)) w1.txns q

          pz : (z.0.number ≡ t.number) × (is_open z.0.standing ≡ true) × (z.0.session ≡ s)
          pz = by_exporter s (made w t) z.0 z.2

          o : (b : Txn A) × In b w.txns × (is_open b.standing ≡ true) × (z.0.number ≡ b.number) × (z.0.session ≡ b.session)
          o = open_here z.0 z.1 pz.1

          own : z.0.session ≡ t.session
          own = o.4 ∙ ap (λ (a : Txn A). a.session) (g.unique o.0 t o.1 c.here (sym o.3 ∙ pz.0))

          d : (r : Txn A) × In r v1.txns × (is_open r.standing ≡ true) × (r.number ≡ u.number) × (r.session ≡ z.0.session)
          d = still z.0 z.1 pz.1 u c.there p.opens (sym c.session ∙ sym own)

      like_turned : next_identifier w ≡ next_identifier v → (a : Exported_snapshot) → In a w1.exports → (s : ℕ) → is_exported_by w1 s a ≡ true → Likes a s v1.exports
      like_turned e a i s q = go k n ex a i q
        where
          go : (k n : List Exported_snapshot) → Exports w v t u k n → (a : Exported_snapshot) → In a k → is_exported_by w1 s a ≡ true → Likes a s n
          go k n Same_exports a i q = old_like a i s q
          go k n (One_export p) a i q = elim (In-append a w.exports (made w t ∷ []) i) [
            | inl j ↦ (let b = old_like a j s q in (b.0, Rattle.value.proofs.SerialLemmas.In-left (λ (_ : Exported_snapshot). (0, 0, 0)) b.0 v.exports (made v u ∷ []) b.1, b.2, b.3))
            | inr j ↦ elim j [
              | inl r ↦ (let b = new_like p e s (subst (λ a. is_exported_by w1 s a ≡ true) r q) in
                  (made v u, Rattle.value.proofs.SerialLemmas.In-right (λ (_ : Exported_snapshot). (0, 0, 0)) (made v u) v.exports (made v u ∷ []) (inl refl), b.0, subst (λ a. ShowAlike w1 v1 a (made v u)) (sym r) b.1))
              | inr z ↦ absurd z
            ]
          ]

      has_turned : next_identifier w ≡ next_identifier v → HasLike w1 v1
      has_turned e = has_like w1 v1 twin_turned (like_turned e)

  -- ---- the writers

  module _ (w : World A) (g : IsOrderly w) (t x : Txn A) (i : In t w.txns) (c : Turns w t x) where
    wrote_before : is_writer x ≡ true → is_writer t ≡ true
    wrote_before e = and2 (is_open t.standing) (is_read_write t.mode) (go c.goes.end) (ap is_read_write (sym c.goes.mode) ∙ p.1)
      where
        p : (is_open x.standing ≡ true) × (is_read_write x.mode ≡ true)
        p = and_parts (is_open x.standing) (is_read_write x.mode) e

        go : (x.end ≡ t.end) × (is_open x.standing ≡ is_open t.standing) ⊎ (x.end ≡ w.place + 1) × (is_open x.standing ≡ false) × (is_open t.standing ≡ true) → is_open t.standing ≡ true
        go (inl r) = sym r.1 ∙ p.0
        go (inr r) = r.2

    turned_writer : (z : Txn A) → In z w.txns → ((cond (eqb z.number x.number) x z).session ≡ z.session) × (is_writer (cond (eqb z.number x.number) x z) ≡ (is_writer z && cond (eqb z.number x.number) (is_writer x) true))
    turned_writer z j = go (eqb z.number x.number) refl
      where
        both : (a b : Bool) → (a ≡ true → b ≡ true) → a ≡ (b && a)
        both true true f = refl
        both true false f = absurd (true≢false (sym (f refl)))
        both false true f = refl
        both false false f = refl

        alone : (b : Bool) → b ≡ (b && true)
        alone true = refl
        alone false = refl

        go : (b : Bool) → eqb z.number x.number ≡ b → ((cond b x z).session ≡ z.session) × (is_writer (cond b x z) ≡ (is_writer z && cond b (is_writer x) true))
        go true e = let same : z ≡ t = g.unique z t j i (eqb-true z.number x.number e ∙ c.number) in
            (c.session ∙ sym (ap (λ (a : Txn A). a.session) same), both (is_writer x) (is_writer z) (λ q. ap is_writer same ∙ wrote_before q))
        go false e = (refl, alone (is_writer z))

  stands_writer : (w v : World A) (t u x y : Txn A) (st st' : Standing) → x.standing ≡ st → y.standing ≡ st' → StandsAs w v t u st st' x y → is_writer x ≡ is_writer y
  stands_writer w v t u x y Open Open a b s = ap (λ o. is_open o && is_read_write x.mode) (a ∙ sym b) ∙ ap (λ m. is_open y.standing && is_read_write m) s.0.mode
  stands_writer w v t u x y Done Done a b s = ap (λ o. is_open o && is_read_write x.mode) a ∙ sym (ap (λ o. is_open o && is_read_write y.mode) b)
  stands_writer w v t u x y (Doomed c) (Doomed d) a b s = ap (λ o. is_open o && is_read_write x.mode) a ∙ sym (ap (λ o. is_open o && is_read_write y.mode) b)
  stands_writer w v t u x y Failed Failed a b s = ap (λ o. is_open o && is_read_write x.mode) a ∙ sym (ap (λ o. is_open o && is_read_write y.mode) b)
  stands_writer w v t u x y Aborted Aborted a b s = ap (λ o. is_open o && is_read_write x.mode) a ∙ sym (ap (λ o. is_open o && is_read_write y.mode) b)
  stands_writer w v t u x y _ _ a b s = absurd s

  pub alike_turned : (w v : World A) → IsOrderly w → IsOrderly v → Alike w v → (t u x y : Txn A) → TurnAlike w v t u x y → (l m : List (Txn A)) → Logged w v x y l m → (k n : List Exported_snapshot) → Exports w v t u k n
      → Alike (turning w x l k) (turning v y m n)
  alike_turned w v g f h t u x y c l m log k n ex = record {
    catalog = h.catalog;
    last = last l m log;
    identifiers = numbers k n ex;
    tables = tables l m log;
    writers = writers_after (λ z. cond (eqb z.number x.number) x z) (λ z. cond (eqb z.number x.number) (is_writer x) true) w.txns (turned_writer w g t x c.here c.left)
        ∙ same_stay (λ z. cond (eqb z.number x.number) (is_writer x) true) (λ z. cond (eqb z.number y.number) (is_writer y) true) (filter is_writer w.txns) (filter is_writer v.txns) h.writers
        (λ a b i j e. stay a b (In-filter is_writer a w.txns i) (In-filter is_writer b v.txns j) e)
        ∙ sym (writers_after (λ z. cond (eqb z.number y.number) y z) (λ z. cond (eqb z.number y.number) (is_writer y) true) v.txns (turned_writer v f u y c.there c.right));
    there = has_turned w v g f t u x y c h.there l m log k n ex h.identifiers;
    back = has_turned v w f g u t y x (turn_back w v t u x y c) h.back m l (logged_back w v x y l m log) n k (exports_back w v t u k n ex) (sym h.identifiers);
  }
    where
      stay : (a b : Txn A) → In a w.txns × (is_writer a ≡ true) → In b v.txns × (is_writer b ≡ true) → a.session ≡ b.session → cond (eqb a.number x.number) (is_writer x) true ≡ cond (eqb b.number y.number) (is_writer y) true
      stay a b i j e = ap (λ r. cond r (is_writer x) true) (same_bool (eqb a.number x.number) (eqb b.number y.number) there here)
          ∙ ap (λ r. cond (eqb b.number y.number) r true) (stands_writer w v t u x y x.standing y.standing refl refl c.stands)
        where
          oa : is_owed a.standing ≡ true
          oa = open_owed a.standing (and_parts (is_open a.standing) (is_read_write a.mode) i.1).0

          ob : is_owed b.standing ≡ true
          ob = open_owed b.standing (and_parts (is_open b.standing) (is_read_write b.mode) j.1).0

          there : eqb a.number x.number ≡ true → eqb b.number y.number ≡ true
          there q = eq-eqb b.number y.number (own_there w v g f t u x y c b j.0 ob (sym e ∙ ap (λ (z : Txn A). z.session) (g.unique a t i.0 c.here (eqb-true a.number x.number q ∙ c.left.number))))

          here : eqb b.number y.number ≡ true → eqb a.number x.number ≡ true
          here q = eq-eqb a.number x.number (own_here w v g f t u x y c a i.0 oa (e ∙ ap (λ (z : Txn A). z.session) (f.unique b u j.0 c.there (eqb-true b.number y.number q ∙ c.right.number)) ∙ sym c.session))

      last : (l m : List (Txn A)) → Logged w v x y l m → w.base.commits + length l ≡ v.base.commits + length m
      last l m Same_log = h.last
      last l m (Longer_log d) = rw length-append (rw length-append (let e : w.base.commits + length w.log ≡ v.base.commits + length v.log = h.last in omega arith))

      numbers : (k n : List Exported_snapshot) → Exports w v t u k n → w.base.identifiers + length k + 1 ≡ v.base.identifiers + length n + 1
      numbers k n Same_exports = h.identifiers
      numbers k n (One_export p) = rw length-append (rw length-append (let e : w.base.identifiers + length w.exports + 1 ≡ v.base.identifiers + length v.exports + 1 = h.identifiers in omega arith))

      tables : (l m : List (Txn A)) → Logged w v x y l m → with_all (take (w.base.commits + length l - w.base.commits) l) w.opening ≡ with_all (take (v.base.commits + length m - v.base.commits) m) v.opening
      tables l m Same_log = h.tables
      tables l m (Longer_log d) = ap (λ ts. with_all ts w.opening) (all_taken w.base.commits (w.log ++ x ∷ [])) ∙ with_push w.log x w.opening ∙ ap (put_all x.changes) (sym (tables_last w) ∙ h.tables ∙ tables_last v)
          ∙ ap (λ cs. put_all cs (with_all v.log v.opening)) d.changes ∙ sym (with_push v.log y v.opening) ∙ sym (ap (λ ts. with_all ts v.opening) (all_taken v.base.commits (v.log ++ y ∷ [])))
