-- Steps of a search: what it knows stays true as it goes on, passes over and takes back.
use Rattle.std.proofs.Common.{◌≡◌, ◌⊎◌, refl, sym, ap, ◌∙◌, subst, ℕ, zero, suc, ◌<◌, ◌≤◌, Bool, true, false, true≢false, ◌&&◌, ◌||◌, not, cond, zip, replicate, inl, inr, List, [], ◌∷◌, ◌++◌, map, length, slice_get, slice_set, Option, Some, None, is_some, arith}
use Rattle.std.proofs.lemmas.Bool.{and_parts, not-true, cases_eq, cases_lt}
use Rattle.std.specs.List.{list_all}
use Rattle.std.proofs.lemmas.List.{length-replicate}
use Rattle.std.proofs.lemmas.Option.{same_Some}
use Rattle.schema.specs.Definition.{Catalog}
use Rattle.schema.specs.declared.changes.Change.{Change}
use Rattle.schema.specs.declared.tables.Tables.{Tables}
use Rattle.schema.specs.Plain.{is_sound}
use Rattle.statement.specs.declared.statement.Statement.{Statement}
use Rattle.statement.specs.declared.reply.Reply.{Reply}
use Rattle.statement.specs.Evaluation.{outcome, after}
use Rattle.statement.specs.Fits.{fits}
use Rattle.statement.proofs.LawsLemmas.{sound_after}
use Rattle.orders.specs.Explains.{Trace, precedes, Explains, Unexplained, agrees, alone, are_fit, all_fit}
use Rattle.orders.specs.Turns.{MayCome, are_done, comes, comes_so}
use Rattle.orders.specs.Undone.{HasRun, put_back}
use Rattle.orders.specs.Walks.{Passing, Standing, AllDone, Goes, IsDead, AreTried, IsTried, Anything, Comes, IsPath, IsWalk, IsStep, CanCome, NoneCan, HasTurned, HasPopped, HasTakenBack, none_done, taken_back, behind, places_of}
use Rattle.orders.specs.Found.{HasGone, progress_of}
use Rattle.orders.proofs.PlaceLemmas.{set-back}
use Rattle.orders.proofs.OrderLemmas.{explained-goes, goes-explained}

within-behind : (k i : ℕ) → k < behind i → (k ≡ i → ⊥) → k < i
within-behind k i l n = omega (arith, l, n)

length-set : {T : Type 0} (xs : List T) (i : ℕ) (x : T) → length (slice_set xs i x) ≡ length xs
length-set [] i x = refl
length-set (y ∷ ys) zero x = refl
length-set (y ∷ ys) (suc i) x = ap suc (length-set ys i x)

-- ---- what a walk does

pub gone-so : {A : Type 0} (c : Catalog) (t : Trace A) (w m v : Standing A) (place : ℕ) (back : List (Change A)) → HasRun c t.statements w.tables (Some back) m.tables → m ≡ record w { tables = m.tables }
    → v ≡ record { path = m.path ++ record { place = place; back = back } ∷ []; done = slice_set m.done place true; tables = m.tables; from = 0 } → HasTurned c t w place true v
gone-so c t w m v place back h e f = (
  back,
  m.tables,
  h.0,
  h.1,
  f ∙ ap (λ (x : Standing _). record { path = x.path ++ record { place = place; back = back } ∷ []; done = slice_set x.done place true; tables = x.tables; from = 0 }) e,
)

pub stayed-so : {A : Type 0} (c : Catalog) (t : Trace A) (w m : Standing A) (place : ℕ) → HasRun c t.statements w.tables None m.tables → m ≡ record w { tables = m.tables } → HasTurned c t w place false m
stayed-so c t w m place h e = (h.0, e ∙ ap (λ X. record w { tables = X }) h.1)

pub popped-back : {A : Type 0} (w m v : Standing A) (p : Passing A) (place : ℕ) → HasPopped w (Some p) m → (place ≡ p.place) × (v ≡ taken_back m m.path p) → HasTakenBack w (Some place) v
popped-back w m v p place h k = (m.path, p, h.0, k.1 ∙ ap (λ (x : Standing _). record { path = m.path; done = slice_set x.done p.place false; tables = put_back p.back x.tables; from = behind p.place }) h.1, k.0)

pub popped-none : {A : Type 0} (w m : Standing A) → HasPopped w None m → HasTakenBack w None m
popped-none w m h = h

-- before the first of so many
abbrev pub start_of : {A : Type 0} → ℕ → Tables A → Standing A
start_of n Y = record { path = []; done = replicate n false; tables = Y; from = 0 }

module _ {A : Type 0} (ts : List (Trace A)) where
  pub free-at : (t : Trace A) (us : List (Trace A)) (done : List Bool) → list_all (λ p. p.1 || not (precedes p.0 t)) (zip us done) ≡ true → (j : ℕ) (a : Trace A) → slice_get us j ≡ Some a → slice_get done j ≡ Some false → precedes a t ≡ false
  free-at t [] done h j a g l = cc
  free-at t (u ∷ us) [] h j a g l = cc
  free-at t (u ∷ us) (d ∷ ds) h zero a g l =
      let e : u ≡ a = same_Some u a g in
      let f : d ≡ false = same_Some d false l in
      let p = and_parts (d || not (precedes u t)) (list_all (λ p. p.1 || not (precedes p.0 t)) (zip us ds)) h in
      not-true (precedes a t) (ap (λ b. b || not (precedes a t)) (sym f) ∙ ap (λ v. d || not (precedes v t)) (sym e) ∙ p.0)
  free-at t (u ∷ us) (d ∷ ds) h (suc j) a g l = free-at t us ds (and_parts (d || not (precedes u t)) (list_all (λ p. p.1 || not (precedes p.0 t)) (zip us ds)) h).1 j a g l

  pub free-from : (t : Trace A) (us : List (Trace A)) (done : List Bool) → ((j : ℕ) (a : Trace A) → slice_get us j ≡ Some a → slice_get done j ≡ Some false → precedes a t ≡ false) → list_all (λ p. p.1 || not (precedes p.0 t)) (zip us done) ≡ true
  free-from t [] done h = refl
  free-from t (u ∷ us) [] h = refl
  free-from t (u ∷ us) (true ∷ ds) h = free-from t us ds (λ j a g l. h (suc j) a g l)
  free-from t (u ∷ us) (false ∷ ds) h = ap (λ b. not b && list_all (λ p. p.1 || not (precedes p.0 t)) (zip us ds)) (h 0 u refl refl) ∙ free-from t us ds (λ j a g l. h (suc j) a g l)

  pub comes-may : (done : List Bool) (i : ℕ) → comes ts done i ≡ true → (t : Trace A) × MayCome ts done i t
  comes-may done i h = go (slice_get ts i) (slice_get done i) refl refl h
    where
      go : (o : Option (Trace A)) (d : Option Bool) → slice_get ts i ≡ o → slice_get done i ≡ d → comes_so ts done o d ≡ true → (t : Trace A) × MayCome ts done i t
      go (Some t) (Some false) g l e = (t, record { stands = g; left = l; in_time = free-at t ts done e })
      go (Some t) (Some true) g l e = absurd (true≢false (sym e))
      go (Some t) None g l e = absurd (true≢false (sym e))
      go None d g l e = absurd (true≢false (sym e))

  comes-not : (done : List Bool) (i : ℕ) (t : Trace A) → comes ts done i ≡ false → MayCome ts done i t → ⊥
  comes-not done i t e m = true≢false (sym (free-from t ts done m.in_time) ∙ sym (ap (λ o. comes_so ts done o (slice_get done i)) m.stands ∙ ap (λ d. comes_so ts done (Some t) d) m.left) ∙ e)

  -- ---- all are done

  done-at : (us : List (Trace A)) (done : List Bool) → length done ≡ length us → are_done us done ≡ true → AllDone us done
  done-at [] done n h = λ i t g e. absurd (none-at i t g)
    where
      none-at : (i : ℕ) (t : Trace A) → slice_get [] i ≡ Some t → ⊥
      none-at i t g = cc
  done-at (u ∷ us) [] n h = absurd (omega (arith, n))
  done-at (u ∷ us) (d ∷ ds) n h =
      let p = and_parts (d || not (is_some u.end)) (are_done us ds) h in
      go p.0 (done-at us ds (omega (arith, n)) p.1)
    where
      first : (e b : Bool) → e ≡ true → (b || not e) ≡ true → b ≡ true
      first e true q f = refl
      first e false q f = absurd (true≢false (sym f ∙ ap not q))

      go : (d || not (is_some u.end)) ≡ true → AllDone us ds → (i : ℕ) (t : Trace A) → slice_get (u ∷ us) i ≡ Some t → is_some t.end ≡ true → slice_get (d ∷ ds) i ≡ Some true
      go f more zero t g e = ap Some (first (is_some u.end) d (ap (λ (v : Trace A). is_some v.end) (same_Some u t g) ∙ e) f)
      go f more (suc i) t g e = more i t g e

  done-all : (us : List (Trace A)) (done : List Bool) → AllDone us done → are_done us done ≡ true
  done-all [] done h = refl
  done-all (u ∷ us) [] h = refl
  done-all (u ∷ us) (true ∷ ds) h = done-all us ds (λ i t g e. h (suc i) t g e)
  done-all (u ∷ us) (false ∷ ds) h = go (is_some u.end) refl (done-all us ds (λ i t g f. h (suc i) t g f))
    where
      go : (b : Bool) → is_some u.end ≡ b → are_done us ds ≡ true → (not (is_some u.end) && are_done us ds) ≡ true
      go true e r = absurd (true≢false (same_Some true false (sym (h 0 u refl e))))
      go false e r = ap (λ b. not b && are_done us ds) e ∙ r

  complete-done : (done : List Bool) → length done ≡ length ts → are_done ts done ≡ true → AllDone ts done
  complete-done done n h = done-at ts done n h

  incomplete : (done : List Bool) → length done ≡ length ts → are_done ts done ≡ false → AllDone ts done → ⊥
  incomplete done n h f = true≢false (sym (done-all ts done f) ∙ h)

  replicated : (us : List (Trace A)) → replicate (length us) false ≡ none_done us
  replicated [] = refl
  replicated (u ∷ us) = ap (λ ds. false ∷ ds) (replicated us)

module _ {A : Type 0} (c : Catalog) (ts : List (Trace A)) where
  -- ---- sound tables stay so

  alone-sound : (qs : List (Statement A × Reply A)) (X Y : Tables A) → are_fit c qs ≡ true → is_sound c X ≡ true → alone c qs X ≡ Some Y → is_sound c Y ≡ true
  alone-sound [] X Y f s e = subst (λ Z. is_sound c Z ≡ true) (same_Some X Y e) s
  alone-sound (q ∷ qs) X Y f s e =
      let p = and_parts (fits c q.0) (are_fit c qs) f in
      go (agrees (outcome c q.0 X).reply q.1) (λ h. alone-sound qs (after c q.0 X) Y p.1 (sound_after c q.0 X p.0 s) h) e
    where
      go : (b : Bool) → (alone c qs (after c q.0 X) ≡ Some Y → is_sound c Y ≡ true) → cond b (alone c qs (after c q.0 X)) None ≡ Some Y → is_sound c Y ≡ true
      go true k h = k h
      go false k h = cc

  pub fit-at : (us : List (Trace A)) (i : ℕ) (t : Trace A) → all_fit c us ≡ true → slice_get us i ≡ Some t → are_fit c t.statements ≡ true
  fit-at [] i t f e = cc
  fit-at (u ∷ us) zero t f e = subst (λ v. are_fit c v.statements ≡ true) (same_Some u t e) (and_parts (are_fit c u.statements) (all_fit c us) f).0
  fit-at (u ∷ us) (suc i) t f e = fit-at us i t (and_parts (are_fit c u.statements) (all_fit c us) f).1 e

  -- ---- the path

  module _ (P : List Bool → Tables A → ℕ → Type 0) where
    comes-sound : (path : List (Passing A)) (done those : List Bool) (X Z : Tables A) → all_fit c ts ≡ true → is_sound c X ≡ true → Comes c ts P done X path those Z → is_sound c Z ≡ true
    comes-sound [] done those X Z f s h = subst (λ V. is_sound c V ≡ true) (sym h.1) s
    comes-sound (p ∷ path) done those X Z f s h =
        comes-sound path (slice_set done p.place true) those h.1 Z f (alone-sound h.0.statements X h.1 (fit-at ts p.place h.0 f h.2.stands) s h.3) h.6

    comes-more : (path : List (Passing A)) (done those : List Bool) (X Z : Tables A) (p : Passing A) (t : Trace A) (Y : Tables A) → Comes c ts P done X path those Z → MayCome ts those p.place t → alone c t.statements Z ≡ Some Y → put_back p.back Y ≡ Z
        → P those Z p.place → Comes c ts P done X (path ++ p ∷ []) (slice_set those p.place true) Y
    comes-more [] done those X Z p t Y h m a b k = (
      t,
      Y,
      subst (λ d. MayCome ts d p.place t) h.0 m,
      ap (alone c t.statements) (sym h.1) ∙ a,
      b ∙ h.1,
      subst (λ V. P done V p.place) h.1 (subst (λ d. P d Z p.place) h.0 k),
      (ap (λ d. slice_set d p.place true) h.0, refl),
    )
    comes-more (q ∷ path) done those X Z p t Y h m a b k = (h.0, h.1, h.2, h.3, h.4, h.5, comes-more path (slice_set done q.place true) those h.1 Z p t Y h.6 m a b k)

    -- What is known where the last of the path is taken back.
    record Back (done : List Bool) (X : Tables A) (path : List (Passing A)) (p : Passing A) (those : List Bool) (Z : Tables A) : Type 0 where
      comes : Comes c ts P done X path (slice_set those p.place false) (put_back p.back Z)
      known : P (slice_set those p.place false) (put_back p.back Z) p.place
      transaction : Trace A
      may : MayCome ts (slice_set those p.place false) p.place transaction
      again : alone c transaction.statements (put_back p.back Z) ≡ Some Z
      those_are : those ≡ slice_set (slice_set those p.place false) p.place true

    comes-less : (path : List (Passing A)) (done those : List Bool) (X Z : Tables A) (p : Passing A) → Comes c ts P done X (path ++ p ∷ []) those Z → Back done X path p those Z
    comes-less [] done those X Z p h =
        let d : slice_set those p.place false ≡ done = ap (λ e. slice_set e p.place false) h.6.0 ∙ set-back done p.place false true h.2.left in
        let z : put_back p.back Z ≡ X = ap (put_back p.back) h.6.1 ∙ h.4 in
        record {
          comes = (d, z);
          known = subst (λ V. P (slice_set those p.place false) V p.place) (sym z) (subst (λ e. P e X p.place) (sym d) h.5);
          transaction = h.0;
          may = subst (λ e. MayCome ts e p.place h.0) (sym d) h.2;
          again = ap (alone c h.0.statements) z ∙ h.3 ∙ ap Some (sym h.6.1);
          those_are = h.6.0 ∙ ap (λ e. slice_set e p.place true) (sym d);
        }
    comes-less (q ∷ path) done those X Z p h =
        let b = comes-less path (slice_set done q.place true) those h.1 Z p h.6 in
        record {
          comes = (h.0, h.1, h.2, h.3, h.4, h.5, b.comes);
          known = b.known;
          transaction = b.transaction;
          may = b.may;
          again = b.again;
          those_are = b.those_are;
        }

    comes-goes : (path : List (Passing A)) (done those : List Bool) (X Z : Tables A) → Comes c ts P done X path those Z → AllDone ts those → Goes c ts done X (map (λ (p : Passing A). p.place) path)
    comes-goes [] done those X Z h f = subst (AllDone ts) h.0 f
    comes-goes (p ∷ path) done those X Z h f = (h.0, h.1, h.2, h.3, comes-goes path (slice_set done p.place true) those h.1 Z h.6 f)

  -- ---- what has been tried

  pub exhausted : (done : List Bool) (X : Tables A) (from : ℕ) → AreTried c ts done X from → ((j : ℕ) → from ≤ j → comes ts done j ≡ false) → (AllDone ts done → ⊥) → IsDead c ts done X
  exhausted done X from tr skip u = go
    where
      go : (order : List ℕ) → Goes c ts done X order → ⊥
      go [] g = u g
      go (i ∷ later) g = at (cases_lt i from)
        where
          at : (i < from) ⊎ (from ≤ i) → ⊥
          at (inl l) = tr i later l g
          at (inr l) = comes-not ts done i g.0 (skip i l) g.2

  skipped-tried : (done : List Bool) (X : Tables A) (from i : ℕ) → AreTried c ts done X from → ((j : ℕ) → from ≤ j → j < i → comes ts done j ≡ false) → AreTried c ts done X i
  skipped-tried done X from i tr skip = λ k later l g. at k later l g (cases_lt k from)
    where
      at : (k : ℕ) (later : List ℕ) → k < i → Goes c ts done X (k ∷ later) → (k < from) ⊎ (from ≤ k) → ⊥
      at k later l g (inl b) = tr k later b g
      at k later l g (inr b) = comes-not ts done k g.0 (skip k b l) g.2

  tried-behind : (done : List Bool) (X : Tables A) (i : ℕ) → AreTried c ts done X i → ((later : List ℕ) → Goes c ts done X (i ∷ later) → ⊥) → AreTried c ts done X (behind i)
  tried-behind done X i tr skip = λ k later l g. at k later l g (cases_eq k i)
    where
      at : (k : ℕ) (later : List ℕ) → k < behind i → Goes c ts done X (k ∷ later) → (k ≡ i) ⊎ (k ≡ i → ⊥) → ⊥
      at k later l g (inl e) = skip later (subst (λ j. Goes c ts done X (j ∷ later)) e g)
      at k later l g (inr n) = tr k later (within-behind k i l n) g

  same-turn : (i : ℕ) (t u : Trace A) → slice_get ts i ≡ Some t → slice_get ts i ≡ Some u → t ≡ u
  same-turn i t u e f = same_Some t u (sym e ∙ f)

  no-turn : (done : List Bool) (X : Tables A) (i : ℕ) (t : Trace A) → slice_get ts i ≡ Some t → alone c t.statements X ≡ None → (later : List ℕ) → Goes c ts done X (i ∷ later) → ⊥
  no-turn done X i t e none = λ later g. let h : alone c g.0.statements X ≡ None = ap (λ (u : Trace A). alone c u.statements X) (same-turn i g.0 t g.2.stands e) ∙ none in none-some (sym h ∙ g.3)
    where
      none-some : {Y : Tables A} → None ≡ Some Y → ⊥
      none-some q = cc

  dead-turn : (done : List Bool) (X Y : Tables A) (i : ℕ) (t : Trace A) → slice_get ts i ≡ Some t → alone c t.statements X ≡ Some Y → IsDead c ts (slice_set done i true) Y → (later : List ℕ) → Goes c ts done X (i ∷ later) → ⊥
  dead-turn done X Y i t e a dead = λ later g.
      let y : g.1 ≡ Y = same_Some g.1 Y (sym g.3 ∙ ap (λ (u : Trace A). alone c u.statements X) (same-turn i g.0 t g.2.stands e) ∙ a) in
      dead later (subst (λ V. Goes c ts (slice_set done i true) V later) y g.4)

module _ {A : Type 0} (c : Catalog) (X : Tables A) (ts : List (Trace A)) where
  abbrev Tried : List Bool → Tables A → ℕ → Type 0
  Tried = IsTried c ts

  -- ---- a search

  pub walk-sound : (w : Standing A) → all_fit c ts ≡ true → is_sound c X ≡ true → IsWalk c X ts w → is_sound c w.tables ≡ true
  walk-sound w f s h = comes-sound c ts Tried w.path (none_done ts) w.done X w.tables f s h.comes

  -- the transaction at a place gets an answer that differs
  pub passed : (w v : Standing A) (i : ℕ) → ((t : Trace A) → slice_get ts i ≡ Some t → HasTurned c t w i false v) → IsWalk c X ts w → CanCome ts w i → IsWalk c X ts (record v { from = behind i })
  passed w v i h k m =
      let s = comes-may ts w.done i m.0 in
      let turn = h s.0 s.1.stands in
      subst (λ u. IsWalk c X ts (record u { from = behind i })) (sym turn.1) (record {
        comes = k.comes;
        tried = tried-behind c ts w.done w.tables i (skipped-tried c ts w.done w.tables w.from i k.tried m.1) (no-turn c ts w.done w.tables i s.0 s.1.stands turn.0);
        unfinished = k.unfinished;
        count = k.count;
      })

  -- the search goes on with it
  pub turned : (w v : Standing A) (i : ℕ) → ((t : Trace A) → slice_get ts i ≡ Some t → HasTurned c t w i true v) → IsWalk c X ts w → CanCome ts w i → IsStep c X ts v
  turned w v i h k m =
      let s = comes-may ts w.done i m.0 in
      let turn = h s.0 s.1.stands in
      subst (IsStep c X ts) (sym turn.4) (record {
        comes = comes-more c ts Tried w.path (none_done ts) w.done X w.tables (record { place = i; back = turn.0 }) s.0 turn.1 k.comes s.1 turn.2 turn.3
            (record { before = skipped-tried c ts w.done w.tables w.from i k.tried m.1; unfinished = k.unfinished });
        count = length-set w.done i true ∙ k.count;
        tried = λ j later l g. absurd (omega (arith, l));
      })

  pub step-found : (v : Standing A) → IsStep c X ts v → are_done ts v.done ≡ true → Explains c X ts (places_of v)
  step-found v s f = goes-explained c ts X (places_of v) (comes-goes c ts Tried v.path (none_done ts) v.done X v.tables s.comes (complete-done ts v.done s.count f))

  pub step-walk : (v : Standing A) → IsStep c X ts v → are_done ts v.done ≡ false → IsWalk c X ts v
  step-walk v s f = record { comes = s.comes; tried = s.tried; unfinished = incomplete ts v.done s.count f; count = s.count }

  walk-step : (w : Standing A) → IsWalk c X ts w → IsStep c X ts w
  walk-step w k = record { comes = k.comes; tried = k.tried; count = k.count }

  taken-back : (w : Standing A) (path : List (Passing A)) (p : Passing A) → IsStep c X ts w → IsDead c ts w.done w.tables → w.path ≡ path ++ p ∷ [] → IsWalk c X ts (taken_back w path p)
  taken-back w path p h dead e =
      let b = comes-less c ts Tried path (none_done ts) w.done X w.tables p (subst (λ ps. Comes c ts Tried (none_done ts) X ps w.done w.tables) e h.comes) in
      record {
        comes = b.comes;
        tried = tried-behind c ts (slice_set w.done p.place false) (put_back p.back w.tables) p.place b.known.before
            (dead-turn c ts (slice_set w.done p.place false) (put_back p.back w.tables) w.tables p.place b.transaction b.may.stands b.again (subst (λ d. IsDead c ts d w.tables) b.those_are dead));
        unfinished = b.known.unfinished;
        count = length-set w.done p.place false ∙ h.count;
      }

  no-order : (w : Standing A) → IsStep c X ts w → IsDead c ts w.done w.tables → w.path ≡ [] → Unexplained c X ts
  no-order w h dead e =
      let s = subst (λ ps. Comes c ts Tried (none_done ts) X ps w.done w.tables) e h.comes in
      λ order x. dead order (subst (λ V. Goes c ts w.done V order) (sym s.1) (subst (λ d. Goes c ts d X order) (sym s.0) (explained-goes c ts X order x)))

  -- where it is known that no order goes on, what comes is taken back
  pub known-back : (w v : Standing A) (o : Option ℕ) → IsWalk c X ts w → IsDead c ts w.done w.tables → HasTakenBack w o v → IsWalk c X ts v
  known-back w v None k dead h = subst (IsWalk c X ts) (sym h.1) k
  known-back w v (Some place) k dead h = subst (IsWalk c X ts) (sym h.3) (taken-back w h.0 h.1 (walk-step w k) dead h.2)

  -- where none can come, no order goes on
  pub none-dead : (w : Standing A) → IsWalk c X ts w → NoneCan ts w → IsDead c ts w.done w.tables
  none-dead w k skip = exhausted c ts w.done w.tables w.from k.tried skip k.unfinished

  pub none-back : (w v : Standing A) (place : ℕ) → IsWalk c X ts w → NoneCan ts w → HasTakenBack w (Some place) v → IsWalk c X ts v
  none-back w v place k skip h = known-back w v (Some place) k (none-dead w k skip) h

  pub none-explains : (w v : Standing A) → IsWalk c X ts w → NoneCan ts w → HasTakenBack w None v → Unexplained c X ts
  none-explains w v k skip h = no-order w (walk-step w k) (none-dead w k skip) h.0

  -- ---- its beginning

  pub begin-step : (w : Standing A) → w ≡ start_of (length ts) X → IsStep c X ts w
  begin-step w e = subst (IsStep c X ts) (sym e) (record { comes = (replicated ts ts, refl); tried = λ k later l g. absurd (omega (arith, l)); count = length-replicate (length ts) false })

  -- ---- a path

  pub path-sound : (w : Standing A) → all_fit c ts ≡ true → is_sound c X ≡ true → IsPath c X ts w → is_sound c w.tables ≡ true
  path-sound w f s h = comes-sound c ts Anything w.path (none_done ts) w.done X w.tables f s h.comes

  pub begin-path : (w : Standing A) → w ≡ start_of (length ts) X → IsPath c X ts w
  begin-path w e = subst (IsPath c X ts) (sym e) (record { comes = (replicated ts ts, refl); count = length-replicate (length ts) false })

  pub path-on : (w v : Standing A) (i : ℕ) (t : Trace A) (b : Bool) → slice_get ts i ≡ Some t → HasTurned c t w i b v → comes ts w.done i ≡ true → IsPath c X ts w → IsPath c X ts v
  path-on w v i t false g h m k = subst (IsPath c X ts) (sym h.1) k
  path-on w v i t true g h m k =
      let s = comes-may ts w.done i m in
      subst (IsPath c X ts) (sym h.4) (record {
        comes = comes-more c ts Anything w.path (none_done ts) w.done X w.tables (record { place = i; back = h.0 }) s.0 h.1 k.comes s.1 (ap (λ (u : Trace A). alone c u.statements w.tables) (same-turn c ts i s.0 t s.1.stands g) ∙ h.2) h.3 tt;
        count = length-set w.done i true ∙ k.count;
      })

  pub path-back : (w v : Standing A) (o : Option ℕ) → HasTakenBack w o v → IsPath c X ts w → IsPath c X ts v
  path-back w v None h k = subst (IsPath c X ts) (sym h.1) k
  path-back w v (Some place) h k =
      let b = comes-less c ts Anything h.0 (none_done ts) w.done X w.tables h.1 (subst (λ ps. Comes c ts Anything (none_done ts) X ps w.done w.tables) h.2 k.comes) in
      subst (IsPath c X ts) (sym h.3) (record { comes = b.comes; count = length-set w.done h.1.place false ∙ k.count })

  pub path-explains : (w : Standing A) → IsPath c X ts w → are_done ts w.done ≡ true → Explains c X ts (places_of w)
  path-explains w k f = goes-explained c ts X (places_of w) (comes-goes c ts Anything w.path (none_done ts) w.done X w.tables k.comes (complete-done ts w.done k.count f))

  -- ---- how it goes on

  pub none-gone : (w v : Standing A) (o : Option ℕ) → IsWalk c X ts w → NoneCan ts w → HasTakenBack w o v → HasGone c X ts (progress_of o) v
  none-gone w v None k skip h = none-explains w v k skip h
  none-gone w v (Some place) k skip h = none-back w v place k skip h
