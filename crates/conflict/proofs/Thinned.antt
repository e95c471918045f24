-- A tracker of which some transactions have gone, those alone that no later answer rests on.
use Rattle.std.proofs.Common.{◌≡◌, refl, sym, ap, subst, ◌∙◌, ℕ, ◌+◌, ◌<◌, ◌≤◌, Bool, true, false, true≢false, cond, not, ◌&&◌, ◌⊎◌, inl, inr, List, map, eqb, nat_lt, nat_le, arith}
use Rattle.std.proofs.lemmas.Bool.{leb-true, lt-ltb, ltb-true, and_parts, and_from, or_cases, or_left, or_right, false_from_ne_true}
use Rattle.std.specs.List.{filter, list_any}
use Rattle.value.specs.Isolation.{bound, first_cause, is_dangerous}
use Rattle.value.proofs.IsolationLemmas.{In}
use Rattle.value.proofs.Basics.{any-In, In-any, filter-map, In-map}
use Rattle.conflict.specs.Tracked.{Party, Tracked, IsNumbered, IsProper, node, reads, edge, is_active, is_needed, is_recent, is_writer, with_edge, with_snapshot, with_commit}
use Rattle.conflict.specs.Later.{has_committed, IsOldest}
use Rattle.value.proofs.Lists.{clash}
use Rattle.conflict.proofs.EachOf.{Each-In}
use Rattle.value.proofs.Structures.{Danger, parts, whole, no_danger, cause-kept}
use Rattle.conflict.proofs.Proper.{one_active, reads_otherwise, snapshot_stays}

-- s is r without some transactions: those whose numbers pass the test are there.
pub record Thinned (o : ℕ) (keep : ℕ → Bool) (s r : Tracked) : Type 0 where
  pub begun : s.begun ≡ r.begun
  pub commits : s.commits ≡ r.commits
  pub parties : s.parties ≡ filter (λ p. keep p.number) r.parties
  pub later : (n : ℕ) → r.begun < n → keep n ≡ true
  pub needed : (p : Party) → In p r.parties → is_needed o r.parties p ≡ true → keep p.number ≡ true

-- ---- what is needed

pub needed_cases : (o : ℕ) (ps : List Party) (p : Party) → is_needed o ps p ≡ true → (is_recent o p ≡ true) ⊎ ((q : Party) × In q ps × (is_recent o q ≡ true) × (edge q p ≡ true))
needed_cases o ps p e = go (or_cases (is_recent o p) (list_any (λ q. is_recent o q && edge q p) ps) e)
  where
    go : (is_recent o p ≡ true) ⊎ (list_any (λ q. is_recent o q && edge q p) ps ≡ true) → (is_recent o p ≡ true) ⊎ ((q : Party) × In q ps × (is_recent o q ≡ true) × (edge q p ≡ true))
    go (inl r) = inl r
    go (inr a) =
        let x = any-In (λ q. is_recent o q && edge q p) ps a in
        let b = and_parts (is_recent o x.0) (edge x.0 p) x.2 in
        inr (x.0, x.1, b.0, b.1)

pub needed_recent : (o : ℕ) (ps : List Party) (p : Party) → is_recent o p ≡ true → is_needed o ps p ≡ true
needed_recent o ps p e = or_left (is_recent o p) (list_any (λ q. is_recent o q && edge q p) ps) e

pub needed_by : (o : ℕ) (ps : List Party) (p q : Party) → In q ps → is_recent o q ≡ true → edge q p ≡ true → is_needed o ps p ≡ true
needed_by o ps p q i r e = or_right (is_recent o p) (list_any (λ x. is_recent o x && edge x p) ps) (In-any (λ x. is_recent o x && edge x p) ps q i (and_from (is_recent o q) (edge q p) r e))

pub active_recent : (o : ℕ) (p : Party) → p.active ≡ true → is_recent o p ≡ true
active_recent o p e = or_left p.active (nat_lt o (bound node edge p)) e

-- an edge leads to a commit above the snapshot
pub above : (p q : Party) → edge p q ≡ true → p.snapshot < q.commit
above p q e =
    let a = and_parts (not (eqb q.number p.number) && nat_lt p.snapshot q.commit) (reads p q) in
    let b = and_parts (not (eqb p.number q.number) && nat_lt p.snapshot q.commit) (reads p q) e in
    ltb-true p.snapshot q.commit (and_parts (not (eqb p.number q.number)) (nat_lt p.snapshot q.commit) b.0).1

-- a commit above o is recent
late_recent : (o n m : ℕ) (p : Party) → IsNumbered n m p → o < p.commit → is_recent o p ≡ true
late_recent o n m p num l = or_right p.active (nat_lt o (bound node edge p)) (go p.read_write refl)
  where
    go : (b : Bool) → p.read_write ≡ b → nat_lt o (cond b p.commit p.snapshot) ≡ true
    go true e = lt-ltb o p.commit l
    go false e = let z = num.reader e in absurd (omega (arith, z, l))

module _ (o : ℕ) (r : Tracked) (h : IsProper r) (old : IsOldest o r) where
  num : (p : Party) → In p r.parties → IsNumbered r.begun r.commits p
  num p i = Each-In (IsNumbered r.begun r.commits) r.parties p h.numbered i

  oldest : (p : Party) → In p r.parties → p.active ≡ true → o ≤ p.snapshot
  oldest p i = Each-In (λ (x : Party). x.active ≡ true → o ≤ x.snapshot) r.parties p old.active i

  -- one to which an active one has an edge
  out_recent : (p q : Party) → In p r.parties → In q r.parties → p.active ≡ true → edge p q ≡ true → is_recent o q ≡ true
  out_recent p q i j a e = late_recent o r.begun r.commits q (num q j) (let x = oldest p i a in let y = above p q e in omega (arith, x, y))

  -- ---- what is needed after a report was needed before it

  module _ (f : Party → Party) (number : (p : Party) → (f p).number ≡ p.number)
      (recent_back : (p : Party) → In p r.parties → is_recent o (f p) ≡ true → is_recent o p ≡ true)
      (edge_back : (q p : Party) → In q r.parties → In p r.parties → edge (f q) (f p) ≡ true → (edge q p ≡ true) ⊎ (is_recent o p ≡ true)) where
    needed_back : (p : Party) → In p r.parties → is_needed o (map f r.parties) (f p) ≡ true → is_needed o r.parties p ≡ true
    needed_back p i e = go (needed_cases o (map f r.parties) (f p) e)
      where
        by : (q : Party) → In q r.parties → is_recent o q ≡ true → (edge q p ≡ true) ⊎ (is_recent o p ≡ true) → is_needed o r.parties p ≡ true
        by q j x (inl y) = needed_by o r.parties p q j x y
        by q j x (inr y) = needed_recent o r.parties p y

        go : (is_recent o (f p) ≡ true) ⊎ ((q : Party) × In q (map f r.parties) × (is_recent o q ≡ true) × (edge q (f p) ≡ true)) → is_needed o r.parties p ≡ true
        go (inl x) = needed_recent o r.parties p (recent_back p i x)
        go (inr x) =
            let m = In-map f x.0 r.parties x.1 in
            by m.0 m.1 (recent_back m.0 m.1 (subst (λ z. is_recent o z ≡ true) m.2 x.2)) (edge_back m.0 p m.1 i (subst (λ z. edge z (f p) ≡ true) m.2 x.3))

    -- those that are kept after it, as those that were kept before
    pub thinned_needed : (keep : ℕ → Bool) → ((p : Party) → In p r.parties → is_needed o r.parties p ≡ true → keep p.number ≡ true) → (p : Party) → In p (map f r.parties) → is_needed o (map f r.parties) p ≡ true → keep p.number ≡ true
    thinned_needed keep before p i e =
        let m = In-map f p r.parties i in
        let x = before m.0 m.1 (needed_back m.0 m.1 (subst (λ z. is_needed o (map f r.parties) z ≡ true) m.2 e)) in
        subst (λ n. keep n ≡ true) (sym (ap (λ (z : Party). z.number) m.2 ∙ number m.0)) x

  -- an edge
  pub edge_step : (t u : ℕ) → (has_committed t r.parties && has_committed u r.parties) ≡ false → (q p : Party) → In q r.parties → In p r.parties → edge (with_edge r.begun t u q) (with_edge r.begun t u p) ≡ true → (edge q p ≡ true) ⊎ (is_recent o p ≡ true)
  edge_step t u new q p j i e = go (eqb q.number t && eqb u p.number) refl
    where
      k : ((not (eqb q.number p.number) && nat_lt q.snapshot p.commit) ≡ true) × (reads (with_edge r.begun t u q) p ≡ true)
      k = and_parts (not (eqb q.number p.number) && nat_lt q.snapshot p.commit) (reads (with_edge r.begun t u q) p) e

      late : q.active ≡ true → is_recent o p ≡ true
      late a = late_recent o r.begun r.commits p (num p i) (let x = oldest q j a in let y = ltb-true q.snapshot p.commit (and_parts (not (eqb q.number p.number)) (nat_lt q.snapshot p.commit) k.0).1 in omega (arith, x, y))

      one : (q.active ≡ true) ⊎ (p.active ≡ true) → is_recent o p ≡ true
      one (inl a) = late a
      one (inr a) = active_recent o p a

      go : (b : Bool) → (eqb q.number t && eqb u p.number) ≡ b → (edge q p ≡ true) ⊎ (is_recent o p ≡ true)
      go true d = inr (one (one_active t u r.parties new q p j i d))
      go false d = inl (and_from (not (eqb q.number p.number) && nat_lt q.snapshot p.commit) (reads q p) k.0 (sym (reads_otherwise r.begun t u q p d) ∙ k.1))

  -- another snapshot
  pub move_recent : (t n : ℕ) (p : Party) → In p r.parties → is_recent o (with_snapshot t n p) ≡ true → is_recent o p ≡ true
  move_recent t n p i e = go p.active refl
    where
      go : (b : Bool) → p.active ≡ b → is_recent o p ≡ true
      go true a = active_recent o p a
      go false a = subst (λ z. is_recent o z ≡ true) (snapshot_stays t n p a) e

  pub moved_snapshot : (t n : ℕ) → o ≤ n → (p : Party) → In p r.parties → p.active ≡ true → o ≤ (with_snapshot t n p).snapshot
  moved_snapshot t n from p i a = go (is_active t p) (oldest p i a)
    where
      go : (b : Bool) → o ≤ p.snapshot → o ≤ cond b n p.snapshot
      go true x = from
      go false x = x

  pub move_step : (t n : ℕ) → o ≤ n → (q p : Party) → In q r.parties → In p r.parties → edge (with_snapshot t n q) (with_snapshot t n p) ≡ true → (edge q p ≡ true) ⊎ (is_recent o p ≡ true)
  move_step t n from q p j i e = go q.active refl
    where
      go : (b : Bool) → q.active ≡ b → (edge q p ≡ true) ⊎ (is_recent o p ≡ true)
      go true a = inr (late_recent o r.begun r.commits p (num p i) (let x = moved_snapshot t n from q j a in let y = above (with_snapshot t n q) (with_snapshot t n p) e in omega (arith, x, y)))
      go false a = inl (subst (λ z. edge z p ≡ true) (snapshot_stays t n q a) e)

-- one that isn't the committer's stays as it is
pub commit_stays : (t n : ℕ) (p : Party) → is_active t p ≡ false → with_commit t n p ≡ p
commit_stays t n p = go (eqb p.number t) p.active refl
  where
    go : (b a : Bool) → p.active ≡ a → (b && a) ≡ false → record p { active = not b && p.active; commit = cond (b && p.active && p.read_write) n p.commit } ≡ p
    go true true e h = absurd (true≢false h)
    go true false e h = ap (λ x. record p { active = x; commit = cond (p.active && p.read_write) n p.commit }) (sym e) ∙ ap (λ x. record p { commit = cond (x && p.read_write) n p.commit }) e
    go false a e h = refl

pub one_more : (c n : ℕ) (b : Bool) (m : ℕ) → m ≤ c → n ≡ c + 1 → cond b n m ≤ c + 1
one_more c n true m h e = omega (arith, e)
one_more c n false m h e = omega (arith, h)

module _ (o : ℕ) (r : Tracked) (h : IsProper r) (old : IsOldest o r) where
  abbrev n : ℕ
  n = r.commits + 1

  pub commit_recent : (t : ℕ) (p : Party) → In p r.parties → is_recent o (with_commit t n p) ≡ true → is_recent o p ≡ true
  commit_recent t p i e = go p.active refl
    where
      stays : (b a : Bool) → eqb p.number t ≡ b → p.active ≡ false → is_active t p ≡ false
      stays true a f g = ap (λ x. x && p.active) f ∙ g
      stays false a f g = ap (λ x. x && p.active) f

      go : (b : Bool) → p.active ≡ b → is_recent o p ≡ true
      go true a = active_recent o p a
      go false a = subst (λ z. is_recent o z ≡ true) (commit_stays t n p (stays (eqb p.number t) false refl a)) e

  pub commit_step : (t : ℕ) (q p : Party) → In q r.parties → In p r.parties → edge (with_commit t n q) (with_commit t n p) ≡ true → (edge q p ≡ true) ⊎ (is_recent o p ≡ true)
  commit_step t q p j i e = go (is_active t p) refl
    where
      go : (b : Bool) → is_active t p ≡ b → (edge q p ≡ true) ⊎ (is_recent o p ≡ true)
      go true a = inr (active_recent o p (and_parts (eqb p.number t) p.active a).1)
      go false a = inl (subst (λ z. edge (with_commit t n q) z ≡ true) (commit_stays t n p a) e)

  -- ---- the structure that a commit would make is of those that are needed

  module _ (keep : ℕ → Bool) (t : ℕ) (needed : (p : Party) → In p r.parties → is_needed o r.parties p ≡ true → keep p.number ≡ true) where
    abbrev g : Party → Party
    g = with_commit t n

    abbrev Kept : Party → Type 0
    Kept p = keep p.number ≡ true

    kept_recent : (p : Party) → In p r.parties → is_recent o p ≡ true → Kept p
    kept_recent p i e = needed p i (needed_recent o r.parties p e)

    kept_active : (p : Party) → In p r.parties → is_active t p ≡ true → Kept p
    kept_active p i e = kept_recent p i (active_recent o p (and_parts (eqb p.number t) p.active e).1)

    kept_late : (p : Party) → In p r.parties → o < p.commit → Kept p
    kept_late p i l = kept_recent p i (late_recent o r.begun r.commits p (num o r h old p i) l)

    -- the last one has committed before
    last_before : (b c : Party) → In b r.parties → In c r.parties → edge (g b) (g c) ≡ true → nat_lt (g c).commit (g b).commit ≡ true → is_active t c ≡ false
    last_before b c j k e l = false_from_ne_true (is_active t c) (λ a. late a c.read_write refl)
      where
        most : (g b).commit ≤ n
        most = one_more r.commits n (is_writer t b) b.commit (num o r h old b j).commit refl

        late : is_active t c ≡ true → (w : Bool) → c.read_write ≡ w → ⊥
        late a true w = absurd (
            let x : (g c).commit ≡ n = ap (λ z. cond z n c.commit) (and_from (is_active t c) c.read_write a w) in
            let y = ltb-true (g c).commit (g b).commit l in
            omega (arith, x, y, most))
        late a false w = absurd (
            let z : is_writer t c ≡ false = ap (λ x. is_active t c && x) w ∙ and_no (is_active t c) in
            let x : (g c).commit ≡ c.commit = ap (λ y. cond y n c.commit) z in
            let y : c.commit ≡ 0 = (num o r h old c k).reader w in
            let u = above (g b) (g c) e in
            omega (arith, x, y, u))
          where
            and_no : (x : Bool) → (x && false) ≡ false
            and_no true = refl
            and_no false = refl

    module _ (a b c : Party) (i : In a r.parties) (j : In b r.parties) (k : In c r.parties) (d : Danger node edge (g a) (g b) (g c)) where
      same_c : g c ≡ c
      same_c = commit_stays t n c (last_before b c j k d.out d.before)

      -- the committer is the pivot
      by_pivot : is_active t b ≡ true → Kept a × Kept b × Kept c
      by_pivot x = (first (is_active t a) refl, kept_active b j x, kept_late c k late)
        where
          late : o < c.commit
          late =
              let y = oldest o r h old b j (and_parts (eqb b.number t) b.active x).1 in
              let z = above (g b) c (subst (λ u. edge (g b) u ≡ true) same_c d.out) in
              omega (arith, y, z)

          bounded : g a ≡ a → nat_lt o (bound node edge a) ≡ true
          bounded e =
              let y = leb-true c.commit (bound node edge a) (subst (λ u. nat_le u.commit (bound node edge a) ≡ true) same_c (subst (λ u. nat_le (g c).commit (bound node edge u) ≡ true) e d.within)) in
              lt-ltb o (bound node edge a) (omega (arith, y, late))

          first : (s : Bool) → is_active t a ≡ s → Kept a
          first true e = kept_active a i e
          first false e = kept_recent a i (or_right a.active (nat_lt o (bound node edge a)) (bounded (commit_stays t n a e)))

      -- the committer is the first, and the pivot has committed before
      by_first : is_active t a ≡ true → g b ≡ b → Kept a × Kept b × Kept c
      by_first x same = (kept_active a i x, kept_recent b j recent, needed c k (needed_by o r.parties c b j recent (subst (λ u. edge b u ≡ true) same_c (subst (λ u. edge u (g c) ≡ true) same d.out))))
        where
          recent : is_recent o b ≡ true
          recent =
              let y = oldest o r h old a i (and_parts (eqb a.number t) a.active x).1 in
              let z = above (g a) b (subst (λ u. edge (g a) u ≡ true) same d.into) in
              late_recent o r.begun r.commits b (num o r h old b j) (omega (arith, y, z))

      -- neither is: there would have been one before
      by_none : g a ≡ a → g b ≡ b → ⊥
      by_none e f =
          clash _
          (subst (λ u. is_dangerous node edge u b c ≡ true) e
          (subst (λ u. is_dangerous node edge (g a) u c ≡ true) f
          (subst (λ u. is_dangerous node edge (g a) (g b) u ≡ true) same_c (whole node edge (g a) (g b) (g c) d))))
          (no_danger node edge r.parties h.none a b c i j k)

      kept_three : Kept a × Kept b × Kept c
      kept_three = go (is_active t b) refl (is_active t a) refl
        where
          go : (x : Bool) → is_active t b ≡ x → (y : Bool) → is_active t a ≡ y → Kept a × Kept b × Kept c
          go true e y f = by_pivot e
          go false e true f = by_first f (commit_stays t n b e)
          go false e false f = absurd (by_none (commit_stays t n a f) (commit_stays t n b e))

    pub same_cause : first_cause node edge (map g (filter (λ p. keep p.number) r.parties)) ≡ first_cause node edge (map g r.parties)
    same_cause =
        ap (first_cause node edge) (sym (filter-map g (λ p. keep p.number) r.parties))
        ∙ cause-kept node edge (λ p. keep p.number) (map g r.parties) all
      where
        all : (a b c : Party) → In a (map g r.parties) → In b (map g r.parties) → In c (map g r.parties) → is_dangerous node edge a b c ≡ true → Kept a × Kept b × Kept c
        all a b c i j k e =
            let x = In-map g a r.parties i in
            let y = In-map g b r.parties j in
            let z = In-map g c r.parties k in
            let d : is_dangerous node edge (g x.0) (g y.0) (g z.0) ≡ true = subst (λ u. is_dangerous node edge u (g y.0) (g z.0) ≡ true) x.2 (subst (λ u. is_dangerous node edge a u (g z.0) ≡ true) y.2 (subst (λ u. is_dangerous node edge a b u ≡ true) z.2 e)) in
            let q = kept_three x.0 y.0 z.0 x.1 y.1 z.1 (parts node edge (g x.0) (g y.0) (g z.0) d) in
            (subst Kept (sym x.2) q.0, subst Kept (sym y.2) q.1, subst Kept (sym z.2) q.2)
