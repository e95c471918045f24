-- What the calls of a tracker leave is proper, and what was reported.
use Rattle.std.proofs.Common.{◌≡◌, refl, sym, ap, subst, ◌∙◌, ℕ, ◌+◌, ◌<◌, ◌≤◌, Bool, true, false, cond, not, ◌&&◌, ◌||◌, ◌⊎◌, inl, inr, List, [], ◌∷◌, ◌++◌, map, fold, length, Option, Some, None, Result, Ok, Err, OnOk, OnErr, eqb, nat_lt, arith}
use Rattle.std.proofs.Math.Bool.{and-false}
use Rattle.std.proofs.lemmas.Bool.{eqb-true}
use Rattle.std.proofs.lemmas.Bool.Decides.{nat_tests}
use Rattle.std.proofs.lemmas.List.Sums.{length-filter}
use Rattle.std.specs.List.{count_by, filter, find, list_any}
use Rattle.value.specs.declared.refusal.Mode.{Mode}
use Rattle.value.specs.declared.refusal.TxnNo.{TxnNo}
use Rattle.value.specs.Isolation.{is_live}
use Rattle.value.proofs.IsolationLemmas.{In}
use Rattle.value.proofs.Basics.{find-In}
use Rattle.conflict.specs.Tracked.{AreEdges, Ascending, IsSorted, Party, Rising, Tracked, Each, IsProper, after_commit, after_edge, after_edges, after_forget, cause_of, is_needed, is_rival, is_writer, lesser, next_commit, node, opened, reads, rivals, with_commit, with_edge, with_edges, with_snapshot, without_active}
use Rattle.conflict.specs.Later.{Alike, CanTellEdges, IsOldest, has_committed}
use Rattle.value.proofs.Lists.{clash}
use Rattle.conflict.proofs.EachOf.{Each-In, Each-all}
use Rattle.conflict.proofs.Proper.{proper_begin, proper_commit, proper_drop, proper_edge, proper_filter, proper_move}
use Rattle.conflict.specs.Through.{IsThrough}
use Rattle.conflict.specs.Undo.{AreSorted}
use Rattle.conflict.specs.Walks.{IsAmong, IsCommitter}
use Rattle.conflict.proofs.Alike.{forgets_alike}
use Rattle.conflict.proofs.Places.{any_found, any_none}
use Rattle.conflict.proofs.Committer.{nobody_commits, through_committer}

abbrev pub with_parties : Tracked → List Party → Tracked
with_parties s ps = record { begun = s.begun; commits = s.commits; parties = ps }

-- ---- one begins

pub begin_proper : (s now : Tracked) (t : ℕ) (m : Mode) (n : ℕ) (qs : List Party) → s ≡ now → IsProper s → now.begun < t → n ≤ now.commits → qs ≡ s.parties ++ opened t m n ∷ []
    → IsProper (record { begun = t; commits = s.commits; parties = qs })
begin_proper s now t m n qs e h later shown is =
    subst (λ ps. IsProper (record { begun = t; commits = s.commits; parties = ps })) (sym is)
    (proper_begin t m n s h (subst (λ (x : Tracked). x.begun < t) (sym e) later) (subst (λ (x : Tracked). n ≤ x.commits) (sym e) shown))

-- ---- edges

same_committed : (v b t u : ℕ) (ps : List Party) → has_committed v (map (with_edge b t u) ps) ≡ has_committed v ps
same_committed v b t u [] = refl
same_committed v b t u (p ∷ ps) = ap (λ x. not p.active && eqb p.number v || x) (same_committed v b t u ps)

still_can : (t u : ℕ) (s : Tracked) (es : List (TxnNo × TxnNo)) → CanTellEdges es s → CanTellEdges es (after_edge t u s)
still_can t u s [] can = tt
still_can t u s (e ∷ es) can = (ap (λ b. b && has_committed e.1.0 (map (with_edge s.begun t u) s.parties)) (same_committed e.0.0 s.begun t u s.parties) ∙ ap (λ b. has_committed e.0.0 s.parties && b) (same_committed e.1.0 s.begun t u s.parties) ∙ can.0, still_can t u s es can.1)

proper_edges : (es : List (TxnNo × TxnNo)) (s : Tracked) → IsProper s → CanTellEdges es s → IsProper (after_edges es s)
proper_edges [] s h can = h
proper_edges (e ∷ es) s h can = proper_edges es (after_edge e.0.0 e.1.0 s) (proper_edge e.0.0 e.1.0 s h can.0) (still_can e.0.0 e.1.0 s es can.1)

pub edges_proper : {T E : Type 0} (s now : Tracked) (es : List (TxnNo × TxnNo)) (qs : List Party) (r : Result T E) → s ≡ now → IsProper s → CanTellEdges es now → OnOk r (qs ≡ with_edges s.begun es s.parties) → OnErr r (qs ≡ s.parties)
    → IsProper (with_parties s qs)
edges_proper s now es qs (Ok v) e h can ok err = subst (λ ps. IsProper (with_parties s ps)) (sym ok) (proper_edges es s h (subst (CanTellEdges es) (sym e) can))
edges_proper s now es qs (Err v) e h can ok err = subst (λ ps. IsProper (with_parties s ps)) (sym err) h

pub edges_ok : {T E : Type 0} (s now : Tracked) (es : List (TxnNo × TxnNo)) (qs : List Party) (r : Result T E) → s ≡ now → OnOk r (qs ≡ with_edges s.begun es s.parties) → OnOk r (with_parties s qs ≡ after_edges es now)
edges_ok s now es qs (Ok v) e ok = ap (with_parties s) ok ∙ ap (after_edges es) e
edges_ok s now es qs (Err v) e ok = ok

pub edges_err : {T E : Type 0} (s now : Tracked) (qs : List Party) (r : Result T E) → s ≡ now → OnErr r (qs ≡ s.parties) → OnErr r (with_parties s qs ≡ now)
edges_err s now qs (Ok v) e err = err
edges_err s now qs (Err v) e err = ap (with_parties s) err ∙ e

-- ---- another snapshot, and an end

pub move_proper : (s now : Tracked) (t n : ℕ) (qs : List Party) → s ≡ now → IsProper s → n ≤ now.commits → qs ≡ map (with_snapshot t n) s.parties → IsProper (with_parties s qs)
move_proper s now t n qs e h shown is = subst (λ ps. IsProper (with_parties s ps)) (sym is) (proper_move t n s h (subst (λ (x : Tracked). n ≤ x.commits) (sym e) shown))

pub drop_proper : (s : Tracked) (t : ℕ) (qs : List Party) → IsProper s → qs ≡ without_active t s.parties → IsProper (with_parties s qs)
drop_proper s t qs h is = subst (λ ps. IsProper (with_parties s ps)) (sym is) (proper_drop t s h)

-- ---- a commit

some_next : (b : Bool) (n c : ℕ) → Some n ≡ cond b (Some (c + 1)) None → (b ≡ true) × (n ≡ c + 1)
some_next true n c e = (refl, cc)
some_next false n c e = cc

none_next : (b : Bool) (c : ℕ) → None ≡ cond b (Some (c + 1)) None → b ≡ false
none_next true c e = cc
none_next false c e = refl

pub commit_some : (s now : Tracked) (t n : ℕ) (number : Option ℕ) (qs : List Party) → s ≡ now → number ≡ next_commit t now → number ≡ Some n → qs ≡ map (with_commit t n) s.parties
    → record { begun = s.begun; commits = n; parties = qs } ≡ after_commit t now
commit_some s now t n number qs e next is parties =
    ap (λ ps. record { begun = s.begun; commits = n; parties = ps }) parties
    ∙ ap (λ m. record { begun = s.begun; commits = m; parties = map (with_commit t m) s.parties }) k.1
    ∙ ap (λ b. record { begun = s.begun; commits = cond b (s.commits + 1) s.commits; parties = map (with_commit t (s.commits + 1)) s.parties }) (sym k.0)
    ∙ ap (after_commit t) e
  where
    k : (list_any (is_writer t) s.parties ≡ true) × (n ≡ s.commits + 1)
    k = some_next (list_any (is_writer t) s.parties) n s.commits (sym is ∙ next ∙ sym (ap (next_commit t) e))

reader_commits : (t m n : ℕ) (ps : List Party) → list_any (is_writer t) ps ≡ false → map (with_commit t m) ps ≡ map (with_commit t n) ps
reader_commits t m n [] e = refl
reader_commits t m n (p ∷ ps) e = go (is_writer t p) e (reader_commits t m n ps)
  where
    go : (b : Bool) → (b || list_any (is_writer t) ps) ≡ false → (list_any (is_writer t) ps ≡ false → map (with_commit t m) ps ≡ map (with_commit t n) ps)
        → record p { active = not (eqb p.number t) && p.active; commit = cond b m p.commit } ∷ map (with_commit t m) ps ≡ record p { active = not (eqb p.number t) && p.active; commit = cond b n p.commit } ∷ map (with_commit t n) ps
    go true f rest = clash true refl f
    go false f rest = ap (λ qs. record p { active = not (eqb p.number t) && p.active } ∷ qs) (rest f)

pub commit_none : (s now : Tracked) (t n : ℕ) (number : Option ℕ) (qs : List Party) → s ≡ now → number ≡ next_commit t now → number ≡ None → qs ≡ map (with_commit t n) s.parties
    → with_parties s qs ≡ after_commit t now
commit_none s now t n number qs e next is parties =
    ap (with_parties s) (parties ∙ reader_commits t n (s.commits + 1) s.parties k)
    ∙ ap (λ b. record { begun = s.begun; commits = cond b (s.commits + 1) s.commits; parties = map (with_commit t (s.commits + 1)) s.parties }) (sym k)
    ∙ ap (after_commit t) e
  where
    k : list_any (is_writer t) s.parties ≡ false
    k = none_next (list_any (is_writer t) s.parties) s.commits (sym is ∙ next ∙ sym (ap (next_commit t) e))

pub commit_proper : (s now q : Tracked) (t : ℕ) → s ≡ now → IsProper s → cause_of t now ≡ None → q ≡ after_commit t now → IsProper q
commit_proper s now q t e h none is = subst IsProper (sym is) (proper_commit t now (subst IsProper e h) none)

-- ---- dooms

pub few_live : (s now : Tracked) (t : ℕ) (p : Party) (ps qs : List Party) → s ≡ now → rivals t now ≤ 63 → ps ≡ s.parties → find (λ (q : Party). eqb q.number t) ps ≡ Some p → qs ≡ s.parties → length (filter (is_live node reads p) qs) ≤ 63
few_live s now t p ps qs e few at found same =
    let number : p.number ≡ t = eqb-true p.number t (find-In (λ (q : Party). eqb q.number t) ps p found).1 in
    let k : length (filter (is_live node reads p) qs) ≡ rivals t now =
    ap (λ n. length (filter (λ (x : Party). not (eqb x.number n) && x.active && x.read_write) qs)) number
    ∙ length-filter (is_rival t) qs
    ∙ ap (count_by (is_rival t)) same
    ∙ ap (rivals t) e in
    omega (arith, k, few)

-- ---- forgetting

pub forget_proper : (s : Tracked) (o : ℕ) (qs : List Party) → IsProper s → qs ≡ filter (is_needed o s.parties) s.parties → IsProper (with_parties s qs)
forget_proper s o qs h is = subst (λ ps. IsProper (with_parties s ps)) (sym is) (proper_filter (is_needed o s.parties) s h)

pub forget_alike : (s now : Tracked) (o : ℕ) (qs : List Party) → s ≡ now → IsProper s → IsOldest o now → qs ≡ filter (is_needed o s.parties) s.parties → Alike o (with_parties s qs) now
forget_alike s now o qs e h old is =
    subst (λ x. Alike o x now) (sym (ap (with_parties s) is))
    (subst (λ x. Alike o (after_forget o s) x) e (forgets_alike o s h (subst (IsOldest o) (sym e) old)))

-- ---- the oldest snapshot

lesser_most : (n : ℕ) (p : Party) → lesser n p ≤ n
lesser_most n p = go (p.active) (nat_lt p.snapshot n) refl
  where
    go : (a b : Bool) → nat_lt p.snapshot n ≡ b → cond (a && b) p.snapshot n ≤ n
    go true true e = below
      where
        below : p.snapshot ≤ n
        below = grind (arith, nat_tests)
    go true false e = omega arith
    go false b e = omega arith

lesser_own : (n : ℕ) (p : Party) → p.active ≡ true → lesser n p ≤ p.snapshot
lesser_own n p a = subst (λ b. cond (b && nat_lt p.snapshot n) p.snapshot n ≤ p.snapshot) (sym a) (go (nat_lt p.snapshot n) refl)
  where
    go : (b : Bool) → nat_lt p.snapshot n ≡ b → cond b p.snapshot n ≤ p.snapshot
    go true e = omega arith
    go false e = grind (arith, nat_tests)

least_most : (ps : List Party) (n : ℕ) → fold lesser n ps ≤ n
least_most [] n = omega arith
least_most (p ∷ ps) n = omega (arith, least_most ps (lesser n p), lesser_most n p)

least_each : (ps : List Party) (n : ℕ) → Each (λ (p : Party). p.active ≡ true → fold lesser n ps ≤ p.snapshot) ps
least_each ps n = Each-all _ ps (λ p i a. all ps n p i a)
  where
    all : (qs : List Party) (m : ℕ) (p : Party) → In p qs → p.active ≡ true → fold lesser m qs ≤ p.snapshot
    all [] m p i a = absurd i
    all (q ∷ qs) m p (inl e) a = subst (λ (x : Party). fold lesser (lesser m q) qs ≤ x.snapshot) (sym e) (omega (arith, least_most qs (lesser m q), lesser_own m q (subst (λ (x : Party). x.active ≡ true) e a)))
    all (q ∷ qs) m p (inr i) a = all qs (lesser m q) p i a

greatest : (o : ℕ) (ps : List Party) (n : ℕ) → o ≤ n → Each (λ (p : Party). p.active ≡ true → o ≤ p.snapshot) ps → o ≤ fold lesser n ps
greatest o [] n h each = h
greatest o (p ∷ ps) n h each = greatest o ps (lesser n p) (go p.active refl (nat_lt p.snapshot n)) each.1
  where
    go : (a : Bool) → p.active ≡ a → (b : Bool) → o ≤ cond (a && b) p.snapshot n
    go true e true = each.0 e
    go true e false = h
    go false e b = h

pub oldest_is : (s now : Tracked) (ps : List Party) (o : ℕ) → s ≡ now → ps ≡ s.parties → o ≡ fold lesser s.commits ps → IsOldest o now
oldest_is s now ps o e same is =
    subst (IsOldest o) e (subst (λ n. IsOldest n s) (sym (is ∙ ap (fold lesser s.commits) same)) (record { commits = least_most s.parties s.commits; active = least_each s.parties s.commits }))

pub latest_is : (s now : Tracked) (ps : List Party) (o : ℕ) → s ≡ now → ps ≡ s.parties → o ≡ fold lesser s.commits ps → (m : ℕ) → IsOldest m now → m ≤ o
latest_is s now ps o e same is m old =
    let x : IsOldest m s = subst (IsOldest m) (sym e) old in
    subst (λ n. m ≤ n) (sym (is ∙ ap (fold lesser s.commits) same)) (greatest m s.parties s.commits x.commits x.active)

-- ---- the structure that a commit would make

nobody_found : (t : ℕ) (ps : List Party) → find (λ (q : Party). eqb q.number t) ps ≡ None → (p : Party) → In p ps → eqb p.number t ≡ false
nobody_found t [] e p i = absurd i
nobody_found t (q ∷ ps) e p i = go (eqb q.number t) refl e i (nobody_found t ps)
  where
    go : (b : Bool) → eqb q.number t ≡ b → cond b (Some q) (find (λ (x : Party). eqb x.number t) ps) ≡ None → (p ≡ q) ⊎ In p ps → (find (λ (x : Party). eqb x.number t) ps ≡ None → (x : Party) → In x ps → eqb x.number t ≡ false) → eqb p.number t ≡ false
    go true d f j rest = cc
    go false d f (inl s) rest = ap (λ (x : Party). eqb x.number t) s ∙ d
    go false d f (inr j) rest = rest f p j

pub among_found : (s : Tracked) (t : ℕ) (x : Party) (ps qs : List Party) → IsProper s → ps ≡ s.parties → find (λ (q : Party). eqb q.number t) ps ≡ Some x → qs ≡ s.parties → IsAmong qs x
among_found s t x ps qs h at found same =
    let f = find-In (λ (q : Party). eqb q.number t) ps x found in (
      subst Rising (sym same) h.rising,
      subst AreEdges (sym same) h.edges,
      ap (λ n. find (λ (q : Party). eqb q.number n) qs) (eqb-true x.number t f.1) ∙ ap (find (λ (q : Party). eqb q.number t)) (same ∙ sym at) ∙ found,
    )

pub committer_found : (s : Tracked) (t : ℕ) (x : Party) (ps qs : List Party) → IsProper s → ps ≡ s.parties → find (λ (q : Party). eqb q.number t) ps ≡ Some x → qs ≡ s.parties → IsCommitter t (s.commits + 1) x qs
committer_found s t x ps qs h at found same =
    let f = find-In (λ (q : Party). eqb q.number t) ps x found in
    let n = eqb-true x.number t f.1 in
    (among_found s t x ps qs h at found same, n, subst (λ us. Each (IsThrough t (s.commits + 1) us x) us) (sym same) (through_committer s h t x (subst (In x) at f.0) n))

pub sorted_now : (s : Tracked) (qs : List Party) → IsProper s → qs ≡ s.parties → AreSorted qs
sorted_now s qs h same = (subst Rising (sym same) h.rising, subst (Each IsSorted) (sym same) h.edges.sorted)

pub rising_now : (s : Tracked) (qs : List Party) → IsProper s → qs ≡ s.parties → Rising qs
rising_now s qs h same = subst Rising (sym same) h.rising

-- what one that was found has read stands in order
pub outs_found : (s : Tracked) (t : ℕ) (x : Party) (ps : List Party) → IsProper s → ps ≡ s.parties → find (λ (q : Party). eqb q.number t) ps ≡ Some x → Ascending x.outs
outs_found s t x ps h at found = (Each-In IsSorted s.parties x h.edges.sorted (subst (In x) at (find-In (λ (q : Party). eqb q.number t) ps x found).0)).0

pub committed_found : (s now : Tracked) (t : ℕ) (x : Party) (ps : List Party) (b : Bool) → s ≡ now → IsProper s → ps ≡ s.parties → find (λ (q : Party). eqb q.number t) ps ≡ Some x → b ≡ (not x.active && eqb x.number t) → b ≡ has_committed t now.parties
committed_found s now t x ps b e h at found is =
    is ∙ any_found (λ (p : Party). not p.active && eqb p.number t) t (λ p d. ap (λ z. not p.active && z) d ∙ and-false (not p.active)) ps x (subst Rising (sym at) h.rising) found
    ∙ ap (has_committed t) (at ∙ ap (λ (z : Tracked). z.parties) e)

pub committed_none : (s now : Tracked) (t : ℕ) (ps : List Party) → s ≡ now → ps ≡ s.parties → find (λ (q : Party). eqb q.number t) ps ≡ None → false ≡ has_committed t now.parties
committed_none s now t ps e at none =
    any_none (λ (p : Party). not p.active && eqb p.number t) t (λ p d. ap (λ z. not p.active && z) d ∙ and-false (not p.active)) ps none
    ∙ ap (has_committed t) (at ∙ ap (λ (z : Tracked). z.parties) e)

pub nobody_makes : (s now : Tracked) (t : ℕ) (ps : List Party) → s ≡ now → IsProper s → ps ≡ s.parties → find (λ (q : Party). eqb q.number t) ps ≡ None → None ≡ cause_of t now
nobody_makes s now t ps e h at none = sym (nobody_commits s h t (subst (λ us. (p : Party) → In p us → eqb p.number t ≡ false) at (nobody_found t ps none))) ∙ ap (cause_of t) e
