-- What is reported keeps the transactions in their order, and free of dangerous structures.
use Rattle.std.proofs.Common.{◌≡◌, refl, sym, ap, subst, ◌∙◌, ℕ, ◌+◌, ◌<◌, ◌≤◌, Bool, true, false, true≢false, cond, not, ◌&&◌, ◌||◌, ◌⊎◌, inl, inr, List, [], ◌∷◌, ◌++◌, map, None, eqb, nat_lt, nat_le, arith}
use Rattle.std.proofs.lemmas.Bool.{not_from_false, not-true, and_parts, and_from, false_from_ne_true}
use Rattle.std.proofs.lemmas.Bool.Decides.{nat_tests}
use Rattle.std.specs.List.{filter, list_any}
use Rattle.value.specs.declared.refusal.Mode.{Mode}
use Rattle.value.specs.Isolation.{first_cause, is_dangerous}
use Rattle.value.proofs.IsolationLemmas.{In}
use Rattle.value.proofs.Basics.{any-In, In-any, eqb_comm, In-map}
use Rattle.conflict.specs.Tracked.{AreEdges, Ascending, IsSorted, Party, Tracked, Each, IsNumbered, IsProper, Rising, is_among, put_in, node, reads, edge, opened, after_begin, after_drop, after_edge, after_move, after_commit, cause_of, is_active, is_writer, forgetful, with_edge, with_snapshot, with_commit, without}
use Rattle.conflict.specs.Later.{has_committed}
use Rattle.value.proofs.Lists.{clash, In-filter, In-append}
use Rattle.conflict.proofs.EachOf.{Each-In, Each-all}
use Rattle.conflict.proofs.Ordered.{among_other, among_put, among_still, ascending_filter, ascending_put, each_put, each_without}
use Rattle.value.proofs.Structures.{parts, whole, no_danger, no_cause}

-- ---- the order of numbers

pub each_push : {X : Type 0} (P : X → Type 0) (xs : List X) (x : X) → Each P xs → P x → Each P (xs ++ x ∷ [])
each_push P [] x e h = (h, tt)
each_push P (y ∷ xs) x e h = (e.0, each_push P xs x e.1 h)

rising_push : (ps : List Party) (p : Party) → Rising ps → Each (λ (q : Party). q.number < p.number) ps → Rising (ps ++ p ∷ [])
rising_push [] p r e = (tt, tt)
rising_push (q ∷ ps) p r e = (each_push (λ (x : Party). q.number < x.number) ps p r.0 e.0, rising_push ps p r.1 e.1)

pub each_map : {X Y : Type 0} (P : Y → Type 0) (f : X → Y) (xs : List X) → Each (λ x. P (f x)) xs → Each P (map f xs)
each_map P f [] e = tt
each_map P f (x ∷ xs) e = (e.0, each_map P f xs e.1)

pub rising_map : (f : Party → Party) → ((p : Party) → (f p).number ≡ p.number) → (ps : List Party) → Rising ps → Rising (map f ps)
rising_map f same [] r = tt
rising_map f same (p ∷ ps) r =
    (each_map (λ (x : Party). (f p).number < x.number) f ps (Each-all _ ps (λ q i. let e = Each-In (λ (x : Party). p.number < x.number) ps q r.0 i in omega (arith, e, same p, same q))), rising_map f same ps r.1)

pub each_filter : {X : Type 0} (P : X → Type 0) (k : X → Bool) (xs : List X) → Each P xs → Each P (filter k xs)
each_filter P k xs e = Each-all P (filter k xs) (λ x i. Each-In P xs x e (In-filter k x xs i).0)

pub rising_filter : (k : Party → Bool) (ps : List Party) → Rising ps → Rising (filter k ps)
rising_filter k [] r = tt
rising_filter k (p ∷ ps) r = go (k p) (rising_filter k ps r.1)
  where
    go : (b : Bool) → Rising (filter k ps) → Rising (cond b (p ∷ filter k ps) (filter k ps))
    go true rest = (each_filter (λ (x : Party). p.number < x.number) k ps r.0, rest)
    go false rest = rest

-- of one number there is one
pub one_of_number : (ps : List Party) → Rising ps → (p q : Party) → In p ps → In q ps → p.number ≡ q.number → p ≡ q
one_of_number [] r p q i j e = absurd i
one_of_number (x ∷ ps) r p q (inl i) (inl j) e = i ∙ sym j
one_of_number (x ∷ ps) r p q (inl i) (inr j) e =
    let h : x.number < q.number = Each-In (λ (y : Party). x.number < y.number) ps q r.0 j in
    let k : p.number ≡ x.number = ap (λ (y : Party). y.number) i in
    absurd (omega (arith, h, k, e))
one_of_number (x ∷ ps) r p q (inr i) (inl j) e =
    let h : x.number < p.number = Each-In (λ (y : Party). x.number < y.number) ps p r.0 i in
    let k : q.number ≡ x.number = ap (λ (y : Party). y.number) j in
    absurd (omega (arith, h, k, e))
one_of_number (x ∷ ps) r p q (inr i) (inr j) e = one_of_number ps r.1 p q i j e

-- ---- structures that stay away

-- a structure's transactions have committed
pub committed_first : (a b c : Party) → is_dangerous node edge a b c ≡ true → (a.active ≡ false) × (b.active ≡ false) × (c.active ≡ false)
committed_first a b c e = let d = parts node edge a b c e in (not-true a.active d.first, not-true b.active d.pivot, not-true c.active d.last)

-- Nothing is new among the transactions that have committed.
none_map : (f : Party → Party) (ps : List Party) → first_cause node edge ps ≡ None
    → ((a b c : Party) → In a ps → In b ps → In c ps → is_dangerous node edge (f a) (f b) (f c) ≡ true → is_dangerous node edge a b c ≡ true)
    → first_cause node edge (map f ps) ≡ None
none_map f ps none old =
    no_cause node edge (map f ps) (λ a b c i j k. false_from_ne_true _ (λ d.
    let x = In-map f a ps i in
    let y = In-map f b ps j in
    let z = In-map f c ps k in
    let g : is_dangerous node edge (f x.0) (f y.0) (f z.0) ≡ true = subst (λ u. is_dangerous node edge u (f y.0) (f z.0) ≡ true) x.2 (subst (λ u. is_dangerous node edge a u (f z.0) ≡ true) y.2 (subst (λ u. is_dangerous node edge a b u ≡ true) z.2 d)) in
    clash _ (old x.0 y.0 z.0 x.1 y.1 z.1 g) (no_danger node edge ps none x.0 y.0 z.0 x.1 y.1 z.1)))

none_filter : (k : Party → Bool) (ps : List Party) → first_cause node edge ps ≡ None → first_cause node edge (filter k ps) ≡ None
none_filter k ps none = no_cause node edge (filter k ps) (λ a b c i j l. no_danger node edge ps none a b c (In-filter k a ps i).0 (In-filter k b ps j).0 (In-filter k c ps l).0)

-- ---- edges that are known on both sides

abbrev Both : List Party → Party → Type 0
Both ps p = Each (λ (q : Party). is_among q.number p.outs ≡ is_among p.number q.ins) ps

pub edges_filter : (k : Party → Bool) (ps : List Party) → AreEdges ps → AreEdges (filter k ps)
edges_filter k ps e = record {
  sorted = each_filter IsSorted k ps e.sorted;
  both = Each-all (Both (filter k ps)) (filter k ps) (λ p i. each_filter (λ (q : Party). is_among q.number p.outs ≡ is_among p.number q.ins) k ps (Each-In (Both ps) ps p e.both (In-filter k p ps i).0));
}

-- none of them knows anything new
edges_map : (f : Party → Party) (ps : List Party) → ((p : Party) → In p ps → ((f p).number ≡ p.number) × ((f p).outs ≡ p.outs) × ((f p).ins ≡ p.ins)) → AreEdges ps → AreEdges (map f ps)
edges_map f ps same e = record {
  sorted = each_map IsSorted f ps (Each-all (λ p. IsSorted (f p)) ps (λ p i. (subst Ascending (sym (same p i).1) (Each-In IsSorted ps p e.sorted i).0, subst Ascending (sym (same p i).2) (Each-In IsSorted ps p e.sorted i).1)));
  both = each_map (Both (map f ps)) f ps (Each-all (λ p. Both (map f ps) (f p)) ps (λ p i. each_map (λ (q : Party). is_among q.number (f p).outs ≡ is_among (f p).number q.ins) f ps (Each-all _ ps (λ q j.
      ap (λ n. is_among n (f p).outs) (same q j).0 ∙ ap (is_among q.number) (same p i).1
      ∙ Each-In (λ (x : Party). is_among x.number p.outs ≡ is_among p.number x.ins) ps q (Each-In (Both ps) ps p e.both i) j
      ∙ sym (ap (λ n. is_among n (f q).ins) (same p i).0 ∙ ap (is_among p.number) (same q j).2)))));
}

none_later : (t : ℕ) (b : ℕ) (ns : List ℕ) → b < t → Each (λ n. n ≤ b) ns → is_among t ns ≡ false
none_later t b [] lt all = refl
none_later t b (n ∷ ns) lt all = ap (λ x. x || is_among t ns) (apart (let a = all.0 in omega (arith, a, lt))) ∙ none_later t b ns lt all.1
  where
    apart : n < t → eqb n t ≡ false
    apart l = grind (arith, nat_tests)

edges_begin : (t : ℕ) (m : Mode) (n b c : ℕ) (ps : List Party) → b < t → Each (IsNumbered b c) ps → AreEdges ps → AreEdges (ps ++ opened t m n ∷ [])
edges_begin t m n b c ps later num e = record {
  sorted = each_push IsSorted ps (opened t m n) e.sorted (tt, tt);
  both = each_push (Both (ps ++ opened t m n ∷ [])) ps (opened t m n) (Each-all _ ps (λ p i. each_push _ ps (opened t m n) (Each-In (Both ps) ps p e.both i) (none_later t b p.outs later (Each-In (IsNumbered b c) ps p num i).outs)))
      (each_push _ ps (opened t m n) (Each-all _ ps (λ q j. sym (none_later t b q.ins later (Each-In (IsNumbered b c) ps q num j).ins))) refl);
}

among_cond : (a : Bool) (n m : ℕ) (ns : List ℕ) → is_among m (cond a (put_in n ns) ns) ≡ (a && eqb n m || is_among m ns)
among_cond true n m ns = among_put n m ns
among_cond false n m ns = refl

both_ways : (a x c y o : Bool) → (a ≡ true → y ≡ true) → (c ≡ true → x ≡ true) → ((a && x) && c || o) ≡ ((c && y) && a || o)
both_ways true x true y o f g = ap (λ z. z && true || o) (g refl) ∙ sym (ap (λ z. z && true || o) (f refl))
both_ways true true false y o f g = refl
both_ways true false false y o f g = refl
both_ways false x true true o f g = refl
both_ways false x true false o f g = refl
both_ways false x false y o f g = refl

edges_edge : (b t u : ℕ) (ps : List Party) → Each (λ (p : Party). p.number ≤ b) ps → AreEdges ps → AreEdges (map (with_edge b t u) ps)
edges_edge b t u ps few e = record {
  sorted = each_map IsSorted (with_edge b t u) ps (Each-all (λ p. IsSorted (with_edge b t u p)) ps (λ p i. (grown (eqb p.number t && nat_le u b) u p.outs (Each-In IsSorted ps p e.sorted i).0, grown (eqb p.number u && nat_le t b) t p.ins (Each-In IsSorted ps p e.sorted i).1)));
  both = each_map (Both (map (with_edge b t u) ps)) (with_edge b t u) ps (Each-all (λ p. Both (map (with_edge b t u) ps) (with_edge b t u p)) ps (λ p i.
      each_map (λ (q : Party). is_among q.number (with_edge b t u p).outs ≡ is_among p.number q.ins) (with_edge b t u) ps (Each-all _ ps (λ q j. one p q i j))));
}
  where
    grown : (a : Bool) (n : ℕ) (ns : List ℕ) → Ascending ns → Ascending (cond a (put_in n ns) ns)
    grown true n ns x = ascending_put n ns x
    grown false n ns x = x

    within : (p : Party) → In p ps → (n : ℕ) → eqb p.number n ≡ true → nat_le n b ≡ true
    within p i n x = let l : p.number ≤ b = Each-In (λ (y : Party). y.number ≤ b) ps p few i in le_from p.number n b l x
      where
        le_from : (a c d : ℕ) → a ≤ d → eqb a c ≡ true → nat_le c d ≡ true
        le_from a c d y z = grind (arith, nat_tests)

    one : (p q : Party) → In p ps → In q ps → is_among q.number (cond (eqb p.number t && nat_le u b) (put_in u p.outs) p.outs) ≡ is_among p.number (cond (eqb q.number u && nat_le t b) (put_in t q.ins) q.ins)
    one p q i j =
        among_cond (eqb p.number t && nat_le u b) u q.number p.outs
        ∙ ap (λ x. (eqb p.number t && nat_le u b) && x || is_among q.number p.outs) (eqb_comm u q.number)
        ∙ both_ways (eqb p.number t) (nat_le u b) (eqb q.number u) (nat_le t b) (is_among q.number p.outs) (within p i t) (within q j u)
        ∙ ap (λ x. (eqb q.number u && nat_le t b) && eqb p.number t || x) (Each-In (λ (x : Party). is_among x.number p.outs ≡ is_among p.number x.ins) ps q (Each-In (Both ps) ps p e.both i) j)
        ∙ ap (λ x. (eqb q.number u && nat_le t b) && x || is_among p.number q.ins) (eqb_comm p.number t)
        ∙ sym (among_cond (eqb q.number u && nat_le t b) t p.number q.ins)

-- ---- some go

pub proper_filter : (k : Party → Bool) (s : Tracked) → IsProper s → IsProper (record s { parties = filter k s.parties })
proper_filter k s h = record {
  rising = rising_filter k s.parties h.rising;
  numbered = each_filter (IsNumbered s.begun s.commits) k s.parties h.numbered;
  edges = edges_filter k s.parties h.edges;
  none = none_filter k s.parties h.none;
}

-- ---- one goes, and the others don't know it

module _ (t : ℕ) (s : Tracked) (h : IsProper s) where
  abbrev goes : Bool
  goes = list_any (is_active t) s.parties

  abbrev left : List Party
  left = filter (λ p. not (is_active t p)) s.parties

  abbrev f : Party → Party
  f = forgetful goes t

  -- those that are left have other numbers
  apart : goes ≡ true → (p : Party) → In p left → eqb t p.number ≡ false
  apart g p i = false_from_ne_true (eqb t p.number) one
    where
      x : (y : Party) × In y s.parties × (is_active t y ≡ true)
      x = any-In (is_active t) s.parties g

      j : In p s.parties × (not (is_active t p) ≡ true)
      j = In-filter (λ q. not (is_active t q)) p s.parties i

      same_number : (a b c : ℕ) → eqb a b ≡ true → eqb c a ≡ true → c ≡ b
      same_number a b c d e = grind (arith, nat_tests)

      one : eqb t p.number ≡ true → ⊥
      one e =
          let k = one_of_number s.parties h.rising x.0 p x.1 j.0 (same_number t p.number x.0.number e (and_parts (eqb x.0.number t) x.0.active x.2).0) in
          clash (is_active t p) (subst (λ y. is_active t y ≡ true) k x.2) (not-true (is_active t p) j.1)

  num_cond : (b : Bool) (ns : List ℕ) → Each (λ n. n ≤ s.begun) ns → Each (λ n. n ≤ s.begun) (cond b (without t ns) ns)
  num_cond true ns all = each_without (λ n. n ≤ s.begun) t ns all
  num_cond false ns all = all

  up_cond : (b : Bool) (ns : List ℕ) → Ascending ns → Ascending (cond b (without t ns) ns)
  up_cond true ns a = ascending_filter (λ m. not (eqb m t)) ns a
  up_cond false ns a = a

  among_cond_other : (b : Bool) (m : ℕ) (ns : List ℕ) → (b ≡ true → eqb t m ≡ false) → is_among m (cond b (without t ns) ns) ≡ is_among m ns
  among_cond_other true m ns e = among_other t m ns (e refl)
  among_cond_other false m ns e = refl

  still_cond : (b : Bool) (m : ℕ) (ns : List ℕ) → is_among m (cond b (without t ns) ns) ≡ true → is_among m ns ≡ true
  still_cond true m ns e = among_still t m ns e
  still_cond false m ns e = e

  pub edge_still : (b : Bool) (p q : Party) → edge (forgetful b t p) (forgetful b t q) ≡ true → edge p q ≡ true
  edge_still b p q e =
      let k = and_parts (not (eqb p.number q.number) && nat_lt p.snapshot q.commit) (reads (forgetful b t p) q) e in
      and_from (not (eqb p.number q.number) && nat_lt p.snapshot q.commit) (reads p q) k.0 (still_cond b q.number p.outs k.1)

  pub proper_drop : IsProper (after_drop t s)
  proper_drop = record {
    rising = rising_map f (λ p. refl) left (rising_filter (λ p. not (is_active t p)) s.parties h.rising);
    numbered = each_map (IsNumbered s.begun s.commits) f left (Each-all _ left (λ p i. numbered p (In-filter (λ q. not (is_active t q)) p s.parties i).0));
    edges = record {
      sorted = each_map IsSorted f left (Each-all (λ p. IsSorted (f p)) left (λ p i. let e = Each-In IsSorted s.parties p h.edges.sorted (In-filter (λ q. not (is_active t q)) p s.parties i).0 in (up_cond goes p.outs e.0, up_cond goes p.ins e.1)));
      both = each_map (Both (map f left)) f left (Each-all (λ p. Both (map f left) (f p)) left (λ p i.
          each_map (λ (q : Party). is_among q.number (f p).outs ≡ is_among p.number q.ins) f left (Each-all _ left (λ q j. both p q i j))));
    };
    none = none_map f left (none_filter (λ p. not (is_active t p)) s.parties h.none) old;
  }
    where
      numbered : (p : Party) → In p s.parties → IsNumbered s.begun s.commits (f p)
      numbered p i =
          let e = Each-In (IsNumbered s.begun s.commits) s.parties p h.numbered i in
          record { number = e.number; snapshot = e.snapshot; commit = e.commit; active = e.active; reader = e.reader; outs = num_cond goes p.outs e.outs; ins = num_cond goes p.ins e.ins }

      both : (p q : Party) → In p left → In q left → is_among q.number (cond goes (without t p.outs) p.outs) ≡ is_among p.number (cond goes (without t q.ins) q.ins)
      both p q i j =
          among_cond_other goes q.number p.outs (λ g. apart g q j)
          ∙ Each-In (λ (x : Party). is_among x.number p.outs ≡ is_among p.number x.ins) s.parties q (Each-In (Both s.parties) s.parties p h.edges.both (In-filter (λ y. not (is_active t y)) p s.parties i).0) (In-filter (λ y. not (is_active t y)) q s.parties j).0
          ∙ sym (among_cond_other goes p.number q.ins (λ g. apart g p i))

      old : (a b c : Party) → In a left → In b left → In c left → is_dangerous node edge (f a) (f b) (f c) ≡ true → is_dangerous node edge a b c ≡ true
      old a b c i j k e =
          let d = parts node edge (f a) (f b) (f c) e in
          whole node edge a b c (record { first = d.first; pivot = d.pivot; last = d.last; into = edge_still goes a b d.into; out = edge_still goes b c d.out; before = d.before; within = d.within })

-- ---- one begins

pub proper_begin : (t : ℕ) (m : Mode) (n : ℕ) (s : Tracked) → IsProper s → s.begun < t → n ≤ s.commits → IsProper (after_begin t m n s)
proper_begin t m n s h later shown = record {
  rising = rising_push s.parties (opened t m n) h.rising (Each-all _ s.parties (λ p i. let e = (Each-In (IsNumbered s.begun s.commits) s.parties p h.numbered i).number in omega (arith, e, later)));
  numbered = each_push (IsNumbered t s.commits) s.parties (opened t m n) (Each-all (IsNumbered t s.commits) s.parties older) (record { number = omega arith; snapshot = shown; commit = omega arith; active = λ _. refl; reader = λ _. refl; outs = tt; ins = tt });
  edges = edges_begin t m n s.begun s.commits s.parties later h.numbered h.edges;
  none = no_cause node edge (s.parties ++ opened t m n ∷ []) (λ a b c i j k. false_from_ne_true _ (λ d. let e = committed_first a b c d in clash _ d (no_danger node edge s.parties h.none a b c (old a i e.0) (old b j e.1) (old c k e.2))));
}
  where
    older_numbers : (ns : List ℕ) → Each (λ k. k ≤ s.begun) ns → Each (λ k. k ≤ t) ns
    older_numbers [] all = tt
    older_numbers (k ∷ ns) all = (let a = all.0 in omega (arith, a, later), older_numbers ns all.1)

    older : (p : Party) → In p s.parties → IsNumbered t s.commits p
    older p i = let e = Each-In (IsNumbered s.begun s.commits) s.parties p h.numbered i in record { number = omega (arith, e.number, later); snapshot = e.snapshot; commit = e.commit; active = e.active; reader = e.reader; outs = older_numbers p.outs e.outs; ins = older_numbers p.ins e.ins }

    old : (p : Party) → In p (s.parties ++ opened t m n ∷ []) → p.active ≡ false → In p s.parties
    old p i e = go (In-append p s.parties (opened t m n ∷ []) i)
      where
        go : In p s.parties ⊎ ((p ≡ opened t m n) ⊎ ⊥) → In p s.parties
        go (inl j) = j
        go (inr (inl q)) = clash p.active (ap (λ (x : Party). x.active) q) e
        go (inr (inr j)) = absurd j

-- ---- one has read what another wrote

pub reads_otherwise : (b t u : ℕ) (p q : Party) → (eqb p.number t && eqb u q.number) ≡ false → reads (with_edge b t u p) q ≡ reads p q
reads_otherwise b t u p q = go (eqb p.number t) (nat_le u b) (eqb u q.number) refl
  where
    go : (a w c : Bool) → eqb u q.number ≡ c → (a && c) ≡ false → is_among q.number (cond (a && w) (put_in u p.outs) p.outs) ≡ is_among q.number p.outs
    go true true true e h = absurd (true≢false h)
    go true true false e h = among_put u q.number p.outs ∙ ap (λ x. x || is_among q.number p.outs) e
    go true false c e h = refl
    go false w c e h = refl

-- the reader or the writer of the new edge is active
pub one_active : (t u : ℕ) (ps : List Party) → (has_committed t ps && has_committed u ps) ≡ false → (p q : Party) → In p ps → In q ps → (eqb p.number t && eqb u q.number) ≡ true → (p.active ≡ true) ⊎ (q.active ≡ true)
one_active t u ps h p q i j e = go p.active refl q.active refl
  where
    both : (eqb p.number t ≡ true) × (eqb u q.number ≡ true)
    both = and_parts (eqb p.number t) (eqb u q.number) e

    turned : eqb q.number u ≡ true
    turned = grind (arith, nat_tests, both.1)

    go : (a : Bool) → p.active ≡ a → (b : Bool) → q.active ≡ b → (p.active ≡ true) ⊎ (q.active ≡ true)
    go true f b g = inl f
    go false f true g = inr g
    go false f false g =
        clash _
        (and_from (has_committed t ps) (has_committed u ps)
        (In-any (λ (x : Party). not x.active && eqb x.number t) ps p i (and_from (not p.active) (eqb p.number t) (not_from_false p.active f) both.0))
        (In-any (λ (x : Party). not x.active && eqb x.number u) ps q j (and_from (not q.active) (eqb q.number u) (not_from_false q.active g) turned)))
        h

pub proper_edge : (t u : ℕ) (s : Tracked) → IsProper s → (has_committed t s.parties && has_committed u s.parties) ≡ false → IsProper (after_edge t u s)
proper_edge t u s h new = record {
  rising = rising_map (with_edge s.begun t u) (λ p. refl) s.parties h.rising;
  numbered = each_map (IsNumbered s.begun s.commits) (with_edge s.begun t u) s.parties (Each-all _ s.parties numbered);
  edges = edges_edge s.begun t u s.parties (Each-all _ s.parties (λ p i. (Each-In (IsNumbered s.begun s.commits) s.parties p h.numbered i).number)) h.edges;
  none = none_map (with_edge s.begun t u) s.parties h.none old;
}
  where
    numbered : (p : Party) → In p s.parties → IsNumbered s.begun s.commits (with_edge s.begun t u p)
    numbered p i = let e = Each-In (IsNumbered s.begun s.commits) s.parties p h.numbered i in record { number = e.number; snapshot = e.snapshot; commit = e.commit; active = e.active; reader = e.reader; outs = begun_one u (eqb p.number t) (nat_le u s.begun) refl p.outs e.outs; ins = begun_one t (eqb p.number u) (nat_le t s.begun) refl p.ins e.ins }
      where
        le_of : (n : ℕ) → nat_le n s.begun ≡ true → n ≤ s.begun
        le_of n l = grind (arith, nat_tests)

        begun_one : (n : ℕ) (a w : Bool) → nat_le n s.begun ≡ w → (ns : List ℕ) → Each (λ k. k ≤ s.begun) ns → Each (λ k. k ≤ s.begun) (cond (a && w) (put_in n ns) ns)
        begun_one n true true l ns all = each_put (λ k. k ≤ s.begun) n ns (le_of n l) all
        begun_one n true false l ns all = all
        begun_one n false w l ns all = all

    same_edge : (p q : Party) → In p s.parties → In q s.parties → p.active ≡ false → q.active ≡ false → edge (with_edge s.begun t u p) (with_edge s.begun t u q) ≡ true → edge p q ≡ true
    same_edge p q i j f g e =
        let k = and_parts (not (eqb p.number q.number) && nat_lt p.snapshot q.commit) (reads (with_edge s.begun t u p) q) e in
        let o : (eqb p.number t && eqb u q.number) ≡ false = false_from_ne_true _ (λ d. neither (one_active t u s.parties new p q i j d)) in
        and_from (not (eqb p.number q.number) && nat_lt p.snapshot q.commit) (reads p q) k.0 (sym (reads_otherwise s.begun t u p q o) ∙ k.1)
      where
        neither : (p.active ≡ true) ⊎ (q.active ≡ true) → ⊥
        neither (inl x) = clash p.active x f
        neither (inr x) = clash q.active x g

    old : (a b c : Party) → In a s.parties → In b s.parties → In c s.parties → is_dangerous node edge (with_edge s.begun t u a) (with_edge s.begun t u b) (with_edge s.begun t u c) ≡ true → is_dangerous node edge a b c ≡ true
    old a b c i j k e =
        let d = parts node edge (with_edge s.begun t u a) (with_edge s.begun t u b) (with_edge s.begun t u c) e in
        let f = committed_first (with_edge s.begun t u a) (with_edge s.begun t u b) (with_edge s.begun t u c) e in
        whole node edge a b c (record { first = d.first; pivot = d.pivot; last = d.last; into = same_edge a b i j f.0 f.1 d.into; out = same_edge b c j k f.1 f.2 d.out; before = d.before; within = d.within })

-- ---- one has another snapshot

pub snapshot_stays : (t n : ℕ) (p : Party) → p.active ≡ false → with_snapshot t n p ≡ p
snapshot_stays t n p e = ap (λ b. record p { snapshot = cond b n p.snapshot }) (go (eqb p.number t))
  where
    go : (b : Bool) → (b && p.active) ≡ false
    go true = e
    go false = refl

pub proper_move : (t n : ℕ) (s : Tracked) → IsProper s → n ≤ s.commits → IsProper (after_move t n s)
proper_move t n s h shown = record {
  rising = rising_map (with_snapshot t n) (λ p. refl) s.parties h.rising;
  numbered = each_map (IsNumbered s.begun s.commits) (with_snapshot t n) s.parties (Each-all _ s.parties numbered);
  edges = edges_map (with_snapshot t n) s.parties (λ p i. (refl, refl, refl)) h.edges;
  none = none_map (with_snapshot t n) s.parties h.none old;
}
  where
    numbered : (p : Party) → In p s.parties → IsNumbered s.begun s.commits (with_snapshot t n p)
    numbered p i =
        let e = Each-In (IsNumbered s.begun s.commits) s.parties p h.numbered i in
        record { number = e.number; snapshot = go (is_active t p) e.snapshot; commit = e.commit; active = e.active; reader = e.reader; outs = e.outs; ins = e.ins }
      where
        go : (b : Bool) → p.snapshot ≤ s.commits → cond b n p.snapshot ≤ s.commits
        go true x = shown
        go false x = x

    old : (a b c : Party) → In a s.parties → In b s.parties → In c s.parties → is_dangerous node edge (with_snapshot t n a) (with_snapshot t n b) (with_snapshot t n c) ≡ true → is_dangerous node edge a b c ≡ true
    old a b c i j k e =
        let f = committed_first (with_snapshot t n a) (with_snapshot t n b) (with_snapshot t n c) e in
        subst (λ x. is_dangerous node edge x b c ≡ true) (snapshot_stays t n a f.0)
        (subst (λ x. is_dangerous node edge (with_snapshot t n a) x c ≡ true) (snapshot_stays t n b f.1)
        (subst (λ x. is_dangerous node edge (with_snapshot t n a) (with_snapshot t n b) x ≡ true) (snapshot_stays t n c f.2) e))

-- ---- one commits

pub proper_commit : (t : ℕ) (s : Tracked) → IsProper s → cause_of t s ≡ None → IsProper (after_commit t s)
proper_commit t s h none = record {
  rising = rising_map (with_commit t (s.commits + 1)) (λ p. refl) s.parties h.rising;
  numbered = each_map (IsNumbered s.begun (after_commit t s).commits) (with_commit t (s.commits + 1)) s.parties (Each-all _ s.parties numbered);
  edges = edges_map (with_commit t (s.commits + 1)) s.parties (λ p i. (refl, refl, refl)) h.edges;
  none = none;
}
  where
    grown : (b : Bool) → s.commits ≤ cond b (s.commits + 1) s.commits
    grown true = omega arith
    grown false = omega arith

    numbered : (p : Party) → In p s.parties → IsNumbered s.begun (after_commit t s).commits (with_commit t (s.commits + 1) p)
    numbered p i = record {
      number = e.number;
      snapshot = omega (arith, e.snapshot, grown (list_any (is_writer t) s.parties));
      commit = commit (is_writer t p) refl;
      active = active (eqb p.number t);
      reader = reader (is_active t p);
      outs = e.outs;
      ins = e.ins;
    }
      where
        e : IsNumbered s.begun s.commits p
        e = Each-In (IsNumbered s.begun s.commits) s.parties p h.numbered i

        commit : (b : Bool) → is_writer t p ≡ b → cond b (s.commits + 1) p.commit ≤ cond (list_any (is_writer t) s.parties) (s.commits + 1) s.commits
        commit true w = subst (λ b. s.commits + 1 ≤ cond b (s.commits + 1) s.commits) (sym (In-any (is_writer t) s.parties p i w)) (omega arith)
        commit false w = omega (arith, e.commit, grown (list_any (is_writer t) s.parties))

        active : (b : Bool) → (not b && p.active) ≡ true → cond (b && p.active && p.read_write) (s.commits + 1) p.commit ≡ 0
        active true x = absurd (true≢false (sym x))
        active false x = e.active x

        reader : (b : Bool) → p.read_write ≡ false → cond (b && p.read_write) (s.commits + 1) p.commit ≡ 0
        reader true x = ap (λ c. cond c (s.commits + 1) p.commit) x ∙ e.reader x
        reader false x = e.reader x
