-- Those that are doomed by the committer's numbers are those that are doomed of all; how many there are.
use Rattle.std.proofs.Common.{◌≡◌, refl, sym, ap, ◌∙◌, ℕ, suc, ◌+◌, ◌<◌, ◌≤◌, Bool, true, false, cond, ◌&&◌, List, [], ◌∷◌, ◌++◌, length, take, drop, get_or, fold, Option, Some, None, eqb, arith, length-append, append-nil}
use Rattle.std.proofs.Math.Bool.{and-false, and-true}
use Rattle.std.proofs.lemmas.List.Elements.{filter-append}
use Rattle.std.specs.List.{filter, find}
use Rattle.std.specs.Option.{option_to_list}
use Rattle.value.specs.declared.refusal.Cause.{Cause}
use Rattle.value.specs.Isolation.{cause_from, dooms, is_first, is_live, with_doom}
use Rattle.value.proofs.IsolationLemmas.{In}
use Rattle.value.proofs.Basics.{fold-same_in, find-same_in, find-In}
use Rattle.conflict.specs.Tracked.{Ascending, Each, IsSorted, Party, is_among, node, reads}
use Rattle.conflict.specs.Walks.{IsAmong, folded, found, may_be_first, with_walked}
use Rattle.conflict.proofs.Found.{found_is, found_next, found_split, one_of}
use Rattle.value.proofs.Lists.{In-filter, fold-kept}
use Rattle.conflict.proofs.EachOf.{Each-In}

-- ---- lists

find_both : {X : Type 0} (p k : X → Bool) (xs : List X) → find p (filter k xs) ≡ find (λ x. k x && p x) xs
find_both p k [] = refl
find_both {X} p k (x ∷ xs) = go (k x) (find_both p k xs)
  where
    go : (b : Bool) → find p (filter k xs) ≡ find (λ y. k y && p y) xs → find p (cond b (x ∷ filter k xs) (filter k xs)) ≡ cond (b && p x) (Some x) (find (λ y. k y && p y) xs)
    go true rest = ap (λ o. cond (p x) (Some x) o) rest
    go false rest = rest

turned : (a b : Bool) → (a && b) ≡ (b && a)
turned true true = refl
turned true false = refl
turned false true = refl
turned false false = refl

-- ---- dooms

module _ (ps : List Party) (c : Party) (among : IsAmong ps c) where
  here : In c ps
  here = (find-In (λ (p : Party). eqb p.number c.number) ps c among.2).0

  known : (q p : Party) → In q ps → In p ps → reads q p ≡ is_among q.number p.ins
  known q p i j = Each-In (λ (x : Party). is_among x.number q.outs ≡ is_among q.number x.ins) ps p (Each-In (λ (y : Party). Each (λ (x : Party). is_among x.number y.outs ≡ is_among y.number x.ins) ps) ps q among.1.both i) j

  ascending : (p : Party) → In p ps → Ascending p.ins
  ascending p i = (Each-In IsSorted ps p among.1.sorted i).1

  first_same : (causes : List Cause) (b : Party) → In b ps → find (is_first node reads c causes b) ps ≡ find (may_be_first c causes b) (found b.ins ps)
  first_same causes b j =
      sym (
      ap (find (may_be_first c causes b)) (found_is b.ins ps (ascending b j) among.0)
      ∙ find_both (may_be_first c causes b) (λ (a : Party). is_among a.number b.ins) ps
      ∙ find-same_in (λ a. is_among a.number b.ins && may_be_first c causes b a) (is_first node reads c causes b) ps
      (λ a i. turned (is_among a.number b.ins) (may_be_first c causes b a) ∙ ap (λ x. may_be_first c causes b a && x) (sym (known a b i j))))

  doom_same : (causes : List Cause) (b : Party) → In b ps → reads b c ≡ true → with_doom node reads ps c causes b ≡ with_walked ps c causes b
  doom_same causes b i r =
      ap (λ x. causes ++ option_to_list (cond (is_live node reads c b && x) (cause_from node reads b c (find (is_first node reads c causes b) ps)) None)) r
      ∙ ap (λ x. causes ++ option_to_list (cond x (cause_from node reads b c (find (is_first node reads c causes b) ps)) None)) (and-true (is_live node reads c b))
      ∙ ap (λ o. causes ++ option_to_list (cond (is_live node reads c b) (cause_from node reads b c o) None)) (first_same causes b i)

  no_doom : (causes : List Cause) (b : Party) → In b ps → is_among b.number c.ins ≡ false → with_doom node reads ps c causes b ≡ causes
  no_doom causes b i e =
      ap (λ x. causes ++ option_to_list (cond (is_live node reads c b && x) (cause_from node reads b c (find (is_first node reads c causes b) ps)) None)) (known b c i here ∙ e)
      ∙ ap (λ x. causes ++ option_to_list (cond x (cause_from node reads b c (find (is_first node reads c causes b) ps)) None)) (and-false (is_live node reads c b))
      ∙ append-nil causes

  pub dooms_walked : fold (with_walked ps c) [] (found c.ins ps) ≡ dooms node reads ps c
  dooms_walked =
      ap (fold (with_walked ps c) []) (found_is c.ins ps (ascending c here) among.0)
      ∙ fold-same_in (with_walked ps c) (with_doom node reads ps c) [] (filter (λ (b : Party). is_among b.number c.ins) ps)
      (λ causes b i. let j = In-filter (λ (p : Party). is_among p.number c.ins) b ps i in sym (doom_same causes b j.0 (known b c j.0 here ∙ j.1)))
      ∙ fold-kept (with_doom node reads ps c) [] (λ (b : Party). is_among b.number c.ins) ps no_doom

  fewer : {X : Type 0} (p k : X → Bool) (xs : List X) → length (filter p (filter k xs)) ≤ length (filter p xs)
  fewer p k [] = omega arith
  fewer {X} p k (x ∷ xs) = go (k x) (p x) (fewer p k xs)
    where
      go : (a b : Bool) → length (filter p (filter k xs)) ≤ length (filter p xs) → length (filter p (cond a (x ∷ filter k xs) (filter k xs))) ≤ length (cond (p x) (x ∷ filter p xs) (filter p xs))
      go true b rest = pick (p x)
        where
          pick : (d : Bool) → length (cond d (x ∷ filter p (filter k xs)) (filter p (filter k xs))) ≤ length (cond d (x ∷ filter p xs) (filter p xs))
          pick true = omega (arith, rest)
          pick false = rest
      go false b rest = pick (p x)
        where
          pick : (d : Bool) → length (filter p (filter k xs)) ≤ length (cond d (x ∷ filter p xs) (filter p xs))
          pick true = omega (arith, rest)
          pick false = rest

  pub few_found : length (filter (is_live node reads c) ps) ≤ 63 → length (filter (is_live node reads c) (found c.ins ps)) ≤ 63
  few_found few =
      let e = ap (λ qs. length (filter (is_live node reads c) qs)) (found_is c.ins ps (ascending c here) among.0) in
      let l = fewer (is_live node reads c) (λ (b : Party). is_among b.number c.ins) ps in
      omega (arith, e, l, few)

-- ---- how many so far

module _ (ps : List Party) (c : Party) where
  lives : List Party → ℕ
  lives qs = length (filter (is_live node reads c) qs)

  two : (xs ys : List Party) → length (filter (is_live node reads c) (xs ++ ys)) ≡ length (filter (is_live node reads c) xs) + length (filter (is_live node reads c) ys)
  two xs ys = ap length (filter-append (is_live node reads c) xs ys) ∙ length-append (filter (is_live node reads c) xs) (filter (is_live node reads c) ys)

  pub room_found : (ns : List ℕ) (i : ℕ) (causes : List Cause) (p : Party) → i < length ns → one_of (get_or ns i 0) ps ≡ Some p → is_live node reads c p ≡ true → length (filter (is_live node reads c) (found ns ps)) ≤ 63
      → length causes ≤ length (filter (is_live node reads c) (found (take i ns) ps)) → length causes < 63
  room_found ns i causes p lt at live few so_far =
      let rest = found (drop (suc i) ns) ps in
      let s = ap (λ qs. length (filter (is_live node reads c) qs)) (found_split ns i ps lt ∙ ap (λ o. found (take i ns) ps ++ (option_to_list o ++ rest)) at) in
      let a = two (found (take i ns) ps) (p ∷ rest) in
      let one = ap (λ b. length (cond b (p ∷ filter (is_live node reads c) rest) (filter (is_live node reads c) rest))) live in
      omega (arith, s, a, one, few, so_far)

  one_more : (causes : List Cause) (p : Party) → length (with_walked ps c causes p) ≤ length causes + cond (is_live node reads c p) 1 0
  one_more causes p = go (is_live node reads c p) (find (may_be_first c causes p) (found p.ins ps))
    where
      go : (live : Bool) (first : Option Party) → length (causes ++ option_to_list (cond live (cause_from node reads p c first) None)) ≤ length causes + cond live 1 0
      go true (Some a) = omega (arith, length-append causes (option_to_list (cause_from node reads p c (Some a))))
      go true None = omega (arith, ap length (append-nil causes))
      go false first = omega (arith, ap length (append-nil causes))

  pub lives_next : (ns : List ℕ) (i : ℕ) (causes new : List Cause) → i < length ns → new ≡ folded (with_walked ps c) causes (one_of (get_or ns i 0) ps)
      → length causes ≤ length (filter (is_live node reads c) (found (take i ns) ps)) → length new ≤ length (filter (is_live node reads c) (found (take (i + 1) ns) ps))
  lives_next ns i causes new lt e so_far = go (one_of (get_or ns i 0) ps) e (ap (λ qs. length (filter (is_live node reads c) qs)) (found_next ns i ps lt))
    where
      go : (o : Option Party) → new ≡ folded (with_walked ps c) causes o → length (filter (is_live node reads c) (found (take (i + 1) ns) ps)) ≡ length (filter (is_live node reads c) (found (take i ns) ps ++ option_to_list o))
          → length new ≤ length (filter (is_live node reads c) (found (take (i + 1) ns) ps))
      go None d g =
          let k = ap (λ qs. length (filter (is_live node reads c) qs)) (append-nil (found (take i ns) ps)) in
          omega (arith, ap length d, g, k, so_far)
      go (Some p) d g =
          let k = two (found (take i ns) ps) (p ∷ []) in
          let m = alone (is_live node reads c p) in
          omega (arith, ap length d, one_more causes p, g, k, m, so_far)
        where
          alone : (b : Bool) → length (cond b (p ∷ []) []) ≡ cond b 1 0
          alone true = refl
          alone false = refl
