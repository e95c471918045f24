-- Every structure that a commit would make has the committer first or in its middle.
use Rattle.std.proofs.Common.{◌≡◌, refl, sym, ap, subst, ◌∙◌, ℕ, ◌+◌, ◌<◌, ◌≤◌, Bool, true, false, cond, ◌&&◌, inl, inr, List, [], ◌∷◌, Option, Some, None, is_some, eqb, nat_lt, arith}
use Rattle.std.proofs.lemmas.Bool.{and_from, false_from_ne_true, ltb-true}
use Rattle.std.proofs.lemmas.Bool.Decides.{nat_tests}
use Rattle.value.specs.Isolation.{caused, earliest, edge_of, first_some, is_dangerous}
use Rattle.value.proofs.IsolationLemmas.{In}
use Rattle.value.proofs.Basics.{filter_none, first_some-none}
use Rattle.conflict.specs.Tracked.{Party, Tracked, Each, IsNumbered, IsProper, Rising, cause_of, edge, is_active, is_writer, node, node_after, reads, with_commit}
use Rattle.conflict.specs.Through.{IsThrough, through}
use Rattle.value.proofs.Lists.{clash}
use Rattle.conflict.proofs.EachOf.{Each-In, Each-all}
use Rattle.value.proofs.Structures.{parts, no_danger, no_cause, cause-map}
use Rattle.conflict.proofs.Thinned.{above, commit_stays, one_more}

-- of the one of a number alone it gives something
only_one : {B : Type 0} (f : Party → Option B) (t : ℕ) (ps : List Party) (x : Party) → Rising ps → In x ps → x.number ≡ t → ((p : Party) → In p ps → eqb p.number t ≡ false → f p ≡ None) → first_some f ps ≡ f x
only_one f t [] x r i e none = absurd i
only_one {B} f t (p ∷ ps) x r (inl q) e none = go (f p) refl
  where
    rest : first_some f ps ≡ None
    rest = first_some-none f ps (λ y j. none y (inr j) (later y (Each-In (λ (z : Party). p.number < z.number) ps y r.0 j)))
      where
        later : (y : Party) → p.number < y.number → eqb y.number t ≡ false
        later y l = let k : x.number ≡ p.number = ap (λ (z : Party). z.number) q in grind (arith, nat_tests)

    go : (o : Option B) → f p ≡ o → cond (is_some (f p)) (f p) (first_some f ps) ≡ f x
    go None d = ap (λ o. cond (is_some o) o (first_some f ps)) d ∙ rest ∙ sym d ∙ ap f (sym q)
    go (Some v) d = ap (λ o. cond (is_some o) (f p) (first_some f ps)) d ∙ ap f (sym q)
only_one f t (p ∷ ps) x r (inr i) e none =
    ap (λ o. cond (is_some o) o (first_some f ps)) (none p (inl refl) (before (Each-In (λ (z : Party). p.number < z.number) ps x r.0 i)))
    ∙ only_one f t ps x r.1 i e (λ y j. none y (inr j))
  where
    before : p.number < x.number → eqb p.number t ≡ false
    before l = grind (arith, nat_tests)

module _ (r : Tracked) (h : IsProper r) (t : ℕ) where
  abbrev n : ℕ
  n = r.commits + 1

  abbrev g : Party → Party
  g = with_commit t n

  num : (p : Party) → In p r.parties → IsNumbered r.begun r.commits p
  num p i = Each-In (IsNumbered r.begun r.commits) r.parties p h.numbered i

  last_before : (b c : Party) → In b r.parties → In c r.parties → edge (g b) (g c) ≡ true → nat_lt (g c).commit (g b).commit ≡ true → is_active t c ≡ false
  last_before b c j k e l = false_from_ne_true (is_active t c) (λ a. late a c.read_write refl)
    where
      most : (g b).commit ≤ n
      most = one_more r.commits n (is_writer t b) b.commit (num b j).commit refl

      and_no : (x : Bool) → (x && false) ≡ false
      and_no true = refl
      and_no false = refl

      late : is_active t c ≡ true → (w : Bool) → c.read_write ≡ w → ⊥
      late a true w =
          let x : (g c).commit ≡ n = ap (λ z. cond z n c.commit) (and_from (is_active t c) c.read_write a w) in
          let y = ltb-true (g c).commit (g b).commit l in
          omega (arith, x, y, most)
      late a false w =
          let z : is_writer t c ≡ false = ap (λ x. is_active t c && x) w ∙ and_no (is_active t c) in
          let x : (g c).commit ≡ c.commit = ap (λ y. cond y n c.commit) z in
          let y : c.commit ≡ 0 = (num c k).reader w in
          let u = above (g b) (g c) e in
          omega (arith, x, y, u)

  not_of : (p : Party) → eqb p.number t ≡ false → is_active t p ≡ false
  not_of p e = ap (λ b. b && p.active) e

  -- without the committer there is none
  none_without : (a b c : Party) → In a r.parties → In b r.parties → In c r.parties → eqb a.number t ≡ false → eqb b.number t ≡ false → is_dangerous node edge (g a) (g b) (g c) ≡ false
  none_without a b c i j k x y = false_from_ne_true _ (λ d.
      let p = parts node edge (g a) (g b) (g c) d in
      let e = commit_stays t n a (not_of a x) in
      let f = commit_stays t n b (not_of b y) in
      let s = commit_stays t n c (last_before b c j k p.out p.before) in
      clash _
      (subst (λ u. is_dangerous node edge u b c ≡ true) e (subst (λ u. is_dangerous node edge (g a) u c ≡ true) f (subst (λ u. is_dangerous node edge (g a) (g b) u ≡ true) s d)))
      (no_danger node edge r.parties h.none a b c i j k))

  none_through : (a b : Party) → In a r.parties → In b r.parties → eqb a.number t ≡ false → eqb b.number t ≡ false → through t n r.parties a b ≡ None
  none_through a b i j x y =
      ap (λ cs. caused (node_after t n) (edge_of (node_after t n) reads) a b (earliest (node_after t n) (edge_of (node_after t n) reads) cs))
      (filter_none (is_dangerous (node_after t n) (edge_of (node_after t n) reads) a b) r.parties (λ c k. none_without a b c i j k x y))

  -- Where another transaction is the first, the committer is the pivot.
  pub through_committer : (x : Party) → In x r.parties → x.number ≡ t → Each (IsThrough t n r.parties x) r.parties
  through_committer x i e = Each-all (IsThrough t n r.parties x) r.parties (λ a j other. only_one (through t n r.parties a) t r.parties x h.rising i e (λ b k y. none_through a b j k other y))

  -- Where it isn't there, there is no structure.
  pub nobody_commits : ((p : Party) → In p r.parties → eqb p.number t ≡ false) → cause_of t r ≡ None
  nobody_commits none =
      cause-map g node edge r.parties
      ∙ no_cause (node_after t n) (edge_of (node_after t n) reads) r.parties (λ a b c i j k. none_without a b c i j k (none a i) (none b j))
