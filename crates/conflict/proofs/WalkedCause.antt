-- The structure that is found from the committer's numbers is the one that is named of all.
use Rattle.std.proofs.Common.{◌≡◌, refl, sym, ap, subst, ◌∙◌, ℕ, ◌<◌, Bool, true, false, true≢false, cond, ◌&&◌, ◌⊎◌, inl, inr, List, [], ◌∷◌, Option, Some, None, is_some, eqb, nat_lt, nat_le, arith}
use Rattle.std.proofs.lemmas.Bool.Decides.{nat_tests}
use Rattle.std.specs.List.{filter}
use Rattle.std.specs.Option.{option_map}
use Rattle.value.specs.declared.refusal.Cause.{Cause}
use Rattle.value.specs.Isolation.{Node, bound, caused, earlier, earliest, edge_of, first_cause, first_some, is_dangerous, is_other, structure}
use Rattle.value.proofs.IsolationLemmas.{In}
use Rattle.value.proofs.Basics.{find-In, first_some-same_in}
use Rattle.conflict.specs.Tracked.{AreEdges, Ascending, Each, IsSorted, Party, Rising, is_among, node_after, reads}
use Rattle.conflict.specs.Tracked.{node as seen, edge as seen_edge}
use Rattle.conflict.specs.Through.{IsThrough, from_first, through}
use Rattle.conflict.specs.Walks.{IsCommitter, closed_by, found, from_other, from_own, is_last, is_pair, is_unseen, last_of, sooner, walked_cause}
use Rattle.conflict.proofs.CauseLemmas.{caused-none}
use Rattle.conflict.proofs.Found.{found_is}
use Rattle.value.proofs.Lists.{In-filter, filter_alike, first_some-kept}
use Rattle.conflict.proofs.EachOf.{Each-In}

abbrev none_at_all : Option Cause
none_at_all = None

-- ---- two tests after one another

pub filter_both : {X : Type 0} (p k : X → Bool) (xs : List X) → filter p (filter k xs) ≡ filter (λ x. k x && p x) xs
filter_both p k [] = refl
filter_both {X} p k (x ∷ xs) = go (k x) (filter_both p k xs)
  where
    go : (b : Bool) → filter p (filter k xs) ≡ filter (λ y. k y && p y) xs → filter p (cond b (x ∷ filter k xs) (filter k xs)) ≡ cond (b && p x) (x ∷ filter (λ y. k y && p y) xs) (filter (λ y. k y && p y) xs)
    go true rest = ap (λ ys. cond (p x) (x ∷ ys) ys) rest
    go false rest = rest

-- ---- the earliest up to a number

module _ {T : Type 0} (node : T → Node) (edge : T → T → Bool) (k : ℕ) where
  abbrev upto : Option T → Option T
  upto None = None
  upto (Some c) = cond (nat_le (node c).commit k) (Some c) None

  later_out : (a b : ℕ) → nat_lt b a ≡ false → nat_le a k ≡ false → nat_le b k ≡ false
  later_out a b l e = grind (arith, nat_tests)

  one_upto : (x : T) (o : Option T) → upto (Some (earlier node edge x o)) ≡ cond (nat_le (node x).commit k) (Some (earlier node edge x (upto o))) (upto o)
  one_upto x None = refl
  one_upto x (Some y) = go (nat_lt (node y).commit (node x).commit) refl (nat_le (node x).commit k) refl (nat_le (node y).commit k) refl
    where
      go : (l : Bool) → nat_lt (node y).commit (node x).commit ≡ l → (a : Bool) → nat_le (node x).commit k ≡ a → (b : Bool) → nat_le (node y).commit k ≡ b
          → upto (Some (cond l y x)) ≡ cond a (Some (earlier node edge x (cond b (Some y) None))) (cond b (Some y) None)
      go true e true f true g = ap (λ z. cond z (Some y) None) g ∙ sym (ap (λ z. Some (cond z y x)) e)
      go true e true f false g = absurd (true≢false (sym (still f e) ∙ g))
        where
          still : nat_le (node x).commit k ≡ true → nat_lt (node y).commit (node x).commit ≡ true → nat_le (node y).commit k ≡ true
          still p q = grind (arith, nat_tests)
      go true e false f true g = ap (λ z. cond z (Some y) None) g
      go true e false f false g = ap (λ z. cond z (Some y) None) g
      go false e true f true g = ap (λ z. cond z (Some x) None) f ∙ sym (ap (λ z. Some (cond z y x)) e)
      go false e true f false g = ap (λ z. cond z (Some x) None) f
      go false e false f true g = absurd (true≢false (sym g ∙ later_out (node x).commit (node y).commit e f))
      go false e false f false g = ap (λ z. cond z (Some x) None) f

  earliest_upto : (g : T → Bool) (xs : List T) → earliest node edge (filter (λ c. g c && nat_le (node c).commit k) xs) ≡ upto (earliest node edge (filter g xs))
  earliest_upto g [] = refl
  earliest_upto g (x ∷ xs) = go (g x) (earliest_upto g xs)
    where
      pick : (b : Bool) (e : Option T) → earliest node edge (filter (λ c. g c && nat_le (node c).commit k) xs) ≡ e
          → earliest node edge (cond b (x ∷ filter (λ c. g c && nat_le (node c).commit k) xs) (filter (λ c. g c && nat_le (node c).commit k) xs)) ≡ cond b (Some (earlier node edge x e)) e
      pick true e q = ap (λ o. Some (earlier node edge x o)) q
      pick false e q = q

      go : (b : Bool) → earliest node edge (filter (λ c. g c && nat_le (node c).commit k) xs) ≡ upto (earliest node edge (filter g xs))
          → earliest node edge (cond (b && nat_le (node x).commit k) (x ∷ filter (λ c. g c && nat_le (node c).commit k) xs) (filter (λ c. g c && nat_le (node c).commit k) xs)) ≡ upto (earliest node edge (cond b (x ∷ filter g xs) (filter g xs)))
      go true rest = pick (nat_le (node x).commit k) (upto (earliest node edge (filter g xs))) rest ∙ sym (one_upto x (earliest node edge (filter g xs)))
      go false rest = rest

-- ---- a structure of two and the first to commit that closes it

regroup : (ca cb cc o s r e l w : Bool) → r ≡ true → (ca && cb && cc && (o && s && r) && e && l && w) ≡ ((ca && cb && o && s) && ((cc && e && l) && w))
regroup false cb cc o s r e l w q = refl
regroup true false cc o s r e l w q = refl
regroup true true true true true true e l w q = refl
regroup true true true true true false e l w q = absurd (true≢false (sym q))
regroup true true true true false r e l w q = refl
regroup true true true false s r e l w q = refl
regroup true true false true true r e l w q = refl
regroup true true false true false r e l w q = refl
regroup true true false false s r e l w q = refl

last_parts : (r cc o s l : Bool) → (r && (cc && o && s && l)) ≡ (cc && (o && s && r) && l)
last_parts true true true true l = refl
last_parts true true true false l = refl
last_parts true true false s l = refl
last_parts true false o s l = refl
last_parts false true true true l = refl
last_parts false true true false l = refl
last_parts false true false s l = refl
last_parts false false o s l = refl

module _ (t n : ℕ) (ps : List Party) where
  abbrev node : Party → Node
  node = node_after t n

  abbrev edge : Party → Party → Bool
  edge = edge_of (node_after t n) reads

  -- c may close a structure of which b is the pivot
  abbrev closes : Party → Party → Bool
  closes b c = (node c).committed && edge b c && nat_lt (node c).commit (node b).commit

  last_is : (b : Party) → Ascending b.outs → Rising ps → last_of t n ps b ≡ option_map node (earliest node edge (filter (closes b) ps))
  last_is b a r =
      ap (λ qs. option_map node (earliest node edge (filter (is_last t n b) qs))) (found_is b.outs ps a r)
      ∙ ap (λ qs. option_map node (earliest node edge qs))
      (filter_both (is_last t n b) (λ c. is_among c.number b.outs) ps
      ∙ filter_alike (λ c. is_among c.number b.outs && is_last t n b c) (closes b) ps
      (λ c i. last_parts (is_among c.number b.outs) (node c).committed (is_other node reads b c) (nat_lt (node b).snapshot (node c).commit) (nat_lt (node c).commit (node b).commit)))

  closed_is : (a b : Party) (o : Option Party) → is_pair t n a b ≡ true → caused node edge a b (upto node edge (bound node edge a) o) ≡ closed_by t n a b (option_map node o)
  closed_is a b None p = refl
  closed_is a b (Some c) p =
      go (nat_le (node c).commit (bound node edge a))
      ∙ sym (ap (λ x. cond (x && nat_le (node c).commit (bound node edge a)) (Some (structure (node a) (node b) (node c))) None) p)
    where
      go : (w : Bool) → caused node edge a b (cond w (Some c) None) ≡ cond w (Some (structure (node a) (node b) (node c))) None
      go true = refl
      go false = refl

  not_closed : (a b : Party) (o : Option Node) → is_pair t n a b ≡ false → closed_by t n a b o ≡ None
  not_closed a b None p = refl
  not_closed a b (Some c) p = ap (λ x. cond (x && nat_le c.commit (bound node edge a)) (Some (structure (node a) (node b) c)) None) p

  nothing : (f : Party → Bool) (qs : List Party) → ((q : Party) → f q ≡ false) → filter f qs ≡ []
  nothing f [] h = refl
  nothing f (q ∷ qs) h = ap (λ b. cond b (q ∷ filter f qs) (filter f qs)) (h q) ∙ nothing f qs h

  -- where a has read what b wrote
  through_is : (a b : Party) → reads a b ≡ true → through t n ps a b ≡ closed_by t n a b (option_map node (earliest node edge (filter (closes b) ps)))
  through_is a b r = go (is_pair t n a b) refl
    where
      parted : (c : Party) → is_dangerous node edge a b c ≡ (is_pair t n a b && (closes b c && nat_le (node c).commit (bound node edge a)))
      parted c = regroup (node a).committed (node b).committed (node c).committed (is_other node reads a b) (nat_lt (node a).snapshot (node b).commit) (reads a b) (edge b c) (nat_lt (node c).commit (node b).commit) (nat_le (node c).commit (bound node edge a)) r

      go : (p : Bool) → is_pair t n a b ≡ p → through t n ps a b ≡ closed_by t n a b (option_map node (earliest node edge (filter (closes b) ps)))
      go true p =
          ap (λ qs. caused node edge a b (earliest node edge qs)) (filter_alike (is_dangerous node edge a b) (λ c. closes b c && nat_le (node c).commit (bound node edge a)) ps (λ c i. parted c ∙ ap (λ x. x && (closes b c && nat_le (node c).commit (bound node edge a))) p))
          ∙ ap (caused node edge a b) (earliest_upto node edge (bound node edge a) (closes b) ps)
          ∙ closed_is a b (earliest node edge (filter (closes b) ps)) p
      go false p =
          ap (λ qs. caused node edge a b (earliest node edge qs)) (nothing (is_dangerous node edge a b) ps (λ c. parted c ∙ ap (λ x. x && (closes b c && nat_le (node c).commit (bound node edge a))) p))
          ∙ sym (not_closed a b (option_map node (earliest node edge (filter (closes b) ps))) p)

  no_edge : (x y r : Bool) → r ≡ false → (x && y && r) ≡ false
  no_edge true true r e = e
  no_edge true false r e = refl
  no_edge false y r e = refl

  through_none : (a b : Party) → reads a b ≡ false → through t n ps a b ≡ None
  through_none a b r = sym (caused-none node edge a b ps (no_edge (is_other node reads a b) (nat_lt (node a).snapshot (node b).commit) (reads a b) r))

  -- ---- over those that the committer knows

  module _ (x : Party) (rising : Rising ps) (edges : AreEdges ps) (here : In x ps) (number : x.number ≡ t) where
    ascending : (p : Party) → In p ps → Ascending p.outs × Ascending p.ins
    ascending p i = Each-In IsSorted ps p edges.sorted i

    known : (q : Party) → In q ps → reads q x ≡ is_among q.number x.ins
    known q i = Each-In (λ (p : Party). is_among p.number q.outs ≡ is_among q.number p.ins) ps x (Each-In (λ (p : Party). Each (λ (y : Party). is_among y.number p.outs ≡ is_among p.number y.ins) ps) ps q edges.both i) here

    -- of others
    abbrev other : Party → Option Cause
    other a = cond (eqb a.number t) None (through t n ps a x)

    other_same : (a : Party) → reads a x ≡ true → from_other t n x (last_of t n ps x) a ≡ other a
    other_same a r = ap (λ o. cond (eqb a.number t) None o) (ap (closed_by t n a x) (last_is x (ascending x here).0 rising) ∙ sym (through_is a x r))

    other_none : (a : Party) → reads a x ≡ false → other a ≡ None
    other_none a r = ap (λ o. cond (eqb a.number t) None o) (through_none a x r) ∙ go (eqb a.number t)
      where
        go : (b : Bool) → cond b none_at_all none_at_all ≡ none_at_all
        go true = refl
        go false = refl

    others : first_some (from_other t n x (last_of t n ps x)) (found x.ins ps) ≡ first_some other ps
    others =
        ap (first_some (from_other t n x (last_of t n ps x))) (found_is x.ins ps (ascending x here).1 rising)
        ∙ first_some-same_in (from_other t n x (last_of t n ps x)) other (filter (λ (a : Party). is_among a.number x.ins) ps) (λ a i. let j = In-filter (λ (p : Party). is_among p.number x.ins) a ps i in other_same a (known a j.0 ∙ j.1))
        ∙ first_some-kept other (λ (a : Party). is_among a.number x.ins) ps (λ a i e. other_none a (known a i ∙ e))

    -- of its own
    own_same : (b : Party) → In b ps → reads x b ≡ true → from_own t n ps x b ≡ through t n ps x b
    own_same b i r = ap (closed_by t n x b) (last_is b (ascending b i).0 rising) ∙ sym (through_is x b r)

    own : first_some (from_own t n ps x) (found x.outs ps) ≡ from_first t n ps x
    own =
        ap (first_some (from_own t n ps x)) (found_is x.outs ps (ascending x here).0 rising)
        ∙ first_some-same_in (from_own t n ps x) (through t n ps x) (filter (λ (b : Party). is_among b.number x.outs) ps) (λ b i. let j = In-filter (λ (p : Party). is_among p.number x.outs) b ps i in own_same b j.0 j.1)
        ∙ first_some-kept (through t n ps x) (λ (b : Party). is_among b.number x.outs) ps (λ b i e. through_none x b e)

-- ---- nothing closes one

pub none_closes : (t n : ℕ) (x : Party) (qs : List Party) → first_some (from_other t n x None) qs ≡ None
none_closes t n x [] = refl
none_closes t n x (q ∷ qs) = ap (λ o. cond (is_some o) o (first_some (from_other t n x None) qs)) (go (eqb q.number t)) ∙ none_closes t n x qs
  where
    go : (b : Bool) → cond b none_at_all none_at_all ≡ none_at_all
    go true = refl
    go false = refl

-- ---- the sooner of the two

some_In : {X B : Type 0} (f : X → Option B) (xs : List X) (c : B) → first_some f xs ≡ Some c → (x : X) × In x xs × (f x ≡ Some c)
some_In f [] c e = cc
some_In {X} {B} f (x ∷ xs) c e = go (f x) refl e (some_In f xs c)
  where
    go : (o : Option B) → f x ≡ o → cond (is_some o) o (first_some f xs) ≡ Some c → (first_some f xs ≡ Some c → (y : X) × In y xs × (f y ≡ Some c)) → (y : X) × ((y ≡ x) ⊎ In y xs) × (f y ≡ Some c)
    go None d h rest = let r = rest h in (r.0, inr r.1, r.2)
    go (Some b) d h rest = (x, inl refl, d ∙ h)

module _ (f g : Party → Option Cause) (t : ℕ) (x : Party)
    (none : (a : Party) → eqb a.number t ≡ true → g a ≡ None) (first : (a : Party) (c : Cause) → g a ≡ Some c → c.a.0 ≡ a.number) where
  later : (a b : ℕ) → a < b → eqb b a ≡ false
  later a b l = grind (arith, nat_tests)

  not_sooner : (a b : ℕ) → a < b → nat_lt b a ≡ false
  not_sooner a b l = grind (arith, nat_tests)

  is_sooner : (a b : ℕ) → a < b → nat_lt a b ≡ true
  is_sooner a b l = grind (arith, nat_tests)

  same_number : (a b : ℕ) → eqb a b ≡ true → a ≡ b
  same_number a b e = grind (arith, nat_tests)

  at_first : (qs : List Party) → ((a : Party) → In a qs → eqb a.number t ≡ false → f a ≡ g a) → Each (λ (q : Party). t < q.number) qs → cond (is_some (f x)) (f x) (first_some f qs) ≡ sooner t (first_some g qs) (f x)
  at_first qs alike all = go (f x) (first_some g qs) refl
    where
      alike_all : first_some f qs ≡ first_some g qs
      alike_all = first_some-same_in f g qs (λ a i. alike a i (later t a.number (Each-In (λ (q : Party). t < q.number) qs a all i)))

      go : (o w : Option Cause) → first_some g qs ≡ w → cond (is_some o) o (first_some f qs) ≡ sooner t w o
      go None None e = alike_all ∙ e
      go None (Some c) e = alike_all ∙ e
      go (Some d) None e = refl
      go (Some d) (Some c) e =
          let y = some_In g qs c e in
          let l = Each-In (λ (q : Party). t < q.number) qs y.0 all y.1 in
          let s = first y.0 c y.2 in
          sym (ap (λ b. cond b (Some c) (Some d)) (not_sooner t c.a.0 (omega (arith, l, s))))

  pub sooner_is : (qs : List Party) → ((a : Party) → In a qs → eqb a.number t ≡ false → f a ≡ g a) → Rising qs → In x qs → x.number ≡ t → first_some f qs ≡ sooner t (first_some g qs) (f x)
  sooner_is [] alike r i e = absurd i
  sooner_is (q ∷ qs) alike r (inl s) e =
      let number : q.number ≡ t = ap (λ (y : Party). y.number) (sym s) ∙ e in
      ap (λ o. cond (is_some o) o (first_some f qs)) (ap f (sym s))
      ∙ at_first qs (λ a j. alike a (inr j)) (subst (λ m. Each (λ (y : Party). m < y.number) qs) number r.0)
      ∙ sym (ap (λ o. sooner t (cond (is_some o) o (first_some g qs)) (f x)) (none q (is_t q.number number)))
    where
      is_t : (m : ℕ) → m ≡ t → eqb m t ≡ true
      is_t m h = grind (arith, nat_tests)
  sooner_is (q ∷ qs) alike r (inr i) e =
      let l = Each-In (λ (y : Party). q.number < y.number) qs x r.0 i in
      ap (λ o. cond (is_some o) o (first_some f qs)) (alike q (inl refl) (before q.number (omega (arith, l, e))))
      ∙ go (g q) refl (sooner_is qs (λ a j. alike a (inr j)) r.1 i e) (omega (arith, l, e)) (f x)
    where
      before : (m : ℕ) → m < t → eqb m t ≡ false
      before m h = grind (arith, nat_tests)

      go : (o : Option Cause) → g q ≡ o → first_some f qs ≡ sooner t (first_some g qs) (f x) → q.number < t → (w : Option Cause) → cond (is_some o) o (first_some f qs) ≡ sooner t (cond (is_some o) o (first_some g qs)) (f x)
      go None d rest l w = rest
      go (Some c) d rest l w = last (f x)
        where
          last : (v : Option Cause) → Some c ≡ sooner t (Some c) v
          last None = refl
          last (Some b) = let s = first q c d in sym (ap (λ z. cond z (Some c) (Some b)) (is_sooner c.a.0 t (omega (arith, s, l))))

-- ---- all of it

pub walked_is : (t n : ℕ) (x : Party) (ps : List Party) → IsCommitter t n x ps → walked_cause t n ps x ≡ first_cause (node_after t n) (edge_of (node_after t n) reads) ps
walked_is t n x ps c =
    ap (λ o. sooner t o (first_some (from_own t n ps x) (found x.outs ps))) (others t n ps x rising edges here number)
    ∙ ap (sooner t (first_some (other t n ps x rising edges here number) ps)) (own t n ps x rising edges here number)
    ∙ sym (sooner_is (from_first t n ps) (other t n ps x rising edges here number) t x none first ps alike rising here number)
  where
    rising : Rising ps
    rising = c.0.0

    edges : AreEdges ps
    edges = c.0.1

    here : In x ps
    here = (find-In (λ (p : Party). eqb p.number x.number) ps x c.0.2).0

    number : x.number ≡ t
    number = c.1

    alike : (a : Party) → In a ps → eqb a.number t ≡ false → from_first t n ps a ≡ cond (eqb a.number t) None (through t n ps a x)
    alike a i e = Each-In (IsThrough t n ps x) ps a c.2 i e ∙ sym (ap (λ b. cond b None (through t n ps a x)) e)

    none : (a : Party) → eqb a.number t ≡ true → cond (eqb a.number t) None (through t n ps a x) ≡ None
    none a e = ap (λ b. cond b None (through t n ps a x)) e

    first : (a : Party) (k : Cause) → cond (eqb a.number t) None (through t n ps a x) ≡ Some k → k.a.0 ≡ a.number
    first a k e = pick (eqb a.number t) e
      where
        named : (o : Option Party) → caused (node_after t n) (edge_of (node_after t n) reads) a x o ≡ Some k → k.a.0 ≡ a.number
        named None d = cc
        named (Some b) d = let s : structure (node_after t n a) (node_after t n x) (node_after t n b) ≡ k = cc in sym (ap (λ (z : Cause). z.a.0) s)

        pick : (b : Bool) → cond b None (through t n ps a x) ≡ Some k → k.a.0 ≡ a.number
        pick true d = cc
        pick false d = named (earliest (node_after t n) (edge_of (node_after t n) reads) (filter (is_dangerous (node_after t n) (edge_of (node_after t n) reads) a x) ps)) d

-- ---- the first conflict out

edge_parts : (m o s : Bool) → (m && (o && s)) ≡ (o && s && m)
edge_parts true true s = go s
  where
    go : (x : Bool) → x ≡ (x && true)
    go true = refl
    go false = refl
edge_parts true false s = refl
edge_parts false true true = refl
edge_parts false true false = refl
edge_parts false false s = refl

pub unseen_is : (p : Party) (ps : List Party) → Ascending p.outs → Rising ps → filter (is_unseen p) (found p.outs ps) ≡ filter (seen_edge p) ps
unseen_is p ps a r =
    ap (filter (is_unseen p)) (found_is p.outs ps a r)
    ∙ filter_both (is_unseen p) (λ q. is_among q.number p.outs) ps
    ∙ filter_alike (λ q. is_among q.number p.outs && is_unseen p q) (seen_edge p) ps (λ q i. edge_parts (is_among q.number p.outs) (is_other seen reads p q) (nat_lt p.snapshot q.commit))
