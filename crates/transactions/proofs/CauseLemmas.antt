-- Structures and dooms, found from the front of a list.
use Rattle.std.proofs.Common.{◌≡◌, refl, sym, ap, ◌∙◌, ℕ, zero, suc, ◌+◌, ◌<◌, ◌≤◌, Bool, true, false, true≢false, cond, not, ◌&&◌, ◌||◌, ◌⊎◌, inl, inr, List, [], ◌∷◌, ◌++◌, length, take, drop, get_or, Option, Some, None, is_some, eqb, nat_lt, nat_le, arith}
use Rattle.std.proofs.lemmas.Bool.Decides.{nat_tests}
use Rattle.std.proofs.lemmas.List.{append-nil}
use Rattle.std.proofs.lemmas.List.Elements.{filter-append}
use Rattle.std.specs.List.{AllByRecursion, filter, list_any}
use Rattle.std.specs.Option.{option_map}
use Rattle.value.specs.Isolation.{Node, bound, caused, earlier, earliest, edge_of, first_cause, first_some, is_dangerous}
use Rattle.value.proofs.Basics.{nat_lt-trans, not_nat_lt-trans, None-from_some, first_some-passes, take_next, split_at}
use Rattle.transactions.specs.Earliest.{first_of, first_of_both}
use Rattle.transactions.specs.Structures.{BeginHold, StructuresHold, closed_pair}

-- ---- the first that a function gives

given_or : {B : Type 0} (o rest : Option B) → is_some o ≡ true → o ≡ cond (is_some o) o rest
given_or o rest e = ap (λ b. cond b o rest) (sym e)

-- it gives something of this element, and nothing of those before
pub first_some-here : {A B : Type 0} (f : A → Option B) (xs : List A) (i : ℕ) (x : A) → i < length xs → x ≡ get_or xs i x → first_some f (take i xs) ≡ None
    → (o : Option B) → o ≡ f x → is_some o ≡ true → o ≡ first_some f xs
first_some-here f xs i x lt at none o e some =
    e ∙ given_or (f x) (first_some f (drop (suc i) xs)) (ap is_some (sym e) ∙ some)
    ∙ sym (first_some-passes f (take i xs) (x ∷ drop (suc i) xs) none) ∙ ap (first_some f) (sym (split_at xs i x lt at))

-- it gives nothing of this element either
pub first_some-next : {A B : Type 0} (f : A → Option B) (xs : List A) (i : ℕ) (x : A) → i < length xs → x ≡ get_or xs i x → first_some f (take i xs) ≡ None
    → (o : Option B) → o ≡ f x → is_some o ≡ false → first_some f (take (i + 1) xs) ≡ None
first_some-next {A} {B} f xs i x lt at none o e empty =
    ap (first_some f) (take_next xs i x lt at) ∙ first_some-passes f (take i xs) (x ∷ []) none ∙ last (f x) (sym e ∙ None-from_some o empty)
  where
    last : (p : Option B) → p ≡ None → cond (is_some p) p None ≡ None
    last None q = refl
    last (Some y) q = q

-- it gives nothing of any
first_some-none : {A B : Type 0} (f : A → Option B) (xs : List A) → AllByRecursion (λ x. f x ≡ None) xs → first_some f xs ≡ None
first_some-none f [] all = refl
first_some-none f (x ∷ xs) all = ap (λ o. cond (is_some o) o (first_some f xs)) all.0 ∙ first_some-none f xs all.1

others_none : {A B : Type 0} (f : A → Option B) (x : A) → is_some (f x) ≡ false → (ys : List A) → AllByRecursion (λ y. is_some (f y) ≡ true → y ≡ x) ys → AllByRecursion (λ y. f y ≡ None) ys
others_none f x empty [] all = tt
others_none {A} {B} f x empty (y ∷ ys) all = (go (is_some (f y)) refl, others_none f x empty ys all.1)
  where
    go : (b : Bool) → is_some (f y) ≡ b → f y ≡ None
    go true e = absurd (true≢false (sym e ∙ ap (λ z. is_some (f z)) (all.0 e) ∙ empty))
    go false e = None-from_some (f y) e

found_only : {A B : Type 0} (f : A → Option B) (x : A) → is_some (f x) ≡ true → (ys : List A) (i : ℕ) → i < length ys → x ≡ get_or ys i x → AllByRecursion (λ y. is_some (f y) ≡ true → y ≡ x) ys → f x ≡ first_some f ys
found_only f x some [] i lt at all = absurd (omega arith)
found_only {A} {B} f x some (y ∷ ys) zero lt at all = ap f at ∙ ap (λ b. cond b (f y) (first_some f ys)) (sym (ap (λ z. is_some (f z)) (sym at) ∙ some))
found_only {A} {B} f x some (y ∷ ys) (suc i) lt at all = go (is_some (f y)) refl (found_only f x some ys i (omega arith) at all.1)
  where
    go : (b : Bool) → is_some (f y) ≡ b → f x ≡ first_some f ys → f x ≡ cond b (f y) (first_some f ys)
    go true e rest = ap f (sym (all.0 e))
    go false e rest = rest

-- it gives something of one element alone
pub first_some-only : {A B : Type 0} (f : A → Option B) (xs : List A) (x : A) (i : ℕ) → i < length xs → x ≡ get_or xs i x → AllByRecursion (λ y. is_some (f y) ≡ true → y ≡ x) xs → f x ≡ first_some f xs
first_some-only {A} {B} f xs x i lt at all = go (is_some (f x)) refl
  where
    go : (b : Bool) → is_some (f x) ≡ b → f x ≡ first_some f xs
    go true e = found_only f x e xs i lt at all
    go false e = None-from_some (f x) e ∙ sym (first_some-none f xs (others_none f x e xs all))

-- ---- of several lists, one behind the other

first_some-found : {A B : Type 0} (f : A → Option B) (xs ys : List A) → is_some (first_some f xs) ≡ true → first_some f xs ≡ first_some f (xs ++ ys)
first_some-found f [] ys some = absurd (true≢false (sym some))
first_some-found {A} {B} f (x ∷ xs) ys some = go (f x) (first_some-found f xs ys) some
  where
    go : (o : Option B) → (is_some (first_some f xs) ≡ true → first_some f xs ≡ first_some f (xs ++ ys)) → is_some (cond (is_some o) o (first_some f xs)) ≡ true → cond (is_some o) o (first_some f xs) ≡ cond (is_some o) o (first_some f (xs ++ ys))
    go None rest e = rest e
    go (Some y) rest e = refl

-- it gives something of the front
pub first_some-front : {A B : Type 0} (f : A → Option B) (xs front rest : List A) → xs ≡ front ++ rest → (o : Option B) → o ≡ first_some f front → is_some o ≡ true → o ≡ first_some f xs
first_some-front f xs front rest whole o e some = e ∙ first_some-found f front rest (ap is_some (sym e) ∙ some) ∙ ap (first_some f) (sym whole)

-- it gives nothing of the front, nor of what is between
pub first_some-back : {A B : Type 0} (f : A → Option B) (xs front between back : List A) → xs ≡ front ++ (between ++ back) → AllByRecursion (λ x. f x ≡ None) between
    → (o : Option B) → o ≡ first_some f front → is_some o ≡ false → (p : Option B) → p ≡ first_some f back → p ≡ first_some f xs
first_some-back f xs front between back whole all o e empty p found =
    found ∙ sym (first_some-passes f between back (first_some-none f between all))
    ∙ sym (first_some-passes f front (between ++ back) (sym e ∙ None-from_some o empty)) ∙ ap (first_some f) (sym whole)

-- ---- the first to commit

-- the first to commit of a transaction and of those after it
abbrev earlier_of : Node → Option Node → Node
earlier_of n None = n
earlier_of n (Some m) = cond (nat_lt m.commit n.commit) m n

earlier_first : (n : Node) (o : Option Node) (m : Node) → earlier_of n (Some (first_of o m)) ≡ first_of (Some (earlier_of n o)) m
earlier_first n None m = refl
earlier_first n (Some k) m = go (nat_lt m.commit k.commit) refl (nat_lt k.commit n.commit) refl
  where
    go : (b : Bool) → nat_lt m.commit k.commit ≡ b → (d : Bool) → nat_lt k.commit n.commit ≡ d
        → cond (nat_lt (cond b m k).commit n.commit) (cond b m k) n ≡ cond (nat_lt m.commit (cond d k n).commit) m (cond d k n)
    go true p true q = ap (λ b. cond b m n) (nat_lt-trans m.commit k.commit n.commit p q) ∙ sym (ap (λ b. cond b m k) p)
    go true p false q = refl
    go false p true q = ap (λ b. cond b k n) q ∙ sym (ap (λ b. cond b m k) p)
    go false p false q = ap (λ b. cond b k n) q ∙ sym (ap (λ b. cond b m n) (not_nat_lt-trans m.commit k.commit n.commit p q))

first_of-assoc : (o : Option Node) (m n : Node) → first_of (Some (first_of o m)) n ≡ first_of o (first_of (Some m) n)
first_of-assoc None m n = refl
first_of-assoc (Some k) m n = go (nat_lt m.commit k.commit) refl (nat_lt n.commit m.commit) refl
  where
    go : (b : Bool) → nat_lt m.commit k.commit ≡ b → (d : Bool) → nat_lt n.commit m.commit ≡ d
        → cond (nat_lt n.commit (cond b m k).commit) n (cond b m k) ≡ cond (nat_lt (cond d n m).commit k.commit) (cond d n m) k
    go true p true q = ap (λ b. cond b n m) q ∙ sym (ap (λ b. cond b n k) (nat_lt-trans n.commit m.commit k.commit q p))
    go true p false q = ap (λ b. cond b n m) q ∙ sym (ap (λ b. cond b m k) p)
    go false p true q = refl
    go false p false q = ap (λ b. cond b n k) (not_nat_lt-trans n.commit m.commit k.commit q p) ∙ sym (ap (λ b. cond b m k) p)

pub both-assoc : (a b c : Option Node) → first_of_both (first_of_both a b) c ≡ first_of_both a (first_of_both b c)
both-assoc a b None = refl
both-assoc a None (Some n) = refl
both-assoc a (Some m) (Some n) = ap Some (first_of-assoc a m n)

module _ {T : Type 0} (node : T → Node) (edge : T → T → Bool) where
  node-earlier : (x : T) (o : Option T) → node (earlier node edge x o) ≡ earlier_of (node x) (option_map node o)
  node-earlier x None = refl
  node-earlier x (Some y) = go (nat_lt (node y).commit (node x).commit)
    where
      go : (b : Bool) → node (cond b y x) ≡ cond b (node y) (node x)
      go true = refl
      go false = refl

  earliest-push : (xs : List T) (x : T) → option_map node (earliest node edge (xs ++ x ∷ [])) ≡ Some (first_of (option_map node (earliest node edge xs)) (node x))
  earliest-push [] x = refl
  earliest-push (y ∷ ys) x =
      ap Some (node-earlier y (earliest node edge (ys ++ x ∷ [])) ∙ ap (earlier_of (node y)) (earliest-push ys x)
      ∙ earlier_first (node y) (option_map node (earliest node edge ys)) (node x)
      ∙ ap (λ n. first_of (Some n) (node x)) (sym (node-earlier y (earliest node edge ys))))

  both-none : (p : Option Node) → p ≡ first_of_both None p
  both-none None = refl
  both-none (Some m) = refl

  -- of two lists, one behind the other
  pub earliest-append : (xs ys : List T) → option_map node (earliest node edge (xs ++ ys)) ≡ first_of_both (option_map node (earliest node edge xs)) (option_map node (earliest node edge ys))
  earliest-append [] ys = both-none (option_map node (earliest node edge ys))
  earliest-append (x ∷ xs) ys =
      ap Some (node-earlier x (earliest node edge (xs ++ ys)) ∙ ap (earlier_of (node x)) (earliest-append xs ys)) ∙ go (option_map node (earliest node edge ys))
      ∙ ap (λ n. first_of_both (Some n) (option_map node (earliest node edge ys))) (sym (node-earlier x (earliest node edge xs)))
    where
      go : (p : Option Node) → Some (earlier_of (node x) (first_of_both (option_map node (earliest node edge xs)) p)) ≡ first_of_both (Some (earlier_of (node x) (option_map node (earliest node edge xs)))) p
      go None = refl
      go (Some m) = ap Some (earlier_first (node x) (option_map node (earliest node edge xs)) m)

  filter-push : (p : T → Bool) (xs : List T) (i : ℕ) (x : T) → i < length xs → x ≡ get_or xs i x → filter p (take (i + 1) xs) ≡ filter p (take i xs) ++ cond (p x) (x ∷ []) []
  filter-push p xs i x lt at = ap (filter p) (take_next xs i x lt at) ∙ filter-append p (take i xs) (x ∷ [])

  -- one more that passes
  pub earliest-next : (p : T → Bool) (xs : List T) (i : ℕ) (x : T) → i < length xs → x ≡ get_or xs i x → p x ≡ true → (last : Option Node)
      → last ≡ option_map node (earliest node edge (filter p (take i xs))) → Some (first_of last (node x)) ≡ option_map node (earliest node edge (filter p (take (i + 1) xs)))
  earliest-next p xs i x lt at passes last e =
      ap (λ o. Some (first_of o (node x))) e ∙ sym (earliest-push (filter p (take i xs)) x)
      ∙ ap (λ ys. option_map node (earliest node edge ys)) (sym (filter-push p xs i x lt at ∙ ap (λ b. filter p (take i xs) ++ cond b (x ∷ []) []) passes))

  -- one more that doesn't
  pub earliest-same : (p : T → Bool) (xs : List T) (i : ℕ) (x : T) → i < length xs → x ≡ get_or xs i x → p x ≡ false → (last : Option Node)
      → last ≡ option_map node (earliest node edge (filter p (take i xs))) → last ≡ option_map node (earliest node edge (filter p (take (i + 1) xs)))
  earliest-same p xs i x lt at fails last e =
      e ∙ ap (λ ys. option_map node (earliest node edge ys)) (sym (filter-push p xs i x lt at ∙ ap (λ b. filter p (take i xs) ++ cond b (x ∷ []) []) fails ∙ append-nil (filter p (take i xs))))

  -- ---- structures

  -- a transaction that hasn't committed, or without an edge to the pivot, begins none
  no_edge : (a b c d e f g : Bool) → (a && d) ≡ false → (a && b && c && d && e && f && g) ≡ false
  no_edge true true true d e f g q = ap (λ x. x && e && f && g) q
  no_edge true true false d e f g q = refl
  no_edge true false c d e f g q = refl
  no_edge false b c d e f g q = refl

  none_dangerous : (a b : T) → ((node a).committed && edge a b) ≡ false → (ts : List T) → filter (is_dangerous node edge a b) ts ≡ []
  none_dangerous a b e [] = refl
  none_dangerous a b e (c ∷ ts) =
      ap (λ x. cond x (c ∷ filter (is_dangerous node edge a b) ts) (filter (is_dangerous node edge a b) ts))
      (no_edge (node a).committed (node b).committed (node c).committed (edge a b) (edge b c) (nat_lt (node c).commit (node b).commit) (nat_le (node c).commit (cond (node a).read_write (node a).commit (node a).snapshot)) e)
      ∙ none_dangerous a b e ts

  pub caused-none : (a b : T) (ts : List T) → ((node a).committed && edge a b) ≡ false → None ≡ caused node edge a b (earliest node edge (filter (is_dangerous node edge a b) ts))
  caused-none a b ts e = sym (ap (λ xs. caused node edge a b (earliest node edge xs)) (none_dangerous a b e ts))

  -- ---- structures that have one transaction among their first two

  -- what follows from each of them follows where one is named
  through_some : (Q : Type 0) (a b : T) (cs : List T) → AllByRecursion (λ c. is_dangerous node edge a b c ≡ true → Q) cs → is_some (closed_pair node edge cs a b) ≡ true → Q
  through_some Q a b [] all e = absurd (true≢false (sym e))
  through_some Q a b (c ∷ cs) all e = go (is_dangerous node edge a b c) refl e (through_some Q a b cs all.1)
    where
      go : (d : Bool) → is_dangerous node edge a b c ≡ d
          → is_some (caused node edge a b (earliest node edge (cond d (c ∷ filter (is_dangerous node edge a b) cs) (filter (is_dangerous node edge a b) cs)))) ≡ true → (is_some (closed_pair node edge cs a b) ≡ true → Q) → Q
      go true p some rest = all.0 p
      go false p some rest = rest some

  begin_at : (x a : T) (ts : List T) → (a ≡ x → ⊥) → (bs : List T) → AllByRecursion (λ b. AllByRecursion (λ c. is_dangerous node edge a b c ≡ true → (a ≡ x) ⊎ (b ≡ x)) ts) bs
      → AllByRecursion (λ b. is_some (closed_pair node edge ts a b) ≡ true → b ≡ x) bs
  begin_at x a ts other [] all = tt
  begin_at x a ts other (b ∷ bs) all = (λ e. middle (through_some ((a ≡ x) ⊎ (b ≡ x)) a b ts all.0 e), begin_at x a ts other bs all.1)
    where
      middle : (a ≡ x) ⊎ (b ≡ x) → b ≡ x
      middle (inl p) = absurd (other p)
      middle (inr p) = p

  -- one that doesn't begin at x has it in its middle
  pub only-through : (ts : List T) (i : ℕ) (x a : T) → i < length ts → x ≡ get_or ts i x → BeginHold node edge x a ts → (a ≡ x → ⊥)
      → closed_pair node edge ts a x ≡ first_some (closed_pair node edge ts a) ts
  only-through ts i x a lt at holds differ =
      first_some-only (closed_pair node edge ts a) ts x i lt at (begin_at x a ts differ ts holds)

  danger_edges : (a b c d e f g : Bool) → (a && b && c && d && e && f && g) ≡ true → (d ≡ true) × (e ≡ true)
  danger_edges true true true true true f g q = (refl, refl)
  danger_edges true true true true false f g q = absurd (true≢false (sym q))
  danger_edges true true true false e f g q = absurd (true≢false (sym q))
  danger_edges true true false d e f g q = absurd (true≢false (sym q))
  danger_edges true false c d e f g q = absurd (true≢false (sym q))
  danger_edges false b c d e f g q = absurd (true≢false (sym q))

  edges : (a b c : T) → is_dangerous node edge a b c ≡ true → (edge a b ≡ true) × (edge b c ≡ true)
  edges a b c q = danger_edges (node a).committed (node b).committed (node c).committed (edge a b) (edge b c) (nat_lt (node c).commit (node b).commit) (nat_le (node c).commit (cond (node a).read_write (node a).commit (node a).snapshot)) q

  -- the middle has no edge to the last
  no_close : (a b c d e f g : Bool) → e ≡ false → (a && b && c && d && e && f && g) ≡ false
  no_close true true true true e f g q = ap (λ x. x && f && g) q
  no_close true true true false e f g q = refl
  no_close true true false d e f g q = refl
  no_close true false c d e f g q = refl
  no_close false b c d e f g q = refl

  pub none_closed : (a b : T) (cs : List T) → AllByRecursion (λ c. edge b c ≡ false) cs → filter (is_dangerous node edge a b) cs ≡ []
  none_closed a b [] all = refl
  none_closed a b (c ∷ cs) all =
      ap (λ x. cond x (c ∷ filter (is_dangerous node edge a b) cs) (filter (is_dangerous node edge a b) cs))
      (no_close (node a).committed (node b).committed (node c).committed (edge a b) (edge b c) (nat_lt (node c).commit (node b).commit) (nat_le (node c).commit (cond (node a).read_write (node a).commit (node a).snapshot)) all.0)
      ∙ none_closed a b cs all.1

  no_edges : (x : T) (ts : List T) → list_any (edge x) ts ≡ false → AllByRecursion (λ b. edge x b ≡ false) ts
  no_edges x [] e = tt
  no_edges x (b ∷ ts) e = go (edge x b) refl e (no_edges x ts)
    where
      go : (d : Bool) → edge x b ≡ d → (d || list_any (edge x) ts) ≡ false → (list_any (edge x) ts ≡ false → AllByRecursion (λ y. edge x y ≡ false) ts) → (edge x b ≡ false) × AllByRecursion (λ y. edge x y ≡ false) ts
      go true p q rest = absurd (true≢false q)
      go false p q rest = (p, rest q)

  none_last : (x a b : T) → edge x b ≡ false → (cs : List T) → AllByRecursion (λ c. edge x c ≡ false) cs → AllByRecursion (λ c. is_dangerous node edge a b c ≡ true → (a ≡ x) ⊎ (b ≡ x)) cs
      → AllByRecursion (λ c. is_dangerous node edge a b c ≡ true → ⊥) cs
  none_last x a b e [] out all = tt
  none_last x a b e (c ∷ cs) out all = (λ q. go (all.0 q) (edges a b c q), none_last x a b e cs out.1 all.1)
    where
      go : (a ≡ x) ⊎ (b ≡ x) → (edge a b ≡ true) × (edge b c ≡ true) → ⊥
      go (inl p) h = true≢false (sym h.0 ∙ ap (λ y. edge y b) p ∙ e)
      go (inr p) h = true≢false (sym h.1 ∙ ap (λ y. edge y c) p ∙ out.0)

  none_through : (x a : T) (ts : List T) → AllByRecursion (λ c. edge x c ≡ false) ts → (bs : List T) → AllByRecursion (λ b. edge x b ≡ false) bs
      → AllByRecursion (λ b. AllByRecursion (λ c. is_dangerous node edge a b c ≡ true → (a ≡ x) ⊎ (b ≡ x)) ts) bs → AllByRecursion (λ b. closed_pair node edge ts a b ≡ None) bs
  none_through x a ts out [] into all = tt
  none_through x a ts out (b ∷ bs) into all = (go (is_some (closed_pair node edge ts a b)) refl, none_through x a ts out bs into.1 all.1)
    where
      go : (d : Bool) → is_some (closed_pair node edge ts a b) ≡ d → closed_pair node edge ts a b ≡ None
      go true p = absurd (through_some ⊥ a b ts (none_last x a b into.0 ts out all.0) p)
      go false p = None-from_some (closed_pair node edge ts a b) p

  none_from : (x : T) (ts : List T) → AllByRecursion (λ c. edge x c ≡ false) ts → (firsts : List T) → AllByRecursion (λ a. BeginHold node edge x a ts) firsts → AllByRecursion (λ a. first_some (closed_pair node edge ts a) ts ≡ None) firsts
  none_from x ts out [] all = tt
  none_from x ts out (a ∷ firsts) all = (first_some-none (closed_pair node edge ts a) ts (none_through x a ts out ts out all.0), none_from x ts out firsts all.1)

  -- there is none where x has no edge
  pub none-held : (x : T) (ts : List T) → StructuresHold node edge x ts → list_any (edge x) ts ≡ false → None ≡ first_cause node edge ts
  none-held x ts all e = sym (first_some-none (λ a. first_some (closed_pair node edge ts a) ts) ts (none_from x ts (no_edges x ts e) ts all))

-- ---- a first whose bound isn't above the middle's snapshot

leads : (a b c : Bool) → (a && b && c) ≡ true → b ≡ true
leads true true c q = refl
leads true false c q = absurd (true≢false (sym q))
leads false b c q = absurd (true≢false (sym q))

closes : (a b c d e f g : Bool) → (a && b && c && d && e && f && g) ≡ true → g ≡ true
closes true true true true true true g q = q
closes true true true true true false g q = absurd (true≢false (sym q))
closes true true true true false f g q = absurd (true≢false (sym q))
closes true true true false e f g q = absurd (true≢false (sym q))
closes true true false d e f g q = absurd (true≢false (sym q))
closes true false c d e f g q = absurd (true≢false (sym q))
closes false b c d e f g q = absurd (true≢false (sym q))

in_between : (low middle high : ℕ) → high ≤ low → nat_lt low middle ≡ true → nat_le middle high ≡ true → ⊥
in_between low middle high le after before = grind (arith, nat_tests)

module _ {T : Type 0} (node : T → Node) (reads : T → T → Bool) where
  abbrev seen_edge : T → T → Bool
  seen_edge = edge_of node reads

  not_closed : (a x c : T) → bound node seen_edge a ≤ (node x).snapshot → is_dangerous node seen_edge a x c ≡ true → ⊥
  not_closed a x c le q =
      in_between (node x).snapshot (node c).commit (bound node seen_edge a) le
      (leads (not (eqb (node x).number (node c).number)) (nat_lt (node x).snapshot (node c).commit) (reads x c) (edges node seen_edge a x c q).1)
      (closes (node a).committed (node x).committed (node c).committed (seen_edge a x) (seen_edge x c) (nat_lt (node c).commit (node x).commit) (nat_le (node c).commit (bound node seen_edge a)) q)

  none_closes : (a x : T) → bound node seen_edge a ≤ (node x).snapshot → (cs : List T) → AllByRecursion (λ c. is_dangerous node seen_edge a x c ≡ true → ⊥) cs
  none_closes a x le [] = tt
  none_closes a x le (c ∷ cs) = (not_closed a x c le, none_closes a x le cs)

  -- it begins no structure with that middle
  pub bounded-none : (a x : T) (ts : List T) → bound node (edge_of node reads) a ≤ (node x).snapshot → None ≡ caused node (edge_of node reads) a x (earliest node (edge_of node reads) (filter (is_dangerous node (edge_of node reads) a x) ts))
  bounded-none a x ts le = go (is_some (closed_pair node seen_edge ts a x)) refl
    where
      go : (d : Bool) → is_some (closed_pair node (edge_of node reads) ts a x) ≡ d → None ≡ closed_pair node (edge_of node reads) ts a x
      go true e = absurd (through_some node (edge_of node reads) ⊥ a x ts (none_closes a x le ts) e)
      go false e = sym (None-from_some (closed_pair node (edge_of node reads) ts a x) e)
