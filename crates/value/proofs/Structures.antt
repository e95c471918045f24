-- Dangerous structures among transactions of which some go, or are seen otherwise.
use Rattle.std.proofs.Common.{◌≡◌, refl, ap, ◌∙◌, Bool, true, false, cond, ◌&&◌, List, [], ◌∷◌, map, Option, Some, None, nat_lt, nat_le}
use Rattle.std.proofs.lemmas.Bool.{and_parts, and_from, false_from_ne_true}
use Rattle.std.specs.List.{filter}
use Rattle.std.specs.Option.{option_map}
use Rattle.value.specs.declared.refusal.Cause.{Cause}
use Rattle.value.specs.Isolation.{Node, bound, caused, earlier, earliest, first_cause, first_some, is_dangerous}
use Rattle.value.proofs.IsolationLemmas.{In}
use Rattle.value.proofs.Basics.{filter_none, first_some-same_in, first_some-none, first_some-In, none_from_filter, filter-map, first_some-map}
use Rattle.value.proofs.Lists.{clash, filter-kept, In-filter, first_some-kept}

module _ {T : Type 0} (node : T → Node) (edge : T → T → Bool) where
  -- what a dangerous structure is
  pub record Danger (a b c : T) : Type 0 where
    pub first : (node a).committed ≡ true
    pub pivot : (node b).committed ≡ true
    pub last : (node c).committed ≡ true
    pub into : edge a b ≡ true
    pub out : edge b c ≡ true
    pub before : nat_lt (node c).commit (node b).commit ≡ true
    pub within : nat_le (node c).commit (bound node edge a) ≡ true

  pub parts : (a b c : T) → is_dangerous node edge a b c ≡ true → Danger a b c
  parts a b c e =
      let p6 = and_parts ((node a).committed && (node b).committed && (node c).committed && edge a b && edge b c && nat_lt (node c).commit (node b).commit) (nat_le (node c).commit (bound node edge a)) e in
      let p5 = and_parts ((node a).committed && (node b).committed && (node c).committed && edge a b && edge b c) (nat_lt (node c).commit (node b).commit) p6.0 in
      let p4 = and_parts ((node a).committed && (node b).committed && (node c).committed && edge a b) (edge b c) p5.0 in
      let p3 = and_parts ((node a).committed && (node b).committed && (node c).committed) (edge a b) p4.0 in
      let p2 = and_parts ((node a).committed && (node b).committed) (node c).committed p3.0 in
      let p1 = and_parts (node a).committed (node b).committed p2.0 in
      record { first = p1.0; pivot = p1.1; last = p2.1; into = p3.1; out = p4.1; before = p5.1; within = p6.1 }

  pub whole : (a b c : T) → Danger a b c → is_dangerous node edge a b c ≡ true
  whole a b c d = and_from _ _ (and_from _ _ (and_from _ _ (and_from _ _ (and_from _ _ (and_from _ _ d.first d.pivot) d.last) d.into) d.out) d.before) d.within

  abbrev through : List T → T → T → Option Cause
  through ts a b = caused node edge a b (earliest node edge (filter (is_dangerous node edge a b) ts))

  abbrev from : List T → T → Option Cause
  from ts a = first_some (through ts a) ts

  none_caused : (a b : T) (ys : List T) → caused node edge a b (earliest node edge ys) ≡ None → ys ≡ []
  none_caused a b [] e = refl
  none_caused a b (y ∷ ys) e = cc

  -- There is none where none is named,
  pub no_danger : (ts : List T) → first_cause node edge ts ≡ None → (a b c : T) → In a ts → In b ts → In c ts → is_dangerous node edge a b c ≡ false
  no_danger ts e a b c i j k =
      none_from_filter (is_dangerous node edge a b) ts c (none_caused a b (filter (is_dangerous node edge a b) ts) (first_some-In (through ts a) ts b (first_some-In (from ts) ts a e i) j)) k

  no_through : (ts : List T) (a b : T) → ((c : T) → In c ts → is_dangerous node edge a b c ≡ false) → through ts a b ≡ None
  no_through ts a b h = ap (λ ys. caused node edge a b (earliest node edge ys)) (filter_none (is_dangerous node edge a b) ts h)

  -- and none is named where there is none.
  pub no_cause : (ts : List T) → ((a b c : T) → In a ts → In b ts → In c ts → is_dangerous node edge a b c ≡ false) → first_cause node edge ts ≡ None
  no_cause ts h = first_some-none (from ts) ts (λ a i. first_some-none (through ts a) ts (λ b j. no_through ts a b (λ c k. h a b c i j k)))

  -- The same structure is named where those that are part of one stay.
  pub cause-kept : (k : T → Bool) (ts : List T) → ((a b c : T) → In a ts → In b ts → In c ts → is_dangerous node edge a b c ≡ true → (k a ≡ true) × (k b ≡ true) × (k c ≡ true))
      → first_cause node edge (filter k ts) ≡ first_cause node edge ts
  cause-kept k ts h =
      first_some-same_in (from (filter k ts)) (from ts) (filter k ts) (λ a i. same_from a (In-filter k a ts i).0)
      ∙ first_some-kept (from ts) k ts (λ a i e. first_some-none (through ts a) ts (λ b j. no_through ts a b (λ c l. false_from_ne_true _ (λ d. clash (k a) (h a b c i j l d).0 e))))
    where
      same_through : (a b : T) → In a ts → In b ts → through (filter k ts) a b ≡ through ts a b
      same_through a b i j = ap (λ ys. caused node edge a b (earliest node edge ys)) (filter-kept (is_dangerous node edge a b) k ts (λ c l d. (h a b c i j l d).2))

      same_from : (a : T) → In a ts → from (filter k ts) a ≡ from ts a
      same_from a i =
          first_some-same_in (through (filter k ts) a) (through ts a) (filter k ts) (λ b j. same_through a b i (In-filter k b ts j).0)
          ∙ first_some-kept (through ts a) k ts (λ b j e. no_through ts a b (λ c l. false_from_ne_true _ (λ d. clash (k b) (h a b c i j l d).1 e)))

module _ {S T : Type 0} (g : S → T) (node : T → Node) (edge : T → T → Bool) where
  abbrev node_of : S → Node
  node_of s = node (g s)

  abbrev edge_of : S → S → Bool
  edge_of s t = edge (g s) (g t)

  earlier-map : (x : S) (o : Option S) → earlier node edge (g x) (option_map g o) ≡ g (earlier node_of edge_of x o)
  earlier-map x None = refl
  earlier-map x (Some y) = go (nat_lt (node (g y)).commit (node (g x)).commit)
    where
      go : (b : Bool) → cond b (g y) (g x) ≡ g (cond b y x)
      go true = refl
      go false = refl

  pub earliest-map : (xs : List S) → earliest node edge (map g xs) ≡ option_map g (earliest node_of edge_of xs)
  earliest-map [] = refl
  earliest-map (x ∷ xs) = ap (λ o. Some (earlier node edge (g x) o)) (earliest-map xs) ∙ ap Some (earlier-map x (earliest node_of edge_of xs))

  caused-map : (a b : S) (o : Option S) → caused node edge (g a) (g b) (option_map g o) ≡ caused node_of edge_of a b o
  caused-map a b None = refl
  caused-map a b (Some c) = refl

  through-map : (xs : List S) (a b : S)
      → caused node edge (g a) (g b) (earliest node edge (filter (is_dangerous node edge (g a) (g b)) (map g xs)))
      ≡ caused node_of edge_of a b (earliest node_of edge_of (filter (is_dangerous node_of edge_of a b) xs))
  through-map xs a b =
      ap (λ ys. caused node edge (g a) (g b) (earliest node edge ys)) (filter-map g (is_dangerous node edge (g a) (g b)) xs)
      ∙ ap (caused node edge (g a) (g b)) (earliest-map (filter (is_dangerous node_of edge_of a b) xs))
      ∙ caused-map a b (earliest node_of edge_of (filter (is_dangerous node_of edge_of a b) xs))

  -- The structure that is named of transactions as they are seen through g.
  pub cause-map : (xs : List S) → first_cause node edge (map g xs) ≡ first_cause node_of edge_of xs
  cause-map xs =
      first_some-map g (λ a. first_some (λ b. caused node edge a b (earliest node edge (filter (is_dangerous node edge a b) (map g xs)))) (map g xs)) xs
      ∙ first_some-same_in _ _ xs (λ a i. first_some-map g (λ b. caused node edge (g a) b (earliest node edge (filter (is_dangerous node edge (g a) b) (map g xs)))) xs ∙ first_some-same_in _ _ xs (λ b j. through-map xs a b))
