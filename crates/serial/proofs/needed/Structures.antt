-- The dangerous structures that a commit makes, among transactions of which only those that matter are kept: by edges and numbers alone.
use Rattle.std.proofs.Common.{◌≡◌, refl, ap, subst, ◌∙◌, ℕ, ◌<◌, ◌≤◌, Bool, true, false, cond, ◌⊎◌, inl, inr, List, arith}
use Rattle.std.proofs.lemmas.Bool.{leb-true}
use Rattle.std.specs.List.{filter}
use Rattle.value.specs.Isolation.{Node, bound, first_cause, is_dangerous}
use Rattle.value.proofs.IsolationLemmas.{In}
use Rattle.value.proofs.Structures.{Danger, parts, cause-kept}

module _ {T : Type 0} (node : T → Node) (edge : T → T → Bool) where
  -- x commits among ts; k says which are kept, and n is a number at most x's snapshot.
  pub record Suits (ts : List T) (x : T) (n : ℕ) (k : T → Bool) : Type 0 where
    pub seen : (a b : T) → In a ts → In b ts → edge a b ≡ true → (node a).snapshot < (node b).commit
    pub writes : (a b : T) → In a ts → In b ts → edge a b ≡ true → (node b).read_write ≡ true
    pub holds : (a b c : T) → In a ts → In b ts → In c ts → is_dangerous node edge a b c ≡ true → (a ≡ x) ⊎ (b ≡ x)
    pub from : n ≤ (node x).snapshot
    pub self : k x ≡ true
    pub recent : (u : T) → In u ts → (node u).committed ≡ true → (node u).read_write ≡ true → n < (node u).commit → k u ≡ true
    pub reader : (a b c : T) → In a ts → In b ts → In c ts → is_dangerous node edge a b c ≡ true → (node a).read_write ≡ false → n < (node a).snapshot → k a ≡ true
    pub met : (u v : T) → In u ts → In v ts → (node u).committed ≡ true → (node v).committed ≡ true → (node u).read_write ≡ true → n < (node u).commit → edge u v ≡ true → k v ≡ true

  module _ (ts : List T) (x : T) (n : ℕ) (k : T → Bool) (h : Suits ts x n k) where
    -- All three of a structure are kept.
    pub all_kept : (a b c : T) → In a ts → In b ts → In c ts → is_dangerous node edge a b c ≡ true → (k a ≡ true) × (k b ≡ true) × (k c ≡ true)
    all_kept a b c i j l e = go (h.holds a b c i j l e)
      where
        d : Danger node edge a b c
        d = parts node edge a b c e

        first : a ≡ x → (k a ≡ true) × (k b ≡ true) × (k c ≡ true)
        first p = (ap k p ∙ h.self, h.recent b j d.pivot w above, h.met b c j l d.pivot d.last w above d.out)
          where
            w : (node b).read_write ≡ true
            w = h.writes a b i j d.into

            above : n < (node b).commit
            above = let s : (node a).snapshot ≡ (node x).snapshot = ap (λ y. (node y).snapshot) p in omega (arith, h.from, s, h.seen a b i j d.into)

        middle : b ≡ x → (k a ≡ true) × (k b ≡ true) × (k c ≡ true)
        middle p = (side (node a).read_write refl, ap k p ∙ h.self, h.recent c l d.last (h.writes b c j l d.out) above)
          where
            above : n < (node c).commit
            above = let s : (node b).snapshot ≡ (node x).snapshot = ap (λ y. (node y).snapshot) p in omega (arith, h.from, s, h.seen b c j l d.out)

            within : (node c).commit ≤ cond (node a).read_write (node a).commit (node a).snapshot
            within = leb-true (node c).commit (bound node edge a) d.within

            side : (r : Bool) → (node a).read_write ≡ r → k a ≡ true
            side true q = h.recent a i d.first q (let m : (node c).commit ≤ (node a).commit = subst (λ r. (node c).commit ≤ cond r (node a).commit (node a).snapshot) q within in omega (arith, m, above))
            side false q = h.reader a b c i j l e q (let m : (node c).commit ≤ (node a).snapshot = subst (λ r. (node c).commit ≤ cond r (node a).commit (node a).snapshot) q within in omega (arith, m, above))

        go : (a ≡ x) ⊎ (b ≡ x) → (k a ≡ true) × (k b ≡ true) × (k c ≡ true)
        go (inl p) = first p
        go (inr p) = middle p

    -- Of those that are kept the structure is named that is named of all.
    pub cause_of_kept : first_cause node edge (filter k ts) ≡ first_cause node edge ts
    cause_of_kept = cause-kept node edge k ts all_kept
