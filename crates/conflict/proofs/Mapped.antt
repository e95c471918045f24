-- Transactions of any kind, and what is tracked of them: the same structures are named.
use Rattle.std.proofs.Common.{◌≡◌, sym, ap, ◌∙◌, Bool, List, map}
use Rattle.std.specs.List.{filter}
use Rattle.value.specs.Isolation.{Node, caused, earliest, first_cause, first_some, is_dangerous}
use Rattle.value.proofs.IsolationLemmas.{In}
use Rattle.value.proofs.Basics.{first_some-same_in}
use Rattle.conflict.specs.Tracked.{Each, Party, edge, node}
use Rattle.value.proofs.Lists.{filter_alike}
use Rattle.conflict.proofs.EachOf.{Each-In}
use Rattle.value.proofs.Structures.{cause-map}

-- the same structures by two kinds of edges
cause-alike : {T : Type 0} (n : T → Node) (e d : T → T → Bool) (ts : List T) → ((a b c : T) → In a ts → In b ts → In c ts → is_dangerous n e a b c ≡ is_dangerous n d a b c) → first_cause n e ts ≡ first_cause n d ts
cause-alike n e d ts h =
    first_some-same_in (λ a. first_some (λ b. caused n e a b (earliest n e (filter (is_dangerous n e a b) ts))) ts) (λ a. first_some (λ b. caused n d a b (earliest n d (filter (is_dangerous n d a b) ts))) ts) ts
    (λ a i. first_some-same_in (λ b. caused n e a b (earliest n e (filter (is_dangerous n e a b) ts))) (λ b. caused n d a b (earliest n d (filter (is_dangerous n d a b) ts))) ts
    (λ b j. ap (λ cs. caused n e a b (earliest n e cs)) (filter_alike (is_dangerous n e a b) (is_dangerous n d a b) ts (λ c k. h a b c i j k))))

pub cause_seen : {T : Type 0} (n : T → Node) (e : T → T → Bool) (f : T → Party) (ts : List T) → ((t : T) → record (n t) { place = 0 } ≡ node (f t))
    → Each (λ a. Each (λ b. Each (λ c. is_dangerous n e a b c ≡ is_dangerous node edge (f a) (f b) (f c)) ts) ts) ts
    → first_cause n e ts ≡ first_cause node edge (map f ts)
cause_seen {T} n e f ts same h =
    (λ i. first_cause (λ t. same t i) e ts)
    ∙ cause-alike (λ t. node (f t)) e (λ t u. edge (f t) (f u)) ts danger
    ∙ sym (cause-map f node edge ts)
  where
    danger : (a b c : T) → In a ts → In b ts → In c ts → is_dangerous (λ t. node (f t)) e a b c ≡ is_dangerous (λ t. node (f t)) (λ t u. edge (f t) (f u)) a b c
    danger a b c i j k =
        sym (λ o. is_dangerous (λ t. same t o) e a b c)
        ∙ Each-In (λ z. is_dangerous n e a b z ≡ is_dangerous node edge (f a) (f b) (f z)) ts c
        (Each-In (λ y. Each (λ z. is_dangerous n e a y z ≡ is_dangerous node edge (f a) (f y) (f z)) ts) ts b
        (Each-In (λ x. Each (λ y. Each (λ z. is_dangerous n e x y z ≡ is_dangerous node edge (f x) (f y) (f z)) ts) ts) ts a h i) j) k
