-- The least snapshot of those that pass a test.
use Rattle.std.proofs.Common.{◌≡◌, refl, ap, ◌∙◌, ℕ, ◌≤◌, Bool, true, false, cond, min, inl, inr, ◌⊎◌, List, [], ◌∷◌, arith}
use Rattle.std.proofs.Math.Nat.{min-le_left, min-le_right}
use Rattle.value.proofs.IsolationLemmas.{In}
use Rattle.value.proofs.Lists.{clash}
use Rattle.history.specs.Transactions.{Txn}
use Rattle.transactions.specs.Versions.{least_snapshot}

from_both : (k a b : ℕ) → k ≤ a → k ≤ b → k ≤ min a b
from_both k a b l m = grind arith

module _ {A : Type 0} (p : Txn A → Bool) where
  pub least_most : (n : ℕ) (ts : List (Txn A)) → least_snapshot p n ts ≤ n
  least_most n [] = omega arith
  least_most n (t ∷ ts) = go (p t) (least_most n ts)
    where
      go : (b : Bool) → least_snapshot p n ts ≤ n → cond b (min t.snapshot (least_snapshot p n ts)) (least_snapshot p n ts) ≤ n
      go true h = let m = min-le_right t.snapshot (least_snapshot p n ts) in omega (arith, h, m)
      go false h = h

  pub least_of : (n : ℕ) (ts : List (Txn A)) (u : Txn A) → In u ts → p u ≡ true → least_snapshot p n ts ≤ u.snapshot
  least_of n [] u i e = absurd i
  least_of n (t ∷ ts) u i e = go (p t) refl i (λ j. least_of n ts u j e)
    where
      go : (b : Bool) → p t ≡ b → (u ≡ t) ⊎ In u ts → (In u ts → least_snapshot p n ts ≤ u.snapshot) → cond b (min t.snapshot (least_snapshot p n ts)) (least_snapshot p n ts) ≤ u.snapshot
      go true d (inl q) rest = let m = min-le_left t.snapshot (least_snapshot p n ts) in let s : u.snapshot ≡ t.snapshot = ap (λ (y : Txn A). y.snapshot) q in omega (arith, m, s)
      go true d (inr j) rest = let m = min-le_right t.snapshot (least_snapshot p n ts) in let h = rest j in omega (arith, h, m)
      go false d (inl q) rest = clash (p u) e (ap p q ∙ d)
      go false d (inr j) rest = rest j

  pub least_from : (n : ℕ) (ts : List (Txn A)) (k : ℕ) → k ≤ n → ((u : Txn A) → In u ts → p u ≡ true → k ≤ u.snapshot) → k ≤ least_snapshot p n ts
  least_from n [] k l h = l
  least_from n (t ∷ ts) k l h = go (p t) refl (least_from n ts k l (λ u i e. h u (inr i) e))
    where
      go : (b : Bool) → p t ≡ b → k ≤ least_snapshot p n ts → k ≤ cond b (min t.snapshot (least_snapshot p n ts)) (least_snapshot p n ts)
      go true d rest = from_both k t.snapshot (least_snapshot p n ts) (h t (inl refl) d) rest
      go false d rest = rest
