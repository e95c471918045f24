-- What holds of each element of a list.
use Rattle.std.proofs.Common.{◌≡◌, refl, sym, subst, ◌⊎◌, inl, inr, List, [], ◌∷◌}
use Rattle.value.proofs.IsolationLemmas.{In}
use Rattle.conflict.specs.Tracked.{Each}

module _ {X : Type 0} where
  pub Each-In : (P : X → Type 0) (xs : List X) (x : X) → Each P xs → In x xs → P x
  Each-In P [] x e i = absurd i
  Each-In P (y ∷ xs) x e (inl q) = subst P (sym q) e.0
  Each-In P (y ∷ xs) x e (inr i) = Each-In P xs x e.1 i

  pub Each-all : (P : X → Type 0) (xs : List X) → ((x : X) → In x xs → P x) → Each P xs
  Each-all P [] h = tt
  Each-all P (y ∷ xs) h = (h y (inl refl), Each-all P xs (λ x i. h x (inr i)))
