-- Steps that are done one after the other, and what is printed of them.
use Rattle.std.specs.Prelude.{◌≡◌, ℕ, List, [], ◌∷◌, ◌++◌}

module _ {H S : Type 0} where
  -- The steps were done in their order, each from the state that the one before it left, and their texts stand one after the other.
  abbrev pub AreDone : (H → S → H → List ℕ → Type 0) → H → List S → H → List ℕ → Type 0
  AreDone does h [] k text = (k ≡ h) × (text ≡ [])
  AreDone does h (step ∷ more) k text = (m : H) × (first : List ℕ) × (rest : List ℕ) × does h step m first × AreDone does m more k rest × (text ≡ first ++ rest)
