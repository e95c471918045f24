-- Where a record dooms nobody, all transactions stay as they were.
use Rattle.std.proofs.Common.{◌≡◌, ◌==◌, true, List, [], ◌∷◌, length, ap, refl, arith}
use Rattle.std.proofs.lemmas.Bool.{eqb-true}
use Rattle.retrace.specs.Dooms.{all_doomed}
use Rattle.retrace.specs.Runs.{Going}

pub spared : {A : Type 0} (gs : List (Going A)) → all_doomed [] gs ≡ gs
spared [] = refl
spared (g ∷ gs) = ap (λ hs. g ∷ hs) (spared gs)

-- a list of no elements
pub empty_is : {X : Type 0} (xs : List X) → (length xs == 0) ≡ true → xs ≡ []
empty_is [] none = refl
empty_is (x ∷ xs) none = absurd (let p = eqb-true (length (x ∷ xs)) 0 none in omega arith)
