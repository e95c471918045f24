-- Places of lists: what is read after a write, and what stands among places.
use Rattle.std.proofs.Common.{◌≡◌, refl, sym, ap, subst, ℕ, zero, suc, false, inl, inr, List, [], ◌∷◌, map, slice_get, slice_set, Some}
use Rattle.std.proofs.lemmas.Option.{same_Some}
use Rattle.std.specs.List.{AllByRecursion}
use Rattle.orders.specs.Explains.{Stands}

pub get-set : {T : Type 0} (xs : List T) (i : ℕ) (x y : T) → slice_get xs i ≡ Some x → slice_get (slice_set xs i y) i ≡ Some y
get-set [] i x y e = cc
get-set (z ∷ zs) zero x y e = refl
get-set (z ∷ zs) (suc i) x y e = get-set zs i x y e

pub get-other : {T : Type 0} (xs : List T) (i j : ℕ) (y : T) → (j ≡ i → ⊥) → slice_get (slice_set xs i y) j ≡ slice_get xs j
get-other [] i j y n = refl
get-other (z ∷ zs) zero zero y n = absurd (n refl)
get-other (z ∷ zs) zero (suc j) y n = refl
get-other (z ∷ zs) (suc i) zero y n = refl
get-other (z ∷ zs) (suc i) (suc j) y n = get-other zs i j y (λ e. n (ap suc e))

pub set-back : {T : Type 0} (xs : List T) (i : ℕ) (x y : T) → slice_get xs i ≡ Some x → slice_set (slice_set xs i y) i x ≡ xs
set-back [] i x y e = refl
set-back (z ∷ zs) zero x y e = ap (λ w. w ∷ zs) (sym (same_Some z x e))
set-back (z ∷ zs) (suc i) x y e = ap (λ ws. z ∷ ws) (set-back zs i x y e)

pub get-false : {T : Type 0} (xs : List T) (i : ℕ) (x : T) → slice_get xs i ≡ Some x → slice_get (map (λ (_ : T). false) xs) i ≡ Some false
get-false [] i x e = cc
get-false (z ∷ zs) zero x e = refl
get-false (z ∷ zs) (suc i) x e = get-false zs i x e

-- ---- all of some places

pub all_at : (P : ℕ → Type 0) (xs : List ℕ) (i : ℕ) → AllByRecursion P xs → Stands i xs → P i
all_at P [] i a s = absurd s
all_at P (x ∷ xs) i a (inl e) = subst P (sym e) a.0
all_at P (x ∷ xs) i a (inr s) = all_at P xs i a.1 s

pub all_from : (P : ℕ → Type 0) (xs : List ℕ) → ((i : ℕ) → Stands i xs → P i) → AllByRecursion P xs
all_from P [] h = tt
all_from P (x ∷ xs) h = (h x (inl refl), all_from P xs (λ i s. h i (inr s)))
