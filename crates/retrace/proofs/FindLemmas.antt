-- Walks over lists: the first element that passes.
use Rattle.std.proofs.Common.{◌≡◌, sym, ap, ◌∙◌, ℕ, ◌<◌, Bool, true, cond, List, ◌∷◌, length, take, drop, get_or, suc, Some, None}
use Rattle.std.proofs.lemmas.List.Folds.{find-append}
use Rattle.std.specs.Option.{option_or}
use Rattle.std.specs.List.{find}
use Rattle.value.proofs.Basics.{split_at}

-- the element at a place is the first that passes
pub find_here : {X : Type 0} (p : X → Bool) (xs : List X) (i : ℕ) (x : X) → i < length xs → x ≡ get_or xs i x → find p (take i xs) ≡ None → p x ≡ true → Some x ≡ find p xs
find_here p xs i x lt at none e =
    sym (ap (find p) (split_at xs i x lt at) ∙ find-append p (take i xs) (x ∷ drop (suc i) xs)
    ∙ ap (λ o. option_or o (find p (x ∷ drop (suc i) xs))) none
    ∙ ap (λ b. cond b (Some x) (find p (drop (suc i) xs))) e)
