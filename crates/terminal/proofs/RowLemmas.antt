-- The lines of an answer, except the first and the last.
use Rattle.std.proofs.Common.{◌≡◌, ◌∙◌, ◌-◌, List, [], ◌∷◌, map, drop, take, length, ap, refl, sym}
use Rattle.std.proofs.lemmas.List.{drop-map, length-map, take-map}

map-twice : {X Y Z : Type 0} (v : X → Y) (f : Y → Z) (xs : List X) → map f (map v xs) ≡ map (λ x. f (v x)) xs
map-twice v f [] = refl
map-twice v f (x ∷ xs) = ap (λ l. f (v x) ∷ l) (map-twice v f xs)

inner-of-map : {X Y : Type 0} (v : X → Y) (xs : List X) → drop 1 (take (length (map v xs) - 1) (map v xs)) ≡ map v (drop 1 (take (length xs - 1) xs))
inner-of-map v xs = ap (λ n. drop 1 (take (n - 1) (map v xs))) (length-map xs v) ∙ ap (λ l. drop 1 l) (take-map v (length xs - 1) xs) ∙ drop-map v 1 (take (length xs - 1) xs)

-- what is made of the lines, by what they have
pub inner-map : {X Y Z : Type 0} (v : X → Y) (f : Y → Z) (xs : List X) → map (λ x. f (v x)) (drop 1 (take (length xs - 1) xs)) ≡ map f (drop 1 (take (length (map v xs) - 1) (map v xs)))
inner-map v f xs = sym (ap (λ l. map f l) (inner-of-map v xs) ∙ map-twice v f (drop 1 (take (length xs - 1) xs)))
