-- Texts parted by a comma and a space, the first of them first.
use Rattle.std.proofs.Common.{◌≡◌, ℕ, zero, suc, ◌<◌, ◌^◌, arith, List, [], ◌∷◌, ◌++◌, map, sym, ap}
use Rattle.std.proofs.lemmas.List.{append-nil}
use Rattle.std.proofs.lemmas.Fmt.{decimal_digit, decimal-digits_of}
use Rattle.std.specs.Fmt.{decimal}
use Rattle.std.specs.List.{flat_map, join_with_byte}
use Rattle.dumpplan.specs.Lines.{comma_separated, number_text}

-- after the first, each text follows a comma and a space
more_separated : {X : Type 0} (text : X → List ℕ) (y : X) (ys : List X) → join_with_byte 44 ((32 ∷ text y) ∷ map (λ t. 32 ∷ t) (map text ys)) ≡ 32 ∷ text y ++ flat_map (λ z. 44 ∷ 32 ∷ text z) ys
more_separated text y [] = ap (λ (rest : List ℕ). 32 ∷ rest) (sym (append-nil (text y)))
more_separated text y (z ∷ zs) = ap (λ (rest : List ℕ). 32 ∷ text y ++ 44 ∷ rest) (more_separated text z zs)

pub comma_separated-cons : {X : Type 0} (text : X → List ℕ) (x : X) (xs : List X) → comma_separated (map text (x ∷ xs)) ≡ text x ++ flat_map (λ y. 44 ∷ 32 ∷ text y) xs
comma_separated-cons text x [] = sym (append-nil (text x))
comma_separated-cons text x (y ∷ ys) = ap (λ (rest : List ℕ). text x ++ 44 ∷ rest) (more_separated text y ys)

-- what is printed of a number of 64 bits is its decimal text
pub decimal-number_text : (n : ℕ) → n < 2 ^ 64 → decimal n ≡ number_text n
decimal-number_text zero lt = decimal_digit 0 (omega arith)
decimal-number_text (suc n) lt = decimal-digits_of (suc n) (omega arith) lt
