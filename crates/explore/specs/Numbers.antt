-- How many interleavings there are.
-- Source: the multinomial coefficient, the number of permutations of a multiset (Knuth, The Art of Computer Programming, volume 1, section 1.2.6).
use Rattle.std.specs.Prelude.{◌≡◌, ℕ, zero, suc, ◌*◌, ◌^◌, ◌≤◌, Option, Some, None, List, [], ◌∷◌, length}
use Rattle.explore.specs.Interleavings.{interleavings}

-- the product of the numbers from 1 to n
abbrev pub factorial : ℕ → ℕ
factorial zero = 1
factorial (suc n) = suc n * factorial n

-- the product of the factorials of some numbers
abbrev pub factorials : List ℕ → ℕ
factorials [] = 1
factorials (n ∷ ns) = factorial n * factorials ns

-- The number is that of the interleavings; or there are more than a u64 can hold.
abbrev pub IsNumber : Option ℕ → List ℕ → Type 0
IsNumber (Some n) lines = n ≡ length (interleavings lines)
IsNumber None lines = 2 ^ 64 ≤ length (interleavings lines)
