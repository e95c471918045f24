-- What every value of the program is.
use Rattle.std.proofs.Common.{◌≡◌, ℕ, suc, ◌<◌, true, nat_lt, List, [], ◌∷◌, length, get_or, refl, arith}
use Rattle.std.proofs.lemmas.Bool.Decides.{nat_tests}
use Rattle.std.specs.List.{list_all}

byte_test : (b : ℕ) → b < 256 → nat_lt b 256 ≡ true
byte_test b h = grind (arith, nat_tests)

-- numbers below 256 are bytes
pub bytes_all : (bytes : List ℕ) → ((k : ℕ) → k < length bytes → get_or bytes k 0 < 256) → list_all (λ b. nat_lt b 256) bytes ≡ true
bytes_all [] small = refl
bytes_all (b ∷ bytes) small = rw (byte_test b (small 0 (omega arith))) (bytes_all bytes (λ k h. small (suc k) (omega arith)))
