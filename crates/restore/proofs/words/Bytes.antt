-- The first place of a byte.
use Rattle.std.proofs.Common.{◌≡◌, ℕ, zero, suc, ◌+◌, ◌==◌, ◌<◌, nat_lt, Bool, true, false, not, cond, List, [], ◌∷◌, length, slice_index, Option, Some, None, refl, sym, ap, ◌∙◌, arith}
use Rattle.std.proofs.lemmas.Bool.{lt-ltb}
use Rattle.std.specs.List.{prefix_len, position}
use Rattle.std.proofs.lemmas.Bool.Decides.{nat_tests}
use Rattle.memchr.specs.Find.{IsFirstByte, is_byte}

is_not_below : (n : ℕ) → nat_lt n n ≡ false
is_not_below n = grind (arith, nat_tests)

-- a byte that fails a test is passed over
passed : (p : ℕ → Bool) (x : ℕ) (xs : List ℕ) (n : ℕ) (b : Bool) → p x ≡ b → (b ≡ true → ⊥) → prefix_len (λ y. not (p y)) xs ≡ n → prefix_len (λ y. not (p y)) (x ∷ xs) ≡ 1 + n
passed p x xs n true is fails e = absurd (fails refl)
passed p x xs n false is fails e = ap (λ b. cond (not b) (1 + prefix_len (λ y. not (p y)) xs) 0) is ∙ ap (λ m. 1 + m) e

up_to_first : (p : ℕ → Bool) (xs : List ℕ) (k : ℕ) → k < length xs → p (slice_index xs k) ≡ true → ((j : ℕ) → j < k → p (slice_index xs j) ≡ true → ⊥) → prefix_len (λ y. not (p y)) xs ≡ k
up_to_first p [] k lt is before = absurd (omega arith)
up_to_first p (x ∷ xs) zero lt is before = ap (λ b. cond (not b) (1 + prefix_len (λ y. not (p y)) xs) 0) is
up_to_first p (x ∷ xs) (suc k) lt is before =
    let rest = up_to_first p xs k (omega arith) is (λ j below h. before (suc j) (omega arith) h) in
    passed p x xs k (p x) refl (λ h. before 0 (omega arith) h) rest ∙ omega arith

all_passed : (p : ℕ → Bool) (xs : List ℕ) → ((j : ℕ) → j < length xs → p (slice_index xs j) ≡ true → ⊥) → prefix_len (λ y. not (p y)) xs ≡ length xs
all_passed p [] none = refl
all_passed p (x ∷ xs) none =
    passed p x xs (length xs) (p x) refl (λ h. none 0 (omega arith) h) (all_passed p xs (λ j below h. none (suc j) (omega arith) h)) ∙ omega arith

pub first_place : (a : ℕ) (xs : List ℕ) (r : Option ℕ) → IsFirstByte (is_byte a) xs r → r ≡ position (λ b. b == a) xs
first_place a xs None none =
    let all = all_passed (λ b. b == a) xs (λ j below h. none j (omega arith) below h) in
    sym (ap (λ n. cond (nat_lt n (length xs)) (Some n) None) all ∙ ap (λ b. cond b (Some (length xs)) None) (is_not_below (length xs)))
first_place a xs (Some k) h =
    let here = up_to_first (λ b. b == a) xs k h.0.high h.1 (λ j below is. h.0.before j (omega arith) below is) in
    sym (ap (λ n. cond (nat_lt n (length xs)) (Some n) None) here ∙ ap (λ b. cond b (Some k) None) (lt-ltb k (length xs) h.0.high))
