-- Rows that are counted, and a dump that was read.
use Rattle.std.proofs.Common.{◌≡◌, ◌⊎◌, ℕ, ◌+◌, ◌-◌, ◌^◌, ◌<◌, List, length, get_or, take, min, Result, Ok, Err, true≢false, inl, inr, sym, ap, arith}
use Rattle.std.specs.List.{sum_by}
use Rattle.std.specs.Result.{OnOk, is_ok}
use Rattle.std.proofs.lemmas.List.Sums.{sum_by_more}
use Rattle.restore.specs.declared.error.RestoreFault.{RestoreFault}
use Rattle.program.specs.Ends.{loaded}

-- the rows of one more table
pub one_more_table : {B : Type 0} (X : List (List B)) (i n k r : ℕ) (d : List B) → i < length X → n ≡ min (sum_by (λ rows. length rows) (take i X)) (2 ^ 64 - 1) → k ≡ length (get_or X i d) → r ≡ min (n + k) (2 ^ 64 - 1) → r ≡ min (sum_by (λ rows. length rows) (take (i + 1) X)) (2 ^ 64 - 1)
one_more_table X i n k r d lt so is sum =
    let more = sum_by_more (λ rows. length rows) X i d lt in
    omega (arith, so, is, sum, more)

abbrev value_or : {X E : Type 0} → X → Result X E → X
value_or x (Ok y) = y
value_or x (Err e) = x

-- what was loaded was read
pub was_read : {X : Type 0} (x : X) (read : Result X RestoreFault) (f : RestoreFault) → (Ok x ≡ loaded read) ⊎ (Ok x ≡ loaded (Err f)) → read ≡ Ok x
was_read x (Ok y) f (inl e) = ap (λ z. Ok z) (sym (ap (value_or x) e))
was_read x (Err g) f (inl e) = absurd (true≢false (ap is_ok e))
was_read x (Ok y) f (inr e) = absurd (true≢false (ap is_ok e))
was_read x (Err g) f (inr e) = absurd (true≢false (ap is_ok e))

pub on_ok : {T E : Type 0} (r : Result T E) (P Q R S : Type 0) → (P → Q → R → S) → OnOk r P → OnOk r Q → OnOk r R → OnOk r S
on_ok (Ok x) P Q R S f p q s = f p q s
on_ok (Err e) P Q R S f p q s = tt
