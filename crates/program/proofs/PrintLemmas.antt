-- What was printed in parts was printed as a whole.
use Rattle.std.proofs.Common.{◌≡◌, ◌⊎◌, ℕ, true, List, [], ◌++◌, Option, Some, None, Result, Ok, Err, IfErr, OnErr, OnOk, inl, inr, refl, sym, ap, subst, ◌∙◌, append_assoc, true≢false}
use Rattle.std.proofs.lemmas.List.{append-nil}
use Rattle.std.specs.Io.KnownBytes.{Appends}
use Rattle.std.proofs.lemmas.Result.{IfErr-at_err}
use Rattle.std.specs.Result.{is_ok, result_and}
use Rattle.program.specs.Printed.{Adds, Printed, Prints, all}
use Rattle.program.specs.declared.output.PrintError.{PrintError}
use Rattle.program.specs.declared.output.PrintError.TheVariants.{Device}

appends_twice : (a b c : Option (List ℕ)) (s t : List ℕ) → Appends a b s → Appends b c t → Appends a c (s ++ t)
appends_twice None b c s t x y = tt
appends_twice (Some a) None c s t x y = absurd x
appends_twice (Some a) (Some b) None s t x y = absurd y
appends_twice (Some a) (Some b) (Some c) s t x y = y ∙ ap (λ l. l ++ t) x ∙ append_assoc a s t

appends_none : (a : Option (List ℕ)) → Appends a a []
appends_none None = tt
appends_none (Some a) = sym (append-nil a)

-- nothing was added
pub adds_none : (p : Printed) → Adds p p []
adds_none p = (refl, refl, appends_none (all p))

-- one text was added, and then another
pub adds_twice : (p q r : Printed) (s t : List ℕ) → Adds p q s → Adds q r t → Adds p r (s ++ t)
adds_twice p q r s t x y = (y.0 ∙ x.0, y.1 ∙ x.1, appends_twice (all p) (all q) (all r) s t x.2 y.2)

-- a text was added, and then nothing more
pub adds_no_more : (p q r : Printed) (s : List ℕ) → Adds p q s → Adds q r [] → Adds p r s
adds_no_more p q r s x y = subst (λ t. Adds p r t) (append-nil s) (adds_twice p q r s [] x y)

-- what was added was printed
pub added_is_printed : (p q : Printed) (s : List ℕ) → Adds p q s → Prints p q s
added_is_printed p q s x = (x.0, λ e. x.1 ∙ e, inr x.2)

-- nothing more was printed
pub prints_none : (p : Printed) → Prints p p []
prints_none p = (refl, λ e. e, inr (appends_none (all p)))

appended : (p q r : Printed) (s t : List ℕ) → (q.failed ≡ true → r.failed ≡ true) → (q.failed ≡ true) ⊎ Appends (all p) (all q) s → (r.failed ≡ true) ⊎ Appends (all q) (all r) t → (r.failed ≡ true) ⊎ Appends (all p) (all r) (s ++ t)
appended p q r s t stays x (inl e) = inl e
appended p q r s t stays (inl e) (inr y) = inl (stays e)
appended p q r s t stays (inr x) (inr y) = inr (appends_twice (all p) (all q) (all r) s t x y)

-- one text was printed, and then another
pub prints_twice : (p q r : Printed) (s t : List ℕ) → Prints p q s → Prints q r t → Prints p r (s ++ t)
prints_twice p q r s t x y = (y.0 ∙ x.0, λ e. y.1 (x.1 e), appended p q r s t y.1 x.2 y.2)

-- a text was printed, and then nothing more
pub prints_no_more : (p q r : Printed) (s : List ℕ) → Prints p q s → Prints q r [] → Prints p r s
prints_no_more p q r s x y = subst (λ t. Prints p r t) (append-nil s) (prints_twice p q r s [] x y)

-- what couldn't be printed, or couldn't be written when nothing was to be held back, was lost to a stream that has failed
pub whole_failed : (a b : Result (Unit {0}) PrintError) (p q : Printed) → IfErr a (λ e. e ≡ Device → p.failed ≡ true) → OnOk b (Adds p q []) → OnErr b (q.failed ≡ true) → result_and a b ≡ Err Device → q.failed ≡ true
whole_failed a (Err e) p q print adds failed is = failed
whole_failed (Ok x) (Ok y) p q print adds failed is = absurd (true≢false (ap is_ok is))
whole_failed (Err d) (Ok y) p q print adds failed is = adds.1 ∙ IfErr-at_err (λ e. e ≡ Device → p.failed ≡ true) is print refl
