-- Digits after a backslash.
use Rattle.std.proofs.Common.{◌≡◌, ℕ, ◌<◌, cond, ltb, Option, Some, None, refl, ap}
use Rattle.std.specs.Option.{SomeIff}
use Rattle.std.proofs.lemmas.Bool.{lt-ltb, le-ltb, cases_lt}
use Rattle.std.proofs.Common.{inl, inr}

-- a digit below its radix, where there is one
pub digit_below : (r : Option ℕ) (d radix : ℕ) → SomeIff r (d < radix) d → r ≡ cond (ltb d radix) (Some d) None
digit_below None d radix none = elim (cases_lt d radix) [ inl lt ↦ absurd (none lt) | inr le ↦ rw (le-ltb d radix le) refl ]
digit_below (Some x) d radix some = rw (lt-ltb d radix some.0) (ap Some some.1)
