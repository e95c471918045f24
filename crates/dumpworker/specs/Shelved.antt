-- What becomes of a piece that a worker hands over.
use Rattle.std.specs.Prelude.{ℕ, ◌≡◌, Bool, true, Result, Ok, Err}
use Rattle.collector.specs.declared.answers.OfferFault.{OfferFault}
use Rattle.collector.specs.Gathered.{Gathering}
use Rattle.collector.specs.Offers.{Offered}

-- whether work is stopped, once a piece was answered so: one that isn't taken stops it, and it stays stopped
abbrev pub StopsAfter : Result (Unit {0}) OfferFault → Bool → Bool → Type 0
StopsAfter (Ok done) stopped now = now ≡ stopped
StopsAfter (Err fault) stopped now = now ≡ true

-- The piece of this number was offered to the collector c, which is d then.
abbrev pub IsOffered : Gathering → ℕ → Bool → Gathering → Bool → Type 0
IsOffered c number stopped d now = (answer : Result (Unit {0}) OfferFault) × Offered c number answer d × StopsAfter answer stopped now
