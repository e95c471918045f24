-- What is answered to an offered piece, and at the end.
use Rattle.std.specs.Prelude.{ℕ, ◌+◌, ◌-◌, ◌≤◌, ◌<◌, ◌≡◌, ◌⊎◌, ◌==◌, true, false, ◌||◌, length, Result, Ok, Err}
use Rattle.dumpplan.specs.Pieces.{joined}
use Rattle.collector.specs.declared.answers.OfferFault.{OfferFault}
use Rattle.collector.specs.declared.answers.OfferFault.TheVariants.{Stranger, Repeat, Device, Closed}
use Rattle.collector.specs.declared.answers.Finish.{Finish}
use Rattle.collector.specs.declared.answers.Finish.TheVariants.{Done, Missing, Failed}
use Rattle.collector.specs.Written.{Began, WroteAll, WroteSome}
use Rattle.collector.specs.Gathered.{Gathering, is_given}

-- the number is none of the plan
abbrev pub IsStranger : Gathering → ℕ → Type 0
IsStranger c number = (number ≡ 0) ⊎ (length c.texts < number)

-- the number is one of the plan, and its piece was not given yet
abbrev pub IsNew : Gathering → ℕ → Type 0
IsNew c number = (0 < number) × (number ≤ length c.texts) × (is_given c (number - 1) ≡ false)

-- one piece more is given
abbrev pub Gives : Gathering → ℕ → Gathering → Type 0
Gives c number d = (k : ℕ) → is_given d k ≡ (is_given c k || (k == number - 1))

-- The answer to an offered piece. One that isn't taken changes nothing, except where the device fails: that is answered exactly then.
abbrev pub Offered : Gathering → ℕ → Result (Unit {0}) OfferFault → Gathering → Type 0
Offered c number (Ok done) d = (c.failed ≡ false) × IsNew c number × (d.failed ≡ false) × (d.failures ≡ c.failures) × Gives c number d
Offered c number (Err Closed) d = (c.failed ≡ true) × (d ≡ c)
Offered c number (Err Stranger) d = (c.failed ≡ false) × IsStranger c number × (d ≡ c)
Offered c number (Err Repeat) d = (c.failed ≡ false) × (0 < number) × (number ≤ length c.texts) × (is_given c (number - 1) ≡ true) × (d ≡ c)
Offered c number (Err Device) d = (c.failed ≡ false) × IsNew c number × (d.failed ≡ true) × (d.failures ≡ c.failures + 1)

-- all pieces before this one are given, and it isn't
abbrev pub IsLeastMissing : Gathering → ℕ → Type 0
IsLeastMissing c number = (0 < number) × (number ≤ length c.texts) × ((k : ℕ) → k + 1 < number → is_given c k ≡ true) × (is_given c (number - 1) ≡ false)

-- how a dump stands: all was written, or a beginning
abbrev pub Finished : Gathering → Finish → Type 0
Finished c Done = (c.failed ≡ false) × WroteAll c.before c.failures_before (joined c.texts) c.taken c.failures
Finished c (Missing number) = (c.failed ≡ false) × IsLeastMissing c number × Began c.before (joined c.texts) c.taken × (c.failures ≡ c.failures_before)
Finished c Failed = (c.failed ≡ true) × WroteSome c.before c.failures_before (joined c.texts) c.taken c.failures
