-- What the parts of the search say.
use Rattle.std.specs.Prelude.{◌≡◌, ◌⊎◌, ℕ, ◌+◌, ◌-◌, ◌^◌, ◌<◌, ◌≤◌, min, if◌then◌else◌, length, Bool, true, false, not, ◌&&◌, ◌||◌, Option, Some, None, is_some, List, zip, slice_get}
use Rattle.std.specs.List.{list_all}
use Rattle.orders.specs.Explains.{Trace, precedes}

-- an end, or the last place that there is, counted in 64 bits
abbrev pub end_or_last : Option ℕ → ℕ
end_or_last None = 2 ^ 64 - 1
end_or_last (Some e) = e

-- the lesser of two ends, where the transaction of the second isn't done
abbrev pub lesser_end : Option Bool → ℕ → ℕ → ℕ
lesser_end (Some false) end least = min least end
lesser_end (Some true) end least = least
lesser_end None end least = least

-- all flags before this place are set
abbrev pub AreSet : List Bool → ℕ → Type 0
AreSet flags place = (j : ℕ) → j < place → slice_get flags j ≡ Some true

-- the place behind the next few, as far as a number of 64 bits goes
abbrev pub behind_few : ℕ → ℕ
behind_few place = min (place + 64) (2 ^ 64 - 1)

module _ {A : Type 0} where
  -- The transaction at a place may come next where these are done: it isn't, and of those that aren't none precedes it.
  pub record MayCome (ts : List (Trace A)) (done : List Bool) (i : ℕ) (t : Trace A) : Type 0 where
    pub stands : slice_get ts i ≡ Some t
    pub left : slice_get done i ≡ Some false
    pub in_time : (j : ℕ) (a : Trace A) → slice_get ts j ≡ Some a → slice_get done j ≡ Some false → precedes a t ≡ false

  -- Whether the transaction at a place may come next, by a test.
  abbrev pub comes_so : List (Trace A) → List Bool → Option (Trace A) → Option Bool → Bool
  comes_so ts done (Some t) (Some is_done) = not is_done && list_all (λ p. p.1 || not (precedes p.0 t)) (zip ts done)
  comes_so ts done _ _ = false

  abbrev pub comes : List (Trace A) → List Bool → ℕ → Bool
  comes ts done i = comes_so ts done (slice_get ts i) (slice_get done i)

  abbrev pub end_at : Option (Trace A) → ℕ
  end_at None = 2 ^ 64 - 1
  end_at (Some t) = end_or_last t.end

  -- Of those that aren't done none ends before this place, and one ends there, or it is the last that there is.
  abbrev pub IsLeastEnd : List (Trace A) → List Bool → ℕ → Type 0
  IsLeastEnd ts done e =
      ((j : ℕ) → slice_get done j ≡ Some false → e ≤ end_at (slice_get ts j))
      × ((e ≡ 2 ^ 64 - 1) ⊎ ((j : ℕ) × (slice_get done j ≡ Some false) × (e ≡ end_at (slice_get ts j))))

  -- none from a place on ends before this one
  abbrev pub IsLeastFrom : List (Trace A) → ℕ → ℕ → Type 0
  IsLeastFrom ts place e = (j : ℕ) → place ≤ j → e ≤ end_at (slice_get ts j)

  -- such an end for each place
  abbrev pub AreLeast : List (Trace A) → List ℕ → Type 0
  AreLeast ts ends = (length ends ≡ length ts) × ((k e : ℕ) → slice_get ends k ≡ Some e → IsLeastFrom ts k e)

  -- where it begins, or the first place where time doesn't keep it from coming next
  abbrev pub begin_at : Option (Trace A) → ℕ
  begin_at None = 2 ^ 64 - 1
  begin_at (Some t) = if t.imported then 0 else t.begin

  -- none of the few from a place on begins before this one
  abbrev pub IsEarliest : List (Trace A) → ℕ → ℕ → Type 0
  IsEarliest ts place b = (j : ℕ) → place ≤ j → j < behind_few place → b ≤ begin_at (slice_get ts j)

  -- such a begin for each place
  abbrev pub AreEarliest : List (Trace A) → List ℕ → Type 0
  AreEarliest ts begins = (length begins ≡ length ts) × ((k b : ℕ) → slice_get begins k ≡ Some b → IsEarliest ts k b)

  -- none from a place on begins before this one
  abbrev pub IsEarliestOfRest : List (Trace A) → ℕ → ℕ → Type 0
  IsEarliestOfRest ts place b = (j : ℕ) → place ≤ j → b ≤ begin_at (slice_get ts j)

  -- such a begin for each place
  abbrev pub AreEarliestOfRest : List (Trace A) → List ℕ → Type 0
  AreEarliestOfRest ts begins = (length begins ≡ length ts) × ((k b : ℕ) → slice_get begins k ≡ Some b → IsEarliestOfRest ts k b)

  -- the transactions from one place up to another begin behind an end, which isn't the last place that there is
  abbrev pub AreLate : List (Trace A) → ℕ → ℕ → ℕ → Type 0
  AreLate ts e from until = (j : ℕ) → from ≤ j → j < until → (e < 2 ^ 64 - 1) × (e < begin_at (slice_get ts j))

  -- it is done, or not known to have committed, or there is none
  abbrev pub settled : Option (Trace A) → Option Bool → Bool
  settled (Some t) (Some is_done) = is_done || not (is_some t.end)
  settled (Some t) None = true
  settled None o = true

  -- all are done that are known to have committed
  abbrev pub are_done : List (Trace A) → List Bool → Bool
  are_done ts done = list_all (λ p. p.1 || not (is_some p.0.end)) (zip ts done)
