-- How long a session gives way that finds the lock taken as it begins a transaction. The numbers are ours.
use Rattle.std.specs.Prelude.{ℕ, ◌*◌, ◌-◌, min}

-- The microseconds of a nap, where the lock was found taken so often before, of so many sessions: 8 more each time, and at most 400 for each session and 10,000 in all.
abbrev pub nap_micros : ℕ → ℕ → ℕ
nap_micros sessions crowded = min ((crowded - 256) * 8) (min (400 * sessions) 10000)
