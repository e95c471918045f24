-- How many schedules may be run.
use Rattle.std.specs.Prelude.{◌≡◌, ◌<◌, ◌≤◌, ◌^◌, ℕ, Some, None}
use Rattle.explore.specs.declared.plan.Unexplored.{Unexplored}
use Rattle.explore.specs.declared.plan.Unexplored.TheVariants.{Memory, TooMany}

-- Why n schedules aren't run, of which so many may be: there was no memory, or they are more.
abbrev pub IsUnexplored : ℕ → ℕ → Unexplored → Type 0
IsUnexplored most n Memory = Unit {0}
IsUnexplored most n (TooMany (Some told)) = (told ≡ n) × (most < n)
IsUnexplored most n (TooMany None) = (2 ^ 64 ≤ n) × (most < n)
