-- The snapshots of sessions' transactions that no commit has spoilt, from event to event.
-- Source: Ports and Grittner, "Serializable Snapshot Isolation in PostgreSQL" (VLDB 2012), sections 4.2 and 4.3.
use Rattle.std.specs.Prelude.{ℕ, ◌-◌, ◌==◌, Bool, true, false, ◌||◌, if◌then◌else◌, Option, Some, None, List, slice_set}
use Rattle.std.specs.List.{list_any}
use Rattle.history.specs.declared.event.Action.{Action}
use Rattle.history.specs.declared.event.Action.TheVariants.{Begin, Poll, Import}
use Rattle.session.specs.Unspoilt.{is_spoilt_by, unspoilt_after}

-- one of these commits, by their numbers and keys, has spoilt a snapshot, if there is one
abbrev pub is_spoilt_at : List (ℕ × (ℕ × ℕ × ℕ)) → Option ℕ → Bool
is_spoilt_at ks None = false
is_spoilt_at ks (Some n) = is_spoilt_by ks n

-- what a commit with its key, if there is one, leaves of these snapshots, where that of all commits has this number
abbrev pub after_commit : Option (ℕ × (ℕ × ℕ × ℕ)) → ℕ → List ℕ → List ℕ
after_commit None commits ns = ns
after_commit (Some k) commits ns = unspoilt_after k.1 commits ns

-- a session's snapshot, if it has one, among these, where it is that of all commits or one of these
abbrev pub put_snapshot : ℕ → Option ℕ → ℕ → List ℕ → List ℕ
put_snapshot s None commits ns = ns
put_snapshot s (Some n) commits ns = if n == commits || list_any (λ m. m == n) ns then slice_set ns (s - 1) n else ns

module _ {A : Type 0} where
  -- a POLL by a session whose snapshot, if it has one, one of these commits has spoilt
  abbrev pub polls_spoilt : List (ℕ × (ℕ × ℕ × ℕ)) → Option ℕ → Action A → Bool
  polls_spoilt ks o Poll = is_spoilt_at ks o
  polls_spoilt ks o _ = false

  -- an action by which a transaction may take a snapshot
  abbrev pub takes_snapshot : Action A → Bool
  takes_snapshot (Begin m) = true
  takes_snapshot Poll = true
  takes_snapshot (Import i) = true
  takes_snapshot _ = false
