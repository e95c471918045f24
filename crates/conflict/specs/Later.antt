-- What is reported later, and trackers that answer alike whatever that is.
use Rattle.std.specs.Prelude.{◌≡◌, ℕ, ◌<◌, ◌≤◌, ◌==◌, Bool, true, false, not, ◌&&◌, Option, Some, None, List, [], ◌∷◌}
use Rattle.std.specs.List.{list_any}
use Rattle.value.specs.declared.refusal.Mode.{Mode}
use Rattle.value.specs.declared.refusal.TxnNo.{TxnNo}
use Rattle.conflict.specs.Tracked.{Each, Party, Tracked, after_begin, after_edge, after_move, after_commit, after_drop, cause_of, first_out, dooms_of, is_recent, party_of}

-- what is reported of transactions
pub data Told : Type 0 where
  Begins : ℕ → Mode → ℕ → Told  -- it has begun, in a mode, with a snapshot
  Reads : ℕ → ℕ → Told  -- it has read what the second wrote
  Moves : ℕ → ℕ → Told  -- it has another snapshot
  Commits : ℕ → Told
  Drops : ℕ → Told  -- it is over and hasn't committed

abbrev pub told : Told → Tracked → Tracked
told (Begins t m n) s = after_begin t m n s
told (Reads t u) s = after_edge t u s
told (Moves t n) s = after_move t n s
told (Commits t) s = after_commit t s
told (Drops t) s = after_drop t s

abbrev pub all_told : List Told → Tracked → Tracked
all_told [] s = s
all_told (x ∷ xs) s = all_told xs (told x s)

-- t has committed
abbrev pub has_committed : ℕ → List Party → Bool
has_committed t ps = list_any (λ (p : Party). not p.active && p.number == t) ps

-- What may be reported: numbers rise, no snapshot is of commits to come, of a reader and a writer one hasn't committed, and no commit makes a structure.
abbrev pub CanTell : Told → Tracked → Type 0
CanTell (Begins t m n) s = (s.begun < t) × (n ≤ s.commits)
CanTell (Reads t u) s = (has_committed t s.parties && has_committed u s.parties) ≡ false
CanTell (Moves t n) s = n ≤ s.commits
CanTell (Commits t) s = cause_of t s ≡ None
CanTell (Drops t) s = Unit {0}

abbrev pub CanTellAll : List Told → Tracked → Type 0
CanTellAll [] s = Unit {0}
CanTellAll (x ∷ xs) s = CanTell x s × CanTellAll xs (told x s)

-- each pair, a reader and a writer, may be reported
abbrev pub CanTellEdges : List (TxnNo × TxnNo) → Tracked → Type 0
CanTellEdges es s = Each (λ e. (has_committed e.0.0 s.parties && has_committed e.1.0 s.parties) ≡ false) es

-- no snapshot is below o
abbrev pub IsFrom : ℕ → Told → Type 0
IsFrom o (Begins t m n) = o ≤ n
IsFrom o (Moves t n) = o ≤ n
IsFrom o _ = Unit {0}

-- t is active, or a commit above o may close a structure that begins at it
abbrev pub is_recent_from : ℕ → Option Party → Bool
is_recent_from o None = false
is_recent_from o (Some p) = is_recent o p

-- Each answer about a transaction is the same, and those that are recent are in both.
pub record AnswersAlike (o : ℕ) (s r : Tracked) : Type 0 where
  pub party : (t : ℕ) → is_recent_from o (party_of t r) ≡ true → party_of t s ≡ party_of t r
  pub check : (t : ℕ) → cause_of t s ≡ cause_of t r
  pub first_out : (t : ℕ) → is_recent_from o (party_of t r) ≡ true → first_out t s ≡ first_out t r
  pub dooms : (t : ℕ) → is_recent_from o (party_of t r) ≡ true → dooms_of t s ≡ dooms_of t r

-- Whatever is reported later of snapshots from o on: if it may be reported to r, it may be reported to s, and the answers are the same.
pub record Alike (o : ℕ) (s r : Tracked) : Type 0 where
  pub tells : (more : List Told) → Each (IsFrom o) more → CanTellAll more r → CanTellAll more s
  pub answers : (more : List Told) → Each (IsFrom o) more → CanTellAll more r → AnswersAlike o (all_told more s) (all_told more r)

-- Those that are active have snapshots from o on, and there were o commits.
pub record IsOldest (o : ℕ) (s : Tracked) : Type 0 where
  pub commits : o ≤ s.commits
  pub active : Each (λ (p : Party). p.active ≡ true → o ≤ p.snapshot) s.parties
