-- Serializable snapshot isolation by its edges and numbers alone (Ports and Grittner, "Serializable Snapshot Isolation in PostgreSQL", VLDB 2012).
-- Throughout, an edge t -> u says that t has read what u wrote, and didn't see that write: u committed after t's snapshot.
use Rattle.std.specs.Prelude.{ℕ, nat_lt, nat_le, ◌==◌, Bool, not, ◌&&◌, ◌||◌, if◌then◌else◌, min, Option, Some, None, is_some, List, [], ◌∷◌, ◌++◌, filter, find, fold}
use Rattle.std.specs.List.{list_any}
use Rattle.std.specs.Option.{option_to_list}
use Rattle.std.specs.declared.cmp.Ordering.{Ordering}
use Rattle.std.specs.Ordering.{nat_cmp, is_lt, on, then_cmp}
use Rattle.value.specs.declared.refusal.Cause.{Cause}

-- What isolation knows of a transaction.
pub record Node : Type 0 where
  pub number : ℕ  -- from 1, in the order in which transactions began
  pub read_write : Bool
  pub snapshot : ℕ  -- it sees the commits up to this number
  pub active : Bool  -- it hasn't ended
  pub committed : Bool
  pub commit : ℕ  -- the number of its commit, from 1; 0 where it has none
  pub place : ℕ  -- the place of its end among the events, from 1; 0 where it has none

-- a structure, by the numbers of its transactions
abbrev pub structure : Node → Node → Node → Cause
structure a b c = record { a = record { 0 = a.number }; b = record { 0 = b.number }; c = record { 0 = c.number } }

-- the first that f gives on the list
abbrev pub first_some : {A B : Type 0} → (A → Option B) → List A → Option B
first_some f [] = None
first_some f (x ∷ xs) = if is_some (f x) then f x else first_some f xs

-- The serial key of the read-write commit c whose first part is f: one that goes before commits that it didn't see has a middle part less.
abbrev pub write_key : ℕ → ℕ → ℕ × ℕ × ℕ
write_key f c = if nat_lt f c then (f, 0, c) else (f, 1, c)

module _ {T : Type 0} (node : T → Node) (edge : T → T → Bool) where
  -- The last commit that may close a structure that begins at a. Where a only reads, its snapshot has to show that commit (section 4.1).
  abbrev pub bound : T → ℕ
  bound a = if (node a).read_write then (node a).commit else (node a).snapshot

  -- A dangerous structure (section 3.2): a -> b -> c, all committed, c before b and no later than the bound of a; c may be a.
  abbrev pub is_dangerous : T → T → T → Bool
  is_dangerous a b c =
      (node a).committed && (node b).committed && (node c).committed && edge a b && edge b c
      && nat_lt (node c).commit (node b).commit && nat_le (node c).commit (bound a)

  -- the one of the two that committed first
  abbrev pub earlier : T → Option T → T
  earlier x None = x
  earlier x (Some y) = if nat_lt (node y).commit (node x).commit then y else x

  -- the one with the least commit number
  abbrev pub earliest : List T → Option T
  earliest [] = None
  earliest (x ∷ xs) = Some (earlier x (earliest xs))

  -- the structure that c closes, if there is one
  abbrev pub caused : T → T → Option T → Option Cause
  caused a b None = None
  caused a b (Some c) = Some (structure (node a) (node b) (node c))

  -- The dangerous structure that is named, of transactions in the order of their numbers: the least a, then the least b, then the earliest c.
  abbrev pub first_cause : List T → Option Cause
  first_cause ts = first_some (λ a. first_some (λ b. caused a b (earliest (filter (is_dangerous a b) ts))) ts) ts

  -- the least of its commit number and of those below it to which it has an edge
  abbrev pub first_part : T → List T → ℕ
  first_part t [] = (node t).commit
  first_part t (u ∷ us) = if edge t u && nat_lt (node u).commit (node t).commit then min (node u).commit (first_part t us) else first_part t us

  -- Where a committed transaction stands in the serial order, among the committed ones ts: a read-write one before the first commit that it has an edge to,
  -- else at its own; a read-only one right after its snapshot, those of one snapshot as they ended.
  abbrev pub serial_key : List T → T → ℕ × ℕ × ℕ
  serial_key ts t = if (node t).read_write then write_key (first_part t ts) (node t).commit else ((node t).snapshot, 2, (node t).place)

-- keys compare part by part
abbrev pub key_cmp : ℕ × ℕ × ℕ → ℕ × ℕ × ℕ → Ordering
key_cmp = then_cmp (on (λ k. k.0) nat_cmp) (then_cmp (on (λ k. k.1) nat_cmp) (on (λ k. k.2) nat_cmp))

module _ {T : Type 0} (key : T → ℕ × ℕ × ℕ) where
  -- x put before the first that has a greater key
  abbrev pub place_in : T → List T → List T
  place_in x [] = x ∷ []
  place_in x (y ∷ ys) = if is_lt (key_cmp (key x) (key y)) then x ∷ y ∷ ys else y ∷ place_in x ys

  -- in the order of their keys
  abbrev pub sorted : List T → List T
  sorted [] = []
  sorted (x ∷ xs) = place_in x (sorted xs)

-- ---- Pivot first: the open transactions that a commit dooms (section 5.4, "safe retry").
-- A commit c may be the last of a structure a -> b -> c whose b is still open. Then b, the pivot, is the one to go: a retry of it can't meet c again.

-- `reads t u`: what t has covered so far has something that u wrote so far.
module _ {T : Type 0} (node : T → Node) (reads : T → T → Bool) where
  -- two transactions, and not one
  abbrev pub is_other : T → T → Bool
  is_other t u = not ((node t).number == (node u).number)

  -- t -> u: another transaction, which wrote what t has covered, and which committed after t's snapshot
  abbrev pub edge_of : T → T → Bool
  edge_of t u = is_other t u && nat_lt (node t).snapshot (node u).commit && reads t u

  -- another read-write transaction than c, active still
  abbrev pub is_live : T → T → Bool
  is_live c t = is_other t c && (node t).active && (node t).read_write

  -- one of these causes has t in the middle, so that t is doomed already
  abbrev pub is_doomed : List Cause → T → Bool
  is_doomed causes t = list_any (λ x. x.b.0 == (node t).number) causes

  -- a may stand first before b: the committer c, or a live one that isn't doomed, and it has read what b wrote
  abbrev pub is_first : T → List Cause → T → T → Bool
  is_first c causes b a = is_other a b && (not (is_other a c) || is_live c a && not (is_doomed causes a)) && reads a b

  -- the structure that begins at a, if there is one
  abbrev pub cause_from : T → T → Option T → Option Cause
  cause_from b c None = None
  cause_from b c (Some a) = Some (structure (node a) (node b) (node c))

  -- the cause by which the commit of c dooms b: b is live and has read what c wrote, and the least that may stand first
  abbrev pub doom_of : List T → T → List Cause → T → Option Cause
  doom_of ts c causes b = if is_live c b && reads b c then cause_from b c (find (is_first c causes b) ts) else None

  -- the causes so far, and that of b, where it is doomed
  abbrev pub with_doom : List T → T → List Cause → T → List Cause
  with_doom ts c causes b = causes ++ option_to_list (doom_of ts c causes b)

  -- The causes by which the commit of c dooms open transactions, each the one in its middle.
  -- They are looked at in the order of ts, which is that of their numbers.
  abbrev pub dooms : List T → T → List Cause
  dooms ts c = fold (with_doom ts c) [] ts
