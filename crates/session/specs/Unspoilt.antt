-- Snapshots that no commit has spoilt.
-- Source: Ports and Grittner, "Serializable Snapshot Isolation in PostgreSQL" (VLDB 2012), section 4.2: a snapshot isn't safe once one that was active at it commits with a conflict out to a commit that it shows. The serial keys show that.
use Rattle.std.specs.Prelude.{◌≡◌, ℕ, nat_le, nat_lt, Bool, false, ◌&&◌, if◌then◌else◌, List, map}
use Rattle.std.specs.List.{AllByRecursion, list_any}
use Rattle.value.specs.declared.refusal.TxnNo.{TxnNo}
use Rattle.history.specs.declared.key.SerialKey.{SerialKey}

-- the parts of a key
abbrev pub parts : SerialKey → ℕ × ℕ × ℕ
parts k = (k.0, k.1, k.2)

-- a transaction's number with its key
abbrev pub keyed : TxnNo × SerialKey → ℕ × (ℕ × ℕ × ℕ)
keyed e = (e.0.0, parts e.1)

-- A commit with this key spoils snapshot n: it is a read-write one that the snapshot doesn't show, and has a conflict out to one that it shows.
abbrev pub spoils : ℕ → ℕ × ℕ × ℕ → Bool
spoils n k = nat_lt k.1 2 && nat_le k.0 n && nat_lt n k.2

-- one of these commits, by their numbers and keys, spoils it
abbrev pub is_spoilt_by : List (ℕ × (ℕ × ℕ × ℕ)) → ℕ → Bool
is_spoilt_by ks n = list_any (λ k. spoils n k.1) ks

-- No such commit spoils one of these snapshots.
abbrev pub AreUnspoilt : List (ℕ × (ℕ × ℕ × ℕ)) → List ℕ → Type 0
AreUnspoilt ks ns = AllByRecursion (λ n. is_spoilt_by ks n ≡ false) ns

-- what stands in the place of snapshot n after a commit with this key: that of all commits, of this number, where it spoils it
abbrev pub unspoilt_in_place : ℕ × ℕ × ℕ → ℕ → ℕ → ℕ
unspoilt_in_place k commits n = if spoils n k then commits else n

-- what stands in the place of each of these snapshots after a commit with this key
abbrev pub unspoilt_after : ℕ × ℕ × ℕ → ℕ → List ℕ → List ℕ
unspoilt_after k commits ns = map (unspoilt_in_place k commits) ns
