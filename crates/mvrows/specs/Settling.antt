-- What a commit leaves of the keys that it changes: the versions that snapshots show which may still be read.
-- Source: PostgreSQL manual, Routine Vacuuming, on recovering disk space.
use Rattle.std.specs.Prelude.{◌≡◌, ℕ, ◌+◌, ◌≤◌, ◌==◌, nat_le, nat_lt, Bool, true, ◌&&◌, ◌⊎◌, if◌then◌else◌, Option, IfSome, List, [], ◌∷◌, find, length, slice_set}
use Rattle.std.specs.List.{AllByRecursion, list_any}
use Rattle.std.specs.Ordering.{match_ordering}
use Rattle.value.specs.Order.{value_cmp}
use Rattle.value.specs.declared.value.Value.{Value}
use Rattle.schema.specs.declared.changes.Change.{Change}
use Rattle.mvrows.specs.Versions.{Version, KeyVersions, VersionedRows, TablesAreBelow, versions_of}
use Rattle.schema.specs.Plain.{same}
use Rattle.mvrows.specs.Pruning.{has_version, pruned_versions, IsPruned}

-- Which snapshots may still be read: none below the oldest, and of those below a key's newest version these alone.
pub record Needed : Type 0 where
  pub oldest : ℕ
  pub snapshots : List ℕ

-- one of these snapshots is from a version's number on, and below that of the next version
abbrev pub is_shown_to : List ℕ → ℕ → ℕ → Bool
is_shown_to snapshots number next = list_any (λ s. nat_le number s && nat_lt s next) snapshots

module _ {A : Type 0} where
  -- of the versions after one of this number, those that one of these snapshots shows
  abbrev pub shown_versions : List ℕ → ℕ → List (Version A) → List (Version A)
  shown_versions snapshots next [] = []
  shown_versions snapshots next (v ∷ vs) = if is_shown_to snapshots v.number next then v ∷ shown_versions snapshots v.number vs else shown_versions snapshots next vs

  -- the newest version, and of the others those that one of these snapshots shows
  abbrev pub read_versions : List ℕ → List (Version A) → List (Version A)
  read_versions snapshots [] = []
  read_versions snapshots (v ∷ vs) = v ∷ shown_versions snapshots v.number vs

  -- what is left of a key's versions
  abbrev pub settled_versions : Needed → List (Version A) → List (Version A)
  settled_versions needed versions = read_versions needed.snapshots (pruned_versions needed.oldest versions)

  abbrev pub settled_key : Needed → KeyVersions A → KeyVersions A
  settled_key needed k = record k { versions = settled_versions needed k.versions }

  -- a key of a table, with its versions
  abbrev pub found : Value A → VersionedRows A → Option (KeyVersions A)
  found key rows = find (λ k. same key k.key) rows

  -- a key before others, if it has a version
  abbrev pub if_version : KeyVersions A → VersionedRows A → VersionedRows A
  if_version k ks = if has_version k then k ∷ ks else ks

  -- a table's keys with one of them settled; it goes where no version of it is left
  abbrev pub settle_key : Needed → Value A → VersionedRows A → VersionedRows A
  settle_key needed key [] = []
  settle_key needed key (k ∷ ks) = match_ordering (value_cmp key k.key) (k ∷ ks) (if_version (settled_key needed k) ks) (k ∷ settle_key needed key ks)

  -- the tables with the key of a change settled
  abbrev pub settle_change : Needed → Change A → List (VersionedRows A) → List (VersionedRows A)
  settle_change needed x tables = slice_set tables x.table (settle_key needed x.key (versions_of tables x.table))

  -- the tables with the keys of all changes settled
  abbrev pub settled : Needed → List (Change A) → List (VersionedRows A) → List (VersionedRows A)
  settled needed [] tables = tables
  settled needed (x ∷ xs) tables = settled needed xs (settle_change needed x tables)

  -- ---- what settling leaves

  -- a snapshot may still be read: it isn't below the oldest, and it is one of these, or no version is above it
  abbrev pub MayBeRead : Needed → ℕ → List (VersionedRows A) → Type 0
  MayBeRead needed snapshot tables = (needed.oldest ≤ snapshot) × ((list_any (λ s. s == snapshot) needed.snapshots ≡ true) ⊎ TablesAreBelow (snapshot + 1) tables)

  -- of the key of each change at most one version isn't above the oldest
  abbrev pub AreSettled : Needed → List (Change A) → List (VersionedRows A) → Type 0
  AreSettled needed xs tables = AllByRecursion (λ x. IfSome (found x.key (versions_of tables x.table)) (IsPruned needed.oldest)) xs

  -- a key has at most one version more than there are snapshots
  abbrev pub AreFew : Needed → KeyVersions A → Type 0
  AreFew needed k = length k.versions ≤ length needed.snapshots + 1

  -- the key of each change has at most one version more than there are snapshots
  abbrev pub KeysHaveFew : Needed → List (Change A) → List (VersionedRows A) → Type 0
  KeysHaveFew needed xs tables = AllByRecursion (λ x. IfSome (found x.key (versions_of tables x.table)) (AreFew needed)) xs
