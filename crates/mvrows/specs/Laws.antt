-- What installing, pruning and settling mean for snapshots.
-- Source: Ports and Grittner, Serializable Snapshot Isolation in PostgreSQL, on snapshot isolation; PostgreSQL manual, Routine Vacuuming, on recovering disk space.
use Rattle.std.specs.Prelude.{ℕ, ◌≡◌, ◌<◌, ◌≤◌, if◌then◌else◌, Some, List, length}
use Rattle.std.specs.List.{AllByRecursion}
use Rattle.std.specs.Option.{option_map, option_or}
use Rattle.value.specs.declared.value.Value.{Value}
use Rattle.schema.specs.declared.changes.Change.{Change}
use Rattle.schema.specs.declared.tables.Tables.{Tables}
use Rattle.schema.specs.Rows.{IsInKeyOrder}
use Rattle.schema.specs.Plain.{put_all, row_at}
use Rattle.mvrows.specs.Versions.{VersionedRows, AreInOrder, TablesAreBelow, shown, newest}
use Rattle.mvrows.specs.Installing.{opened, installed}
use Rattle.mvrows.specs.Commits.{changes_key, installed_from, last_change}
use Rattle.mvrows.specs.Pruning.{ArePruned, KeepsNewest, pruned}
use Rattle.mvrows.specs.Settling.{Needed, MayBeRead, AreSettled, KeysHaveFew, settled}

-- every snapshot shows the opening
abbrev pub OpeningIsShown : Type 0 → Type 0
OpeningIsShown A = (tables : Tables A) (snapshot : ℕ) → shown snapshot (opened tables) ≡ tables

-- its keys are in order, and its versions below each commit
abbrev pub OpeningIsFirst : Type 0 → Type 0
OpeningIsFirst A = (tables : Tables A) (commit : ℕ) → AllByRecursion IsInKeyOrder tables → 0 < commit → AreInOrder (opened tables) × TablesAreBelow commit (opened tables)

-- a snapshot from a commit on shows its changes put into what it showed
abbrev pub ShowsInstalled : Type 0 → Type 0
ShowsInstalled A = (tables : List (VersionedRows A)) (changes : List (Change A)) (commit snapshot : ℕ) → AreInOrder tables → commit ≤ snapshot → shown snapshot (installed commit changes tables) ≡ put_all changes (shown snapshot tables)

-- a lower one shows what it showed
abbrev pub HidesInstalled : Type 0 → Type 0
HidesInstalled A = (tables : List (VersionedRows A)) (changes : List (Change A)) (commit snapshot : ℕ) → snapshot < commit → shown snapshot (installed commit changes tables) ≡ shown snapshot tables

-- a snapshot from the number of a pruning on shows what it showed
abbrev pub PruningIsHidden : Type 0 → Type 0
PruningIsHidden A = (tables : List (VersionedRows A)) (oldest snapshot : ℕ) → oldest ≤ snapshot → shown snapshot (pruned oldest tables) ≡ shown snapshot tables

-- of each key one version at most isn't above that number
abbrev pub PruningLeavesOne : Type 0 → Type 0
PruningLeavesOne A = (tables : List (VersionedRows A)) (oldest : ℕ) → ArePruned oldest (pruned oldest tables)

-- the number of a key's last commit is as before a pruning, or was not above the pruning's number and is forgotten
abbrev pub PruningKeepsNewest : Type 0 → Type 0
PruningKeepsNewest A = (tables : List (VersionedRows A)) (oldest t : ℕ) (key : Value A) → AreInOrder tables → KeepsNewest oldest (newest tables t key) (newest (pruned oldest tables) t key)

-- where the keys of changes are settled, a snapshot that may still be read shows what it showed
abbrev pub SettlingIsHidden : Type 0 → Type 0
SettlingIsHidden A = (tables : List (VersionedRows A)) (changes : List (Change A)) (needed : Needed) (snapshot : ℕ) → MayBeRead needed snapshot tables → shown snapshot (settled needed changes tables) ≡ shown snapshot tables

-- of each of these keys one version at most isn't above the oldest
abbrev pub SettlingLeavesOne : Type 0 → Type 0
SettlingLeavesOne A = (tables : List (VersionedRows A)) (changes : List (Change A)) (needed : Needed) → AreInOrder tables → AreSettled needed changes (settled needed changes tables)

-- each of these keys has at most one version more than there are snapshots
abbrev pub SettlingLeavesFew : Type 0 → Type 0
SettlingLeavesFew A = (tables : List (VersionedRows A)) (changes : List (Change A)) (needed : Needed) → AreInOrder tables → KeysHaveFew needed changes (settled needed changes tables)

-- where keys are settled, the number of a key's last commit is as before, or was not above the oldest and is forgotten
abbrev pub SettlingKeepsNewest : Type 0 → Type 0
SettlingKeepsNewest A = (tables : List (VersionedRows A)) (changes : List (Change A)) (needed : Needed) (t : ℕ) (key : Value A) → AreInOrder tables → KeepsNewest needed.oldest (newest tables t key) (newest (settled needed changes tables) t key)

-- the keys of each table stay in order
abbrev pub StaysInOrder : Type 0 → Type 0
StaysInOrder A = (tables : List (VersionedRows A)) (changes : List (Change A)) (commit oldest : ℕ) (needed : Needed) → AreInOrder tables → AreInOrder (installed commit changes tables) × AreInOrder (pruned oldest tables) × AreInOrder (settled needed changes tables)

-- versions are of commits below the next
abbrev pub StaysBelow : Type 0 → Type 0
StaysBelow A = (tables : List (VersionedRows A)) (changes : List (Change A)) (commit next oldest : ℕ) (needed : Needed) → commit < next → TablesAreBelow next tables → TablesAreBelow next (installed commit changes tables) × TablesAreBelow next (pruned oldest tables) × TablesAreBelow next (settled needed changes tables)

-- the number of the last commit of a key is 0 where the opening has it
abbrev pub NewestIsOpening : Type 0 → Type 0
NewestIsOpening A = (tables : Tables A) (t : ℕ) (key : Value A) → newest (opened tables) t key ≡ option_map (λ _. 0) (row_at tables t key)

-- after a commit it is that commit's where it changes the key, else as before
abbrev pub NewestIsInstalled : Type 0 → Type 0
NewestIsInstalled A = (tables : List (VersionedRows A)) (changes : List (Change A)) (commit t : ℕ) (key : Value A) → t < length tables → newest (installed commit changes tables) t key ≡ (if changes_key changes t key then Some commit else newest tables t key)

-- after commits one after another it is that of the last of them that changes the key, or as before
abbrev pub NewestIsLast : Type 0 → Type 0
NewestIsLast A = (tables : List (VersionedRows A)) (commits : List (List (Change A))) (first t : ℕ) (key : Value A) → t < length tables → newest (installed_from first commits tables) t key ≡ option_or (last_change first commits t key) (newest tables t key)
