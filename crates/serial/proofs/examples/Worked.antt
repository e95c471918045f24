-- Worked examples, computed on the definitions.
use Rattle.std.proofs.Common.{◌≡◌, refl, ℕ, pos, true, false, List, [], ◌∷◌, ◌++◌, map, Some, None}
use Rattle.value.specs.declared.refusal.Mode.TheVariants.{ReadWrite, ReadOnly, Deferrable}
use Rattle.value.specs.declared.refusal.Code.TheVariants as code
use Rattle.value.specs.declared.refusal.Place.TheVariants as place
use Rattle.schema.specs.Definition.{Catalog}
use Rattle.statement.specs.declared.reply.Reply.{Reply}
use Rattle.statement.specs.declared.reply.Reply.TheVariants.{Begun, Committed, RolledBack, Imported, Inserted, Updated, Deleted, Rows, Safe, Wait, Exported}
use Rattle.history.specs.declared.event.Action.{Action}
use Rattle.history.specs.declared.event.Action.TheVariants.{Begin, Run, Poll, Export, Import, Commit}
use Rattle.history.specs.Transactions.{World, Txn}
use Rattle.history.specs.Serial.{is_safe_at, prefix}
use Rattle.statement.specs.declared.statement.Statement.{Statement}
use Rattle.statement.specs.declared.statement.Statement.TheVariants.{Select, Insert, Update}
use Rattle.statement.specs.declared.condition.Comparison.TheVariants as is
use Rattle.statement.specs.declared.condition.Condition.TheVariants.{Compare, Between}
use Rattle.statement.specs.declared.statement.Projection.TheVariants.{All, Columns}
use Rattle.statement.specs.declared.statement.Source.TheVariants.{Sum}
use Rattle.serial.proofs.examples.Play.{Anywhere, bigint, table, pairs, n, pair, all, id_is, one, put, set_v, gone, fault, refused, caused, replies, world_after, opened, keys}

abbrev u : Catalog
u = pairs ∷ []

-- write skew
write_skew : replies (opened u (put 0 1 10 ∷ put 0 2 20 ∷ []))
    ((1, Begin ReadWrite) ∷ (2, Begin ReadWrite) ∷ (1, Run (all 0)) ∷ (2, Run (all 0)) ∷ (1, Run (set_v 0 1 0)) ∷ (2, Run (set_v 0 2 0))
    ∷ (1, Commit) ∷ (2, Commit) ∷ (1, Begin ReadWrite) ∷ (1, Run (all 0)) ∷ [])
    ≡ Begun ∷ Begun ∷ Rows (pair 1 10 ∷ pair 2 20 ∷ []) ∷ Rows (pair 1 10 ∷ pair 2 20 ∷ []) ∷ Updated 1 ∷ Updated 1
    ∷ Committed ∷ caused 2 3 2 ∷ Begun ∷ Rows (pair 1 0 ∷ pair 2 20 ∷ []) ∷ []
write_skew = refl

abbrev two_rows : World Anywhere
two_rows = opened u (put 0 1 10 ∷ put 0 2 20 ∷ [])

-- one conflict
abbrev one_conflict : List (ℕ × Action Anywhere)
one_conflict = (1, Begin ReadWrite) ∷ (2, Begin ReadWrite) ∷ (1, Run (one 0 1)) ∷ (2, Run (set_v 0 1 11)) ∷ (2, Commit) ∷ (1, Run (set_v 0 2 21)) ∷ (1, Commit) ∷ []

one_conflict_replies : replies two_rows one_conflict ≡ Begun ∷ Begun ∷ Rows (pair 1 10 ∷ []) ∷ Updated 1 ∷ Committed ∷ Updated 1 ∷ Committed ∷ []
one_conflict_replies = refl

one_conflict_keys : keys (world_after two_rows one_conflict) ≡ (1, (1, 1, 1)) ∷ (2, (2, 0, 3)) ∷ (3, (2, 1, 2)) ∷ []
one_conflict_keys = refl

-- receipts
abbrev receipts : Catalog
receipts = pairs ∷ pairs ∷ []

abbrev more_n : Statement Anywhere
more_n = Update 0 (record { column = 1; source = Sum 1 (pos 1) } ∷ []) (id_is 1)

abbrev column_n : Statement Anywhere
column_n = Select 0 (Columns (1 ∷ [])) (id_is 1)

abbrev from_1 : Statement Anywhere
from_1 = Select 1 All (Compare 0 is.GreaterOrEqual (n 1) ∷ [])

abbrev batch_open : World Anywhere
batch_open = opened receipts (put 0 1 1 ∷ [])

receipts_replies : replies batch_open ((2, Begin ReadWrite) ∷ (2, Run column_n) ∷ (3, Begin ReadWrite) ∷ (3, Run more_n) ∷ (3, Commit)
    ∷ (1, Begin ReadOnly) ∷ (1, Run (all 0)) ∷ (1, Run from_1) ∷ (1, Commit) ∷ (2, Run (put 1 1 1)) ∷ (2, Commit) ∷ [])
    ≡ Begun ∷ Rows ((n 1 ∷ []) ∷ []) ∷ Begun ∷ Updated 1 ∷ Committed
    ∷ Begun ∷ Rows (pair 1 2 ∷ []) ∷ Rows [] ∷ Committed ∷ Inserted ∷ caused 4 2 3 ∷ []
receipts_replies = refl

-- the events in which the read-only one begins before the batch is closed
abbrev reader_before : List (ℕ × Action Anywhere)
reader_before = (2, Begin ReadWrite) ∷ (2, Run column_n) ∷ (1, Begin ReadOnly) ∷ (3, Begin ReadWrite) ∷ (3, Run more_n) ∷ (3, Commit)
    ∷ (1, Run (all 0)) ∷ (1, Run from_1) ∷ (1, Commit) ∷ (2, Run (put 1 1 1)) ∷ (2, Commit) ∷ []

reader_before_replies : replies batch_open reader_before
    ≡ Begun ∷ Rows ((n 1 ∷ []) ∷ []) ∷ Begun ∷ Begun ∷ Updated 1 ∷ Committed
    ∷ Rows (pair 1 1 ∷ []) ∷ Rows [] ∷ Committed ∷ Inserted ∷ Committed ∷ []
reader_before_replies = refl

reader_before_keys : keys (world_after batch_open reader_before) ≡ (1, (1, 1, 1)) ∷ (3, (1, 2, 12)) ∷ (2, (2, 0, 3)) ∷ (4, (2, 1, 2)) ∷ []
reader_before_keys = refl

-- references by reads
abbrev family : Catalog
family = table (bigint None ∷ []) ∷ table (bigint None ∷ bigint (Some 0) ∷ []) ∷ []

reference_read : replies (opened family (Insert 0 (n 1 ∷ []) ∷ [])) ((1, Begin ReadWrite) ∷ (2, Begin ReadWrite) ∷ (1, Run (put 1 5 1)) ∷ (2, Run (gone 0 1)) ∷ (1, Commit) ∷ (2, Commit) ∷ [])
    ≡ Begun ∷ Begun ∷ Inserted ∷ Deleted 1 ∷ Committed ∷ caused 2 3 2 ∷ []
reference_read = refl

-- an absent row
absent_row : replies (opened u (put 0 1 0 ∷ [])) ((1, Begin ReadWrite) ∷ (2, Begin ReadWrite) ∷ (1, Run (Select 0 All (Between 0 (n 10) (n 20) ∷ []))) ∷ (2, Run (one 0 1))
    ∷ (1, Run (set_v 0 1 1)) ∷ (2, Run (put 0 15 0)) ∷ (1, Commit) ∷ (2, Commit) ∷ [])
    ≡ Begun ∷ Begun ∷ Rows [] ∷ Rows (pair 1 0 ∷ []) ∷ Updated 1 ∷ Inserted ∷ Committed ∷ caused 2 3 2 ∷ []
absent_row = refl

-- promotion: nine keys, and then eight
abbrev v_of : ℕ → ℕ × Action Anywhere
v_of k = (1, Run (Select 0 (Columns (1 ∷ [])) (id_is k)))

abbrev eight : List (ℕ × Action Anywhere)
eight = v_of 1 ∷ v_of 3 ∷ v_of 5 ∷ v_of 7 ∷ v_of 9 ∷ v_of 11 ∷ v_of 13 ∷ v_of 15 ∷ []

abbrev then_insert : List (ℕ × Action Anywhere)
then_insert = (2, Begin ReadWrite) ∷ (2, Run (Select 0 (Columns (1 ∷ [])) (id_is 1))) ∷ (2, Run (put 0 4 0)) ∷ (1, Run (set_v 0 1 1)) ∷ (1, Commit) ∷ (2, Commit) ∷ []

abbrev zero_v : Reply Anywhere
zero_v = Rows ((n 0 ∷ []) ∷ [])

abbrev none_v : Reply Anywhere
none_v = Rows []

nine_keys : replies (opened u (put 0 1 0 ∷ [])) ((1, Begin ReadWrite) ∷ eight ++ v_of 17 ∷ then_insert)
    ≡ Begun ∷ zero_v ∷ none_v ∷ none_v ∷ none_v ∷ none_v ∷ none_v ∷ none_v ∷ none_v ∷ none_v ∷ Begun ∷ zero_v ∷ Inserted ∷ Updated 1 ∷ Committed ∷ caused 2 3 2 ∷ []
nine_keys = refl

eight_keys : replies (opened u (put 0 1 0 ∷ [])) ((1, Begin ReadWrite) ∷ eight ++ then_insert)
    ≡ Begun ∷ zero_v ∷ none_v ∷ none_v ∷ none_v ∷ none_v ∷ none_v ∷ none_v ∷ none_v ∷ Begun ∷ zero_v ∷ Inserted ∷ Updated 1 ∷ Committed ∷ Committed ∷ []
eight_keys = refl

-- the first updater wins
first_updater : replies (opened u (put 0 1 0 ∷ [])) ((1, Begin ReadWrite) ∷ (2, Begin ReadWrite) ∷ (1, Run (set_v 0 1 5)) ∷ (2, Run (set_v 0 1 6)) ∷ (2, Run (all 0)) ∷ (2, Commit) ∷ (1, Commit) ∷ [])
    ≡ Begun ∷ Begun ∷ Updated 1 ∷ fault code.SerializationFailure place.Row ∷ refused code.InFailedSqlTransaction ∷ RolledBack ∷ Committed ∷ []
first_updater = refl

-- deferrable
deferrable : replies batch_open ((2, Begin ReadWrite) ∷ (2, Run column_n) ∷ (3, Begin ReadWrite) ∷ (3, Run more_n) ∷ (3, Commit)
    ∷ (4, Begin Deferrable) ∷ (4, Poll) ∷ (4, Run (all 0)) ∷ (2, Run (put 1 1 1)) ∷ (2, Commit) ∷ (4, Poll) ∷ (4, Run (all 1)) ∷ [])
    ≡ Begun ∷ Rows ((n 1 ∷ []) ∷ []) ∷ Begun ∷ Updated 1 ∷ Committed
    ∷ Begun ∷ Wait ∷ refused code.ObjectNotInPrerequisiteState ∷ Inserted ∷ Committed ∷ Safe 3 ∷ Rows (pair 1 1 ∷ []) ∷ []
deferrable = refl

-- export
export_import : replies (opened u (put 0 1 0 ∷ [])) ((1, Begin ReadOnly) ∷ (1, Export) ∷ (1, Export) ∷ (2, Begin ReadOnly) ∷ (2, Import 1) ∷ (2, Run (all 0)) ∷ (2, Import 1)
    ∷ (1, Commit) ∷ (3, Begin ReadOnly) ∷ (3, Import 2) ∷ (3, Run (all 0)) ∷ [])
    ≡ Begun ∷ Exported 1 ∷ Exported 2 ∷ Begun ∷ Imported ∷ Rows (pair 1 0 ∷ []) ∷ refused code.ActiveSqlTransaction
    ∷ Committed ∷ Begun ∷ refused code.ObjectNotInPrerequisiteState ∷ Rows (pair 1 0 ∷ []) ∷ []
export_import = refl

-- overflow
overflow : replies (opened u (put 0 1 9223372036854775807 ∷ [])) ((1, Begin ReadWrite) ∷ (1, Run (Update 0 (record { column = 1; source = Sum 1 (pos 1) } ∷ []) [])) ∷ [])
    ≡ Begun ∷ fault code.NumericValueOutOfRange (place.Column 2) ∷ []
overflow = refl

-- a committer at the front of the structure
committer_in_front : replies (opened u (put 0 1 0 ∷ put 0 2 0 ∷ put 0 3 0 ∷ [])) ((1, Begin ReadWrite) ∷ (2, Begin ReadWrite) ∷ (3, Begin ReadWrite) ∷ (1, Run (one 0 1)) ∷ (2, Run (one 0 2)) ∷ (3, Run (set_v 0 2 1)) ∷ (3, Commit)
    ∷ (2, Run (set_v 0 1 1)) ∷ (2, Commit) ∷ (1, Run (set_v 0 3 1)) ∷ (1, Commit) ∷ [])
    ≡ Begun ∷ Begun ∷ Begun ∷ Rows (pair 1 0 ∷ []) ∷ Rows (pair 2 0 ∷ []) ∷ Updated 1 ∷ Committed ∷ Updated 1 ∷ Committed ∷ Updated 1 ∷ caused 2 3 4 ∷ []
committer_in_front = refl

-- the first updater wins where its commit is above the snapshot, and an evaluation's fault comes first
updater_above_snapshot : replies (opened u (put 0 1 0 ∷ [])) ((1, Begin ReadWrite) ∷ (2, Begin ReadWrite) ∷ (2, Run (put 0 9 0)) ∷ (2, Commit) ∷ (1, Run (put 0 9 1)) ∷ [])
    ≡ Begun ∷ Begun ∷ Inserted ∷ Committed ∷ fault code.SerializationFailure place.Row ∷ []
updater_above_snapshot = refl

fault_before_row : replies (opened u (put 0 1 0 ∷ [])) ((1, Begin ReadWrite) ∷ (2, Begin ReadWrite) ∷ (2, Run (gone 0 1)) ∷ (2, Commit) ∷ (1, Run (put 0 1 7)) ∷ [])
    ≡ Begun ∷ Begun ∷ Deleted 1 ∷ Committed ∷ fault code.UniqueViolation (place.Column 1) ∷ []
fault_before_row = refl

-- a deferrable one and its importers
importers_of_safe : replies (opened u (put 0 1 0 ∷ [])) ((2, Begin Deferrable) ∷ (2, Export) ∷ (2, Poll) ∷ (2, Export) ∷ (3, Begin ReadOnly) ∷ (3, Import 1) ∷ (3, Poll)
    ∷ (4, Begin ReadWrite) ∷ (4, Export) ∷ (5, Begin ReadOnly) ∷ (5, Import 1) ∷ (5, Import 2) ∷ (2, Commit) ∷ (3, Run (all 0)) ∷ [])
    ≡ Begun ∷ refused code.ObjectNotInPrerequisiteState ∷ Safe 1 ∷ Exported 1 ∷ Begun ∷ Imported ∷ refused code.ObjectNotInPrerequisiteState
    ∷ Begun ∷ Exported 2 ∷ Begun ∷ Imported ∷ Imported ∷ Committed ∷ Rows (pair 1 0 ∷ []) ∷ []
importers_of_safe = refl

-- the snapshot that the deferrable one takes is safe, and the one before it isn't; its prefix has commits 1 to 3
abbrev after_deferrable : World Anywhere
after_deferrable = world_after batch_open ((2, Begin ReadWrite) ∷ (2, Run column_n) ∷ (3, Begin ReadWrite) ∷ (3, Run more_n) ∷ (3, Commit)
    ∷ (4, Begin Deferrable) ∷ (4, Poll) ∷ (2, Run (put 1 1 1)) ∷ (2, Commit) ∷ (4, Poll) ∷ (4, Commit) ∷ [])

snapshot_is_safe : is_safe_at after_deferrable 3 ≡ true
snapshot_is_safe = refl

earlier_is_unsafe : is_safe_at after_deferrable 2 ≡ false
earlier_is_unsafe = refl

prefix_of_safe : map (λ (t : Txn Anywhere). t.number) (prefix after_deferrable 3) ≡ 1 ∷ 2 ∷ 3 ∷ 4 ∷ []
prefix_of_safe = refl
