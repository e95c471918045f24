-- Worked examples of pivots, references and checkpoints, computed on the definitions.
use Rattle.std.proofs.Common.{◌≡◌, refl, ℕ, List, [], ◌∷◌, ◌++◌, Ok, Err, Some, None}
use Rattle.value.specs.declared.refusal.Mode.TheVariants.{ReadWrite}
use Rattle.value.specs.declared.refusal.Code.TheVariants as code
use Rattle.value.specs.Refusals.{of_code}
use Rattle.schema.specs.Definition.{Catalog}
use Rattle.statement.specs.declared.statement.Statement.{Statement}
use Rattle.statement.specs.declared.statement.Statement.TheVariants.{Insert, Update}
use Rattle.statement.specs.declared.statement.Source.TheVariants.{Literal}
use Rattle.value.specs.declared.value.Value.TheVariants.{Null}
use Rattle.statement.specs.declared.reply.Reply.TheVariants.{Begun, Committed, RolledBack, Pruned, Inserted, Updated, Deleted, Rows}
use Rattle.history.specs.declared.event.Action.{Action}
use Rattle.history.specs.declared.event.Action.TheVariants.{Begin, Run, Broken, Poll, Export, Import, Commit, Rollback, Prune}
use Rattle.history.specs.Transactions.{World, current}
use Rattle.history.specs.Events.{start}
use Rattle.history.specs.Checkpoint.{opening_after}
use Rattle.history.specs.Answer.{of_cause, view_of, reader_of, checkpoint_from}
use Rattle.serial.proofs.examples.Play.{Anywhere, bigint, table, pairs, n, pair, all, id_is, one, put, set_v, gone, refused, caused, replies, world_after, opened, keys}

abbrev u : Catalog
u = pairs ∷ []

-- ---- write skew: the second is doomed when the first commits, and hears of it at its next event

abbrev skewed : World Anywhere
skewed = world_after (opened u (put 0 1 10 ∷ put 0 2 20 ∷ []))
    ((1, Begin ReadWrite) ∷ (2, Begin ReadWrite) ∷ (1, Run (all 0)) ∷ (2, Run (all 0)) ∷ (1, Run (set_v 0 1 0)) ∷ (2, Run (set_v 0 2 0)) ∷ (1, Commit) ∷ [])

told_by_statement : replies skewed ((2, Run (all 0)) ∷ (2, Commit) ∷ []) ≡ caused 2 3 2 ∷ RolledBack ∷ []
told_by_statement = refl

told_by_commit : replies skewed ((2, Commit) ∷ (2, Commit) ∷ []) ≡ caused 2 3 2 ∷ refused code.NoActiveSqlTransaction ∷ []
told_by_commit = refl

told_by_text : replies skewed ((2, Broken (of_code code.SyntaxError)) ∷ (2, Run (all 0)) ∷ []) ≡ caused 2 3 2 ∷ refused code.InFailedSqlTransaction ∷ []
told_by_text = refl

told_by_poll : replies skewed ((2, Poll) ∷ (2, Rollback) ∷ []) ≡ caused 2 3 2 ∷ RolledBack ∷ []
told_by_poll = refl

told_by_export : replies skewed ((2, Export) ∷ []) ≡ caused 2 3 2 ∷ []
told_by_export = refl

told_by_import : replies skewed ((2, Import 1) ∷ []) ≡ caused 2 3 2 ∷ []
told_by_import = refl

-- a rollback, a begin and a prune are answered as ever
goes_quietly : replies skewed ((2, Begin ReadWrite) ∷ (2, Prune) ∷ (2, Rollback) ∷ (2, Commit) ∷ []) ≡ refused code.ActiveSqlTransaction ∷ Pruned ∷ RolledBack ∷ refused code.NoActiveSqlTransaction ∷ []
goes_quietly = refl

-- its writes are dropped: another may write the row before its session learns of the doom
row_is_free : replies skewed ((3, Begin ReadWrite) ∷ (3, Run (set_v 0 2 5)) ∷ (3, Commit) ∷ (2, Commit) ∷ []) ≡ Begun ∷ Updated 1 ∷ Committed ∷ caused 2 3 2 ∷ []
row_is_free = refl

-- it has no view, and no tables to read
no_view : view_of skewed (current skewed 2) ≡ Err (of_code code.ObjectNotInPrerequisiteState)
no_view = refl

no_reader : reader_of (current skewed 2) ≡ Err (of_cause (record { a = record { 0 = 2 }; b = record { 0 = 3 }; c = record { 0 = 2 } }))
no_reader = refl

-- ---- a committer at the front, with the update before the commit: the middle is doomed, and the others go on

front_is_spared : replies (opened u (put 0 1 0 ∷ put 0 2 0 ∷ put 0 3 0 ∷ []))
    ((1, Begin ReadWrite) ∷ (2, Begin ReadWrite) ∷ (3, Begin ReadWrite) ∷ (1, Run (one 0 1)) ∷ (2, Run (one 0 2)) ∷ (3, Run (set_v 0 2 1)) ∷ (2, Run (set_v 0 1 1))
    ∷ (3, Commit) ∷ (4, Begin ReadWrite) ∷ (4, Run (set_v 0 1 7)) ∷ (2, Commit) ∷ (1, Run (set_v 0 3 1)) ∷ (1, Commit) ∷ [])
    ≡ Begun ∷ Begun ∷ Begun ∷ Rows (pair 1 0 ∷ []) ∷ Rows (pair 2 0 ∷ []) ∷ Updated 1 ∷ Updated 1
    ∷ Committed ∷ Begun ∷ Updated 1 ∷ caused 2 3 4 ∷ Updated 1 ∷ Committed ∷ []
front_is_spared = refl

-- ---- references

abbrev family : Catalog
family = table (bigint None ∷ []) ∷ table (bigint None ∷ bigint (Some 0) ∷ []) ∷ []

abbrev parent : ℕ → Statement Anywhere
parent k = Insert 0 (n k ∷ [])

-- a delete by key conflicts only with transactions that name that key
abbrev other_parent : List (ℕ × Action Anywhere)
other_parent = (1, Begin ReadWrite) ∷ (2, Begin ReadWrite) ∷ (1, Run (one 0 1)) ∷ (1, Run (put 1 5 2)) ∷ (2, Run (gone 0 1)) ∷ (1, Commit) ∷ (2, Commit) ∷ []

other_parent_replies : replies (opened family (parent 1 ∷ parent 2 ∷ [])) other_parent ≡ Begun ∷ Begun ∷ Rows ((n 1 ∷ []) ∷ []) ∷ Inserted ∷ Deleted 1 ∷ Committed ∷ Committed ∷ []
other_parent_replies = refl

other_parent_keys : keys (world_after (opened family (parent 1 ∷ parent 2 ∷ [])) other_parent) ≡ (1, (1, 1, 1)) ∷ (2, (2, 1, 2)) ∷ (3, (3, 1, 3)) ∷ []
other_parent_keys = refl

-- the reference of the row before a write counts: a transaction that took the child away conflicts with one that deletes the parent
abbrev child_to_none : Statement Anywhere
child_to_none = Update 1 (record { column = 1; source = Literal Null } ∷ []) (id_is 5)

row_before_counts : replies (opened family (parent 1 ∷ [])) ((1, Begin ReadWrite) ∷ (2, Begin ReadWrite) ∷ (2, Run (put 1 5 1)) ∷ (2, Commit)
    ∷ (3, Begin ReadWrite) ∷ (3, Run (one 0 7)) ∷ (4, Begin ReadWrite) ∷ (4, Run (parent 7)) ∷ (4, Commit) ∷ (3, Run child_to_none) ∷ (3, Commit) ∷ (1, Run (gone 0 1)) ∷ (1, Commit) ∷ [])
    ≡ Begun ∷ Begun ∷ Inserted ∷ Committed ∷ Begun ∷ Rows [] ∷ Begun ∷ Inserted ∷ Committed ∷ Updated 1 ∷ Committed ∷ Deleted 1 ∷ caused 2 4 5 ∷ []
row_before_counts = refl

-- with many references the table is covered whole: with eight deletes by key they are covered one by one, with nine not
abbrev ten : List (Statement Anywhere)
ten = parent 1 ∷ parent 2 ∷ parent 3 ∷ parent 4 ∷ parent 5 ∷ parent 6 ∷ parent 7 ∷ parent 8 ∷ parent 9 ∷ parent 10 ∷ []

abbrev inserts_child : List (ℕ × Action Anywhere)
inserts_child = (1, Begin ReadWrite) ∷ (2, Begin ReadWrite) ∷ (1, Run (one 0 1)) ∷ (1, Run (put 1 5 10)) ∷ []

abbrev deletes : ℕ → ℕ × Action Anywhere
deletes k = (2, Run (gone 0 k))

abbrev eight_deletes : List (ℕ × Action Anywhere)
eight_deletes = deletes 1 ∷ deletes 2 ∷ deletes 3 ∷ deletes 4 ∷ deletes 5 ∷ deletes 6 ∷ deletes 7 ∷ deletes 8 ∷ []

abbrev before_commits : World Anywhere
before_commits = world_after (opened family ten) (inserts_child ++ eight_deletes)

eight_references : replies before_commits ((1, Commit) ∷ (2, Commit) ∷ []) ≡ Committed ∷ Committed ∷ []
eight_references = refl

nine_references : replies before_commits (deletes 9 ∷ (1, Commit) ∷ (2, Commit) ∷ []) ≡ Deleted 1 ∷ Committed ∷ caused 2 3 2 ∷ []
nine_references = refl

-- ---- a checkpoint after the opening of the example of one conflict: keys and places go on from the base

abbrev opening_done : World Anywhere
opening_done = opened u (put 0 1 10 ∷ put 0 2 20 ∷ [])

first_keys : keys opening_done ≡ (1, (1, 1, 1)) ∷ []
first_keys = refl

abbrev goes_on : World Anywhere
goes_on = start (opening_after opening_done)

checkpoint_gives : checkpoint_from opening_done 10 ≡ Ok (opening_after opening_done)
checkpoint_gives = refl

abbrev one_conflict : List (ℕ × Action Anywhere)
one_conflict = (1, Begin ReadWrite) ∷ (2, Begin ReadWrite) ∷ (1, Run (one 0 1)) ∷ (2, Run (set_v 0 1 11)) ∷ (2, Commit) ∷ (1, Run (set_v 0 2 21)) ∷ (1, Commit) ∷ []

same_replies : replies goes_on one_conflict ≡ Begun ∷ Begun ∷ Rows (pair 1 10 ∷ []) ∷ Updated 1 ∷ Committed ∷ Updated 1 ∷ Committed ∷ []
same_replies = refl

later_keys : keys (world_after goes_on one_conflict) ≡ (2, (2, 0, 3)) ∷ (3, (2, 1, 2)) ∷ []
later_keys = refl

-- refused while a session has a transaction, doomed ones too, and for no events
open_is_refused : checkpoint_from skewed 10 ≡ Err (of_code code.ObjectNotInPrerequisiteState)
open_is_refused = refl

none_is_refused : checkpoint_from opening_done 0 ≡ Err (of_code code.ProgramLimitExceeded)
none_is_refused = refl
