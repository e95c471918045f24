-- Which transaction's begin counts for a dump, computed on worked examples.
use Rattle.std.proofs.Common.{◌≡◌, refl, ℕ, nat_lt, List, [], ◌∷◌, map, Option, Some, None}
use Rattle.std.specs.List.{filter}
use Rattle.value.specs.declared.refusal.Mode.TheVariants.{ReadWrite, ReadOnly, Deferrable}
use Rattle.schema.specs.Definition.{Catalog}
use Rattle.statement.specs.declared.reply.Reply.TheVariants.{Begun, Committed, Imported, Inserted, Safe, Exported}
use Rattle.history.specs.declared.event.Action.{Action}
use Rattle.history.specs.declared.event.Action.TheVariants.{Begin, Run, Poll, Export, Import, Commit}
use Rattle.history.specs.Transactions.{Txn, World, current}
use Rattle.history.specs.Serial.{committed, prefix}
use Rattle.serial.specs.Backups.{took}
use Rattle.serial.proofs.examples.Play.{Anywhere, pairs, put, replies, world_after, opened, keys}

abbrev u : Catalog
u = pairs ∷ []

-- the numbers of the transactions that took the snapshot of the session's transaction
abbrev takers_of : World Anywhere → Option (Txn Anywhere) → List ℕ
takers_of w None = []
takers_of w (Some t) = map (λ d. d.number) (filter (took t) w.txns)

abbrev takers : World Anywhere → ℕ → List ℕ
takers w s = takers_of w (current w s)

-- the numbers of those that had committed before the session's transaction began
abbrev earlier_than : World Anywhere → Option (Txn Anywhere) → List ℕ
earlier_than w None = []
earlier_than w (Some t) = map (λ u. u.number) (filter (λ u. nat_lt u.end t.begin) (committed w))

-- the numbers of the transactions of the prefix at a snapshot
abbrev in_prefix : World Anywhere → ℕ → List ℕ
in_prefix w n = map (λ t. t.number) (prefix w n)

-- ---- Two deferrable transactions on one snapshot, and a reader that commits between them: transaction 3 took its own, and the reader had committed before it began. It is in the prefix.

abbrev reads_between : List (ℕ × Action Anywhere)
reads_between = (1, Begin Deferrable) ∷ (1, Poll) ∷ (2, Begin ReadOnly) ∷ (2, Commit) ∷ (3, Begin Deferrable) ∷ (3, Poll) ∷ []

between_replies : replies (opened u []) reads_between ≡ Begun ∷ Safe 1 ∷ Begun ∷ Committed ∷ Begun ∷ Safe 1 ∷ []
between_replies = refl

the_first_took_its_own : takers (world_after (opened u []) reads_between) 1 ≡ 2 ∷ []
the_first_took_its_own = refl

the_last_took_its_own : takers (world_after (opened u []) reads_between) 3 ≡ 4 ∷ []
the_last_took_its_own = refl

-- so the reader is one of those that a dump of session 3 holds, and none of those of a dump of session 1
those_before : (earlier_than (world_after (opened u []) reads_between) (current (world_after (opened u []) reads_between) 1) ≡ 1 ∷ []) × (earlier_than (world_after (opened u []) reads_between) (current (world_after (opened u []) reads_between) 3) ≡ 1 ∷ 3 ∷ [])
those_before = (refl, refl)

the_reader_is_in_the_prefix : in_prefix (world_after (opened u []) reads_between) 1 ≡ 1 ∷ 3 ∷ []
the_reader_is_in_the_prefix = refl

-- ---- A chain of two imports: the snapshot is that of transaction 2, whichever transaction has it; and a commit above it that an importer began after isn't in the prefix.

abbrev imports : List (ℕ × Action Anywhere)
imports = (1, Begin Deferrable) ∷ (1, Poll) ∷ (1, Export) ∷ (2, Begin ReadOnly) ∷ (2, Import 1) ∷ (2, Export)
    ∷ (4, Begin ReadWrite) ∷ (4, Run (put 0 1 0)) ∷ (4, Commit) ∷ (3, Begin ReadOnly) ∷ (3, Import 2) ∷ []

imports_replies : replies (opened u []) imports ≡ Begun ∷ Safe 1 ∷ Exported 1 ∷ Begun ∷ Imported ∷ Exported 2 ∷ Begun ∷ Inserted ∷ Committed ∷ Begun ∷ Imported ∷ []
imports_replies = refl

the_source_took_it : (takers (world_after (opened u []) imports) 1 ≡ 2 ∷ []) × (takers (world_after (opened u []) imports) 2 ≡ 2 ∷ []) × (takers (world_after (opened u []) imports) 3 ≡ 2 ∷ [])
the_source_took_it = (refl, refl, refl)

the_writer_is_not_in_the_prefix : (keys (world_after (opened u []) imports) ≡ (1, (1, 1, 1)) ∷ (4, (2, 1, 2)) ∷ []) × (in_prefix (world_after (opened u []) imports) 1 ≡ 1 ∷ [])
the_writer_is_not_in_the_prefix = (refl, refl)
