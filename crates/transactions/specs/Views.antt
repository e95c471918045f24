-- What is asked of the world beside its events.
use Rattle.std.specs.Prelude.{ℕ, Bool, true, false, not, if◌then◌else◌, Option, Some, None, Result, Ok, Err, List}
use Rattle.std.specs.List.{list_all}
use Rattle.value.specs.declared.refusal.Code.TheVariants as code
use Rattle.value.specs.declared.refusal.Refusal.{Refusal}
use Rattle.value.specs.Refusals.{of_code}
use Rattle.schema.specs.declared.tables.Tables.{Tables}
use Rattle.history.specs.Transactions.{Standing, Failed, Txn, is_owed}
use Rattle.history.specs.Answer.{reader_of}
use Rattle.transactions.specs.Ledger.{with_own}

abbrev pub is_failed : Standing → Bool
is_failed Failed = true
is_failed _ = false

-- no session has one of these still to end
abbrev pub are_quiet : {A : Type 0} → List (Txn A) → Bool
are_quiet ts = list_all (λ t. not (is_owed t.standing)) ts

-- the snapshot of the session's transaction, if it has one
abbrev pub snapshot_of : {A : Type 0} → Option (Txn A) → Option ℕ
snapshot_of None = None
snapshot_of (Some t) = Some t.snapshot

-- the tables that the session's transaction sees, if it has one, with its own tables again, of these tables by commit numbers
abbrev pub reader_on : {A : Type 0} → (ℕ → Tables A) → Option (Txn A) → Result (Tables A) Refusal
reader_on tables None = reader_of None
reader_on tables (Some t) = reader_of (Some (with_own tables t))

-- the tables at a transaction's snapshot, of these tables by commit numbers, where it is known to be safe
abbrev pub view_at : {A : Type 0} → Standing → (ℕ → Tables A) → Txn A → Result (Tables A) Refusal
view_at Failed tables t = Err (of_code code.InFailedSqlTransaction)
view_at _ tables t = if t.known then Ok (tables t.snapshot) else Err (of_code code.ObjectNotInPrerequisiteState)

-- so of the session's transaction, if it has one
abbrev pub view_on : {A : Type 0} → (ℕ → Tables A) → Option (Txn A) → Result (Tables A) Refusal
view_on tables None = Err (of_code code.NoActiveSqlTransaction)
view_on tables (Some t) = view_at t.standing tables t
