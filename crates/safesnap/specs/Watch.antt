-- Safe snapshots (Ports and Grittner, "Serializable Snapshot Isolation in PostgreSQL", section 4.2; PostgreSQL manual, SET TRANSACTION, DEFERRABLE): a snapshot can't become safe once a read-write transaction that was active when it was taken commits with a conflict out to a commit that the snapshot shows; it is safe where all of these have ended, and none so.
use Rattle.std.specs.Prelude.{ℕ, ◌==◌, nat_le, Bool, true, false, not, ◌&&◌, ◌||◌, Option, Some, None, List, [], ◌∷◌}
use Rattle.std.specs.List.{filter, list_any}
use Rattle.value.specs.declared.refusal.TxnNo.{TxnNo}
use Rattle.safesnap.specs.declared.waiting.State.{State}
use Rattle.safesnap.specs.declared.waiting.State.TheVariants.{Safe, Wait, Unsafe}

-- What is waited for.
pub record Watch : Type 0 where
  pub at : ℕ  -- the snapshot shows the commits up to this number
  pub active : List TxnNo  -- those that were active when it was taken, and are still
  pub spoilt : Bool  -- one of those that have ended committed with a conflict out to a commit that the snapshot shows

-- as the snapshot is taken
abbrev pub opened : ℕ → List TxnNo → Watch
opened at active = record { at = at; active = active; spoilt = false }

-- the numbers of one transaction
abbrev pub is_txn : TxnNo → TxnNo → Bool
is_txn t u = u.0 == t.0

-- the numbers of two transactions
abbrev pub is_other : TxnNo → TxnNo → Bool
is_other t u = not (is_txn t u)

-- there is a commit, and the snapshot shows it
abbrev pub is_shown : ℕ → Option ℕ → Bool
is_shown at None = false
is_shown at (Some number) = nat_le number at

-- once a transaction has ended with this least conflict out, or with none
abbrev pub after_end : TxnNo → Option ℕ → Watch → Watch
after_end t out w = record {
  at = w.at;
  active = filter (is_other t) w.active;
  spoilt = w.spoilt || list_any (is_txn t) w.active && is_shown w.at out;
}

-- safe where none is waited for any more
abbrev pub safe_where_none : List TxnNo → State
safe_where_none [] = Safe
safe_where_none (t ∷ ts) = Wait

-- what is known of the snapshot
abbrev pub known : Bool → List TxnNo → State
known true active = Unsafe
known false active = safe_where_none active

abbrev pub state_of : Watch → State
state_of w = known w.spoilt w.active
