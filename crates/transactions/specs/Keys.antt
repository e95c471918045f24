-- Serial keys, part by part.
use Rattle.std.specs.Prelude.{ℕ, ◌==◌, ◌&&◌, List, Option}
use Rattle.std.specs.List.{filter, find}
use Rattle.std.specs.Option.{option_map}
use Rattle.value.specs.Isolation.{serial_key}
use Rattle.value.specs.declared.refusal.TxnNo.{TxnNo}
use Rattle.history.specs.Transactions.{Txn, edge, is_done, node}
use Rattle.history.specs.declared.key.SerialKey.{SerialKey}

-- the parts of a key
abbrev pub parts : SerialKey → ℕ × ℕ × ℕ
parts k = (k.0, k.1, k.2)

-- a transaction's number with its key
abbrev pub keyed : TxnNo × SerialKey → ℕ × (ℕ × ℕ × ℕ)
keyed e = (e.0.0, parts e.1)

-- the transaction of a list that committed as the event at this place, with its key among them
abbrev pub committed_at : {A : Type 0} → ℕ → List (Txn A) → Option (ℕ × (ℕ × ℕ × ℕ))
committed_at place ts = option_map (λ t. (t.number, serial_key node edge (filter (λ u. is_done u.standing) ts) t)) (find (λ t. is_done t.standing && t.end == place) ts)
