-- Entries compared by their keys.
use Rattle.std.specs.Prelude.{ℕ, Bool}
use Rattle.std.specs.Ordering.{is_lt}
use Rattle.value.specs.Isolation.{key_cmp}
use Rattle.value.specs.declared.refusal.TxnNo.{TxnNo}
use Rattle.history.specs.declared.key.SerialKey.{SerialKey}
use Rattle.transactions.specs.Keys.{parts}

-- a number with its key
abbrev pub Entry : Type 0
Entry = TxnNo × SerialKey

abbrev pub key_of : Entry → ℕ × ℕ × ℕ
key_of e = parts e.1

-- its key comes first
abbrev pub comes_before : Entry → Entry → Bool
comes_before d e = is_lt (key_cmp (key_of d) (key_of e))
