-- What is known of a snapshot while a transaction that was active at it is waited for.
use Rattle.std.proofs.Common.{◌≡◌, refl, ◌≤◌, List, [], ◌∷◌, length, arith}
use Rattle.value.specs.declared.refusal.TxnNo.{TxnNo}
use Rattle.safesnap.specs.declared.waiting.State.TheVariants.{Wait}
use Rattle.safesnap.specs.Watch.{safe_where_none}

pub waits : (ts : List TxnNo) → 1 ≤ length ts → safe_where_none ts ≡ Wait
waits [] some = absurd (omega arith)
waits (t ∷ ts) some = refl
