use Rattle.std.proofs.Common.{◌≡◌, ◌==◌, ◌&&◌, None, take}
use Rattle.std.specs.List.{find}
use Rattle.history.specs.Transactions.{is_done}
use Rattle.transactions.proofs.conflicts.keys.find_among.Given as goal

-- none so far committed there
abbrev pub invariant-loop-transaction : goal.invariant-loop-transaction
invariant-loop-transaction g l = find (λ t. is_done t.standing && t.end == l.place) (take l.transaction-index l.transactions) ≡ None
