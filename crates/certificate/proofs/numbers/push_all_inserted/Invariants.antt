use Rattle.std.proofs.Common.{◌≡◌, ◌++◌, take}
use Rattle.std.specs.List.{flat_map}
use Rattle.certificate.specs.Recorded.{inserted_keys}
use Rattle.certificate.proofs.numbers.push_all_inserted.Given as goal

-- the keys so far
abbrev pub invariant-loop-transaction : goal.invariant-loop-transaction
invariant-loop-transaction g l = l.keys.items ≡ l.fn.keys.items ++ flat_map (inserted_keys l.table) (take l.transaction-index l.transactions)
