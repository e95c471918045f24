use Rattle.std.proofs.Common.{◌≡◌, ◌++◌, option_to_list, take}
use Rattle.std.specs.List.{flat_map}
use Rattle.orders.specs.Counts.{inserted_key}
use Rattle.certificate.proofs.numbers.push_inserted.Given as goal

-- the keys so far
abbrev pub invariant-loop-answered : goal.invariant-loop-answered
invariant-loop-answered g l = l.keys.items ≡ l.fn.keys.items ++ flat_map (λ a. option_to_list (inserted_key l.table a.statement)) (take l.answered-index l.statements)
