use Rattle.std.proofs.Common.{◌≡◌, ◌&&◌, None, take}
use Rattle.std.specs.Prelude.{◌==◌}
use Rattle.std.specs.List.{find}
use Rattle.history.specs.Transactions.{is_living}
use Rattle.transactions.proofs.exports.snapshots.find_exported.Given as goal

-- none so far is what is sought
abbrev pub invariant-loop-exported : goal.invariant-loop-exported
invariant-loop-exported g l = find (λ x. x.id == l.id && is_living l.transactions x) (take l.exported-index l.exports) ≡ None
