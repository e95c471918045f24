use Rattle.std.proofs.Common.{◌≡◌, None, take}
use Rattle.std.specs.List.{find}
use Rattle.history.specs.Transactions.{is_of}
use Rattle.transactions.proofs.exports.snapshots.find_among.Given as goal

-- none so far is the session's
abbrev pub invariant-loop-place : goal.invariant-loop-place
invariant-loop-place g l = find (is_of l.session) (take l.place l.transactions) ≡ None
