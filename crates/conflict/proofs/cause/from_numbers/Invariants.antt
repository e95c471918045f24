use Rattle.std.proofs.Common.{◌≡◌, None, Some, take}
use Rattle.value.specs.Isolation.{first_some}
use Rattle.conflict.specs.Walks.{found, from_other}
use Rattle.conflict.proofs.cause.from_numbers.Given as goal

-- none so far is the first of one
abbrev pub invariant-loop-reader : goal.invariant-loop-reader
invariant-loop-reader g l = first_some (from_other l.commit.txn l.commit.number l.committer (Some l.last)) (found (take l.reader-index l.numbers) l.parties) ≡ None
