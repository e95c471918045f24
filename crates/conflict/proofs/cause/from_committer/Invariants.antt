use Rattle.std.proofs.Common.{◌≡◌, None, take}
use Rattle.value.specs.Isolation.{first_some}
use Rattle.conflict.specs.Walks.{found, from_own}
use Rattle.conflict.proofs.cause.from_committer.Given as goal

-- none so far is the pivot of one
abbrev pub invariant-loop-writer : goal.invariant-loop-writer
invariant-loop-writer g l = first_some (from_own l.commit.txn l.commit.number l.parties l.committer) (found (take l.writer-index l.numbers) l.parties) ≡ None
