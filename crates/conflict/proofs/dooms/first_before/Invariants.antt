use Rattle.std.proofs.Common.{◌≡◌, None, take}
use Rattle.std.specs.List.{find}
use Rattle.conflict.specs.Walks.{found, may_be_first}
use Rattle.conflict.proofs.dooms.first_before.Given as goal

-- none so far may stand first
abbrev pub invariant-loop-reader : goal.invariant-loop-reader
invariant-loop-reader g l = find (may_be_first l.committer l.causes l.pivot) (found (take l.reader-index l.numbers) l.parties) ≡ None
