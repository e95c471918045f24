use Rattle.std.proofs.Common.{◌≡◌, None, take}
use Rattle.std.specs.List.{find}
use Rattle.value.specs.Isolation.{is_first}
use Rattle.transactions.proofs.conflicts.dooms.first_among.Given as goal

-- none so far may stand first
abbrev pub invariant-loop-first : goal.invariant-loop-first
invariant-loop-first g l = find (is_first g.T.Party.node g.T.Party.reads l.committer l.causes l.pivot) (take l.first-index l.transactions) ≡ None
