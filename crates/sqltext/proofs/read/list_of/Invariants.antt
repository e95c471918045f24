use Rattle.std.proofs.Common.{◌≡◌, ◌-◌}
use Rattle.sqltext.specs.Reading.{more, list_of}
use Rattle.sqltext.proofs.ListLemmas.{with_front}
use Rattle.sqltext.proofs.read.list_of.Given as goal

-- the items so far, and those of what is left, are those of the tokens
abbrev pub invariant-loop : goal.invariant-loop
invariant-loop g l = with_front l.items (more l.separator g.T.Item.reads (l.count - l.counter) l.rest) ≡ list_of l.separator g.T.Item.reads l.tokens
