use Rattle.std.proofs.Common.{◌≡◌, ◌++◌, length, false}
use Rattle.sqltext.specs.Source.{undoubled}
use Rattle.sqltext.proofs.source.undoubled.Given as goal

abbrev pub invariant-loop-text : goal.invariant-loop-text
invariant-loop-text g l = l.content.items ++ undoubled l.is_second l.text ≡ undoubled false l.initial.text

abbrev pub decreases-loop-text : goal.decreases-loop-text
decreases-loop-text g l = length l.text
