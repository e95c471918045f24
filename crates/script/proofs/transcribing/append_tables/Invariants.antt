use Rattle.std.proofs.Common.{◌≡◌, ◌++◌, length}
use Rattle.script.specs.Transcribing.{tables_asked}
use Rattle.script.proofs.transcribing.append_tables.Given as goal

-- behind what was told so far comes what is told of the lines left
abbrev pub invariant-loop-line : goal.invariant-loop-line
invariant-loop-line g l = l.text.items ++ tables_asked l.rest ≡ l.initial.text.items ++ tables_asked l.script

abbrev pub decreases-loop-line : goal.decreases-loop-line
decreases-loop-line g l = length l.rest
