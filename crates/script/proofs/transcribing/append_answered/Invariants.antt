use Rattle.std.proofs.Common.{◌≡◌, ◌++◌, length}
use Rattle.script.specs.Transcribing.{answered}
use Rattle.script.proofs.transcribing.append_answered.Given as goal

-- behind what was told so far comes what is told of the lines left
abbrev pub invariant-loop-line : goal.invariant-loop-line
invariant-loop-line g l = l.text.items ++ answered l.rest ≡ l.initial.text.items ++ answered l.reply

abbrev pub decreases-loop-line : goal.decreases-loop-line
decreases-loop-line g l = length l.rest
