use Rattle.std.proofs.Common.{◌≡◌, ◌≤◌, length}
use Rattle.terminal.specs.Typing.{end_from}
use Rattle.terminal.proofs.typing.end_of.Given as goal

-- what follows are blanks and `;`
abbrev pub invariant-loop-end : goal.invariant-loop-end
invariant-loop-end l = (end_from l.text (length l.text) ≡ end_from l.text l.end) × (l.end ≤ length l.text)

abbrev pub decreases-loop-end : goal.decreases-loop-end
decreases-loop-end l = l.end
