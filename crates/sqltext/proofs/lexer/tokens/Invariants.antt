use Rattle.std.proofs.Common.{◌≡◌, ◌-◌, ◌≤◌, ◌++◌, length, drop}
use Rattle.sqltext.specs.Tokens.{tokens, tokens_from}
use Rattle.sqltext.proofs.lexer.tokens.Given as goal

-- the tokens so far, and those of what is left, are those of the text
abbrev pub invariant-loop-start : goal.invariant-loop-start
invariant-loop-start g l = (l.tokens ++ tokens_from l.after_number 0 l.start (drop l.start l.text) ≡ tokens l.text) × (l.start ≤ length l.text)

abbrev pub decreases-loop-start : goal.decreases-loop-start
decreases-loop-start g l = length l.text - l.start
