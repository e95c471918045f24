use Rattle.std.proofs.Common.{◌≡◌, length, map}
use Rattle.sqltext.specs.Tokens.{reserved_in}
use Rattle.sqltext.proofs.lexer.reserved_in.Given as goal

abbrev pub invariant-loop-words : goal.invariant-loop-words
invariant-loop-words l = reserved_in (map (λ w. (w.0.now, w.1)) l.words) l.word ≡ reserved_in (map (λ w. (w.0.now, w.1)) l.initial.words) l.word

abbrev pub decreases-loop-words : goal.decreases-loop-words
decreases-loop-words l = length l.words
