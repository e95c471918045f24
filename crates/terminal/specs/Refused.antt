-- What a terminal shows of a refusal of the syntax.
use Rattle.std.specs.Prelude.{ℕ, ◌-◌, List, ◌++◌, length, codes, take, drop, if◌then◌else◌}
use Rattle.terminal.specs.Typing.{begins, behind_word}
use Rattle.terminal.specs.Statements.{starts}

-- how the refusal of a line's syntax begins, and how that of a statement does after the session's number
abbrev pub refused : List ℕ
refused = codes "ERROR 42601 "

abbrev pub refused_at : List ℕ
refused_at = codes "ERROR 42601 byte "

-- what stands before the number of the byte from which on the statement of a session's line is refused: there may be two reasons
abbrev pub statement_words : List ℕ → List ℕ
statement_words line =
    if starts (codes "insert ") (behind_word line) then codes "ERROR 42601: not a valid statement, or it doesn't have a value for each column: byte "
    else if starts (codes "update ") (behind_word line) then codes "ERROR 42601: not a valid statement, or it sets the key, or a column twice: byte "
    else codes "ERROR 42601: not a valid statement: byte "

-- the refusal of a session's line, with these words; the session's number stands before it
abbrev pub statement_refused : List ℕ → List ℕ → List ℕ
statement_refused line answer = take (length answer - length (behind_word answer)) answer ++ statement_words line ++ drop (length refused_at) (behind_word answer)

-- the refusal of a line, which has words: a colon parts them from the code
abbrev pub line_refused : List ℕ → List ℕ
line_refused answer = codes "ERROR 42601: " ++ drop (length refused) answer

-- the answer to a session's line; where that refuses a statement, in words
abbrev pub statement_worded : List ℕ → List ℕ → List ℕ
statement_worded line answer = if begins refused_at (behind_word answer) then statement_refused line answer else answer

-- the answer to a line; where that refuses its syntax, in words
unfoldable pub worded : List ℕ → List ℕ → List ℕ
worded line answer = if begins refused answer then line_refused answer else statement_worded line answer
