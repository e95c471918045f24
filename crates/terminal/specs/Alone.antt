-- A statement outside a transaction, which is one by itself (PostgreSQL manual, psql, AUTOCOMMIT): what is asked for it, and what is shown.
use Rattle.std.specs.Prelude.{ℕ, Bool, true, false, List, ◌++◌, codes, if◌then◌else◌}
use Rattle.terminal.specs.Drawn.{shown}
use Rattle.terminal.specs.Typing.{begins, first_word}

-- a command of a line's session
abbrev pub beside : List ℕ → List ℕ → List ℕ
beside line command = first_word line ++ codes " " ++ command

-- whether an answer begins with these words behind the number of a line's session
abbrev pub answers_so : List ℕ → List ℕ → List ℕ → Bool
answers_so line words answer = begins (beside line words) answer

-- how the transaction of a line ends that was refused or not
abbrev pub ending : Bool → List ℕ
ending true = codes "ROLLBACK;"
ending false = codes "COMMIT;"

-- what is shown behind a refusal for the sake of other transactions
abbrev pub again_text : List ℕ
again_text = codes "the statement was rolled back: run it again\n"

-- a refusal that is shown so, and what follows it where it is for the sake of other transactions
abbrev pub with_advice : List ℕ → List ℕ → List ℕ → List ℕ
with_advice line refusal told = if answers_so line (codes "ERROR 40001 ") refusal then told ++ again_text else told

-- what is shown of a line that was answered and drawn so, and whose transaction ended so: its answer, or the refusal of COMMIT
abbrev pub told_alone : List ℕ → List ℕ → List ℕ → List ℕ → List ℕ
told_alone line drawing answer last =
    if answers_so line (codes "ERROR ") answer then with_advice line answer drawing
    else if answers_so line (codes "ERROR ") last then with_advice line last (shown last)
    else drawing

-- what is shown once a statement is a transaction by itself, or no longer
abbrev pub autocommit_text : Bool → List ℕ
autocommit_text true = codes "Autocommit is on.\n"
autocommit_text false = codes "Autocommit is off.\n"

-- what is shown where something else follows `\autocommit`
abbrev pub no_autocommit_text : List ℕ
no_autocommit_text = codes "\\autocommit takes on or off\n"

-- what is shown where there is no such statement
abbrev pub slip_text : List ℕ
slip_text = codes "ERROR 42601: not a valid statement or command: \\? lists them\n"
