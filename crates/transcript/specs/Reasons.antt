-- In words, why a transcript isn't one (this project's own choice).
use Rattle.std.specs.Prelude.{ℕ, ◌-◌, ◌==◌, Bool, List, length, slice_index, codes, if◌then◌else◌}
use Rattle.transcript.specs.declared.fault.Reason.{Reason}
use Rattle.transcript.specs.declared.fault.Reason.TheVariants as reason

-- a line of which a carriage return stands before its newline
abbrev pub ends_in_return : List ℕ → Bool
ends_in_return line = slice_index line (length line - 1) == 13

-- the reason that is given of a line that is refused for another
abbrev pub reason_in : List ℕ → Reason → Reason
reason_in line reason.Memory = reason.Memory
reason_in line r = if ends_in_return line then reason.CarriageReturn else r

-- what is wrong, or what would be right
abbrev pub reason_text : Reason → List ℕ
reason_text reason.Memory = codes "out of memory"
reason_text reason.NoNewline = codes "no newline at the end of the last line"
reason_text reason.CarriageReturn = codes "the line ends in a carriage return (CRLF): lines end in a newline alone"
reason_text reason.NoMark = codes "expected `> `, two spaces, `= `, `--` or an empty line"
reason_text reason.NoCommand = codes "expected `> ` and a script line: a session's number, a command and `;`"
reason_text reason.NoTable = codes "invalid CREATE TABLE or OPEN"
reason_text reason.LateTable = codes "CREATE TABLE or OPEN must come before the first session's line, and not both"
reason_text reason.Awaits = codes "the session's last line has no reply yet"
reason_text reason.Unasked = codes "the session has no line that awaits a reply"
reason_text reason.NoReply = codes "expected two spaces and a reply as `run` prints it"
reason_text reason.OtherReply = codes "this reply doesn't fit the line that it answers"
reason_text reason.IsOpen = codes "the session's transaction is still open"
reason_text reason.Outside = codes "the session has no open transaction"
reason_text reason.NoStatement = codes "not a statement on these tables: only an ERROR can answer it"
reason_text reason.NoRow = codes "not a row of this session's SELECT"
reason_text reason.RowsMissing = codes "expected as many rows as the SELECT's reply says"
