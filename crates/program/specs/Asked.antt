-- What a command line asks for. To clap a command's rows are its arguments, with their values.
use Rattle.std.specs.Prelude.{◌≡◌, ◌≢◌, ◌⊎◌, ◌^◌, ◌<◌, ◌≤◌, ℕ, not, true, false, List, [], ◌∷◌, Option, Some, None, codes, unwrap_or, if◌then◌else◌}
use Rattle.std.specs.Str.Parse.{IsNumeral, digits_value, without_leading_plus}
use Rattle.clap.specs.Words.{Row, Text, first_of, one_of, subcommand_of}
use Rattle.program.specs.CommandLine.{is_set, pgserial}
use Rattle.program.specs.declared.task.Task.{Task}
use Rattle.program.specs.declared.task.Task.TheVariants as task
use Rattle.program.specs.declared.manner.Manner.{Manner}
use Rattle.program.specs.declared.manner.Manner.TheVariants.{Replies, Order, Why, Transcript}
use Rattle.program.specs.declared.run.Way.{Way}

-- the path that an argument gives; `-` where it isn't among the words
abbrev pub path_of : Text → List Row → Text
path_of id rows = unwrap_or (first_of id rows) (codes "-")

-- the number that a text writes in decimal digits
abbrev pub number_of : Text → ℕ
number_of text = digits_value 10 (without_leading_plus text)

-- a text writes a number that may be given
abbrev pub IsNumber : (ℕ → Type 0) → Text → Type 0
IsNumber may text = IsNumeral 10 (without_leading_plus text) × may (number_of text)

-- n is the number that a text writes; or the usual one, where there is no text or it writes none that may be given
abbrev pub Writes : (ℕ → Type 0) → ℕ → Option Text → ℕ → Type 0
Writes may usual None n = n ≡ usual
Writes may usual (Some text) n = (IsNumber may text × (n ≡ number_of text)) ⊎ ((IsNumber may text → ⊥) × (n ≡ usual))

-- for how many events there is to be room, which 32 bits can say
abbrev pub WritesEvents : List Row → ℕ → Type 0
WritesEvents rows = Writes (λ n. n < 2 ^ 32) 100000 (one_of (codes "events") rows)

-- a restore may have n workers
abbrev pub MayWork : ℕ → Type 0
MayWork n = (1 ≤ n) × (n ≤ 64)

-- how many workers there are to be
abbrev pub WritesJobs : List Row → ℕ → Type 0
WritesJobs rows = Writes MayWork 1 (one_of (codes "jobs") rows)

-- The lines of a script one after the other: its path, and for how many events there is room.
abbrev pub IsInOrder : List Row → Manner → Text → Way → Type 0
IsInOrder rows manner path way = (path ≡ path_of (codes "SCRIPT") rows) × (way.manner ≡ manner) × WritesEvents rows way.most_events

-- what is printed of the lines of `run`: with `--why` each reply with why it refuses its transaction, with `--transcript` a transcript, else each reply
abbrev pub manner_of : List Row → Manner
manner_of rows = if is_set (codes "why") rows then Why else if is_set (codes "transcript") rows then Transcript else Replies

-- `restore`: where the dump is read, by how many jobs, and where it is written
abbrev pub AsksToRestore : List Row → Task → Type 0
AsksToRestore rows (task.Restore dump jobs out) = (dump.now ≡ path_of (codes "DUMP") rows) × WritesJobs rows jobs × (out.now ≡ path_of (codes "out") rows)
AsksToRestore rows _ = ⊥

-- `audit`: the lines one after the other, and then the serial order
abbrev pub AsksToAudit : List Row → Task → Type 0
AsksToAudit rows (task.Run path way) = IsInOrder rows Order path.now way
AsksToAudit rows _ = ⊥

-- `run`: each session's lines on a thread where `--free` is among the words, and then the check unless `--no-check` is; else the lines one after the other
abbrev pub AsksToRun : List Row → Task → Type 0
AsksToRun rows (task.Run path way) = IsInOrder rows (manner_of rows) path.now way × (is_set (codes "free") rows ≡ false)
AsksToRun rows (task.Free path way) = (path.now ≡ path_of (codes "SCRIPT") rows) × WritesEvents rows way.most_events × (is_set (codes "free") rows ≡ true) × (way.is_checked ≡ not (is_set (codes "no-check") rows))
AsksToRun rows _ = ⊥

-- the script on standard input, with its replies
abbrev pub AsksForInput : Task → Type 0
AsksForInput (task.Run path way) = (path.now ≡ codes "-") × (way ≡ record { manner = Replies; most_events = 100000 })
AsksForInput _ = ⊥

-- What is asked for by a command of this name and these rows; or by no command.
abbrev pub AsksFor : Option (Text × List Row) → Task → Type 0
AsksFor None r = AsksForInput r
AsksFor (Some c) r = (c.0 ≡ codes "audit" → AsksToAudit c.1 r) × (c.0 ≡ codes "restore" → AsksToRestore c.1 r) × (c.0 ≢ codes "audit" → c.0 ≢ codes "restore" → AsksToRun c.1 r)

-- the command that is among some words, with its rows; no word at all is no command
abbrev pub command_of : List Text → Option (Text × List Row)
command_of [] = None
command_of (word ∷ words) = subcommand_of pgserial (word ∷ words)
