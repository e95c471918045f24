-- The command line, in the words of clap: `run SCRIPT [--events N] [--free [--no-check]] [--why] [--transcript]`, `audit SCRIPT [--events N]`, `--version` and `restore DUMP [--jobs N] --out FILE`.
use Rattle.std.specs.Prelude.{◌≡◌, ◌≢◌, ◌&&◌, ◌||◌, Bool, not, true, false, List, [], ◌∷◌, Option, Some, None, pos, codes, if◌then◌else◌}
use Rattle.std.specs.Str.{bytes_eq}
use Rattle.clap.specs.Kinds.{or_else}
use Rattle.clap.specs.Words.{AddsSubcommand, App, IsAmong, Kinds, Row, Rule, Shape, Text, app_of, fault_of, first_of, new_app, new_rule, subcommand_of, with_rule, with_subcommand}
use Rattle.clap.specs.declared.builder.command.Command.{Command}
use Rattle.clap.specs.declared.builder.ArgAction.TheVariants.{Set, SetTrue}
use Rattle.clap.specs.declared.builder.ValueParser.TheVariants.{Signed}
use Rattle.clap.specs.declared.error.ErrorKind.{ErrorKind}
use Rattle.clap.specs.declared.error.ErrorKind.TheVariants.{ArgumentConflict, DisplayHelp, DisplayVersion, MissingRequiredArgument, OutOfMemory}
use Rattle.program.specs.declared.task.Clash.{Clash}
use Rattle.program.specs.declared.task.Clash.TheVariants as clash

-- the file of a script
abbrev pub script : Rule
script = record (new_rule (codes "SCRIPT")) { required = true; action = Some Set }

-- `--events N`, from 1 to 4294967295
abbrev pub events : Rule
events = record (new_rule (codes "events")) { long = Some (codes "events"); value_names = 1; action = Some Set; parser = Some (Signed (pos 1) (pos 4294967295)) }

-- `--free`
abbrev pub free : Rule
free = record (new_rule (codes "free")) { long = Some (codes "free"); action = Some SetTrue }

-- `--no-check`
abbrev pub no_check : Rule
no_check = record (new_rule (codes "no-check")) { long = Some (codes "no-check"); action = Some SetTrue }

-- `--why`
abbrev pub why : Rule
why = record (new_rule (codes "why")) { long = Some (codes "why"); action = Some SetTrue }

-- `--transcript`
abbrev pub transcript : Rule
transcript = record (new_rule (codes "transcript")) { long = Some (codes "transcript"); action = Some SetTrue }

-- the file of a dump
abbrev pub dump : Rule
dump = record (new_rule (codes "DUMP")) { required = true; action = Some Set }

-- `--jobs N`, from 1 to 64
abbrev pub jobs : Rule
jobs = record (new_rule (codes "jobs")) { long = Some (codes "jobs"); value_names = 1; action = Some Set; parser = Some (Signed (pos 1) (pos 64)) }

-- `--out FILE`
abbrev pub out : Rule
out = record (new_rule (codes "out")) { long = Some (codes "out"); value_names = 1; required = true; action = Some Set }

-- a command on a script
abbrev pub of_script : Text → App
of_script name = with_rule (with_rule (new_app name) script) events

abbrev pub run : App
run = with_rule (with_rule (with_rule (with_rule (of_script (codes "run")) free) no_check) why) transcript

abbrev pub restore : App
restore = with_rule (with_rule (with_rule (new_app (codes "restore")) dump) jobs) out

-- the program: its words come without its name, it has a version, and one of the commands is among the words
abbrev pub alone : App
alone = let a = new_app (codes "pgserial") in record a { top = record a.top { has_version = true; no_binary_name = true; subcommand_required = true } }

-- a command, of such a shape: added to a program it is one of its commands
abbrev pub IsCommand : Shape → Command → Type 0
IsCommand s c = (old new : Command) → AddsSubcommand old c new → app_of new ≡ with_subcommand (app_of old) s

abbrev pub pgserial : App
pgserial = with_subcommand (with_subcommand (with_subcommand alone run.top) (of_script (codes "audit")).top) restore.top

-- a flag's text is that of one that is among the words
abbrev pub is_yes : Option Text → Bool
is_yes None = false
is_yes (Some text) = bytes_eq text (codes "true")

-- whether a flag is among a command's words
abbrev pub is_set : Text → List Row → Bool
is_set id rows = is_yes (first_of id rows)

-- which of a command's flags may not stand together: `--no-check` leaves out a check of `--free`; sessions that run freely aren't explained, and make no transcript; and a transcript has no reasons
abbrev pub clash_of : List Row → Option Clash
clash_of rows = if is_set (codes "no-check") rows && not (is_set (codes "free") rows) then Some clash.NoCheck
    else if is_set (codes "free") rows && (is_set (codes "why") rows || is_set (codes "transcript") rows) then Some clash.Free
    else if is_set (codes "why") rows && is_set (codes "transcript") rows then Some clash.Why
    else None

abbrev pub clash_in : Option (Text × List Row) → Option Clash
clash_in None = None
clash_in (Some command) = clash_of command.1

-- its error, in the parser's kinds
abbrev pub kind_of_clash : Clash → ErrorKind
kind_of_clash clash.NoCheck = MissingRequiredArgument
kind_of_clash clash.Free = ArgumentConflict
kind_of_clash clash.Why = ArgumentConflict

abbrev pub kinds_of_clash : Option Clash → Kinds
kinds_of_clash None = []
kinds_of_clash (Some c) = kind_of_clash c ∷ []

-- what is wrong with a command whose arguments are right one by one
abbrev pub faults_between : Option (Text × List Row) → Kinds
faults_between command = kinds_of_clash (clash_in command)

-- What may be wrong with some words, in the parser's kinds of errors; nothing where they are a command line. No word at all is one: `run -`.
abbrev pub faults : List Text → Kinds
faults [] = []
faults (word ∷ words) = or_else (fault_of pgserial (word ∷ words)) (faults_between (subcommand_of pgserial (word ∷ words)))

-- a mistake in the words: no call for help, and not out of memory
abbrev pub IsMistake : ErrorKind → Type 0
IsMistake k = (k ≢ OutOfMemory) × (k ≢ DisplayHelp) × (k ≢ DisplayVersion)

-- one of the faults that there may be is a mistake
abbrev pub MayBeMistaken : Kinds → Type 0
MayBeMistaken ks = (k : ErrorKind) × IsAmong k ks × IsMistake k

-- there is a fault, and whichever it is, it is a mistake
abbrev pub AreMistaken : Kinds → Type 0
AreMistaken ks = (ks ≢ []) × ((k : ErrorKind) → IsAmong k ks → IsMistake k)
