-- The words of `check`, in those of clap: `TRANSCRIPT [--no-time] [--steps N] [--certificate FILE] [--json]`. To clap its rows are its arguments, with their values.
use Rattle.std.specs.Prelude.{◌≡◌, ◌^◌, ◌<◌, ℕ, not, true, List, Some, pos, codes, option_map}
use Rattle.clap.specs.Words.{App, Kinds, Row, Rule, Text, fault_of, first_of, matches_of, new_app, new_rule, one_of, with_rule}
use Rattle.clap.specs.declared.builder.ArgAction.TheVariants.{Set, SetTrue}
use Rattle.clap.specs.declared.builder.ValueParser.TheVariants.{Signed}
use Rattle.program.specs.Asked.{Writes, path_of}
use Rattle.program.specs.CommandLine.{is_set}
use Rattle.commands.specs.declared.check.task.Task.{Task}

-- the file of a transcript
abbrev pub transcript : Rule
transcript = record (new_rule (codes "TRANSCRIPT")) { required = true; action = Some Set }

-- `--no-time`
abbrev pub no_time : Rule
no_time = record (new_rule (codes "no-time")) { long = Some (codes "no-time"); action = Some SetTrue }

-- `--steps N`, from 1 to 4294967295
abbrev pub steps : Rule
steps = record (new_rule (codes "steps")) { long = Some (codes "steps"); value_names = 1; action = Some Set; parser = Some (Signed (pos 1) (pos 4294967295)) }

-- `--certificate FILE`
abbrev pub certificate : Rule
certificate = record (new_rule (codes "certificate")) { long = Some (codes "certificate"); value_names = 1; action = Some Set }

-- `--json`
abbrev pub json : Rule
json = record (new_rule (codes "json")) { long = Some (codes "json"); action = Some SetTrue }

-- the command, whose words come without its name
abbrev pub alone : App
alone = let a = new_app (codes "check") in record a { top = record a.top { no_binary_name = true } }

abbrev pub check : App
check = with_rule (with_rule (with_rule (with_rule (with_rule alone transcript) no_time) steps) certificate) json

-- the rows of some words, where the command takes them
unfoldable pub rows_in : List Text → List Row
rows_in words = matches_of check words

-- what may be wrong with some words, in the parser's kinds of errors; nothing where the command takes them
unfoldable pub faults_in : List Text → Kinds
faults_in words = fault_of check words

-- how many steps there are to be, which 32 bits can say
abbrev pub WritesSteps : List Row → ℕ → Type 0
WritesSteps rows = Writes (λ n. n < 2 ^ 32) 1000000 (one_of (codes "steps") rows)

-- What the rows ask for: a transcript's path, whether time counts, how many steps, the path of a certificate, and whether JSON is printed.
abbrev pub AsksFor : List Row → Task → Type 0
AsksFor rows task =
    (task.transcript.now ≡ path_of (codes "TRANSCRIPT") rows) × (task.has_time ≡ not (is_set (codes "no-time") rows)) × WritesSteps rows task.steps × (option_map (λ s. s.now) task.certificate ≡ first_of (codes "certificate") rows)
    × (task.json ≡ is_set (codes "json") rows)
