-- What `run --transcript` prints, as the transcript of a history.
use Rattle.std.specs.Prelude.{◌≡◌, ◌⊎◌, ℕ, Bool, true, false, List, [], Option, Ok, codes}
use Rattle.std.specs.List.{AllByRecursion}
use Rattle.clap.specs.Words.{Row, Text}
use Rattle.history.specs.Answer.{Legal}
use Rattle.history.specs.Events.{world_of}
use Rattle.history.specs.Opening.{Opening, zero_base}
use Rattle.history.specs.declared.event.Record.{Record}
use Rattle.orders.specs.Explains.{Trace}
use Rattle.program.specs.Asked.{IsInOrder, manner_of}
use Rattle.program.specs.Beginnings.{BeginsWith}
use Rattle.program.specs.CommandLine.{is_set}
use Rattle.program.specs.Files.{IsAllOf, Writing, read_of}
use Rattle.program.specs.Printed.{Adds, Printed, Prints}
use Rattle.program.specs.Runs.{PathHasRun}
use Rattle.program.specs.Stops.{PathHasStopped}
use Rattle.program.specs.declared.fault.Fault.{Fault}
use Rattle.recording.specs.Runs.{IsSmall, IsTranscript}
use Rattle.script.specs.Scripts.{Said, said}
use Rattle.script.specs.declared.schedule.Schedule.TheVariants.{InOrder}
use Rattle.script.specs.declared.script.Line.{Line}
use Rattle.recording.specs.Traces.{IsRecording}
use Rattle.transcript.specs.Reading.{Named, traces}

-- the type of a definition's fourth argument
abbrev pub fourth : {W X Y Z : Type 0} → (W → X → Y → Z → Type 0) → Type 0
fourth {Z = Z} f = Z

-- how lines are done one after the other, by the words
abbrev pub Way : Type 0
Way = fourth IsInOrder

-- The words of a command, `run --transcript`, ask for the lines of a path's script in this way.
abbrev pub AsksForTranscript : List Row → Text → Way → Type 0
AsksForTranscript rows path way = IsInOrder rows (manner_of rows) path way × (is_set (codes "why") rows ≡ false) × (is_set (codes "transcript") rows ≡ true)

module _ {A : Type 0} where
  -- 64 bits hold the numbers of each reply.
  abbrev pub AreSmall : List (Record A) → Type 0
  AreSmall es = AllByRecursion (λ e. IsSmall e.reply) es

-- Lines of a script were done, from the tables that it begins with, in a legal history; and the text is their transcript. So what is read of it, with or without time, is a recording of that history. Of files and of the script's path this is known.
pub record Transcribes (A : Type 0) (held : List ℕ → Option (List ℕ)) (known : Option (List ℕ)) (text : List ℕ) : Type 0 where
  pub script : List ℕ
  pub is_there : IsAllOf known script
  pub says : Said A
  pub is_said : said InOrder script ≡ Ok says
  pub opening : Opening A
  pub begins : BeginsWith held says.opens says.catalog opening.catalog opening.tables
  pub from_zero : opening.base ≡ zero_base
  pub events : List (Record A)
  pub legal : Legal opening events
  pub done : List (Line A)
  pub transcript : AreSmall events → (t : IsTranscript script opening events text) × (t.done ≡ done)
  pub recording : AreSmall events → (has_time : Bool) (rs : List (Trace A)) (names : List Named) → traces opening.catalog has_time text ≡ Ok (rs, names) → IsRecording (world_of opening events) rs

-- Where `run --transcript` has done a path's script, it has printed a transcript of all the script's lines.
abbrev pub OfTheDone : (A : Type 0) → Writing → Type 0
OfTheDone A writes = (held : List ℕ → Option (List ℕ)) (input : Option (List ℕ)) (rows : List Row) (path : Text) (way : Way) (p q : Printed) → AsksForTranscript rows path way
    → PathHasRun A writes held input way path p q → (text : List ℕ) × Adds p q text × (t : Transcribes A held (read_of held input path) text) × (t.done ≡ t.says.lines)

-- Where it has stopped, it has printed nothing, or a transcript of the lines that were done.
abbrev pub OfTheStopped : (A : Type 0) → Writing → Type 0
OfTheStopped A writes = (held : List ℕ → Option (List ℕ)) (input : Option (List ℕ)) (rows : List Row) (path : Text) (way : Way) (f : Fault) (p q : Printed) → AsksForTranscript rows path way
    → PathHasStopped A writes held input way path f p q → Prints p q [] ⊎ ((text : List ℕ) × Prints p q text × Transcribes A held (read_of held input path) text)
