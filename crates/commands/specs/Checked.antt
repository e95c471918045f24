-- What `check` has done where it ends, and what it has printed.
use Rattle.std.specs.Prelude.{◌≡◌, ◌⊎◌, ℕ, Bool, true, false, List, Option, Ok}
use Rattle.std.specs.Io.KnownBytes.{Appends}
use Rattle.clap.specs.Words.{Text}
use Rattle.clap.specs.declared.error.ErrorKind.{ErrorKind}
use Rattle.clap.specs.declared.error.ErrorKind.TheVariants.{DisplayHelp, DisplayVersion}
use Rattle.schema.specs.Definition.{Catalog}
use Rattle.schema.specs.Plain.{is_sound}
use Rattle.orders.specs.Explains.{all_fit}
use Rattle.orders.specs.Found.{Tells}
use Rattle.program.specs.Beginnings.{BeginsWith}
use Rattle.program.specs.CommandLine.{MayBeMistaken}
use Rattle.program.specs.Files.{IsAllOf, read_of}
use Rattle.program.specs.Outcomes.{AreHelp}
use Rattle.transcript.specs.Opening.{opening}
use Rattle.transcript.specs.Reading.{traces}
use Rattle.transcript.specs.declared.opening.Opening.{Opening}
use Rattle.judgement.specs.JsonTelling.{TellsObject}
use Rattle.judgement.specs.Telling.{TellsOf, names_of}
use Rattle.judgement.specs.declared.judging.Judgement.{Judgement}
use Rattle.commands.specs.CheckWords.{AsksFor, faults_in, rows_in}
use Rattle.commands.specs.Statuses.{IsFault, status_of}
use Rattle.commands.specs.declared.check.task.Task.{Task}

module _ {A : Type 0} where
  -- The judgement of a transcript of this text, which opens a dump or creates these tables: it begins with those tables; these are sound; it has the transactions of the text, with or without time, whose statements fit the tables; and its answer is right.
  pub record IsJudged (held : List ℕ → Option (List ℕ)) (has_time : Bool) (text : List ℕ) (opens : Option (List ℕ)) (created : Catalog) (j : Judgement A) : Type 0 where
    pub begins : BeginsWith held opens created j.catalog j.tables
    pub sound : is_sound j.catalog j.tables ≡ true
    pub reads : traces j.catalog has_time text ≡ Ok (j.traces.transactions.items, names_of j.traces.names.items)
    pub fit : all_fit j.catalog j.traces.transactions.items ≡ true
    pub tells : Tells j.catalog j.tables j.traces.transactions.items j.answer

  -- the text of a judgement, or its object in JSON
  abbrev pub TellsAs : Bool → Judgement A → List ℕ → Type 0
  TellsAs true j text = TellsObject j text
  TellsAs false j text = TellsOf j text

  -- that was printed
  abbrev pub IsPrinted : Bool → Judgement A → Option (List ℕ) → Option (List ℕ) → Type 0
  IsPrinted json j before after = (text : List ℕ) × TellsAs json j text × Appends before after text

  -- that was printed, and the exit status is that of its answer
  abbrev pub IsTold : Bool → Judgement A → ℕ → Option (List ℕ) → Option (List ℕ) → Type 0
  IsTold json j n before after = (n ≡ status_of j.answer) × IsPrinted json j before after

  -- A transcript of this text that begins with o was judged, and that was told.
  abbrev pub HasJudged : (List ℕ → Option (List ℕ)) → Bool → Bool → List ℕ → Opening A → ℕ → Option (List ℕ) → Option (List ℕ) → Type 0
  HasJudged held has_time json text o n before after = (j : Judgement A) × IsJudged held has_time text o.opens o.catalog j × IsTold json j n before after

-- A transcript was judged, and that was told.
abbrev pub HasChecked : (A : Type 0) → (List ℕ → Option (List ℕ)) → Bool → Bool → List ℕ → ℕ → Option (List ℕ) → Option (List ℕ) → Type 0
HasChecked A held has_time json text n before after = (o : Opening A) × (opening text ≡ Ok o) × HasJudged held has_time json text o n before after

-- What a task asks for was done: its transcript was read, judged, and told.
abbrev pub HasDone : (A : Type 0) → (List ℕ → Option (List ℕ)) → Option (List ℕ) → Task → ℕ → Option (List ℕ) → Option (List ℕ) → Type 0
HasDone A held input task n before after = (text : List ℕ) × IsAllOf (read_of held input task.transcript.now) text × HasChecked A held task.has_time task.json text n before after

-- an error of this kind is a call for help
abbrev pub IsHelp : ErrorKind → Type 0
IsHelp k = (k ≡ DisplayHelp) ⊎ (k ≡ DisplayVersion)

-- How `check` ends with words: by a fault; or they are mistaken; or they are a call for help; or what they ask for was done.
abbrev pub EndsAs : (A : Type 0) → (List ℕ → Option (List ℕ)) → Option (List ℕ) → List Text → ℕ → Option (List ℕ) → Option (List ℕ) → Type 0
EndsAs A held input words n before after = IsFault n ⊎ (n ≡ 2) × MayBeMistaken (faults_in words) ⊎ (n ≡ 0) × AreHelp (faults_in words) ⊎ ((task : Task) × AsksFor (rows_in words) task × HasDone A held input task n before after)
