-- How `check` ends, and what it has done.
use Rattle.std.proofs.Common.{◌≡◌, ◌⊎◌, ◌∙◌, ◌≤◌, ℕ, Bool, true, false, List, Option, Result, Ok, Err, IfOk, OnOk, Vec, inl, inr, ap, refl, subst, sym, arith}
use Rattle.std.specs.Io.KnownBytes.{Appends}
use Rattle.clap.specs.Words.{HasKind, Text, kind_of}
use Rattle.clap.specs.declared.error.Error.{Error}
use Rattle.clap.specs.declared.error.ErrorKind.{ErrorKind}
use Rattle.clap.specs.declared.error.ErrorKind.TheVariants.{OutOfMemory}
use Rattle.orders.specs.declared.search.Answer.{Answer}
use Rattle.orders.specs.declared.search.Answer.TheVariants.{Yes, No, Unknown}
use Rattle.program.specs.CommandLine.{IsMistake}
use Rattle.program.specs.Ends.{code, status}
use Rattle.program.specs.Files.{IsAllOf, read_of}
use Rattle.program.specs.declared.fault.Fault.{Fault}
use Rattle.program.specs.declared.fault.Fault.TheVariants as fault
use Rattle.program.specs.declared.fault.Status.{Status}
use Rattle.program.specs.declared.fault.Status.TheVariants.{Done, Refused, Usage, Device}
use Rattle.program.proofs.EndLemmas.{among, help_of}
use Rattle.transcript.specs.Opening.{opening}
use Rattle.transcript.specs.declared.opening.Opening.{Opening}
use Rattle.judgement.specs.JsonTelling.{TellsObject}
use Rattle.judgement.specs.Telling.{TellsOf}
use Rattle.judgement.specs.declared.judging.Judgement.{Judgement}
use Rattle.commands.specs.CheckWords.{AsksFor, faults_in, rows_in}
use Rattle.commands.specs.Checked.{EndsAs, HasChecked, HasDone, HasJudged, IsHelp, IsJudged, IsPrinted, IsTold, TellsAs}
use Rattle.commands.specs.Statuses.{IsFault, status_of}
use Rattle.commands.specs.declared.check.task.Task.{Task}

-- a fault of the program refuses something, or is a device's
pub of_fault : (f : Fault) (s : Status) → s ≡ status f → (s ≡ Refused) ⊎ (s ≡ Device)
of_fault (fault.Script line) s e = inl e
of_fault (fault.Dump line c) s e = inl e
of_fault (fault.Device path) s e = inr e
of_fault fault.ScriptOutOfMemory s e = inl e
of_fault fault.DumpOutOfMemory s e = inl e

-- its exit status
pub by_code : (s : Status) (n : ℕ) → (s ≡ Refused) ⊎ (s ≡ Device) → n ≡ code s → IsFault n
by_code s n (inl e) is = inl (is ∙ ap code e)
by_code s n (inr e) is = inr (is ∙ ap code e)

fault_within : (n : ℕ) → IsFault n → n ≤ 5
fault_within n (inl e) = omega (arith, e)
fault_within n (inr e) = omega (arith, e)

status_within : {A : Type 0} (a : Answer A) (n : ℕ) → n ≡ status_of a → n ≤ 5
status_within (Yes order) n e = omega (arith, e)
status_within No n e = omega (arith, e)
status_within Unknown n e = omega (arith, e)

-- a judgement was printed
pub told : {A : Type 0} (json : Bool) (j : Judgement A) (n : ℕ) (before after : Option (List ℕ)) → IsPrinted json j before after → IsFault n ⊎ (n ≡ status_of j.answer) → IsFault n ⊎ IsTold json j n before after
told json j n before after printed (inl e) = inl e
told json j n before after printed (inr e) = inr (e, printed)

-- an object in JSON is told, or a text
pub by_object : {A E : Type 0} (json : Bool) (j : Judgement A) (r : Result (Vec ℕ A) E) → json ≡ true → IfOk r (λ t. TellsObject j t.items) → IfOk r (λ t. TellsAs json j t.items)
by_object json j (Ok t) is told = subst (λ b. TellsAs b j t.items) (sym is) told
by_object json j (Err e) is told = tt

pub by_text : {A E : Type 0} (json : Bool) (j : Judgement A) (r : Result (Vec ℕ A) E) → json ≡ false → IfOk r (λ t. TellsOf j t.items) → IfOk r (λ t. TellsAs json j t.items)
by_text json j (Ok t) is told = subst (λ b. TellsAs b j t.items) (sym is) told
by_text json j (Err e) is told = tt

pub printed : {A E : Type 0} (json : Bool) (j : Judgement A) (r : Result (Unit {0}) E) (text shown : List ℕ) (before after : Option (List ℕ)) → shown ≡ text → TellsAs json j text → OnOk r (Appends before after shown) → OnOk r (IsPrinted json j before after)
printed json j (Ok done) text shown before after is tells appends = (text, tells, subst (λ t. Appends before after t) is appends)
printed json j (Err e) text shown before after is tells appends = tt

-- the judgement of what a transcript begins with was told
pub was_judged : {A : Type 0} (held : List ℕ → Option (List ℕ)) (has_time json : Bool) (text : List ℕ) (o : Opening A) (opens : Option (List ℕ)) (j : Judgement A) (n : ℕ) (before after : Option (List ℕ)) → opens ≡ o.opens → IsJudged held has_time text opens o.catalog j → IsFault n ⊎ IsTold json j n before after → IsFault n ⊎ HasJudged held has_time json text o n before after
was_judged held has_time json text o opens j n before after is judged (inl e) = inl e
was_judged held has_time json text o opens j n before after is judged (inr told) = inr (j, subst (λ path. IsJudged held has_time text path o.catalog j) is judged, told)

-- a transcript was checked
pub was_checked : {A : Type 0} (held : List ℕ → Option (List ℕ)) (has_time json : Bool) (text : List ℕ) (o : Opening A) (n : ℕ) (before after : Option (List ℕ)) → opening text ≡ Ok o → IsFault n ⊎ HasJudged held has_time json text o n before after → IsFault n ⊎ HasChecked A held has_time json text n before after
was_checked held has_time json text o n before after is (inl e) = inl e
was_checked held has_time json text o n before after is (inr judged) = inr (o, is, judged)

-- what a task asks for was done
pub was_done : (A : Type 0) (held : List ℕ → Option (List ℕ)) (input : Option (List ℕ)) (task : Task) (text shown : List ℕ) (n : ℕ) (before after : Option (List ℕ)) → shown ≡ text → IsAllOf (read_of held input task.transcript.now) text → IsFault n ⊎ HasChecked A held task.has_time task.json shown n before after → IsFault n ⊎ HasDone A held input task n before after
was_done A held input task text shown n before after same is (inl e) = inl e
was_done A held input task text shown n before after same is (inr checked) = inr (text, is, subst (λ t. HasChecked A held task.has_time task.json t n before after) same checked)

-- how words end that the parser takes
pub of_task : (A : Type 0) (held : List ℕ → Option (List ℕ)) (input : Option (List ℕ)) (words : List Text) (task : Task) (n : ℕ) (before after : Option (List ℕ)) → AsksFor (rows_in words) task → IsFault n ⊎ HasDone A held input task n before after → EndsAs A held input words n before after
of_task A held input words task n before after asks (inl e) = inl e
of_task A held input words task n before after asks (inr done) = inr (inr (inr (task, asks, done)))

-- how an error of the words ends
abbrev pub IsOfError : Error → ℕ → Type 0
IsOfError e n = IsFault n ⊎ (n ≡ 2) × IsMistake (kind_of e) ⊎ (n ≡ 0) × IsHelp (kind_of e)

pub of_status : (e : Error) (s : Status) (n : ℕ) → n ≡ code s → (s ≡ Usage → IsMistake (kind_of e)) → ((s ≡ Done) ⊎ (s ≡ Device) → IsHelp (kind_of e)) → IsOfError e n
of_status e Done n is usage help = inr (inr (is, help (inl refl)))
of_status e Refused n is usage help = inl (inl is)
of_status e Usage n is usage help = inr (inl (is, usage refl))
of_status e Device n is usage help = inl (inr is)

-- help is not out of memory
no_memory : (k : ErrorKind) → IsHelp k → k ≡ OutOfMemory → ⊥
no_memory k (inl help) memory = cc
no_memory k (inr help) memory = cc

-- how words end that the parser refuses
pub of_error : (A : Type 0) (held : List ℕ → Option (List ℕ)) (input : Option (List ℕ)) (words : List Text) (e : Error) (n : ℕ) (before after : Option (List ℕ)) → HasKind (faults_in words) e → IsOfError e n → EndsAs A held input words n before after
of_error A held input words e n before after has (inl fault) = inl fault
of_error A held input words e n before after has (inr (inl mistake)) = inr (inl (mistake.0, (kind_of e, among (faults_in words) e has mistake.1.0, mistake.1)))
of_error A held input words e n before after has (inr (inr help)) = inr (inr (inl (help.0, help_of (faults_in words) e has (no_memory (kind_of e) help.1) help.1)))

-- no status is above 5
pub ends_within : (A : Type 0) (held : List ℕ → Option (List ℕ)) (input : Option (List ℕ)) (words : List Text) (n : ℕ) (before after : Option (List ℕ)) → EndsAs A held input words n before after → n ≤ 5
ends_within A held input words n before after (inl fault) = fault_within n fault
ends_within A held input words n before after (inr (inl mistake)) = omega (arith, mistake.0)
ends_within A held input words n before after (inr (inr (inl help))) = omega (arith, help.0)
ends_within A held input words n before after (inr (inr (inr done))) = let judged = done.2.2.2 in status_within judged.0.answer n judged.2.0
