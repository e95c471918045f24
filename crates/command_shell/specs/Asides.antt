-- What a terminal shows that is no answer to a line.
use Rattle.std.specs.Prelude.{◌≡◌, ◌⊎◌, ℕ, zero, suc, ◌==◌, Bool, true, false, List, [], ◌∷◌, ◌++◌, Option, Some, None, length, codes, take, unwrap_or, if◌then◌else◌}
use Rattle.std.specs.List.{last_or}
use Rattle.std.specs.Str.{bytes_eq}
use Rattle.value.specs.declared.refusal.Refusal.{Refusal}
use Rattle.history.specs.declared.event.Record.{Record}
use Rattle.retrace.specs.Explained.{Account, why_told}
use Rattle.history.specs.Opening.{Recorded}
use Rattle.program.specs.Files.{IsWritten, Writing}
use Rattle.program.specs.Remarks.{account_of, failure_of}
use Rattle.terminal.specs.Drawn.{shown}
use Rattle.terminal.specs.declared.attended.Aside.{Aside}
use Rattle.terminal.specs.declared.attended.Aside.TheVariants as aside
use Rattle.command_shell.specs.Serves.{Over, ServesOver}

-- Why a session's transaction was refused last because of other transactions.
pub record Why : Type 0 where
  pub session : ℕ
  pub refusal : Refusal
  pub events : ℕ  -- how many events there were with it
  pub told : Option (List ℕ)  -- what is shown of it, once that was found

-- as it is where it has just come, by event n
abbrev pub untold : ℕ → ℕ → Refusal → Why
untold n s e = record { session = s; refusal = e; events = n; told = None }

abbrev pub refused_so : ℕ → ℕ → Option Refusal → Option Why → Option Why
refused_so n s None before = before
refused_so n s (Some e) before = Some (untold n s e)

-- the last refusal after event n: that event, where it is such a refusal
abbrev pub refused_after : {A : Type 0} → ℕ → Record A → Option Why → Option Why
refused_after n e before = refused_so n e.session (failure_of e.reply) before

abbrev pub refused_from : {A : Type 0} → ℕ → Option (Record A) → Option Why → Option Why
refused_from n None before = before
refused_from n (Some e) before = refused_after n e before

-- the last refusal after some events
abbrev pub refused_in : {A : Type 0} → List (Record A) → Option Why → Option Why
refused_in es before = refused_from (length es) (last_or None es) before

-- the last refusal after the last event of a server, where it runs
abbrev pub refused_by : {A : Type 0} → Option (Recorded A) → Option Why → Option Why
refused_by None before = before
refused_by (Some h) before = refused_in h.records before

-- remarks, or that there are none
abbrev pub why_text : List ℕ → List ℕ
why_text why = if length why == 0 then codes "no serialization failure yet\n" else why

-- the numbers from 1 to n
abbrev pub numbers_to : ℕ → List ℕ
numbers_to zero = []
numbers_to (suc n) = numbers_to n ++ suc n ∷ []

-- the account of a history's first n events, each of which was asked for in a line of its own
abbrev pub account_at : {A : Type 0} → Recorded A → ℕ → Account A
account_at h n = account_of (record h { records = take n h.records }) (numbers_to n)

-- why it was refused, by the events of a server, where it runs
abbrev pub why_in : {A : Type 0} → Option (Recorded A) → Why → List ℕ
why_in None w = why_text []
why_in (Some h) w = why_text (why_told (account_at h w.events) w.session w.refusal)

-- what is shown of the last refusal: what was shown before, else why it was refused; or that there was none
abbrev pub why_shown : {A : Type 0} → Option (Recorded A) → Option Why → List ℕ
why_shown core None = why_text []
why_shown core (Some w) = unwrap_or w.told (why_in core w)

-- The text is known of the last refusal from then on.
abbrev pub known_as : List ℕ → Option Why → Option Why
known_as text None = None
known_as text (Some w) = Some (record w { told = Some text })

-- The text says why a transaction was refused last, or that none was; from then on that is known.
abbrev pub TellsWhy : {A : Type 0} → Option (Recorded A) → Option Why → Option Why → List ℕ → Type 0
TellsWhy core w v text = (text ≡ why_shown core w) × (v ≡ known_as text w)

-- the last refusal before a line: before a checkpoint, which takes away the events that explain it, it is found why
abbrev pub recalled : {A : Type 0} → Option (Recorded A) → List ℕ → Option Why → Option Why
recalled core line w = if bytes_eq line (codes "CHECKPOINT;") then known_as (why_shown core w) w else w

-- what is shown of a picture that was written to a path, or couldn't be
abbrev pub drawn_text : List ℕ → List ℕ
drawn_text path = codes "drawn to " ++ shown path ++ codes "\n"

abbrev pub unwritten_text : List ℕ → List ℕ
unwritten_text path = shown path ++ codes " can't be written\n"

abbrev pub picture_told : Bool → List ℕ → List ℕ
picture_told true path = drawn_text path
picture_told false path = unwritten_text path

-- what is shown where there is nothing to draw
abbrev pub undrawn_text : List ℕ
undrawn_text = codes "nothing to draw: no session has begun\n"

-- A picture was written to the file of a path, whole; or it couldn't be.
abbrev pub TellsDrawing : {Out : Type 0} → (Out → List ℕ) → (Out → List ℕ) → List ℕ → List ℕ → Type 0
TellsDrawing path_of kept path text = ((bytes : List ℕ) × IsWritten path_of kept path bytes × (text ≡ drawn_text path)) ⊎ (text ≡ unwritten_text path)

-- what is shown of a picture of a history; where no session has begun there is nothing to draw
abbrev pub TellsOn : {A Out : Type 0} → (Out → List ℕ) → (Out → List ℕ) → Option (Recorded A) → List ℕ → List ℕ → Type 0
TellsOn path_of kept None path text = text ≡ undrawn_text
TellsOn path_of kept (Some h) path text = TellsDrawing path_of kept path text

-- What a prompt stands for: a shell over files, these files, and why a transaction was refused last, if one was.
pub record Seen (F A : Type 0) : Type 0 where
  pub over : Over F A
  pub files : F
  pub why : Option Why

module _ {F A : Type 0} where
  -- a prompt of which nothing was asked yet
  abbrev pub unasked : F → Over F A → Seen F A
  unasked files over = record { over = over; files = files; why = None }

  -- A line was answered as the shell does, and it is known whose transaction was refused last.
  abbrev pub Replies : Writing → (F → List ℕ → Option (List ℕ)) → Seen F A → List ℕ → Seen F A → List ℕ → Type 0
  Replies writes held p line q text = ServesOver writes held p.over line q.over text × (q.files ≡ p.files)
      × (q.why ≡ refused_by q.over.shell.core (recalled p.over.shell.core line p.why))

  -- What is shown besides the answers, and what is known from then on.
  abbrev pub Tells : {Out : Type 0} → (Out → List ℕ) → (Out → List ℕ) → Seen F A → Aside → List ℕ → Seen F A → List ℕ → Type 0
  Tells path_of kept p aside.Why path q text = (v : Option Why) × TellsWhy p.over.shell.core p.why v text × (q ≡ record p { why = v })
  Tells path_of kept p aside.Drawing path q text = (q ≡ p) × TellsOn path_of kept p.over.shell.core path text
