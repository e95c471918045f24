-- What a script says, line by line.
use Rattle.std.specs.Prelude.{◌≡◌, ◌⊎◌, ℕ, ◌+◌, ◌==◌, Bool, true, false, not, ◌&&◌, ◌||◌, if◌then◌else◌, Option, Some, None, is_some, Result, Ok, Err, List, [], ◌∷◌, ◌++◌, length, take, drop, codes, slice_index}
use Rattle.std.specs.Char.{is_ascii_digit}
use Rattle.std.specs.List.{slice_split}
use Rattle.std.specs.Option.{option_map_or}
use Rattle.std.specs.Result.{result_ok}
use Rattle.std.specs.Str.{bytes_eq, is_utf8}
use Rattle.schema.specs.Adding.{added}
use Rattle.value.specs.declared.refusal.Code.{Code}
use Rattle.value.specs.declared.refusal.Code.TheVariants.{OutOfMemory}
use Rattle.value.specs.declared.refusal.Refusal.{Refusal}
use Rattle.schema.specs.Definition.{Catalog, TableDef}
use Rattle.script.specs.declared.error.LineError.{LineError}
use Rattle.script.specs.declared.error.LineError.TheVariants.{Memory, Faulty}
use Rattle.sqltext.specs.Creating.{created}
use Rattle.script.specs.Commands.{◌>>=◌, command_of, cut, before_last, path_of, session_of, text_of}
use Rattle.script.specs.declared.schedule.Schedule.{Schedule}
use Rattle.script.specs.declared.schedule.Schedule.TheVariants.{InOrder, Free}
use Rattle.script.specs.declared.script.Step.{Step}
use Rattle.script.specs.declared.script.Step.TheVariants.{Session, Checkpoint}
use Rattle.script.specs.declared.script.Line.{Line}
use Rattle.script.specs.declared.fault.ScriptFault.{ScriptFault}

-- What a script has said so far: the tables that it creates, or the dump that it opens, and what is to be done, each with the number of its line.
pub record Said (A : Type 0) : Type 0 where
  pub catalog : Catalog
  pub opens : Option (List ℕ)
  pub lines : List (Line A)

-- an empty line or a comment
abbrev pub is_passed_over : List ℕ → Bool
is_passed_over line = length line == 0 || bytes_eq (take 2 line) (codes "--")

-- the table of a line
abbrev pub table_of : List ℕ → Option TableDef
table_of line = text_of line >>= λ text. result_ok (created text)

abbrev pub is_memory : Code → Bool
is_memory OutOfMemory = true
is_memory _ = false

-- what a refusal means for a line
abbrev pub error_of : Refusal → LineError
error_of r = if is_memory r.code then Memory else Faulty

-- no line follows
abbrev pub is_end : List (List ℕ) → Bool
is_end [] = true
is_end (line ∷ more) = false

module _ {A : Type 0} where
  -- what a script begins with: nothing
  abbrev pub nothing : Said A
  nothing = record { catalog = []; opens = None; lines = [] }

  -- a session's number, a space, a command, and `;`
  unfoldable pub session_step : Schedule → List ℕ → Option (Step A)
  session_step schedule line = cut 32 line >>= λ p. session_of p.0 >>= λ s. before_last 59 p.1 >>= λ text. command_of schedule text >>= λ command. Some (Session s command)

  -- one more thing to be done
  abbrev pub with_step : Said A → ℕ → Step A → Said A
  with_step s n step = record s { lines = s.lines ++ record { number = n; step = step } ∷ [] }

  -- neither a session's line nor an OPEN has come
  abbrev pub takes_tables : Said A → Bool
  takes_tables s = not (is_some s.opens) && length s.lines == 0

  -- `OPEN path;` stands before all but what is passed over
  abbrev pub opened : Said A → List ℕ → Option (Said A)
  opened s line = if takes_tables s && length s.catalog == 0 then (before_last 59 (drop 5 line) >>= λ text. path_of text >>= λ path. Some (record s { opens = Some path })) else None

  -- the text of a table that may be added
  abbrev pub created_in : Said A → List ℕ → Option (Said A)
  created_in s line = if takes_tables s then (table_of line >>= λ d. result_ok (added s.catalog d) >>= λ c. Some (record s { catalog = c })) else None

  -- a session's line
  abbrev pub with_session : Schedule → Said A → ℕ → List ℕ → Option (Said A)
  with_session schedule s n line = session_step schedule line >>= λ step. Some (with_step s n step)

  -- a checkpoint is made between the lines of all sessions: where these run freely there is no such place
  abbrev pub with_checkpoint : Schedule → Said A → ℕ → Option (Said A)
  with_checkpoint InOrder s n = Some (with_step s n Checkpoint)
  with_checkpoint Free s n = None

  -- an empty line or a comment changes nothing, but must be text
  abbrev pub passed_over : Said A → List ℕ → Option (Said A)
  passed_over s line = if is_utf8 line then Some s else None

  -- what the script has said with one more line, the n-th; none where it may not come
  abbrev pub with_line : Schedule → Said A → ℕ → List ℕ → Option (Said A)
  with_line schedule s n line =
      if is_passed_over line then passed_over s line
      else if is_ascii_digit (slice_index line 0) then with_session schedule s n line
      else if bytes_eq (take 5 line) (codes "OPEN ") then opened s line
      else if bytes_eq line (codes "CHECKPOINT;") then with_checkpoint schedule s n
      else created_in s line

  -- With the lines from the n-th on: what is said, or the number of the first that may not come. Nothing follows the last newline.
  abbrev pub said_from : Schedule → Said A → ℕ → List (List ℕ) → Result (Said A) ℕ
  said_from schedule s n [] = Ok s
  said_from schedule s n (line ∷ more) =
      if is_end more then (if length line == 0 then Ok s else Err n)
      else option_map_or (λ t. said_from schedule t (n + 1) more) (with_line schedule s n line) (Err n)

  -- what a text says as a script that is run so
  abbrev pub said : Schedule → List ℕ → Result (Said A) ℕ
  said schedule text = said_from schedule nothing 1 (slice_split (λ b. b == 10) text)

-- What a call returned, seen by view, is what is said, or the number of the first faulty line, counted from 1; or memory ran out, which is reported as line 0.
abbrev pub Says : {X Y : Type 0} → (X → Y) → Result X ScriptFault → Result Y ℕ → Type 0
Says view (Ok x) answer = answer ≡ Ok (view x)
Says view (Err e) answer = (e.line ≡ 0) ⊎ (answer ≡ Err e.line)

-- the line that a fault reports
abbrev pub line_of : LineError → ℕ → ℕ
line_of Memory n = 0
line_of Faulty n = n
