-- What the lines of sessions do that run freely, each on its thread, and what is printed of them.
use Rattle.std.specs.Prelude.{◌≡◌, ◌≢◌, ◌≤◌, ◌⊎◌, ◌++◌, [], ◌∷◌, ℕ, suc, Bool, true, false, List, length, slice_get, All, Option, Some, Result, Ok, Err}
use Rattle.schema.specs.Definition.{Catalog}
use Rattle.schema.specs.declared.tables.Tables.{Tables}
use Rattle.statement.specs.declared.reply.Reply.{Reply}
use Rattle.history.specs.Opening.{Opening, Recorded, zero_base}
use Rattle.history.specs.Answer.{IsLegal}
use Rattle.pass.specs.Knowing.{Known}
use Rattle.server.specs.Calls.{HasClosed, HasLeft, HasPolled, IsCall}
use Rattle.request.specs.declared.request.Request.{Request}
use Rattle.request.specs.Requests.{asked}
use Rattle.backup.specs.Backed.{seen_by}
use Rattle.script.specs.declared.command.Command.{Command}
use Rattle.script.specs.declared.command.Command.TheVariants as command
use Rattle.script.specs.declared.script.Line.{Line}
use Rattle.script.specs.declared.script.Step.{Step}
use Rattle.script.specs.declared.script.Step.TheVariants as step
use Rattle.script.specs.declared.schedule.Schedule.TheVariants.{Free}
use Rattle.script.specs.Printing.{reply_text}
use Rattle.script.specs.Scripts.{Said, said}
use Rattle.audit.specs.Orders.{check_line}
use Rattle.program.specs.Beginnings.{BeginsWith}
use Rattle.program.specs.Dumps.{TellsDumpAt}
use Rattle.program.specs.Files.{IsAllOf, Writing, read_of}
use Rattle.program.specs.Printed.{Adds, IsFlushed, Printed}
use Rattle.program.specs.Runs.{Stops}
use Rattle.program.specs.declared.fault.Fault.{Fault}
use Rattle.program.specs.declared.fault.Fault.TheVariants as fault
use Rattle.program.specs.declared.free.FreeWay.{FreeWay}

-- one of them has stopped, for this fault
abbrev pub IsFaultOf : {V F : Type 0} → F → List (Result V F) → Type 0
IsFaultOf f [] = ⊥
IsFaultOf f (r ∷ rs) = (r ≡ Err f) ⊎ IsFaultOf f rs

-- No session has stopped, and the text is what is printed of each session, one after the other.
abbrev pub AreJoined : {V F : Type 0} → (V → List ℕ) → List (Result V F) → List ℕ → Type 0
AreJoined items [] text = text ≡ []
AreJoined items (Ok v ∷ rs) text = (rest : List ℕ) × AreJoined items rs rest × (text ≡ items v ++ rest)
AreJoined items (Err e ∷ rs) text = ⊥

-- the check of an order that is one, where it is asked for
abbrev pub check_text : Bool → List ℕ
check_text true = check_line true
check_text false = []

module _ {A : Type 0} where
  -- A step is of one of sessions 1 to n, or of none.
  abbrev pub IsAmong : ℕ → Step A → Type 0
  IsAmong n (step.Session s k) = s ≤ n
  IsAmong n step.Checkpoint = Unit {0}

  -- what the pass of session s knows that has seen and done nothing
  abbrev pub fresh : ℕ → Known A
  fresh s = record { session = s; seen = []; mine = [] }

  -- The text is what is printed, under the session's number, of the answer to what it asked for, by which its pass, that knew p, came to know q.
  abbrev pub IsCallTold : Opening A → ℕ → Known A → Request A → List ℕ → Known A → Type 0
  IsCallTold o most p a text q = (r : Reply A) × IsCall most p (asked o.catalog a) r q × (text ≡ reply_text p.session r)

  -- The text is what is printed of the answer to WAIT, which polls; by that the pass, which knew p, came to know q.
  abbrev pub IsWaitTold : ℕ → Known A → List ℕ → Known A → Type 0
  IsWaitTold most p text q = (r : Reply A) × HasPolled most p r q × (text ≡ reply_text p.session r)

  -- The text is what is printed of a dump to the file of a path, after the history that the pass then has seen. A dump is no event.
  abbrev pub IsDumpTold : Writing → Opening A → ℕ → Known A → List ℕ → List ℕ → Known A → Type 0
  IsDumpTold writes o most p path text q = TellsDumpAt writes (seen_by o most q) p.session path text × (q.session ≡ p.session) × (q.mine ≡ p.mine)

  -- The text is what is printed of a session's command, by which its pass, that knew p, came to know q.
  abbrev pub IsTold : Writing → Opening A → ℕ → Known A → Command A → List ℕ → Known A → Type 0
  IsTold writes o most p (command.Dump request) text q = IsDumpTold writes o most p request.path text q
  IsTold writes o most p (command.Ask a) text q = IsCallTold o most p a text q
  IsTold writes o most p command.Wait text q = IsWaitTold most p text q

  -- A line of the script changes what the pass p knows to q, and prints the text. Only a line of the pass's own session does anything.
  abbrev pub IsAtLine : Writing → Opening A → ℕ → Step A → Known A → List ℕ → Known A → Type 0
  IsAtLine writes o most (step.Session s k) p text q = ((s ≡ p.session) × IsTold writes o most p k text q) ⊎ ((s ≢ p.session) × (text ≡ []) × (q ≡ p))
  IsAtLine writes o most step.Checkpoint p text q = (text ≡ []) × (q ≡ p)

  -- The text is what is printed of the lines, one after the other, by which the pass came to know q.
  abbrev pub AreTold : Writing → Opening A → ℕ → List (Line A) → Known A → List ℕ → Known A → Type 0
  AreTold writes o most [] p text q = (text ≡ []) × (q ≡ p)
  AreTold writes o most (l ∷ ls) p text q = (middle : Known A) × (first rest : List ℕ) × IsAtLine writes o most l.step p first middle × AreTold writes o most ls middle rest q × (text ≡ first ++ rest)

  -- The text is what is printed of the lines. After the last one the session has left: a transaction that it had open was rolled back, and of that nothing is printed.
  unfoldable pub HasPlayed : Writing → Opening A → ℕ → List (Line A) → Known A → List ℕ → Known A → Type 0
  HasPlayed writes o most ls p text q = (middle : Known A) × AreTold writes o most ls p text middle × HasLeft o most middle q

  -- Sessions that do these lines end for this fault: memory was refused; or one of the lines has ended its session, after a history that the pass had seen by then.
  abbrev pub SessionsEnd : Opening A → ℕ → List (Line A) → Fault → Type 0
  SessionsEnd o most ls f = (f ≡ fault.ScriptOutOfMemory) ⊎ ((n : ℕ) × (line : Line A) × (slice_get ls n ≡ Some line) × (p : Known A) × Stops (seen_by o most p) line.step f)

  -- The text is what is printed of the lines that sessions s, s + 1, .. did, one session after the other: each from nothing seen to what its pass knows.
  abbrev pub ArePrinted : Writing → Opening A → ℕ → List (Line A) → ℕ → List (Known A) → List ℕ → Type 0
  ArePrinted writes o most ls s [] text = text ≡ []
  ArePrinted writes o most ls s (q ∷ qs) text = (first rest : List ℕ) × HasPlayed writes o most ls (fresh s) first q × ArePrinted writes o most ls (suc s) qs rest × (text ≡ first ++ rest)

  -- The text is what is printed of the lines that sessions 1, 2, .. did, and, where that is checked, that the serial order is one. Each line is of one of them. There is one legal history of this opening, with room for this number of events: it begins with what each session has seen, and of each session it has exactly what that session did.
  pub record AreServed (writes : Writing) (o : Opening A) (most : ℕ) (is_checked : Bool) (ls : List (Line A)) (text : List ℕ) : Type 0 where
    pub history : Recorded A
    pub passes : List (Known A)
    pub printed : List ℕ
    pub opening : history.opening ≡ o
    pub room : history.most ≡ most
    pub legal : IsLegal history
    pub among : All (λ l. IsAmong (length passes) l.step) ls
    pub closed : All (λ q. HasClosed q history.records) passes
    pub told : ArePrinted writes o most ls 1 passes printed
    pub whole : text ≡ printed ++ check_text is_checked

  -- Sessions did these lines freely, from this opening on, and what they print was printed; it is on the stream, unless that has failed.
  abbrev pub SessionsHaveRun : Writing → Opening A → FreeWay → List (Line A) → Printed → Printed → Type 0
  SessionsHaveRun writes o way ls p q = (text : List ℕ) × AreServed writes o way.most_events way.is_checked ls text × Adds p q text × IsFlushed q

  -- The text is what is printed of the sessions of a script, which began with its tables.
  abbrev pub ScriptHasRunFreely : Writing → (List ℕ → Option (List ℕ)) → FreeWay → Said A → Printed → Printed → Type 0
  ScriptHasRunFreely writes held way s p q = (c : Catalog) × (X : Tables A) × BeginsWith held s.opens s.catalog c X
      × SessionsHaveRun writes (record { catalog = c; tables = X; base = zero_base }) way s.lines p q

-- What a path has says a script whose sessions may run freely, and they have.
abbrev pub PathHasRunFreely : (A : Type 0) → Writing → (List ℕ → Option (List ℕ)) → Option (List ℕ) → FreeWay → List ℕ → Printed → Printed → Type 0
PathHasRunFreely A writes held input way path p q = (bytes : List ℕ) × (s : Said A) × IsAllOf (read_of held input path) bytes × (said Free bytes ≡ Ok s) × ScriptHasRunFreely writes held way s p q
