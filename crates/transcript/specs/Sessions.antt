-- What a session has asked, and what comes of the reply (this project's own format).
use Rattle.std.specs.Prelude.{ℕ, suc, ◌-◌, ◌==◌, Bool, true, false, if◌then◌else◌, List, [], ◌∷◌, ◌++◌, replicate, Option, Some, None, is_some, slice_get, slice_index, slice_set}
use Rattle.statement.specs.declared.reply.Reply.{Reply}
use Rattle.statement.specs.declared.reply.Reply.TheVariants as reply
use Rattle.statement.specs.declared.statement.Statement.{Statement}
use Rattle.statement.specs.declared.statement.Statement.TheVariants.{Select, Insert, Update, Delete}
use Rattle.script.specs.Commands.{◌>>=◌, number_of, up_to}
use Rattle.transcript.specs.Recorded.{Recorded}
use Rattle.transcript.specs.declared.ask.Asked.{Asked}
use Rattle.transcript.specs.declared.ask.Asked.TheVariants as ask
use Rattle.transcript.specs.declared.said.Said.{Said}
use Rattle.transcript.specs.declared.said.Said.TheVariants as said
use Rattle.transcript.specs.declared.session.Outcome.{Outcome}
use Rattle.transcript.specs.declared.session.Outcome.TheVariants.{Nothing, Begun, Committed, Rows}
use Rattle.transcript.specs.declared.session.Pending.{Pending}
use Rattle.transcript.specs.declared.session.Session.{Session}

-- the last session's number, which 32 bits hold
unfoldable pub most_sessions : ℕ
most_sessions = 4294967295

-- a session's number: 1 to 4294967295, without a leading zero
abbrev pub session_in : List ℕ → Option ℕ
session_in text = if slice_index text 0 == 48 then None else up_to 4294967295 (number_of text)

module _ {A : Type 0} where
  -- ---- what is recorded of a transaction

  -- of session n: nothing but the BEGIN in a line
  abbrev pub nothing_but : ℕ → ℕ → Recorded A
  nothing_but n line = record { session = n; begin = line; imported = false; statements = []; lines = [] }

  -- one more statement in a line, and its reply
  abbrev pub one_more : Recorded A → Statement A → Reply A → ℕ → Recorded A
  one_more d q r line = record d { statements = d.statements ++ (q, r) ∷ []; lines = d.lines ++ line ∷ [] }

  abbrev pub with_import : Recorded A → Recorded A
  with_import d = record d { imported = true }

  -- ---- sessions

  -- one that has asked nothing yet
  abbrev pub idle : Session A
  idle = record { draft = None; pending = None }

  -- it asks for something in a line; none where it still awaits a reply
  abbrev pub asks : Session A → Asked A → ℕ → Option (Session A)
  asks s a line = if is_some s.pending then None else Some (record s { pending = Some (record { asked = a; line = line }) })

  -- no transaction is open from now on
  abbrev pub closed : Session A → Session A
  closed s = record s { draft = None }

  abbrev pub with_draft : Session A → Recorded A → Session A
  with_draft s d = record s { draft = Some d }

  -- a statement in a line, and its reply, are recorded of the open transaction
  abbrev pub recorded_of : Session A → Option (Recorded A) → Statement A → Reply A → ℕ → Option (Session A)
  recorded_of s None q r line = None
  recorded_of s (Some d) q r line = Some (with_draft s (one_more d q r line))

  abbrev pub recorded : Session A → Statement A → Reply A → ℕ → Option (Session A)
  recorded s q r line = recorded_of s s.draft q r line

  -- ---- what comes of a reply that leaves the session as it is; none where what was asked can't have this reply

  -- an error alone, of which nothing comes
  abbrev pub only_refused : Said → Option (Outcome A)
  only_refused said.Refused = Some Nothing
  only_refused _ = None

  abbrev pub to_export : Said → Option (Outcome A)
  to_export said.Exported = Some Nothing
  to_export says = only_refused says

  abbrev pub to_poll : Said → Option (Outcome A)
  to_poll said.Safe = Some Nothing
  to_poll said.Wait = Some Nothing
  to_poll says = only_refused says

  abbrev pub to_prune : Said → Option (Outcome A)
  to_prune said.Pruned = Some Nothing
  to_prune says = only_refused says

  abbrev pub to_dump : Said → Option (Outcome A)
  to_dump said.Dumped = Some Nothing
  to_dump says = only_refused says

  -- the n rows of a SELECT in a line follow
  abbrev pub selected : ℕ → ℕ → Statement A → Option (Outcome A)
  selected line n (Select t p ws) = Some (Rows (Select t p ws) n line)
  selected line n q = None

  -- ---- what comes of a reply, and the session from then on

  abbrev pub stays : Session A → Option (Outcome A) → Option (Outcome A × Session A)
  stays s None = None
  stays s (Some o) = Some (o, s)

  abbrev pub nothing : Session A → Option (Outcome A × Session A)
  nothing s = Some (Nothing, s)

  -- a transaction of session n begins by the BEGIN in a line, unless one is open
  abbrev pub begun : ℕ → ℕ → Session A → Option (Outcome A × Session A)
  begun n line s = if is_some s.draft then None else Some (Begun line, with_draft s (nothing_but n line))

  -- a BEGIN that is refused changes nothing
  abbrev pub to_begin : ℕ → ℕ → Session A → Said → Option (Outcome A × Session A)
  to_begin n line s said.Begun = begun n line s
  to_begin n line s said.Refused = nothing s
  to_begin n line s _ = None

  abbrev pub committed : Session A → Option (Recorded A) → Option (Outcome A × Session A)
  committed s None = None
  committed s (Some d) = Some (Committed d, closed s)

  -- a COMMIT that is refused, or answered as a ROLLBACK, ends its transaction
  abbrev pub to_commit : Session A → Said → Option (Outcome A × Session A)
  to_commit s said.Committed = committed s s.draft
  to_commit s said.RolledBack = nothing (closed s)
  to_commit s said.Refused = nothing (closed s)
  to_commit s _ = None

  -- a ROLLBACK that is refused doesn't end it
  abbrev pub to_rollback : Session A → Said → Option (Outcome A × Session A)
  to_rollback s said.RolledBack = nothing (closed s)
  to_rollback s said.Refused = nothing s
  to_rollback s _ = None

  abbrev pub imported : Session A → Option (Recorded A) → Option (Outcome A × Session A)
  imported s None = None
  imported s (Some d) = nothing (with_draft s (with_import d))

  abbrev pub to_import : Session A → Said → Option (Outcome A × Session A)
  to_import s said.Imported = imported s s.draft
  to_import s said.Refused = nothing s
  to_import s _ = None

  -- the reply to a statement that changes rows
  abbrev pub changed : Said → Statement A → Option (Reply A)
  changed said.Inserted (Insert t vs) = Some reply.Inserted
  changed (said.Updated n) (Update t us ws) = Some (reply.Updated n)
  changed (said.Deleted n) (Delete t ws) = Some (reply.Deleted n)
  changed _ _ = None

  unfoldable pub to_change : Session A → ℕ → Statement A → Said → Option (Outcome A × Session A)
  to_change s line q says = changed says q >>= λ r. recorded s q r line >>= λ t. nothing t

  -- a statement that is refused isn't recorded
  abbrev pub to_statement : Session A → ℕ → Statement A → Said → Option (Outcome A × Session A)
  to_statement s line q said.Refused = nothing s
  to_statement s line q (said.Selected n) = stays s (selected line n q)
  to_statement s line q says = to_change s line q says

  -- by the reply to what session n asked in a line
  abbrev pub answer_to : ℕ → ℕ → Session A → Said → Asked A → Option (Outcome A × Session A)
  answer_to n line s says ask.Begin = to_begin n line s says
  answer_to n line s says ask.Commit = to_commit s says
  answer_to n line s says ask.Rollback = to_rollback s says
  answer_to n line s says ask.Import = to_import s says
  answer_to n line s says ask.Export = stays s (to_export says)
  answer_to n line s says ask.Poll = stays s (to_poll says)
  answer_to n line s says ask.Prune = stays s (to_prune says)
  answer_to n line s says ask.Dump = stays s (to_dump says)
  answer_to n line s says (ask.Statement q) = to_statement s line q says
  answer_to n line s says ask.NoStatement = stays s (only_refused says)

  -- by the reply to what it awaits one to
  abbrev pub answered_by : ℕ → Session A → Said → Option (Pending A) → Option (Outcome A × Session A)
  answered_by n s says None = None
  answered_by n s says (Some p) = answer_to n p.line (record s { pending = None }) says p.asked

  -- by a reply to session n
  abbrev pub answered : ℕ → Session A → Said → Option (Outcome A × Session A)
  answered n s says = answered_by n s says s.pending

  -- ---- all sessions, by their numbers less 1

  -- those from a place on, where these are some of them, by their places, and the others are idle
  abbrev pub spread : ℕ → List (ℕ × Session A) → List (Session A)
  spread from [] = replicate (most_sessions - from) idle
  spread from (s ∷ ss) = replicate (s.0 - from) idle ++ s.1 ∷ spread (suc s.0) ss

  -- session n asks for something in a line
  unfoldable pub asked_of : List (Session A) → ℕ → ℕ → Asked A → Option (List (Session A))
  asked_of ss n line a = slice_get ss (n - 1) >>= λ s. asks s a line >>= λ t. Some (slice_set ss (n - 1) t)

  -- session n receives a reply
  unfoldable pub answered_of : List (Session A) → ℕ → Said → Option (Outcome A × List (Session A))
  answered_of ss n says = slice_get ss (n - 1) >>= λ s. answered n s says >>= λ o. Some (o.0, slice_set ss (n - 1) o.1)

  -- a statement of session n in a line, and its reply, are recorded
  unfoldable pub recorded_in : List (Session A) → ℕ → Statement A → Reply A → ℕ → Option (List (Session A))
  recorded_in ss n q r line = slice_get ss (n - 1) >>= λ s. recorded s q r line >>= λ t. Some (slice_set ss (n - 1) t)

  -- ---- a COMMIT without a reply

  abbrev pub is_commit : Asked A → Bool
  is_commit ask.Commit = true
  is_commit _ = false

  abbrev pub awaits_commit : Option (Pending A) → Bool
  awaits_commit None = false
  awaits_commit (Some p) = is_commit p.asked

  -- its transaction, where that may have committed: its COMMIT awaits a reply
  abbrev pub undetermined : Session A → Option (Recorded A)
  undetermined s = if awaits_commit s.pending then s.draft else None
