-- What a transcript says of its transactions, line by line (this project's own format).
use Rattle.std.specs.Prelude.{ℕ, ◌+◌, ◌-◌, ◌==◌, nat_lt, nat_le, Bool, not, ◌||◌, if◌then◌else◌, List, [], ◌∷◌, ◌++◌, map, length, codes, replicate, slice_get, slice_index, Option, Some, None, is_some, Result, Ok, Err}
use Rattle.std.specs.Char.{is_ascii_digit}
use Rattle.std.specs.List.{count_by, filter_map}
use Rattle.std.specs.Option.{option_map, option_map_or}
use Rattle.std.specs.Result.{result_ok}
use Rattle.std.specs.Str.{bytes_eq}
use Rattle.value.specs.declared.kind.Kind.{Kind}
use Rattle.value.specs.declared.kind.Kind.TheVariants.{Bigint}
use Rattle.value.specs.declared.value.Value.{Value}
use Rattle.schema.specs.Definition.{Catalog, Column, columns_of}
use Rattle.statement.specs.declared.reply.Reply.TheVariants as reply
use Rattle.statement.specs.declared.statement.Projection.{Projection}
use Rattle.statement.specs.declared.statement.Projection.TheVariants.{All, Count, Columns}
use Rattle.statement.specs.declared.statement.Statement.{Statement}
use Rattle.statement.specs.declared.statement.Statement.TheVariants.{Select}
use Rattle.copytext.specs.Reading.{line_values}
use Rattle.orders.specs.Explains.{Trace, all_fit}
use Rattle.script.specs.Commands.{◌>>=◌}
use Rattle.transcript.specs.Asking.{asked}
use Rattle.transcript.specs.Lines.{behind_mark, kind_of, read_text}
use Rattle.transcript.specs.Saying.{is_of_checkpoint, row_text, said, session_and_text}
use Rattle.transcript.specs.Sessions.{answered_of, asked_of, idle, most_sessions, recorded_in, undetermined}
use Rattle.transcript.specs.declared.lines.LineKind.{LineKind}
use Rattle.transcript.specs.declared.lines.LineKind.TheVariants.{Skipped, Command, Reply}
use Rattle.transcript.specs.declared.reader.Ended.{Ended}
use Rattle.transcript.specs.declared.session.Outcome.{Outcome}
use Rattle.transcript.specs.declared.session.Outcome.TheVariants.{Nothing, Begun, Committed, Rows}
use Rattle.transcript.specs.declared.session.Session.{Session}

-- A SELECT in a line, whose rows follow: those that have come, and how many are left.
pub record Awaited (A : Type 0) : Type 0 where
  pub session : ℕ
  pub statement : Statement A
  pub line : ℕ
  pub kinds : List Kind
  pub rows : List (List (Value A))
  pub left : ℕ

-- What was read so far: the sessions by their numbers less 1, how many checkpoints await their replies, the SELECT whose rows follow, the lines of the BEGINs
-- that were answered BEGIN, and the transactions that committed, each with the line of the reply to its COMMIT.
pub record Read (A : Type 0) : Type 0 where
  pub sessions : List (Session A)
  pub checkpoints : ℕ
  pub due : Option (Awaited A)
  pub begins : List ℕ
  pub ended : List (Ended A)

-- how a transaction is named: its number, its session, and the lines of its statements
pub record Named : Type 0 where
  pub number : ℕ
  pub session : ℕ
  pub lines : List ℕ

abbrev pub named : ℕ → ℕ → List ℕ → Named
named number session lines = record { number = number; session = session; lines = lines }

-- ---- what a SELECT shows

abbrev pub kind_at : List Column → ℕ → Option Kind
kind_at columns n = option_map (λ d. d.kind) (slice_get columns n)

-- the kinds of the columns that were named
abbrev pub kinds_named : List Column → List ℕ → List Kind
kinds_named columns ns = filter_map (kind_at columns) ns

abbrev pub kinds_shown : {A : Type 0} → List Column → Projection A → List Kind
kinds_shown columns All = map (λ d. d.kind) columns
kinds_shown columns Count = Bigint ∷ []
kinds_shown columns (Columns ns) = kinds_named columns ns

-- the kinds of a SELECT's rows
abbrev pub kinds_in : {A : Type 0} → Catalog → Statement A → Option (List Kind)
kinds_in c (Select t p ws) = if nat_lt t (length c) then Some (kinds_shown (columns_of c t) p) else None
kinds_in c _ = None

module _ {A : Type 0} where
  -- nothing is read yet
  abbrev pub start : Read A
  start = record { sessions = replicate most_sessions idle; checkpoints = 0; due = None; begins = []; ended = [] }

  abbrev pub with_sessions : Read A → List (Session A) → Read A
  with_sessions r ss = record r { sessions = ss }

  -- ---- commands

  unfoldable pub session_asks : Catalog → Read A → ℕ → List ℕ → Option (Read A)
  session_asks c r n line = asked c line >>= λ a. asked_of r.sessions a.0 n a.1 >>= λ ss. Some (with_sessions r ss)

  -- a checkpoint, or tables that are created or opened
  abbrev pub other_asked : Read A → List ℕ → Read A
  other_asked r line = if bytes_eq line (codes "CHECKPOINT;") then record r { checkpoints = r.checkpoints + 1 } else r

  -- a command in line n
  abbrev pub commanded : Catalog → Read A → ℕ → List ℕ → Option (Read A)
  commanded c r n line = if is_ascii_digit (slice_index line 0) then session_asks c r n line else Some (other_asked r line)

  -- no rows may be missing where a command stands
  abbrev pub commanded_next : Catalog → Read A → ℕ → List ℕ → Option (Read A)
  commanded_next c r n line = if is_some r.due then None else commanded c r n line

  -- ---- replies

  abbrev pub checkpoint_replied : Read A → Option (Read A)
  checkpoint_replied r = if r.checkpoints == 0 then None else Some (record r { checkpoints = r.checkpoints - 1 })

  -- all rows have come: the SELECT is recorded
  unfoldable pub shown : Read A → Awaited A → Option (Read A)
  shown r d = recorded_in r.sessions d.session d.statement (reply.Rows d.rows) d.line >>= λ ss. Some (with_sessions r ss)

  -- where rows are left these are awaited; else the SELECT is recorded
  abbrev pub settled : Read A → Awaited A → Option (Read A)
  settled r d = if nat_lt 0 d.left then Some (record r { due = Some d }) else shown r d

  -- no row has come
  unfoldable pub awaited : Catalog → ℕ → Statement A → ℕ → ℕ → Option (Awaited A)
  awaited c s q left line = kinds_in c q >>= λ kinds. Some (record { session = s; statement = q; line = line; kinds = kinds; rows = []; left = left })

  -- rows of session s follow, of a statement in a line
  unfoldable pub rows_follow : Catalog → Read A → ℕ → Statement A → ℕ → ℕ → Option (Read A)
  rows_follow c r s q left line = awaited c s q left line >>= λ d. settled r d

  -- what comes of a reply in line n to session s
  abbrev pub followed : Catalog → Read A → ℕ → ℕ → Outcome A → Option (Read A)
  followed c r s n Nothing = Some r
  followed c r s n (Begun line) = Some (record r { begins = r.begins ++ line ∷ [] })
  followed c r s n (Committed d) = Some (record r { ended = r.ended ++ record { draft = d; end = Some n } ∷ [] })
  followed c r s n (Rows q left line) = rows_follow c r s q left line

  -- a session's reply in line n
  unfoldable pub replied : Catalog → Read A → ℕ → List ℕ → Option (Read A)
  replied c r n line = session_and_text line >>= λ p. said p.1 >>= λ says. answered_of r.sessions p.0 says >>= λ o. followed c (with_sessions r o.1) p.0 n o.0

  -- the values of a row
  abbrev pub values_of : List Kind → List ℕ → Option (List (Value A))
  values_of kinds text = result_ok (line_values kinds text)

  unfoldable pub one_more : Awaited A → List ℕ → Option (Awaited A)
  one_more d line = row_text d.session line >>= λ text. values_of d.kinds text >>= λ vs. Some (record d { rows = d.rows ++ vs ∷ []; left = d.left - 1 })

  -- a row of the SELECT whose rows follow
  unfoldable pub row_shown : Read A → Awaited A → List ℕ → Option (Read A)
  row_shown r d line = one_more d line >>= λ e. settled r e

  -- a reply in line n, of which no rows are awaited
  abbrev pub replied_alone : Catalog → Read A → ℕ → List ℕ → Option (Read A)
  replied_alone c r n line = if is_of_checkpoint line then checkpoint_replied r else replied c r n line

  -- a reply in line n, or a row that is awaited
  abbrev pub replied_by : Catalog → Read A → ℕ → List ℕ → Option (Awaited A) → Option (Read A)
  replied_by c r n line (Some d) = row_shown (record r { due = None }) d line
  replied_by c r n line None = replied_alone c r n line

  -- ---- lines

  abbrev pub with_kind : Catalog → Read A → ℕ → List ℕ → Option LineKind → Option (Read A)
  with_kind c r n line None = None
  with_kind c r n line (Some Skipped) = Some r
  with_kind c r n line (Some Command) = commanded_next c r n (behind_mark line)
  with_kind c r n line (Some Reply) = replied_by c r n (behind_mark line) r.due

  -- what is read with one more line, the n-th; none where it may not stand there
  abbrev pub with_line : Catalog → Read A → ℕ → List ℕ → Option (Read A)
  with_line c r n line = with_kind c r n line (kind_of line)

  -- ---- the transactions

  -- that of a session whose COMMIT has no reply
  abbrev pub unanswered : Session A → Option (Ended A)
  unanswered s = option_map (λ d. record { draft = d; end = None }) (undetermined s)

  -- those that committed, in the order of the replies to their COMMITs, then those that may have, by session; and the lines of all BEGINs. None where rows are missing
  abbrev pub parts : Read A → Option (List (Ended A) × List ℕ)
  parts r = if is_some r.due then None else Some (r.ended ++ filter_map unanswered r.sessions, r.begins)

  -- what was recorded of one; without time as if it had imported its snapshot
  abbrev pub trace_of : Bool → Ended A → Trace A
  trace_of has_time e = record { begin = e.draft.begin; end = e.end; imported = e.draft.imported || not has_time; statements = e.draft.statements }

  -- its number: how many BEGINs were answered BEGIN, its own the last of them
  abbrev pub name_of : List ℕ → Ended A → Named
  name_of begins e = named (count_by (λ b. nat_le b e.draft.begin) begins) e.draft.session e.draft.lines

  -- of those whose statements fit the catalog
  abbrev pub fitting : Catalog → List (Trace A) → List Named → Option (List (Trace A) × List Named)
  fitting c ts names = if all_fit c ts then Some (ts, names) else None

  unfoldable pub traces_of : Catalog → Bool → Read A → Option (List (Trace A) × List Named)
  traces_of c has_time r = parts r >>= λ p. fitting c (map (trace_of has_time) p.0) (map (name_of p.1) p.0)

  abbrev pub at_end : Catalog → Bool → Result (Read A × ℕ) ℕ → Result (List (Trace A) × List Named) ℕ
  at_end c has_time (Err n) = Err n
  at_end c has_time (Ok p) = option_map_or Ok (traces_of c has_time p.0) (Err p.1)

  -- the transactions of a transcript and their names, or the number of its first line that may not stand where it stands
  abbrev pub traces : Catalog → Bool → List ℕ → Result (List (Trace A) × List Named) ℕ
  traces c has_time text = at_end c has_time (read_text (with_line c) start text)
