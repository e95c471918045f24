-- The text of an outcome (a form of ours; replies and rows are printed as a script's are).
use Rattle.std.specs.Prelude.{ℕ, zero, suc, ◌-◌, ◌==◌, if◌then◌else◌, List, [], ◌∷◌, ◌++◌, codes, length, slice_get, Option, Some, None}
use Rattle.std.specs.Fmt.{decimal}
use Rattle.std.specs.List.{flat_map}
use Rattle.value.specs.Codes.{sqlstate}
use Rattle.value.specs.declared.refusal.Code.{Code}
use Rattle.value.specs.declared.refusal.Place.{Place}
use Rattle.value.specs.declared.refusal.Place.TheVariants.{Cause}
use Rattle.schema.specs.Definition.{Catalog, TableSchema}
use Rattle.schema.specs.declared.row.Row.{Row}
use Rattle.schema.specs.declared.tables.Tables.{Tables}
use Rattle.schema.specs.Plain.{rows_of}
use Rattle.copytext.specs.Writing.{row_text}
use Rattle.statement.specs.declared.reply.Reply.{Reply}
use Rattle.statement.specs.declared.reply.Reply.TheVariants.{Safe, Exported, Refused}
use Rattle.history.specs.declared.event.Record.{Record}
use Rattle.history.specs.Opening.{Recorded}
use Rattle.history.specs.Events.{world}
use Rattle.history.specs.Transactions.{commits, tables_at}
use Rattle.script.specs.Printing.{reply_text}

-- a line to a session
abbrev pub word_line : ℕ → List ℕ → List ℕ
word_line s word = decimal s ++ codes " " ++ word ++ codes "\n"

-- the name of a table
abbrev pub name_of : Option TableSchema → List ℕ
name_of (Some d) = d.name
name_of None = []

module _ {A : Type 0} where
  -- ---- replies

  -- A refusal because of a structure is printed without the numbers of its transactions.
  abbrev pub told_refusal : ℕ → Reply A → Code → Place → List ℕ
  told_refusal s reply code (Cause x) = word_line s (codes "ERROR " ++ sqlstate code ++ codes " cause")
  told_refusal s reply code _ = reply_text s reply

  -- A reply, without the numbers that depend on the order alone: those of a structure's transactions, of a safe snapshot, and of an identifier.
  abbrev pub told : ℕ → Reply A → List ℕ
  told s (Safe n) = word_line s (codes "SAFE")
  told s (Exported i) = word_line s (codes "EXPORT")
  told s (Refused r) = told_refusal s (Refused r) r.code r.place
  told s reply = reply_text s reply

  -- the reply of an event, where that is of the session at a place
  abbrev pub told_at : ℕ → Record A → List ℕ
  told_at p e = if (e.session - 1) == p then told e.session e.reply else []

  -- the replies to the session at a place, in the order of its lines
  abbrev pub replies_at : ℕ → List (Record A) → List ℕ
  replies_at p es = flat_map (told_at p) es

  -- the replies to the first n sessions, one session after the other
  unfoldable pub replies_of : ℕ → List (Record A) → List ℕ
  replies_of zero es = []
  replies_of (suc p) es = replies_of p es ++ replies_at p es

  -- ---- tables

  -- a row: its table's name, and its COPY text
  abbrev pub named_row : List ℕ → Row A → List ℕ
  named_row name row = name ++ codes " | " ++ row_text (row.0 ∷ row.1)

  -- the rows of a table in the order of their keys
  abbrev pub table_text : Catalog → Tables A → ℕ → List ℕ
  table_text c X t = flat_map (named_row (name_of (slice_get c t))) (rows_of X t)

  -- the rows of the first n tables
  abbrev pub tables_text : Catalog → Tables A → ℕ → List ℕ
  tables_text c X zero = []
  tables_text c X (suc t) = tables_text c X t ++ table_text c X t

  -- ---- an outcome

  -- the committed tables at the end of a history
  abbrev pub state_text : Recorded A → List ℕ
  state_text h = tables_text h.opening.catalog (tables_at (world h) (commits (world h))) (length h.opening.catalog)

  -- The outcome of a history: the replies to each session, session by session, and the committed tables at its end.
  unfoldable pub outcome_text : Recorded A → List ℕ
  outcome_text h = replies_of 64 h.records ++ state_text h
