-- How replies are printed (PostgreSQL manual, "Command tags" of the message CommandComplete, for BEGIN to SELECT; the other words, the numbers of sessions and the rows are ours).
use Rattle.std.specs.Prelude.{ℕ, List, [], ◌++◌, codes, length}
use Rattle.std.specs.Fmt.{decimal}
use Rattle.std.specs.List.{flat_map}
use Rattle.value.specs.Codes.{refusal_text}
use Rattle.value.specs.declared.value.Value.{Value}
use Rattle.copytext.specs.Writing.{row_text}
use Rattle.statement.specs.declared.reply.Reply.{Reply}
use Rattle.statement.specs.declared.reply.Reply.TheVariants.{Begun, Committed, RolledBack, Pruned, Imported, Inserted, Updated, Deleted, Rows, Safe, Wait, Exported, Refused}

-- the line of a dump that is done for session s
abbrev pub done_text : ℕ → List ℕ
done_text s = decimal s ++ codes " DUMP\n"

module _ {A : Type 0} where
  -- the first line of a reply, after the session's number
  abbrev pub tag : Reply A → List ℕ
  tag Begun = codes "BEGIN"
  tag Committed = codes "COMMIT"
  tag RolledBack = codes "ROLLBACK"
  tag Pruned = codes "PRUNE"
  tag Imported = codes "IMPORT"
  tag Inserted = codes "INSERT 0 1"
  tag (Updated n) = codes "UPDATE " ++ decimal n
  tag (Deleted n) = codes "DELETE " ++ decimal n
  tag (Rows rows) = codes "SELECT " ++ decimal (length rows)
  tag (Safe s) = codes "SAFE " ++ decimal s
  tag Wait = codes "WAIT"
  tag (Exported i) = codes "EXPORT " ++ decimal i
  tag (Refused r) = codes "ERROR " ++ refusal_text r

  -- a row's line: the session's number, a bar, the row's COPY text
  abbrev pub row_line : ℕ → List (Value A) → List ℕ
  row_line s values = decimal s ++ codes " | " ++ row_text values

  -- the lines after the first
  abbrev pub rows_text : ℕ → Reply A → List ℕ
  rows_text s (Rows rows) = flat_map (row_line s) rows
  rows_text s _ = []

  -- the lines of a reply to session s
  abbrev pub reply_text : ℕ → Reply A → List ℕ
  reply_text s reply = decimal s ++ codes " " ++ tag reply ++ codes "\n" ++ rows_text s reply
