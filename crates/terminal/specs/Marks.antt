-- A session's transaction status, as its prompt shows it (PostgreSQL manual, psql, `%x` of the prompt; the number of the session is ours).
use Rattle.std.specs.Prelude.{ℕ, ◌-◌, ◌/◌, Bool, true, false, Option, Some, None, Result, Ok, Err, List, [], ◌++◌, length, codes, nat_le}
use Rattle.std.specs.Fmt.{decimal}
use Rattle.value.specs.declared.refusal.Code.{Code}
use Rattle.value.specs.declared.refusal.Code.TheVariants as code
use Rattle.value.specs.declared.refusal.Refusal.{Refusal}
use Rattle.schema.specs.declared.tables.Tables.{Tables}
use Rattle.history.specs.Answer.{reader_answer}
use Rattle.history.specs.Opening.{Recorded}
use Rattle.shell.specs.Shells.{Held}
use Rattle.terminal.specs.declared.marks.Mark.{Mark}
use Rattle.terminal.specs.declared.marks.Mark.TheVariants as mark

-- how a session stands that has no reader for this
abbrev pub mark_of_code : Code → Mark
mark_of_code code.NoActiveSqlTransaction = mark.Idle
mark_of_code code.InFailedSqlTransaction = mark.Failed
mark_of_code other = mark.Open

module _ {A : Type 0} where
  -- how a session stands, by whether it may read
  abbrev pub mark_of : Result (Tables A) Refusal → Mark
  mark_of (Ok X) = mark.Open
  mark_of (Err e) = mark_of_code e.code

  abbrev pub mark_on : Option (Recorded A) → ℕ → Mark
  mark_on None s = mark.Idle
  mark_on (Some h) s = mark_of (reader_answer h.opening h.records s)

  -- how a session of a shell stands: none has a transaction before the server runs
  abbrev pub mark_in : Held A → ℕ → Mark
  mark_in p s = mark_on p.core s

  abbrev pub is_near_on : Option (Recorded A) → Bool
  is_near_on None = false
  is_near_on (Some h) = nat_le (h.most - length h.records) (h.most / 10)

  -- a tenth of the room for events is left, or less
  abbrev pub is_near : Held A → Bool
  is_near p = is_near_on p.core

-- what the prompt shows of it
abbrev pub mark_text : Mark → List ℕ
mark_text mark.Idle = []
mark_text mark.Open = codes "*"
mark_text mark.Failed = codes "!"

-- how a prompt ends, and one at which a line goes on from those before it
abbrev pub end_text : Bool → List ℕ
end_text true = codes "-> "
end_text false = codes "=> "

-- the prompt of a session that stands so
abbrev pub prompt_text : ℕ → Mark → Bool → List ℕ
prompt_text s m goes_on = decimal s ++ mark_text m ++ end_text goes_on
