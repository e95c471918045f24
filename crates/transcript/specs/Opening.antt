-- The tables that a transcript begins with (this project's own format).
use Rattle.std.specs.Prelude.{ℕ, ◌==◌, true, false, ◌||◌, if◌then◌else◌, List, [], length, take, drop, codes, slice_index, Option, Some, None, is_some, Result, Ok, Err}
use Rattle.std.specs.Char.{is_ascii_digit}
use Rattle.std.specs.Result.{result_ok}
use Rattle.std.specs.Str.{bytes_eq}
use Rattle.schema.specs.Adding.{added}
use Rattle.script.specs.Commands.{◌>>=◌, before_last, path_of}
use Rattle.script.specs.Scripts.{table_of}
use Rattle.transcript.specs.Lines.{behind_mark, kind_of, read_text}
use Rattle.transcript.specs.declared.lines.LineKind.{LineKind}
use Rattle.transcript.specs.declared.lines.LineKind.TheVariants.{Skipped, Command, Reply}
use Rattle.transcript.specs.declared.opening.Opening.{Opening}

module _ {A : Type 0} where
  -- nothing is read yet
  abbrev pub start : Opening A
  start = record { catalog = []; opens = None; began = false }

  -- `OPEN path;` stands before all tables
  unfoldable pub opened : Opening A → List ℕ → Option (Opening A)
  opened o rest = before_last 59 rest >>= λ text. path_of text >>= λ path. Some (record o { opens = Some path })

  abbrev pub opened_first : Opening A → List ℕ → Option (Opening A)
  opened_first o rest = if length o.catalog == 0 then opened o rest else None

  -- the text of a table that may be added
  unfoldable pub created_in : Opening A → List ℕ → Option (Opening A)
  created_in o line = table_of line >>= λ d. result_ok (added o.catalog d) >>= λ c. Some (record o { catalog = c })

  -- a line that creates or opens tables stands before all that is done, and after no OPEN
  abbrev pub set_in : Opening A → List ℕ → Option (Opening A)
  set_in o line =
      if o.began || is_some o.opens then None
      else if bytes_eq (take 5 line) (codes "OPEN ") then opened_first o (drop 5 line)
      else created_in o line

  -- a command
  abbrev pub commanded : Opening A → List ℕ → Option (Opening A)
  commanded o line = if is_ascii_digit (slice_index line 0) || bytes_eq line (codes "CHECKPOINT;") then Some (record o { began = true }) else set_in o line

  abbrev pub with_kind : Opening A → List ℕ → Option LineKind → Option (Opening A)
  with_kind o line None = None
  with_kind o line (Some Command) = commanded o (behind_mark line)
  with_kind o line (Some Skipped) = Some o
  with_kind o line (Some Reply) = Some o

  -- what is read with one more line; none where it may not stand there
  abbrev pub with_line : Opening A → List ℕ → Option (Opening A)
  with_line o line = with_kind o line (kind_of line)

  abbrev pub without_end : Result (Opening A × ℕ) ℕ → Result (Opening A) ℕ
  without_end (Ok p) = Ok p.0
  without_end (Err n) = Err n

  -- what a transcript begins with, or the number of its first line that is none, or that sets tables and may not
  abbrev pub opening : List ℕ → Result (Opening A) ℕ
  opening text = without_end (read_text (λ o n line. with_line o line) start text)
