-- What a session's line of a script asks for.
use Rattle.std.specs.Prelude.{◌≡◌, ℕ, ◌-◌, ◌^◌, ◌==◌, nat_le, nat_lt, Bool, ◌&&◌, ◌||◌, if◌then◌else◌, Option, Some, None, is_some, Result, Ok, Err, List, [], ◌∷◌, length, take, codes, slice_index}
use Rattle.std.specs.Char.{is_ascii_digit, is_ascii_alphanumeric}
use Rattle.std.specs.List.{list_all, list_any, prefix_len, position_or_len, before_first, after_first}
use Rattle.std.specs.Option.{option_map}
use Rattle.std.specs.Str.{bytes_eq, is_utf8}
use Rattle.std.specs.Str.Parse.{digits_value}
use Rattle.value.specs.declared.refusal.Mode.TheVariants.{ReadWrite, ReadOnly, Deferrable}
use Rattle.request.specs.declared.request.Request.{Request}
use Rattle.request.specs.declared.request.Request.TheVariants.{Begin, Sql, Poll, Export, Import, Commit, Rollback, Prune}
use Rattle.script.specs.declared.command.Command.{Command}
use Rattle.script.specs.declared.command.Command.TheVariants.{Ask, Wait, Dump}
use Rattle.script.specs.declared.schedule.Schedule.{Schedule}
use Rattle.script.specs.declared.schedule.Schedule.TheVariants.{InOrder, Free}
use Rattle.script.specs.declared.error.LineError.{LineError}
use Rattle.script.specs.declared.error.LineError.TheVariants.{Memory, Faulty}

-- ---- what a function that may want memory ensures: what it returned, seen by view, is what is read, unless memory ran out

abbrev pub Lacks : {Y : Type 0} → LineError → Option Y → Type 0
Lacks Memory answer = Unit {0}
Lacks Faulty answer = answer ≡ None

abbrev pub Gives : {X Y : Type 0} → (X → Y) → Result X LineError → Option Y → Type 0
Gives view (Ok x) answer = answer ≡ Some (view x)
Gives view (Err e) answer = Lacks e answer

-- ---- words and numbers

-- what stands before and after the first such byte
abbrev pub cut : ℕ → List ℕ → Option (List ℕ × List ℕ)
cut c text = if nat_lt (position_or_len (λ b. b == c) text) (length text) then Some (before_first (λ b. b == c) text, after_first (λ b. b == c) text) else None

-- one or more digits
abbrev pub is_digits : List ℕ → Bool
is_digits text = nat_lt 0 (length text) && list_all is_ascii_digit text

-- their number, where 64 bits hold it
abbrev pub number_of : List ℕ → Option ℕ
number_of text = if is_digits text && nat_lt (digits_value 10 text) (2 ^ 64) then Some (digits_value 10 text) else None

-- a letter, a digit or `_`
abbrev pub is_word_byte : ℕ → Bool
is_word_byte b = is_ascii_alphanumeric b || b == 95

-- the letters, digits and `_` that the text begins with
abbrev pub first_word : List ℕ → List ℕ
first_word text = take (prefix_len is_word_byte text) text

-- the words that begin a command; a line that begins with one of them and isn't in its form refuses the script
abbrev pub command_words : List (List ℕ)
command_words =
    codes "BEGIN" ∷ codes "POLL" ∷ codes "EXPORT" ∷ codes "IMPORT" ∷ codes "COMMIT" ∷ codes "ROLLBACK" ∷ codes "PRUNE" ∷ codes "WAIT" ∷ codes "DUMP" ∷ []

abbrev pub begins_command : List ℕ → Bool
begins_command text = list_any (bytes_eq (first_word text)) command_words

-- what stands before the last byte, where that is c
abbrev pub before_last : ℕ → List ℕ → Option (List ℕ)
before_last c text = if slice_index text (length text - 1) == c then Some (take (length text - 1) text) else None

-- ---- texts and the numbers of a dump

abbrev pub text_of : List ℕ → Option (List ℕ)
text_of bytes = if is_utf8 bytes then Some bytes else None

-- a path is text, not empty, and has no space
abbrev pub path_of : List ℕ → Option (List ℕ)
path_of bytes = if length bytes == 0 || list_any (λ b. b == 32) bytes then None else text_of bytes

-- a number from 1 on, `most` at most
abbrev pub up_to : ℕ → Option ℕ → Option ℕ
up_to most None = None
up_to most (Some n) = if nat_lt 0 n && nat_le n most then Some n else None

abbrev pub jobs_of : List ℕ → Option ℕ
jobs_of text = up_to 64 (number_of text)

abbrev pub piece_rows_of : List ℕ → Option ℕ
piece_rows_of text = up_to 1000000 (number_of text)

-- the number of a session: 1 to 64, without a leading zero
abbrev pub session_of : List ℕ → Option ℕ
session_of text = if slice_index text 0 == 48 then None else up_to 64 (number_of text)

infixl 10 ◌>>=◌
abbrev pub ◌>>=◌ : {X Y : Type 0} → Option X → (X → Option Y) → Option Y
None >>= f = None
(Some x) >>= f = f x

module _ {A : Type 0} where
  -- ---- commands

  -- to wait, where other sessions go on meanwhile
  abbrev pub wait_of : Schedule → Option (Command A)
  wait_of InOrder = None
  wait_of Free = Some Wait

  -- an event that takes nothing
  abbrev pub request_of : List ℕ → Option (Request A)
  request_of text =
      if bytes_eq text (codes "BEGIN") then Some (Begin ReadWrite)
      else if bytes_eq text (codes "BEGIN READ ONLY") then Some (Begin ReadOnly)
      else if bytes_eq text (codes "BEGIN READ ONLY DEFERRABLE") then Some (Begin Deferrable)
      else if bytes_eq text (codes "POLL") then Some Poll
      else if bytes_eq text (codes "EXPORT") then Some Export
      else if bytes_eq text (codes "COMMIT") then Some Commit
      else if bytes_eq text (codes "ROLLBACK") then Some Rollback
      else if bytes_eq text (codes "PRUNE") then Some Prune
      else None

  -- a command that takes nothing
  abbrev pub of_words : Schedule → List ℕ → Option (Command A)
  of_words schedule text = if bytes_eq text (codes "WAIT") then wait_of schedule else option_map (λ q. Ask q) (request_of text)

  -- `n`, the identifier of a snapshot
  unfoldable pub import_of : List ℕ → Option (Command A)
  import_of text = number_of text >>= λ n. Some (Ask (Import n))

  -- `jobs rows path`
  unfoldable pub dump_of : List ℕ → Option (Command A)
  dump_of text = cut 32 text >>= λ p. cut 32 p.1 >>= λ q. jobs_of p.0 >>= λ jobs. piece_rows_of q.0 >>= λ rows. path_of q.1 >>= λ path.
      Some (Dump (record { jobs = jobs; rows = rows; path = path }))

  -- a command with what follows its first word
  abbrev pub with_argument : List ℕ → List ℕ → Option (Command A)
  with_argument word argument =
      if bytes_eq word (codes "IMPORT") then import_of argument
      else if bytes_eq word (codes "DUMP") then dump_of argument
      else None

  -- any other text is a statement's
  unfoldable pub sql_of : List ℕ → Option (Command A)
  sql_of text = text_of text >>= λ sql. Some (Ask (Sql sql))

  -- a command with something after its first word
  abbrev pub argued : List ℕ → Option (Command A)
  argued text = cut 32 text >>= λ p. with_argument p.0 p.1

  -- a command that begins with one of the words, and is in its form
  abbrev pub worded : Schedule → List ℕ → Option (Command A)
  worded schedule text = if is_some (of_words schedule text) then of_words schedule text else argued text

  -- the command of a session's line, in a script that is run so
  unfoldable pub command_of : Schedule → List ℕ → Option (Command A)
  command_of schedule text = if begins_command text then worded schedule text else sql_of text
