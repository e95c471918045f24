-- What a typed line stands for: a line of a script, of which the session's number and the final `;` may be missing, and in which the words of commands may have any case.
use Rattle.std.specs.Prelude.{ℕ, ◌+◌, ◌*◌, ◌-◌, ◌==◌, ◌||◌, ◌&&◌, not, Bool, zero, suc, List, [], ◌∷◌, ◌++◌, Option, Some, None, is_some, length, map, codes, take, drop, slice_index, nat_le, if◌then◌else◌}
use Rattle.std.specs.Char.{is_ascii_digit, to_ascii_uppercase}
use Rattle.std.specs.Fmt.{decimal}
use Rattle.std.specs.List.{before_first, position_or_len}
use Rattle.std.specs.Str.{bytes_eq}
use Rattle.terminal.specs.declared.typing.Typed.{Typed}
use Rattle.terminal.specs.declared.typing.Typed.TheVariants as typed

-- a space, a tab, or a carriage return
abbrev pub is_blank : ℕ → Bool
is_blank b = b == 32 || b == 9 || b == 13

-- what may follow a command: blanks and `;`
abbrev pub is_ending : ℕ → Bool
is_ending b = is_blank b || b == 59

-- without the blanks at its start
abbrev pub unheaded : List ℕ → List ℕ
unheaded text = drop (position_or_len (λ b. not (is_blank b)) text) text

-- where the first n bytes end, without blanks and `;` at their end
abbrev pub end_from : List ℕ → ℕ → ℕ
end_from text zero = 0
end_from text (suc n) = if is_ending (slice_index text n) then end_from text n else suc n

abbrev pub unended : List ℕ → List ℕ
unended text = take (end_from text (length text)) text

-- what was typed, without blanks and `;` around it
abbrev pub text_in : List ℕ → List ℕ
text_in line = unended (unheaded line)

-- its first word, and what follows that
abbrev pub first_word : List ℕ → List ℕ
first_word text = before_first is_blank text

abbrev pub behind_word : List ℕ → List ℕ
behind_word text = unheaded (drop (position_or_len is_blank text) text)

-- a text in capitals
abbrev pub capitals : List ℕ → List ℕ
capitals text = map to_ascii_uppercase text

-- whether a text begins with another
abbrev pub begins : List ℕ → List ℕ → Bool
begins head text = bytes_eq (take (length head) text) head

-- the digit that a byte is
abbrev pub digit : ℕ → ℕ
digit b = b - 48

-- a number that a session may have
abbrev pub session_of : ℕ → Option ℕ
session_of n = if nat_le 1 n && nat_le n 64 then Some n else None

-- the session of which a text is the number, in one digit or two
abbrev pub session_in : List ℕ → Option ℕ
session_in [] = None
session_in (b ∷ []) = if is_ascii_digit b then session_of (digit b) else None
session_in (b ∷ c ∷ []) = if is_ascii_digit b && is_ascii_digit c && not (b == 48) then session_of (10 * digit b + digit c) else None
session_in (b ∷ c ∷ d ∷ more) = None

-- what a word asks for that isn't among the first
abbrev pub further_word : List ℕ → Typed
further_word word =
    if bytes_eq word (codes "\\i") then typed.File
    else if bytes_eq word (codes "\\timing") then typed.Timing
    else if bytes_eq word (codes "\\autocommit") then typed.Autocommit
    else if bytes_eq word (codes "\\why") then typed.Why
    else if bytes_eq word (codes "\\draw") then typed.Drawing
    else if bytes_eq word (codes "\\dt") then typed.Tables
    else if bytes_eq word (codes "\\h") then typed.Help
    else typed.Unknown

-- what a word asks for, with what follows it
abbrev pub word_typed : List ℕ → List ℕ → Typed
word_typed word behind =
    if bytes_eq word (codes "\\?") then typed.Help
    else if bytes_eq word (codes "\\q") then typed.Quit
    else if bytes_eq word (codes "\\serial") then typed.Word
    else if bytes_eq word (codes "\\dump") then typed.Dump
    else if bytes_eq word (codes "\\d") then (if length behind == 0 then typed.Tables else typed.Columns)
    else further_word word

-- what a text asks for
abbrev pub typed_as : List ℕ → Typed
typed_as text =
    if length text == 0 || begins (codes "--") text then typed.Nothing
    else if slice_index text 0 == 92 then word_typed (first_word text) (behind_word text)
    else if slice_index text 0 == 46 then typed.Unknown
    else if is_some (session_in text) then typed.Session
    else typed.Command

-- a command that is a few words, which are always the same
abbrev pub is_plain : List ℕ → Bool
is_plain text = bytes_eq text (codes "BEGIN") || bytes_eq text (codes "BEGIN READ ONLY") || bytes_eq text (codes "BEGIN READ ONLY DEFERRABLE")
    || bytes_eq text (codes "COMMIT") || bytes_eq text (codes "ROLLBACK") || bytes_eq text (codes "POLL") || bytes_eq text (codes "EXPORT") || bytes_eq text (codes "PRUNE") || bytes_eq text (codes "WAIT")

-- whether a text in capitals begins a transaction of the one isolation level that there is
abbrev pub begins_serializable : List ℕ → Bool
begins_serializable text =
    bytes_eq text (codes "BEGIN ISOLATION LEVEL SERIALIZABLE") || bytes_eq text (codes "BEGIN TRANSACTION ISOLATION LEVEL SERIALIZABLE")
    || bytes_eq text (codes "START TRANSACTION ISOLATION LEVEL SERIALIZABLE")

-- what a text in capitals means that says it in other words of PostgreSQL's
abbrev pub meant : List ℕ → List ℕ
meant text =
    if begins_serializable text || bytes_eq text (codes "BEGIN WORK") || bytes_eq text (codes "BEGIN TRANSACTION") || bytes_eq text (codes "START TRANSACTION") then codes "BEGIN"
    else if bytes_eq text (codes "END") || bytes_eq text (codes "COMMIT WORK") || bytes_eq text (codes "COMMIT TRANSACTION") then codes "COMMIT"
    else if bytes_eq text (codes "ABORT") || bytes_eq text (codes "ROLLBACK WORK") || bytes_eq text (codes "ROLLBACK TRANSACTION") then codes "ROLLBACK"
    else text

-- whether a text in capitals begins with a word that something follows
abbrev pub has_head : List ℕ → Bool
has_head text = begins (codes "IMPORT ") text || begins (codes "DUMP ") text || begins (codes "OPEN ") text

-- a text whose first word is in capitals
abbrev pub headed : List ℕ → List ℕ
headed text = capitals (first_word text) ++ drop (length (first_word text)) text

-- a command as a script has it; a statement stays as it is
abbrev pub command_text : List ℕ → List ℕ
command_text text = if is_plain (meant (capitals text)) then meant (capitals text) else if has_head (capitals text) then headed text else text

-- whether a text in capitals is no session's
abbrev pub is_sessionless : List ℕ → Bool
is_sessionless text = bytes_eq text (codes "CHECKPOINT") || begins (codes "CREATE ") text || begins (codes "OPEN ") text

-- a command without a session's number, as a script has it for a session
abbrev pub line_without : ℕ → List ℕ → List ℕ
line_without s text =
    if bytes_eq (capitals text) (codes "CHECKPOINT") then codes "CHECKPOINT;"
    else if is_sessionless (capitals text) then command_text text ++ codes ";"
    else decimal s ++ codes " " ++ command_text text ++ codes ";"

-- the line of a script that a command stands for, at the prompt of session s
abbrev pub line_of : ℕ → List ℕ → List ℕ
line_of s text =
    if is_ascii_digit (slice_index text 0) then first_word text ++ codes " " ++ command_text (behind_word text) ++ codes ";"
    else line_without s text
