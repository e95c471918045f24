-- What a reply says, as `run` prints it.
use Rattle.std.specs.Prelude.{ℕ, ◌==◌, nat_lt, Bool, ◌&&◌, ◌||◌, if◌then◌else◌, List, length, take, drop, codes, slice_index, Option, Some, None}
use Rattle.std.specs.Str.{bytes_eq}
use Rattle.script.specs.Commands.{◌>>=◌, cut, number_of}
use Rattle.transcript.specs.Sessions.{session_in}
use Rattle.transcript.specs.declared.said.Said.{Said}
use Rattle.transcript.specs.declared.said.Said.TheVariants.{Begun, Committed, RolledBack, Imported, Safe, Wait, Exported, Pruned, Dumped, Inserted, Updated, Deleted, Selected, Refused}

-- a zero before more digits
abbrev pub has_leading_zero : List ℕ → Bool
has_leading_zero text = nat_lt 1 (length text) && (slice_index text 0 == 48)

-- the number of digits as they are printed
abbrev pub printed_number : List ℕ → Option ℕ
printed_number text = if has_leading_zero text then None else number_of text

-- what one word says
abbrev pub in_a_word : List ℕ → Option Said
in_a_word text =
    if bytes_eq text (codes "BEGIN") then Some Begun
    else if bytes_eq text (codes "COMMIT") then Some Committed
    else if bytes_eq text (codes "ROLLBACK") then Some RolledBack
    else if bytes_eq text (codes "IMPORT") then Some Imported
    else if bytes_eq text (codes "WAIT") then Some Wait
    else if bytes_eq text (codes "PRUNE") then Some Pruned
    else if bytes_eq text (codes "DUMP") then Some Dumped
    else if bytes_eq text (codes "ERROR") then Some Refused
    else None

-- what a word and a number say
abbrev pub with_number : List ℕ → ℕ → Option Said
with_number word n =
    if bytes_eq word (codes "UPDATE") then Some (Updated n)
    else if bytes_eq word (codes "DELETE") then Some (Deleted n)
    else if bytes_eq word (codes "SELECT") then Some (Selected n)
    else if bytes_eq word (codes "SAFE") then Some Safe
    else if bytes_eq word (codes "EXPORT") then Some Exported
    else None

-- a word and what follows it: an error whatever its text, or a number
abbrev pub in_two : List ℕ → List ℕ → Option Said
in_two word rest = if bytes_eq word (codes "ERROR") then Some Refused else printed_number rest >>= λ n. with_number word n

abbrev pub in_words : List ℕ → Option (List ℕ × List ℕ) → Option Said
in_words text None = in_a_word text
in_words text (Some p) = in_two p.0 p.1

-- what a reply says after its session's number
abbrev pub said : List ℕ → Option Said
said text = if bytes_eq text (codes "INSERT 0 1") then Some Inserted else in_words text (cut 32 text)

-- the session that a reply or a row names, and what follows
unfoldable pub session_and_text : List ℕ → Option (ℕ × List ℕ)
session_and_text line = cut 32 line >>= λ p. session_in p.0 >>= λ s. Some (s, p.1)

-- the text of a row of session s
unfoldable pub row_text : ℕ → List ℕ → Option (List ℕ)
row_text s line = session_and_text line >>= λ p. if (p.0 == s) && bytes_eq (take 2 p.1) (codes "| ") then Some (drop 2 p.1) else None

-- a checkpoint's reply names no session
abbrev pub is_of_checkpoint : List ℕ → Bool
is_of_checkpoint line = bytes_eq line (codes "CHECKPOINT") || bytes_eq (take 6 line) (codes "ERROR ")
