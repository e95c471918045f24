-- The statements in typed lines (PostgreSQL manual, psql: a statement goes on over lines up to its `;`, and a comment from `--` to the end of its line; here a quoted value ends on its line).
use Rattle.std.specs.Prelude.{ℕ, ◌-◌, ◌%◌, ◌==◌, ◌&&◌, ◌||◌, not, Bool, false, List, [], ◌∷◌, ◌++◌, Option, Some, length, codes, take, nat_le, nat_lt, slice_index, if◌then◌else◌}
use Rattle.std.specs.Char.{is_ascii_digit}
use Rattle.std.specs.List.{count_by}
use Rattle.std.specs.Str.{str_eq_ignore_ascii_case}
use Rattle.terminal.specs.Typing.{begins, behind_word, capitals, first_word, has_head, is_plain, is_sessionless, meant, session_in, text_in}

-- whether a text begins with a word, in letters of any case
abbrev pub starts : List ℕ → List ℕ → Bool
starts word text = str_eq_ignore_ascii_case (take (length word) text) word

-- whether a quote is open, behind one byte more
abbrev pub quoted_after : Bool → ℕ → Bool
quoted_after quoted b = if b == 39 then not quoted else quoted

-- ---- comments

-- whether a comment begins here: `--` behind a blank
abbrev pub begins_comment : List ℕ → Bool
begins_comment text = begins (codes " --") text || begins (codes "\t--") text

-- what stands before the comment of a line, which no quote contains
abbrev pub before_comment : Bool → List ℕ → List ℕ
before_comment quoted [] = []
before_comment quoted (b ∷ bs) = if not quoted && begins_comment (b ∷ bs) then [] else b ∷ before_comment (quoted_after quoted b) bs

-- a line without its comment
abbrev pub uncommented : List ℕ → List ℕ
uncommented line = if begins (codes "--") (text_in line) then [] else before_comment false line

-- ---- lines that go on

-- the lines so far, with one more
abbrev pub joined : List ℕ → List ℕ → List ℕ
joined begun line = if length begun == 0 then line else begun ++ codes " " ++ line

-- the lines so far, with one more: a word with a backslash gives them up
abbrev pub with_line : List ℕ → List ℕ → List ℕ
with_line begun line = if begins (codes "\\") (text_in line) then line else joined begun (uncommented line)

-- the statements of a text, each up to its `;`, which no quote contains, and what follows the last
abbrev pub pieces_from : Bool → List ℕ → List ℕ → List (List ℕ)
pieces_from quoted piece [] = piece ∷ []
pieces_from quoted piece (b ∷ bs) =
    if not quoted && b == 59 then (piece ++ b ∷ []) ∷ pieces_from false [] bs
    else pieces_from (quoted_after quoted b) (piece ++ b ∷ []) bs

-- what lines ask for, one after the other; a word with a backslash takes its whole line
abbrev pub pieces : List ℕ → List (List ℕ)
pieces lines = if begins (codes "\\") (text_in lines) then lines ∷ [] else pieces_from false [] lines

-- ---- statements

-- what a text says without the session's number before it
abbrev pub command_in : List ℕ → List ℕ
command_in text = if is_ascii_digit (slice_index text 0) then behind_word text else text

-- the session for which a text speaks, at the prompt of session s
abbrev pub session_at : ℕ → List ℕ → Option ℕ
session_at s text = if is_ascii_digit (slice_index text 0) then session_in (first_word text) else Some s

-- whether a text begins as a statement does
abbrev pub is_statement : List ℕ → Bool
is_statement text = starts (codes "select") text || starts (codes "insert") text || starts (codes "update") text || starts (codes "delete") text

-- whether a text begins neither as a statement does nor as a command
abbrev pub is_strange : List ℕ → Bool
is_strange text = not (is_statement text || is_plain (meant (capitals text)) || has_head (capitals text) || is_sessionless (capitals text))

-- whether a text creates a table
abbrev pub creates : List ℕ → Bool
creates text = starts (codes "create ") text && starts (codes "table") (behind_word text)

-- how many times a text has a byte
abbrev pub count_of : ℕ → List ℕ → ℕ
count_of byte text = count_by (λ b. b == byte) text

-- whether a text has parentheses, and closes all of them
abbrev pub closes : List ℕ → Bool
closes text = nat_lt 0 (count_of 41 text) && nat_le (count_of 40 text) (count_of 41 text)

-- whether a text begins a statement, or a table whose list of columns isn't closed yet
abbrev pub is_begun : List ℕ → Bool
is_begun text = is_statement (command_in text) || (creates text && not (closes text))

-- whether its last byte is `;`
abbrev pub is_ended : List ℕ → Bool
is_ended piece = not (length piece == 0) && slice_index piece (length piece - 1) == 59

-- whether a quote is open at its end
abbrev pub is_quoted : List ℕ → Bool
is_quoted piece = count_of 39 piece % 2 == 1

-- whether the next line goes on from it
abbrev pub goes_on : List ℕ → Bool
goes_on piece = is_begun (text_in piece) && not (is_ended piece) && not (is_quoted piece)
