-- What a typed line is taken for, and what is shown where it is refused (PostgreSQL manual, psql: `help`, `exit`, `quit`, `\timing`; the others are ours).
use Rattle.std.specs.Prelude.{ℕ, ◌==◌, ◌&&◌, not, Bool, true, false, List, ◌++◌, Option, Some, None, length, codes, nat_le, unwrap_or, if◌then◌else◌}
use Rattle.std.specs.Str.{bytes_eq, str_eq_ignore_ascii_case}
use Rattle.terminal.specs.Typing.{begins, behind_word, typed_as}
use Rattle.terminal.specs.declared.typing.Typed.{Typed}
use Rattle.terminal.specs.declared.typing.Typed.TheVariants as typed

-- Whether a line may be cut off: of a longer one a terminal passes on 4095 bytes and the newline, and drops the others.
abbrev pub is_cut : List ℕ → Bool
is_cut line = nat_le 4095 (length line)

-- what is shown of a line that may be cut off
abbrev pub cut_text : List ℕ
cut_text = codes "ERROR 54000: the line is longer than a terminal passes on; use \\i FILE\n"

-- what a word of sqlite3's shell asks for
abbrev pub sqlite_word : List ℕ → Option Typed
sqlite_word text =
    if str_eq_ignore_ascii_case text (codes ".help") then Some typed.Help
    else if str_eq_ignore_ascii_case text (codes ".quit") then Some typed.Quit
    else if str_eq_ignore_ascii_case text (codes ".exit") then Some typed.Quit
    else if str_eq_ignore_ascii_case text (codes ".tables") then Some typed.Tables
    else if str_eq_ignore_ascii_case text (codes ".schema") then Some typed.Tables
    else None

-- what a word asks for that needs no backslash, in letters of any case
abbrev pub bare_word : List ℕ → Option Typed
bare_word text =
    if str_eq_ignore_ascii_case text (codes "help") then Some typed.Help
    else if str_eq_ignore_ascii_case text (codes "exit") then Some typed.Quit
    else if str_eq_ignore_ascii_case text (codes "quit") then Some typed.Quit
    else sqlite_word text

-- what a text asks for
abbrev pub asks_for : List ℕ → Typed
asks_for text = unwrap_or (bare_word text) (typed_as text)

-- whether what is asked for takes a file's name
abbrev pub takes_file : Typed → Bool
takes_file typed.Dump = true
takes_file typed.Drawing = true
takes_file typed.File = true
takes_file other = false

-- whether a file's name is due after a word, and isn't there
abbrev pub lacks_file : Typed → List ℕ → Bool
lacks_file t text = takes_file t && length (behind_word text) == 0

-- what is shown where a word lacks its file's name
abbrev pub nameless_text : List ℕ → List ℕ
nameless_text word = word ++ codes " FILE: missing file name\n"

-- whether something is on from then on, by what follows its word: `on`, `off`, or the other way where there is nothing
abbrev pub turned : Bool → List ℕ → Option Bool
turned was text =
    if length text == 0 then Some (not was)
    else if str_eq_ignore_ascii_case text (codes "on") then Some true
    else if str_eq_ignore_ascii_case text (codes "off") then Some false
    else None

-- what is shown where something else follows `\timing`
abbrev pub no_timing_text : List ℕ
no_timing_text = codes "\\timing takes on or off\n"

-- what is shown where there is no such word, or psql alone has it
abbrev pub strange_text : List ℕ → List ℕ
strange_text word =
    if bytes_eq word (codes "\\r") then codes "Query buffer reset (cleared).\n"
    else if bytes_eq word (codes "\\x") then codes "rows are always shown as a table, each on its line\n"
    else if bytes_eq word (codes "\\e") then codes "no editor here: edit a file elsewhere, and run it by \\i FILE\n"
    else if bytes_eq word (codes "\\set") then codes "no variables here: \\autocommit and \\timing are the only settings\n"
    else if begins (codes ".") word then codes "commands begin with a backslash here: \\? lists them\n"
    else codes "invalid command: \\? lists the commands\n"
