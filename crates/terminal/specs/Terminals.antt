-- What is answered to each line that is typed at a terminal, by a handler of lines.
use Rattle.std.specs.Prelude.{◌≡◌, ◌⊎◌, ℕ, ◌+◌, ◌-◌, ◌/◌, ◌%◌, ◌==◌, ◌&&◌, not, Bool, true, false, List, [], ◌∷◌, ◌++◌, Option, Some, None, length, codes, drop, slice_index, take, unwrap_or, if◌then◌else◌, IfSome}
use Rattle.std.specs.Fmt.{decimal}
use Rattle.std.specs.List.{list_any, slice_split}
use Rattle.shell.specs.Asked.{catalog_of}
use Rattle.shell.specs.Shells.{Held}
use Rattle.terminal.specs.Admitted.{admits, admits_dump, is_idle}
use Rattle.terminal.specs.Alone.{answers_so, autocommit_text, beside, ending, no_autocommit_text, slip_text, told_alone}
use Rattle.terminal.specs.declared.admitting.Admission.{Admission}
use Rattle.terminal.specs.declared.admitting.Admission.TheVariants as admission_of
use Rattle.terminal.specs.Typing.{behind_word, begins, first_word, line_of, session_in, text_in}
use Rattle.terminal.specs.declared.typing.Typed.{Typed}
use Rattle.terminal.specs.declared.typing.Typed.TheVariants as typed
use Rattle.terminal.specs.Described.{table_described}
use Rattle.terminal.specs.Drawn.{drawn, shown}
use Rattle.terminal.specs.Headers.{header_of}
use Rattle.terminal.specs.Marks.{is_near, mark_in, prompt_text}
use Rattle.terminal.specs.Refused.{worded}
use Rattle.terminal.specs.Statements.{command_in, goes_on, is_statement, is_strange, pieces, session_at, with_line}
use Rattle.terminal.specs.Taken.{asks_for, cut_text, is_cut, lacks_file, nameless_text, no_timing_text, strange_text, turned}
use Rattle.terminal.specs.declared.attended.Aside.{Aside}
use Rattle.terminal.specs.declared.attended.Aside.TheVariants as aside
use Rattle.terminal.specs.declared.marks.Mark.TheVariants as mark

-- what may be typed
abbrev pub help_text : List ℕ
help_text = codes "SELECT .., INSERT .., UPDATE .., DELETE ..;  a statement, over lines up to its ;\nBEGIN [READ ONLY [DEFERRABLE]]               begins a transaction; COMMIT and ROLLBACK end it\nPOLL, EXPORT, IMPORT n, PRUNE, DUMP ..       other commands; CHECKPOINT makes room for events\nCREATE TABLE .., OPEN path                   before the first transaction\n2                                            goes to session 2, of 64\n2 BEGIN                                      a line of session 2\n\\autocommit [on|off]                         whether a statement without BEGIN is a transaction by itself\n\\d [NAME]                                    the tables, or one of them\n\\serial                                      the committed transactions in their serial order\n\\why                                         why a transaction was refused last\n\\draw FILE                                   a picture of the transactions\n\\dump FILE                                   a dump of a safe snapshot\n\\i FILE                                      the lines of a file\n\\r                                           clears the statement typed so far\n\\timing [on|off]                             shows how long answers take\n\\?, help                                     this\n\\q, exit, quit                               ends the shell\nFor line editing and history, start it as `rlwrap pgserial shell`.\n"

-- what is shown where no session may begin a dump
abbrev pub no_session_text : List ℕ
no_session_text = codes "every session has a transaction: a dump needs one without\n"

-- what is shown of a dump whose path has spaces
abbrev pub spaced_text : List ℕ
spaced_text = codes "a dump's path can't contain spaces\n"

-- what is shown of a line that comes too early
abbrev pub early_text : List ℕ
early_text = codes "line ignored: CREATE TABLE or OPEN must come first, then BEGIN\n"

-- what is shown of a line whose event there is no room for
abbrev pub late_text : List ℕ
late_text = codes "line ignored: the history is full (--events); COMMIT or ROLLBACK each transaction, then CHECKPOINT makes room\n"

-- what is shown of a line that needs more room than there ever is
abbrev pub few_text : List ℕ
few_text = codes "line ignored: --events is too small for a transaction; start the shell with more\n"

-- what is shown of tables that come too late
abbrev pub closed_text : List ℕ
closed_text = codes "ERROR 42601: CREATE TABLE must come before the first transaction: \\q, and start again with all tables\n"

-- what is shown of a dump that is given up
abbrev pub not_safe_text : List ℕ
not_safe_text = codes "nothing was dumped: there is no safe snapshot while other transactions write\n"

-- what is shown once a tenth of the room for events is left
abbrev pub near_text : List ℕ
near_text = codes "the history is nearly full (--events): CHECKPOINT makes room, once no session has a transaction\n"

-- what is shown where little room is left now, and more was before
abbrev pub warning : Bool → Bool → List ℕ
warning was is = if not was && is then near_text else []

-- a line of session s
abbrev pub session_line : ℕ → List ℕ → List ℕ
session_line s command = decimal s ++ codes " " ++ command

module _ {H : Type 0} where
  -- The handler p was asked a line and has become q, and its answer is shown as it is, a refusal in words.
  abbrev pub AsksPlainly : (H → List ℕ → H → List ℕ → Type 0) → H → List ℕ → H → List ℕ → Type 0
  AsksPlainly answers p line q told = (text : List ℕ) × answers p line q text × (told ≡ shown (worded line text))

  -- A dump's last two lines: the dump to a path, and the end of its transaction.
  abbrev pub EndsDump : (H → List ℕ → H → List ℕ → Type 0) → ℕ → List ℕ → H → H → List ℕ → Type 0
  EndsDump answers s path p q told = (m : H) × (last : List ℕ) × AsksPlainly answers p (session_line s (codes "DUMP 1 1000 " ++ path ++ codes ";")) m told × answers m (session_line s (codes "COMMIT;")) q last

  -- A dump that is given up, since its snapshot isn't safe: its transaction is rolled back.
  abbrev pub GivesUp : (H → List ℕ → H → List ℕ → Type 0) → ℕ → List ℕ → H → H → List ℕ → Type 0
  GivesUp answers s polled p q told = (last : List ℕ) × answers p (session_line s (codes "ROLLBACK;")) q last × (told ≡ shown polled ++ not_safe_text)

  abbrev pub GoesOnTo : Bool → (H → List ℕ → H → List ℕ → Type 0) → ℕ → List ℕ → List ℕ → H → H → List ℕ → Type 0
  GoesOnTo true answers s path polled p q told = EndsDump answers s path p q told
  GoesOnTo false answers s path polled p q told = GivesUp answers s polled p q told

  -- Session s makes a dump to a path by a transaction of its own, whose snapshot is asked for once; or gives it up.
  abbrev pub DumpsBy : (H → List ℕ → H → List ℕ → Type 0) → ℕ → List ℕ → H → H → List ℕ → Type 0
  DumpsBy answers s path p q told = (m : H) × (n : H) × (begun : List ℕ) × (polled : List ℕ)
      × answers p (session_line s (codes "BEGIN READ ONLY DEFERRABLE;")) m begun × answers m (session_line s (codes "POLL;")) n polled
      × GoesOnTo (begins (session_line s (codes "SAFE ")) polled) answers s path polled n q told

module _ {A H : Type 0} where
  -- The handler p was asked a line and has become q, which holds what a shell holds, and its answer was drawn as this text: rows under the names of the columns that the last event shows.
  abbrev pub Asks : (H → List ℕ → H → List ℕ → Type 0) → (H → Held A) → H → List ℕ → H → List ℕ → Type 0
  Asks answers held p line q told = (text : List ℕ) × answers p line q text × (told ≡ drawn (header_of (held q)) (worded line text))

  -- The handler p was asked a line as a transaction by itself, whose BEGIN and COMMIT, or ROLLBACK, were asked around it, and has become q; what is shown is its answer, drawn as above, or the refusal of COMMIT.
  abbrev pub AsksAlone : (H → List ℕ → H → List ℕ → Type 0) → (H → Held A) → H → List ℕ → H → List ℕ → Type 0
  AsksAlone answers held p line q told = (m : H) × (n : H) × (begun : List ℕ) × (text : List ℕ) × (last : List ℕ)
      × answers p (beside line (codes "BEGIN;")) m begun × answers m line n text × answers n (beside line (ending (answers_so line (codes "ERROR ") text))) q last
      × (told ≡ told_alone line (drawn (header_of (held n)) (worded line text)) text last)

  -- A session without a transaction makes the dump; or there is none.
  abbrev pub DumpsAt : (H → List ℕ → H → List ℕ → Type 0) → (H → Held A) → List ℕ → H → H → List ℕ → Type 0
  DumpsAt answers held path p q told = ((s : ℕ) × (mark_in (held p) s ≡ mark.Idle) × DumpsBy answers s path p q told) ⊎ ((q ≡ p) × (told ≡ no_session_text))

  abbrev pub DumpsAs : Admission → (H → List ℕ → H → List ℕ → Type 0) → (H → Held A) → List ℕ → H → H → List ℕ → Type 0
  DumpsAs admission_of.Asked answers held path p q told = DumpsAt answers held path p q told
  DumpsAs admission_of.Early answers held path p q told = (q ≡ p) × (told ≡ early_text)
  DumpsAs admission_of.Late answers held path p q told = (q ≡ p) × (told ≡ late_text)
  DumpsAs admission_of.Few answers held path p q told = (q ≡ p) × (told ≡ few_text)
  DumpsAs admission_of.Closed answers held path p q told = (q ≡ p) × (told ≡ closed_text)

  abbrev pub DumpsTo : Bool → (H → List ℕ → H → List ℕ → Type 0) → (H → Held A) → List ℕ → H → H → List ℕ → Type 0
  DumpsTo true answers held path p q told = (q ≡ p) × (told ≡ spaced_text)
  DumpsTo false answers held path p q told = DumpsAs (admits_dump (held p)) answers held path p q told

  -- The dump is made, unless its path has spaces, it comes too early, or there is no room for its events.
  abbrev pub Dumps : (H → List ℕ → H → List ℕ → Type 0) → (H → Held A) → List ℕ → H → H → List ℕ → Type 0
  Dumps answers held path p q told = DumpsTo (list_any (λ b. b == 32) path) answers held path p q told

-- What a terminal knows: the handler, the session of the prompt, whether it shows how long answers take, whether a statement without BEGIN is a transaction by itself, whether it was asked to end, and the lines that the next one goes on from, if any.
pub record At (H : Type 0) : Type 0 where
  pub attended : H
  pub session : ℕ
  pub is_timed : Bool
  pub is_auto : Bool
  pub has_quit : Bool
  pub begun : List ℕ

-- the terminal p, whose handler has become h
abbrev pub with : {H : Type 0} → At H → H → At H
with p h = record p { attended = h }

-- Where it is refused, p is as it was, and these words are shown; else this was done.
abbrev pub OrRefused : {H : Type 0} → Bool → List ℕ → At H → At H → List ℕ → Type 0 → Type 0
OrRefused true words p q told Done = (q ≡ p) × (told ≡ words)
OrRefused false words p q told Done = Done

-- Where the next line goes on from these, they are kept, and nothing is shown; else this was done.
abbrev pub OrKept : {H : Type 0} → Bool → List ℕ → At H → At H → List ℕ → Type 0 → Type 0
OrKept true lines p q told Done = (q ≡ record p { begun = lines }) × (told ≡ [])
OrKept false lines p q told Done = Done

-- the terminal p, which no line goes on from
abbrev pub afresh : {H : Type 0} → At H → At H
afresh p = record p { begun = [] }

-- ---- how long an answer took

-- three digits of a number
abbrev pub three_digits : ℕ → List ℕ
three_digits n = (48 + n / 100 % 10) ∷ (48 + n / 10 % 10) ∷ (48 + n % 10) ∷ []

-- n microseconds, as psql prints them
abbrev pub time_text : ℕ → List ℕ
time_text n = codes "Time: " ++ decimal (n / 1000) ++ codes "." ++ three_digits n ++ codes " ms\n"

-- An answer, followed by how long it took where that is to be shown.
abbrev pub IsTimed : Bool → List ℕ → List ℕ → Type 0
IsTimed true answer told = (n : ℕ) × (told ≡ answer ++ time_text n)
IsTimed false answer told = told ≡ answer

-- what is shown once answers are timed, or no longer
abbrev pub timing_text : Bool → List ℕ
timing_text true = codes "Timing is on.\n"
timing_text false = codes "Timing is off.\n"

-- Answers are timed from then on, or no longer; or it isn't known which.
abbrev pub Times : {H : Type 0} → Option Bool → At H → At H → List ℕ → Type 0
Times None p q told = (q ≡ p) × (told ≡ no_timing_text)
Times (Some is) p q told = (q ≡ record p { is_timed = is }) × (told ≡ timing_text is)

-- A statement is a transaction by itself from then on, or no longer; or it isn't known which.
abbrev pub Commits : {H : Type 0} → Option Bool → At H → At H → List ℕ → Type 0
Commits None p q told = (q ≡ p) × (told ≡ no_autocommit_text)
Commits (Some is) p q told = (q ≡ record p { is_auto = is }) × (told ≡ autocommit_text is)

-- ---- lines in turn

-- A line was done as this says, unless the conversation is to end: then nothing is.
abbrev pub UnlessEnded : {H : Type 0} → Bool → (List ℕ → At H → At H → List ℕ → Type 0) → List ℕ → At H → At H → List ℕ → Type 0
UnlessEnded true Done line p q told = (q ≡ p) × (told ≡ [])
UnlessEnded false Done line p q told = Done line p q told

-- Lines were done as this says, one after the other.
abbrev pub InTurn : {H : Type 0} → (List ℕ → At H → At H → List ℕ → Type 0) → List (List ℕ) → At H → At H → List ℕ → Type 0
InTurn Done [] p q told = (q ≡ p) × (told ≡ [])
InTurn {H} Done (line ∷ more) p q told = (m : At H) × (first : List ℕ) × (rest : List ℕ) × UnlessEnded p.has_quit Done line p m first × InTurn Done more m q rest × (told ≡ first ++ rest)

-- ---- the lines of files

-- a text without this byte at its end
abbrev pub without_last : ℕ → List ℕ → List ℕ
without_last byte text = if not (length text == 0) && slice_index text (length text - 1) == byte then take (length text - 1) text else text

-- a text without the byte order mark that it may begin with
abbrev pub unmarked : List ℕ → List ℕ
unmarked text = if begins (239 ∷ 187 ∷ 191 ∷ []) text then drop 3 text else text

-- the lines of a file's text, of which the last may lack its newline
abbrev pub lines_in : List ℕ → List (List ℕ)
lines_in text = slice_split (λ b. b == 10) (without_last 10 (unmarked text))

-- what is shown of a file that can't be read
abbrev pub unread_text : List ℕ → List ℕ
unread_text path = shown path ++ codes ": no such file, or it can't be read\n"

-- what is shown of a file's line that asks for a file's lines
abbrev pub nested_text : List ℕ
nested_text = codes "\\i must be typed on a line of its own: a file can't include another\n"

-- These bytes are what a file has, where it is known what it has.
abbrev pub IsFile : Option (List ℕ) → List ℕ → Type 0
IsFile known text = IfSome known (λ there. text ≡ there)

-- whether the lines of a file are asked for
abbrev pub is_file : Typed → Bool
is_file typed.File = true
is_file other = false

module _ {A H : Type 0} (held : H → Held A) where
  -- the prompt
  abbrev pub prompt_of : At H → List ℕ
  prompt_of p = prompt_text p.session (mark_in (held p.attended) p.session) (not (length p.begun == 0))

  -- What follows the text that is shown: a warning, and the next prompt, unless the conversation is to end.
  abbrev pub behind : Bool → At H → List ℕ
  behind was q = if q.has_quit then [] else warning was (is_near (held q.attended)) ++ prompt_of q

module _ {A H : Type 0} (answers : H → List ℕ → H → List ℕ → Type 0) (held : H → Held A) (tells : H → Aside → List ℕ → H → List ℕ → Type 0) where
  -- A line was asked, as a transaction by itself or not.
  abbrev pub AsksBy : Bool → H → List ℕ → H → List ℕ → Type 0
  AsksBy true p line q told = AsksAlone answers held p line q told
  AsksBy false p line q told = Asks answers held p line q told

  -- The handler p was asked a line, and its answer is shown, with how long it took where that is to be shown.
  abbrev pub AsksTimed : Bool → Bool → H → List ℕ → H → List ℕ → Type 0
  AsksTimed alone is_timed p line q told = (answer : List ℕ) × AsksBy alone p line q answer × IsTimed is_timed answer told

  abbrev pub AsksAs : Admission → Bool → At H → List ℕ → At H → List ℕ → Type 0
  AsksAs admission_of.Asked alone p line q told = (h : H) × AsksTimed alone p.is_timed p.attended line h told × (q ≡ with p h)
  AsksAs admission_of.Early alone p line q told = (q ≡ p) × (told ≡ early_text)
  AsksAs admission_of.Late alone p line q told = (q ≡ p) × (told ≡ late_text)
  AsksAs admission_of.Few alone p line q told = (q ≡ p) × (told ≡ few_text)
  AsksAs admission_of.Closed alone p line q told = (q ≡ p) × (told ≡ closed_text)

  -- The line was asked, unless it comes too early or too late, or there is no room for its events.
  abbrev pub AsksAdmitted : Bool → At H → List ℕ → At H → List ℕ → Type 0
  AsksAdmitted alone p line q told = AsksAs (admits (held p.attended) alone line) alone p line q told

  -- whether a text speaks for a session without a transaction, whose statements are transactions by themselves
  abbrev pub is_free : At H → List ℕ → Bool
  is_free p text = p.is_auto && is_idle (held p.attended) (session_at p.session text)

  -- The line was asked that a command stands for, unless that begins as nothing does.
  abbrev pub DoesCommand : At H → List ℕ → At H → List ℕ → Type 0
  DoesCommand p text q told = OrRefused (is_free p text && is_strange (command_in text)) slip_text p q told (AsksAdmitted (is_free p text && is_statement (command_in text)) p (line_of p.session text) q told)

  -- The handler has shown something besides the answers, as a text asks; the shell is the same.
  abbrev pub TellsBeside : Aside → At H → List ℕ → At H → List ℕ → Type 0
  TellsBeside a p text q told = (h : H) × tells p.attended a text h told × (held h ≡ held p.attended) × (q ≡ with p h)

  -- What a text that was typed asks for was done, and this is shown; a file's lines are refused.
  abbrev pub DoesAlone : Typed → At H → List ℕ → At H → List ℕ → Type 0
  DoesAlone typed.Nothing p text q told = (q ≡ p) × (told ≡ [])
  DoesAlone typed.Session p text q told = (q ≡ record p { session = unwrap_or (session_in text) p.session }) × (told ≡ [])
  DoesAlone typed.Help p text q told = (q ≡ p) × (told ≡ help_text)
  DoesAlone typed.Quit p text q told = (q ≡ record p { has_quit = true }) × (told ≡ [])
  DoesAlone typed.Timing p text q told = Times (turned p.is_timed (behind_word text)) p q told
  DoesAlone typed.Autocommit p text q told = Commits (turned p.is_auto (behind_word text)) p q told
  DoesAlone typed.Columns p text q told = (q ≡ p) × (told ≡ table_described (catalog_of (held p.attended)) (behind_word text))
  DoesAlone typed.Why p text q told = TellsBeside aside.Why p (behind_word text) q told
  DoesAlone typed.Drawing p text q told = TellsBeside aside.Drawing p (behind_word text) q told
  DoesAlone typed.Dump p text q told = (h : H) × Dumps answers held (behind_word text) p.attended h told × (q ≡ with p h)
  DoesAlone typed.Tables p text q told = (h : H) × AsksPlainly answers p.attended (codes "\\d") h told × (q ≡ with p h)
  DoesAlone typed.Word p text q told = (h : H) × AsksPlainly answers p.attended text h told × (q ≡ with p h)
  DoesAlone typed.File p text q told = (q ≡ p) × (told ≡ nested_text)
  DoesAlone typed.Unknown p text q told = (q ≡ p) × (told ≡ strange_text (first_word text))
  DoesAlone typed.Command p text q told = DoesCommand p text q told

  -- What a text alone asks for was done, and this is shown; where a file's name is missing, it is refused.
  abbrev pub DoesTextAlone : At H → List ℕ → At H → List ℕ → Type 0
  DoesTextAlone p text q told = OrRefused (lacks_file (asks_for text) text) (nameless_text text) p q told (DoesAlone (asks_for text) p text q told)

  -- The next line goes on from this piece of one; or what it asks for was done, and this is shown.
  abbrev pub DoesPiece : List ℕ → At H → At H → List ℕ → Type 0
  DoesPiece piece p q told = OrKept (goes_on piece) piece p q told (DoesTextAlone p (text_in piece) q told)

  -- All that lines ask for was done, one after the other.
  abbrev pub DoesLinesAlone : At H → List ℕ → At H → List ℕ → Type 0
  DoesLinesAlone p lines q told = InTurn DoesPiece (pieces lines) p q told

  -- A line was typed after the prompt, which is shown with it, and what it asks for was done.
  abbrev pub TypesLine : List ℕ → At H → At H → List ℕ → Type 0
  TypesLine line p q told = (text : List ℕ) × DoesLinesAlone (afresh p) (with_line p.begun line) q text × (told ≡ prompt_of held p ++ shown line ++ codes "\n" ++ text)

  -- A file's line was typed after the prompt, which is shown with it, and what it asks for was done; a carriage return at its end is left out.
  abbrev pub PlaysLine : List ℕ → At H → At H → List ℕ → Type 0
  PlaysLine line p q told = TypesLine (without_last 13 line) p q told

module _ {A H : Type 0} (answers : H → List ℕ → H → List ℕ → Type 0) (held : H → Held A) (tells : H → Aside → List ℕ → H → List ℕ → Type 0) (files : H → List ℕ → Option (List ℕ)) where
  -- All lines of a path's file were typed; or it couldn't be read.
  abbrev pub PlaysFile : List ℕ → At H → At H → List ℕ → Type 0
  PlaysFile path p q told = ((text : List ℕ) × IsFile (files p.attended path) text × InTurn (PlaysLine answers held tells) (lines_in text) p q told) ⊎ ((q ≡ p) × (told ≡ unread_text path))

  abbrev pub DoesAs : Bool → Typed → At H → List ℕ → At H → List ℕ → Type 0
  DoesAs true t p text q told = PlaysFile (behind_word text) p q told
  DoesAs false t p text q told = DoesAlone answers held tells t p text q told

  -- What a text that was typed asks for was done, and this is shown.
  abbrev pub Does : Typed → At H → List ℕ → At H → List ℕ → Type 0
  Does t p text q told = DoesAs (is_file t) t p text q told

  -- What a text asks for was done, and this is shown; where a file's name is missing, it is refused.
  abbrev pub DoesText : At H → List ℕ → At H → List ℕ → Type 0
  DoesText p text q told = OrRefused (lacks_file (asks_for text) text) (nameless_text text) p q told (Does (asks_for text) p text q told)

  abbrev pub DoesLinesAs : Bool → At H → List ℕ → At H → List ℕ → Type 0
  DoesLinesAs true p lines q told = DoesText p (text_in lines) q told
  DoesLinesAs false p lines q told = DoesLinesAlone answers held tells p lines q told

  -- All that lines ask for was done: the word with a backslash with which they begin; or one thing after the other.
  abbrev pub DoesLines : At H → List ℕ → At H → List ℕ → Type 0
  DoesLines p lines q told = DoesLinesAs (begins (codes "\\") (text_in lines)) p lines q told

  -- What a typed line asks for, with those that it goes on from, was done, unless it may be cut off.
  abbrev pub DoesLine : At H → List ℕ → At H → List ℕ → Type 0
  DoesLine p line q told = OrRefused (is_cut line) cut_text p q told (DoesLines (afresh p) (with_line p.begun line) q told)

  -- A line was typed at a terminal p, which has become q, and this text is shown: what the line asks for, and the next prompt.
  abbrev pub Types : At H → List ℕ → At H → List ℕ → Type 0
  Types p line q text = (told : List ℕ) × DoesLine p line q told × (text ≡ told ++ behind held (is_near (held p.attended)) q)
