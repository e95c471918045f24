-- What the transcript of a run begins with, as it is read: the tables that its script sets.
use Rattle.std.proofs.Common.{◌≡◌, ◌⊎◌, inl, inr, ℕ, ◌+◌, Bool, true, false, true≢false, cond, eqb, not, ◌&&◌, ◌||◌, List, [], ◌∷◌, ◌++◌, length, take, drop, map, Option, Some, None, Ok, Err, refl, sym, ap, subst, ◌∙◌, append_assoc, take-append-drop, arith}
use Rattle.std.specs.Prelude.{codes, is_some, slice_index}
use Rattle.std.specs.Char.{is_ascii_digit}
use Rattle.std.specs.Fmt.{decimal}
use Rattle.std.specs.List.{filter, list_all, slice_split}
use Rattle.std.specs.Option.{option_map_or}
use Rattle.std.specs.Result.{result_ok}
use Rattle.std.specs.Str.{IsUtf8, bytes_eq, is_utf8}
use Rattle.std.proofs.lemmas.Bool.{and_parts}
use Rattle.std.proofs.lemmas.Slice.Eq.{bytes_eq-Decides}
use Rattle.std.proofs.lemmas.Str.{IsUtf8-append}
use Rattle.value.specs.Codes.{sqlstate}
use Rattle.value.specs.declared.kind.Kind.{Kind}
use Rattle.value.specs.declared.refusal.Refusal.{Refusal}
use Rattle.value.proofs.IsolationLemmas.{In}
use Rattle.value.proofs.SerialLemmas.{In-left}
use Rattle.value.specs.declared.value.Value.{Value}
use Rattle.schema.specs.Adding.{added}
use Rattle.schema.specs.Definition.{Catalog, TableDef, columns_of}
use Rattle.schema.specs.Plain.{is_sound}
use Rattle.statement.specs.Conditions.{chosen}
use Rattle.statement.specs.Evaluation.{shown}
use Rattle.statement.specs.Fits.{Fits}
use Rattle.statement.specs.declared.condition.Condition.{Condition}
use Rattle.statement.specs.declared.reply.Reply.{Reply}
use Rattle.statement.specs.declared.reply.Reply.TheVariants as reply
use Rattle.statement.specs.declared.statement.Projection.{Projection}
use Rattle.statement.specs.declared.statement.Statement.{Statement}
use Rattle.statement.specs.declared.statement.Statement.TheVariants.{Select}
use Rattle.history.specs.Answer.{Legal, reply_in, reply_of}
use Rattle.history.specs.Events.{start as start_of, world_of}
use Rattle.history.specs.Opening.{Opening}
use Rattle.history.specs.Transactions.{Txn, World, current}
use Rattle.history.specs.declared.event.Action.{Action}
use Rattle.history.specs.declared.event.Action.TheVariants as action
use Rattle.history.specs.declared.event.Record.{Record}
use Rattle.serial.proofs.legal.AlwaysSound.{own_sound}
use Rattle.serial.proofs.legal.Histories.{run-catalog}
use Rattle.serial.proofs.legal.Legal.{current_in}
use Rattle.sqltext.specs.Creating.{created}
use Rattle.request.specs.Requests.{asked as action_of}
use Rattle.copytext.specs.Writing.{line_text}
use Rattle.script.specs.Commands.{◌>>=◌, before_last, path_of, text_of}
use Rattle.script.specs.Printing.{done_text, reply_text, tag}
use Rattle.script.specs.Scripts.{Said, created_in, is_passed_over, nothing, opened, passed_over, said_from, session_step, table_of, takes_tables, with_line, with_session, with_step}
use Rattle.script.specs.Transcribing.{answered, asked, ended, line_at, lines, sets_tables}
use Rattle.script.specs.declared.command.Command.{Command}
use Rattle.script.specs.declared.command.Command.TheVariants as command
use Rattle.script.specs.declared.schedule.Schedule.TheVariants.{InOrder}
use Rattle.script.specs.declared.script.Line.{Line}
use Rattle.script.specs.declared.script.Step.{Step}
use Rattle.script.specs.declared.script.Step.TheVariants as step
use Rattle.transcript.specs.Lines.{read_text}
use Rattle.transcript.specs.Opening.{created_in as created_there, opened as opened_there, opened_first, opening, set_in, start as start_there, with_kind as kind_there, with_line as line_there, without_end}
use Rattle.transcript.specs.Reading.{kinds_shown}
use Rattle.transcript.specs.Recorded.{Recorded}
use Rattle.transcript.specs.Sessions.{nothing_but}
use Rattle.transcript.specs.declared.opening.Opening.{Opening as Beginning}
use Rattle.recording.specs.Runs.{Answers, AreDone, IsDone, IsSmall, IsTranscript, Replies, is_small_row}
use Rattle.recording.proofs.AskingLemmas.{before_last_is, path_utf8, step_asks, text_utf8}
use Rattle.recording.proofs.CourseLemmas.{Next}
use Rattle.recording.proofs.LinesLemmas.{AllLack, all_lack-append, ended_append, ended_lines, one_read, read_on, text_read, whole}
use Rattle.recording.proofs.MoveLemmas.{owed_of}
use Rattle.recording.proofs.ReadingLemmas.{AreShown, command_kind, reply_kind}
use Rattle.recording.proofs.RecordingLemmas.{AllSay, begun_of, grows, table_lines, tables_lack, tables_lined}
use Rattle.recording.proofs.RowLemmas.{row_utf8}
use Rattle.recording.proofs.RunLemmas.{After, Event, Refusal_alone, after_of, marked_lack, reply_lack, told_lines}
use Rattle.recording.proofs.SayingLemmas.{checkpoint_plain, reply_ended, reply_lines, rows_of, shown_line, tag_plain}
use Rattle.recording.proofs.ScriptLemmas.{SaysStep, line_lacks, line_says, lines_lack, sets}
use Rattle.recording.proofs.ShownLemmas.{Selects, fits_shown, shown_by}
use Rattle.recording.proofs.SyncLemmas.{Suits, suits_from, suits_idle}
use Rattle.recording.proofs.TextLemmas.{IsPlain, IsUtf8-plain, Lacks, decimal_plain, lacks-append, plain-append, plain_lacks}

open_parts : (a b : Bool) → (not a && b) ≡ true → a ≡ false
open_parts true b h = absurd (true≢false (sym h))
open_parts false b h = refl

-- a line that opens a dump makes no checkpoint
no_checkpoint : (line : List ℕ) → bytes_eq (take 5 line) (codes "OPEN ") ≡ true → bytes_eq line (codes "CHECKPOINT;") ≡ false
no_checkpoint line h = go (bytes_eq line (codes "CHECKPOINT;")) refl
  where
    go : (b : Bool) → bytes_eq line (codes "CHECKPOINT;") ≡ b → b ≡ false
    go false e = refl
    go true e = absurd (true≢false (sym h ∙ ap (λ (l : List ℕ). bytes_eq (take 5 l) (codes "OPEN ")) ((bytes_eq-Decides line (codes "CHECKPOINT;")).0 e)))

-- ---- lines that set nothing

abbrev Pass : (A : Type 0) → List ℕ → Type 0
Pass A line = (o : Beginning A) → (b : Bool) × (line_there o line ≡ Some (record o { began = b }))

abbrev AllPass : (A : Type 0) → List (List ℕ) → Type 0
AllPass A [] = Unit {0}
AllPass A (line ∷ more) = Pass A line × AllPass A more

all_pass-append : (A : Type 0) (ls ms : List (List ℕ)) → AllPass A ls → AllPass A ms → AllPass A (ls ++ ms)
all_pass-append A [] ms h k = k
all_pass-append A (l ∷ ls) ms h k = (h.0, all_pass-append A ls ms h.1 k)

-- The text has these lines, and they set nothing.
record Passed (A : Type 0) (text : List ℕ) : Type 0 where
  parts : List (List ℕ)
  is : text ≡ ended_lines parts
  lack : AllLack parts
  pass : AllPass A parts

module _ {A : Type 0} where
  abbrev reads_on : Beginning A → ℕ → List ℕ → Option (Beginning A)
  reads_on o n line = line_there o line

  abbrev pub begun_with : Catalog → Option (List ℕ) → Bool → Beginning A
  begun_with c o b = record { catalog = c; opens = o; began = b }

  -- what a script has said so far, before all that is done
  abbrev of_said : Said A → Beginning A
  of_said s = begun_with s.catalog s.opens false

  -- ---- lines that set tables

  reads_opened : (o : Beginning A) (rest text path : List ℕ) → before_last 59 rest ≡ Some text → path_of text ≡ Some path → opened_there o rest ≡ Some (record o { opens = Some path })
  unfolding opened_there
  reads_opened o rest text path e f =
      ap (λ (x : Option (List ℕ)). x >>= λ y. path_of y >>= λ z. Some (record o { opens = Some z })) e
      ∙ ap (λ (x : Option (List ℕ)). x >>= λ z. Some (record o { opens = Some z })) f

  reads_created : (o : Beginning A) (line : List ℕ) (d : TableDef) (c : Catalog) → table_of line ≡ Some d → result_ok (added o.catalog d) ≡ Some c → created_there o line ≡ Some (record o { catalog = c })
  unfolding created_there
  reads_created o line d c e f =
      ap (λ (x : Option TableDef). x >>= λ y. result_ok (added o.catalog y) >>= λ z. Some (record o { catalog = z })) e
      ∙ ap (λ (x : Option Catalog). x >>= λ z. Some (record o { catalog = z })) f

  -- What one more line sets, and that other lines set nothing.
  record Sets (s t : Said A) (line : List ℕ) : Type 0 where
    tables : sets_tables line ≡ true → line_there (of_said s) (codes "> " ++ line) ≡ Some (of_said t)
    others : sets_tables line ≡ false → of_said t ≡ of_said s

  module _ (s : Said A) (n : ℕ) (line : List ℕ) (t : Said A) where
    abbrev is_digit : Bool
    is_digit = is_ascii_digit (slice_index line 0)

    abbrev is_checkpoint : Bool
    is_checkpoint = bytes_eq line (codes "CHECKPOINT;")

    abbrev is_open : Bool
    is_open = bytes_eq (take 5 line) (codes "OPEN ")

    -- lines that set nothing
    apart : sets_tables line ≡ false → of_said t ≡ of_said s → Sets s t line
    apart none same = record { tables = λ h. absurd (true≢false (sym h ∙ none)); others = λ h. same }

    -- a line that sets tables, as it is read
    setting : IsUtf8 line → is_passed_over line ≡ false → is_digit ≡ false → is_checkpoint ≡ false → set_in (of_said s) line ≡ Some (of_said t) → Sets s t line
    setting u p d k e = record {
      tables = λ h.
          ap (kind_there (of_said s) (codes "> " ++ line)) (command_kind line u)
          ∙ ap (λ b. cond (b || is_checkpoint) (Some (begun_with s.catalog s.opens true)) (set_in (of_said s) line)) d
          ∙ ap (λ b. cond b (Some (begun_with s.catalog s.opens true)) (set_in (of_said s) line)) k
          ∙ e;
      others = λ h. absurd (true≢false (sym yes ∙ h));
    }
      where
        yes : sets_tables line ≡ true
        yes = ap (λ x. sets x is_digit is_checkpoint) p ∙ ap (λ x. sets false x is_checkpoint) d ∙ ap (λ x. sets false false x) k

    passed : (b : Bool) → cond b (Some s) None ≡ Some t → sets_tables line ≡ false → Sets s t line
    passed true e none = let same : s ≡ t = cc in apart none (ap of_said (sym same))
    passed false e none = absurd cc

    session : (o : Option (Step A)) → sets_tables line ≡ false → (o >>= λ x. Some (with_step s n x)) ≡ Some t → Sets s t line
    session None none e = absurd cc
    session (Some x) none e = let same : with_step s n x ≡ t = cc in apart none (ap of_said (sym same))

    -- no dump is opened yet
    unopened : takes_tables s ≡ true → is_some s.opens ≡ false
    unopened h = open_parts (is_some s.opens) (eqb (length s.lines) 0) h

    set_by : takes_tables s ≡ true → (b : Bool) → is_open ≡ b → set_in (of_said s) line ≡ cond b (opened_first (of_said s) (drop 5 line)) (created_there (of_said s) line)
    set_by h b e =
        ap (λ x. cond x None (cond is_open (opened_first (of_said s) (drop 5 line)) (created_there (of_said s) line))) (unopened h)
        ∙ ap (λ x. cond x (opened_first (of_said s) (drop 5 line)) (created_there (of_said s) line)) e

    module _ (p : is_passed_over line ≡ false) (d : is_digit ≡ false) where
      open_path : is_open ≡ true → takes_tables s ≡ true → eqb (length s.catalog) 0 ≡ true → (text : List ℕ) → before_last 59 (drop 5 line) ≡ Some text → (o : Option (List ℕ)) → path_of text ≡ o
          → (o >>= λ path. Some (record s { opens = Some path })) ≡ Some t → Sets s t line
      open_path w h z text b None g e = absurd cc
      open_path w h z text b (Some path) g e =
          let same : record s { opens = Some path } ≡ t = cc in
          let begins : take 5 line ≡ codes "OPEN " = (bytes_eq-Decides (take 5 line) (codes "OPEN ")).0 w in
          let utf8 = subst IsUtf8 (take-append-drop 5 line)
          (IsUtf8-append (take 5 line) (drop 5 line) (subst IsUtf8 (sym begins) (IsUtf8-plain (codes "OPEN ") refl))
          (subst IsUtf8 (sym (before_last_is 59 (drop 5 line) text (omega arith) b)) (IsUtf8-append text (59 ∷ []) (path_utf8 text path g) (IsUtf8-plain (59 ∷ []) refl)))) in
          setting utf8 p d (no_checkpoint line w)
          (set_by h true w ∙ ap (λ x. cond x (opened_there (of_said s) (drop 5 line)) None) z ∙ reads_opened (of_said s) (drop 5 line) text path b g ∙ ap (λ (x : Said A). Some (of_said x)) same)

      open_text : is_open ≡ true → takes_tables s ≡ true → eqb (length s.catalog) 0 ≡ true → (o : Option (List ℕ)) → before_last 59 (drop 5 line) ≡ o
          → (o >>= λ text. path_of text >>= λ path. Some (record s { opens = Some path })) ≡ Some t → Sets s t line
      open_text w h z None b e = absurd cc
      open_text w h z (Some text) b e = open_path w h z text b (path_of text) refl e

      opens : is_open ≡ true → (b : Bool) → (takes_tables s && eqb (length s.catalog) 0) ≡ b → cond b (before_last 59 (drop 5 line) >>= λ text. path_of text >>= λ path. Some (record s { opens = Some path })) None ≡ Some t → Sets s t line
      opens w true h e = let q = and_parts (takes_tables s) (eqb (length s.catalog) 0) h in open_text w q.0 q.1 (before_last 59 (drop 5 line)) refl e
      opens w false h e = absurd cc

      create_added : is_open ≡ false → is_checkpoint ≡ false → takes_tables s ≡ true → (x : TableDef) → table_of line ≡ Some x → (o : Option Catalog) → result_ok (added s.catalog x) ≡ o → (o >>= λ c. Some (record s { catalog = c })) ≡ Some t → Sets s t line
      create_added w k h x g None f e = absurd cc
      create_added w k h x g (Some c) f e =
          let same : record s { catalog = c } ≡ t = cc in
          setting (utf8 (text_of line) refl g) p d k (set_by h false w ∙ reads_created (of_said s) line x c g f ∙ ap (λ (y : Said A). Some (of_said y)) same)
        where
          utf8 : (o : Option (List ℕ)) → text_of line ≡ o → (o >>= λ text. result_ok (created text)) ≡ Some x → IsUtf8 line
          utf8 None q r = absurd cc
          utf8 (Some text) q r = text_utf8 line text q

      create_table : is_open ≡ false → is_checkpoint ≡ false → takes_tables s ≡ true → (o : Option TableDef) → table_of line ≡ o → (o >>= λ x. result_ok (added s.catalog x) >>= λ c. Some (record s { catalog = c })) ≡ Some t → Sets s t line
      create_table w k h None g e = absurd cc
      create_table w k h (Some x) g e = create_added w k h x g (result_ok (added s.catalog x)) refl e

      creates : is_open ≡ false → is_checkpoint ≡ false → (b : Bool) → takes_tables s ≡ b → cond b (table_of line >>= λ x. result_ok (added s.catalog x) >>= λ c. Some (record s { catalog = c })) None ≡ Some t → Sets s t line
      creates w k true h e = create_table w k h (table_of line) refl e
      creates w k false h e = absurd cc

      fourth : is_open ≡ false → (b : Bool) → is_checkpoint ≡ b → cond b (Some (with_step s n step.Checkpoint)) (created_in s line) ≡ Some t → Sets s t line
      fourth w true h f = session (Some step.Checkpoint) (ap (λ x. sets x is_digit is_checkpoint) p ∙ ap (λ x. sets false x is_checkpoint) d ∙ ap (λ x. sets false false x) h) f
      fourth w false h f = creates w h (takes_tables s) refl f

      third : (b : Bool) → is_open ≡ b → cond b (opened s line) (cond is_checkpoint (Some (with_step s n step.Checkpoint)) (created_in s line)) ≡ Some t → Sets s t line
      third true h f = opens h (takes_tables s && eqb (length s.catalog) 0) refl f
      third false h f = fourth h is_checkpoint refl f

    second : is_passed_over line ≡ false → (b : Bool) → is_digit ≡ b → cond b (with_session InOrder s n line) (cond is_open (opened s line) (cond is_checkpoint (Some (with_step s n step.Checkpoint)) (created_in s line))) ≡ Some t → Sets s t line
    second p true h f = session (session_step InOrder line) (ap (λ x. sets x is_digit is_checkpoint) p ∙ ap (λ x. sets false x is_checkpoint) h) f
    second p false h f = third p h is_open refl f

    first : (b : Bool) → is_passed_over line ≡ b
        → cond b (passed_over s line) (cond is_digit (with_session InOrder s n line) (cond is_open (opened s line) (cond is_checkpoint (Some (with_step s n step.Checkpoint)) (created_in s line)))) ≡ Some t → Sets s t line
    first true h f = passed (is_utf8 line) f (ap (λ x. sets x is_digit is_checkpoint) h)
    first false h f = second h is_digit refl f

    line_sets : with_line InOrder s n line ≡ Some t → Sets s t line
    line_sets e = first (is_passed_over line) refl e

  abbrev Begins : Beginning A → ℕ → List (List ℕ) → Beginning A → Type 0
  Begins o m ls u = (k : ℕ) × (whole reads_on o m ls ≡ Ok (u, k))

  one_sets : (s u t : Said A) (m : ℕ) (line : List ℕ) (ls : List (List ℕ)) → Sets s u line → ((k : ℕ) → Begins (of_said u) k (table_lines ls) (of_said t)) → Begins (of_said s) m (table_lines (line ∷ ls)) (of_said t)
  one_sets s u t m line ls h rest = go (sets_tables line) refl
    where
      go : (b : Bool) → sets_tables line ≡ b → Begins (of_said s) m (map (λ l. codes "> " ++ l) (cond b (line ∷ filter sets_tables ls) (filter sets_tables ls))) (of_said t)
      go true e = let r = rest (m + 1) in (r.0, one_read reads_on (of_said s) (of_said u) m (codes "> " ++ line) (table_lines ls) (h.tables e) ∙ r.1)
      go false e = subst (λ o. Begins o m (table_lines ls) (of_said t)) (h.others e) (rest m)

  tables_begin : (s t : Said A) (n : ℕ) (parts : List (List ℕ)) (m : ℕ) → said_from InOrder s n parts ≡ Ok t → Begins (of_said s) m (table_lines (ended parts)) (of_said t)
  tables_begin s t n [] m e = let same : s ≡ t = cc in (m, ap (λ (x : Said A). Ok (of_said x, m)) same)
  tables_begin s t n (line ∷ []) m e = last (eqb (length line) 0) e
    where
      last : (b : Bool) → cond b (Ok s) (Err n) ≡ Ok t → Begins (of_said s) m [] (of_said t)
      last true f = let same : s ≡ t = cc in (m, ap (λ (x : Said A). Ok (of_said x, m)) same)
      last false f = absurd cc
  tables_begin s t n (line ∷ p ∷ more) m e = go (with_line InOrder s n line) refl (λ u k f. tables_begin u t (n + 1) (p ∷ more) k f) e
    where
      go : (o : Option (Said A)) → with_line InOrder s n line ≡ o → ((u : Said A) (k : ℕ) → said_from InOrder u (n + 1) (p ∷ more) ≡ Ok t → Begins (of_said u) k (table_lines (ended (p ∷ more))) (of_said t))
          → option_map_or (λ u. said_from InOrder u (n + 1) (p ∷ more)) o (Err n) ≡ Ok t → Begins (of_said s) m (table_lines (line ∷ ended (p ∷ more))) (of_said t)
      go None h rest f = absurd cc
      go (Some u) h rest f = one_sets s u t m line (ended (p ∷ more)) (line_sets s n line u h) (λ k. rest u k f)

  -- ---- other lines

  reply_pass : (line : List ℕ) → IsUtf8 line → Pass A (codes "  " ++ line)
  reply_pass line u o = (o.began, ap (kind_there o (codes "  " ++ line)) (reply_kind line u))

  command_pass : (line : List ℕ) → IsUtf8 line → is_ascii_digit (slice_index line 0) ≡ true → Pass A (codes "> " ++ line)
  command_pass line u d o =
      (true, ap (kind_there o (codes "> " ++ line)) (command_kind line u) ∙ ap (λ b. cond (b || bytes_eq line (codes "CHECKPOINT;")) (Some (record o { began = true })) (set_in o line)) d)

  checkpoint_pass : Pass A (codes "> CHECKPOINT;")
  checkpoint_pass o = (true, ap (kind_there o (codes "> CHECKPOINT;")) (command_kind (codes "CHECKPOINT;") (IsUtf8-plain (codes "CHECKPOINT;") refl)))

  passes : (ls : List (List ℕ)) → AllPass A ls → (c : Catalog) (o : Option (List ℕ)) (b : Bool) (n : ℕ) → (e : Bool) × (k : ℕ) × (whole reads_on (begun_with c o b) n ls ≡ Ok (begun_with c o e, k))
  passes [] h c o b n = (b, n, refl)
  passes (line ∷ more) h c o b n =
      let first = h.0 (begun_with c o b) in
      let rest = passes more h.1 c o first.0 (n + 1) in
      (rest.0, rest.1, one_read reads_on (begun_with c o b) (begun_with c o first.0) n line more first.1 ∙ rest.2)

  -- ---- replies

  abbrev RowsFit : Reply A → Type 0
  RowsFit r = (kinds : List Kind) × AreShown kinds (rows_of r)

  rows_pass : (s : ℕ) (kinds : List Kind) (rows : List (List (Value A))) → AreShown kinds rows → AllPass A (map (λ l. codes "  " ++ l) (map (shown_line s) rows))
  rows_pass s kinds [] h = tt
  rows_pass s kinds (row ∷ rows) h = (
    reply_pass (shown_line s row) (IsUtf8-append (decimal s) (32 ∷ 124 ∷ 32 ∷ line_text row) (IsUtf8-plain (decimal s) (decimal_plain s)) (IsUtf8-append (32 ∷ 124 ∷ 32 ∷ []) (line_text row) (IsUtf8-plain (32 ∷ 124 ∷ 32 ∷ []) refl) (row_utf8 kinds row h.0))),
    rows_pass s kinds rows h.2,
  )

  reply_passes : (s : ℕ) (r : Reply A) → RowsFit r → AllPass A (map (λ l. codes "  " ++ l) (reply_lines s r))
  reply_passes s r h = (
    reply_pass (decimal s ++ 32 ∷ tag r) (IsUtf8-append (decimal s) (32 ∷ tag r) (IsUtf8-plain (decimal s) (decimal_plain s)) (IsUtf8-append (32 ∷ []) (tag r) (IsUtf8-plain (32 ∷ []) refl) (IsUtf8-plain (tag r) (tag_plain r)))),
    rows_pass s h.0 (rows_of r) h.1,
  )

  abbrev runs : Action A → Bool
  runs (action.Run q) = true
  runs _ = false

  no_rows : (a : Action A) (rows : List (List (Value A))) (d : Option (Recorded A)) → runs a ≡ false → Suits a (reply.Rows rows) d → ⊥
  no_rows (action.Run q) rows d h k = true≢false h
  no_rows (action.Begin m) rows d h k = k
  no_rows (action.Broken e) rows d h k = k
  no_rows action.Poll rows d h k = k
  no_rows action.Export rows d h k = k
  no_rows (action.Import i) rows d h k = k
  no_rows action.Commit rows d h k = k
  no_rows action.Rollback rows d h k = k
  no_rows action.Prune rows d h k = k

  -- rows answer a statement alone
  rows_of_run : (w : World A) (s : ℕ) (a : Action A) (rows : List (List (Value A))) → runs a ≡ false → reply_in w s a ≡ reply.Rows rows → ⊥
  rows_of_run w s a rows h e = go (current w s) refl e
    where
      go : (o : Option (Txn A)) → current w s ≡ o → reply_of w o a ≡ reply.Rows rows → ⊥
      go None c f = no_rows a rows None h (subst (λ r. Suits a r None) f (suits_idle a None tt))
      go (Some t) c f = no_rows a rows (Some (nothing_but 0 0)) h (subst (λ r. Suits a r (Some (nothing_but 0 0))) f (suits_from w t a (Some (nothing_but 0 0)) tt t.standing (owed_of w s t c).2))

  module _ (o : Opening A) (es gs : List (Record A)) (legal : Legal o gs) (begun : Legal o es) where
    run_fits : (s : ℕ) (q : Statement A) (rows : List (List (Value A))) → IsSmall (reply.Rows rows) → Next (world_of o es) (world_of o gs) (record { session = s; action = action.Run q; reply = reply.Rows rows }) → RowsFit (reply.Rows rows)
    run_fits s q rows small next = shows (shown_by (world_of o es) s q rows (current (world_of o es) s) refl (sym next.answered))
      where
        catalog : (world_of o es).catalog ≡ o.catalog
        catalog = run-catalog (start_of o) es

        selected : (t : Txn A) (k : ℕ) (p : Projection A) (ws : List (Condition A)) → is_sound (world_of o es).catalog t.own ≡ true → q ≡ Select k p ws → rows ≡ shown p (chosen t.own k ws) → RowsFit (reply.Rows rows)
        selected t k p ws sound is same =
            let fit : Fits o.catalog (Select k p ws) = subst (λ z. Fits o.catalog z) is (subst (λ c. Fits c q) catalog next.allowed) in
            let fits = fits_shown o.catalog t.own k p ws (subst (λ c. is_sound c t.own ≡ true) catalog sound) fit (subst (λ z. list_all is_small_row z ≡ true) same small.1) in
            (kinds_shown (columns_of o.catalog k) p, subst (AreShown (kinds_shown (columns_of o.catalog k) p)) (sym same) fits.1)

        shows : (t : Txn A) × (current (world_of o es) s ≡ Some t) × Selects (world_of o es).catalog q t.own rows → RowsFit (reply.Rows rows)
        shows h = selected h.0 h.2.table h.2.projection h.2.conditions (own_sound o es begun h.0 (current_in (world_of o es) s h.0 h.1).0) h.2.is h.2.shows

    event_fits : (s : ℕ) (a : Action A) (rows : List (List (Value A))) → IsSmall (reply.Rows rows) → Next (world_of o es) (world_of o gs) (record { session = s; action = a; reply = reply.Rows rows }) → RowsFit (reply.Rows rows)
    event_fits s (action.Run q) rows small next = run_fits s q rows small next
    event_fits s (action.Begin m) rows small next = absurd (rows_of_run (world_of o es) s (action.Begin m) rows refl (sym next.answered))
    event_fits s (action.Broken e) rows small next = absurd (rows_of_run (world_of o es) s (action.Broken e) rows refl (sym next.answered))
    event_fits s action.Poll rows small next = absurd (rows_of_run (world_of o es) s action.Poll rows refl (sym next.answered))
    event_fits s action.Export rows small next = absurd (rows_of_run (world_of o es) s action.Export rows refl (sym next.answered))
    event_fits s (action.Import i) rows small next = absurd (rows_of_run (world_of o es) s (action.Import i) rows refl (sym next.answered))
    event_fits s action.Commit rows small next = absurd (rows_of_run (world_of o es) s action.Commit rows refl (sym next.answered))
    event_fits s action.Rollback rows small next = absurd (rows_of_run (world_of o es) s action.Rollback rows refl (sym next.answered))
    event_fits s action.Prune rows small next = absurd (rows_of_run (world_of o es) s action.Prune rows refl (sym next.answered))

    rows_fit : (s : ℕ) (a : Action A) (rows : List (List (Value A))) → IsSmall (reply.Rows rows) → After false (world_of o es) (world_of o gs) s a (reply.Rows rows) → RowsFit (reply.Rows rows)
    rows_fit s a rows small (Event next) = event_fits s a rows small next
    rows_fit s a rows small (Refusal_alone h k p) = absurd (true≢false (sym h))

    fit : (s : ℕ) (a : Action A) (r : Reply A) → IsSmall r → After false (world_of o es) (world_of o gs) s a r → RowsFit r
    fit s a (reply.Rows rows) small after = rows_fit s a rows small after
    fit s a _ small after = ([], tt)

    -- ---- one line

    passed_reply : (line : List ℕ) → Lacks 10 line → Pass A (codes "> " ++ line) → (s : ℕ) (r : Reply A) (text : List ℕ) → RowsFit r → text ≡ reply_text s r → Passed A (asked line ++ answered text)
    passed_reply line lacks asking s r text fits is = record {
      parts = (codes "> " ++ line) ∷ map (λ l. codes "  " ++ l) (reply_lines s r);
      is = told_lines line text (reply_lines s r) (is ∙ reply_ended s r) (reply_lack s r);
      lack = (lacks-append 10 (codes "> ") line refl lacks, marked_lack (reply_lines s r) (reply_lack s r));
      pass = (asking, reply_passes s r fits);
    }

    passed_plain : (line : List ℕ) → Lacks 10 line → Pass A (codes "> " ++ line) → (rest text : List ℕ) → IsPlain rest → text ≡ ended_lines (rest ∷ []) → Passed A (asked line ++ answered text)
    passed_plain line lacks asking rest text plain is = record {
      parts = (codes "> " ++ line) ∷ (codes "  " ++ rest) ∷ [];
      is = told_lines line text (rest ∷ []) is (plain_lacks rest plain, tt);
      lack = (lacks-append 10 (codes "> ") line refl lacks, (lacks-append 10 (codes "  ") rest refl (plain_lacks rest plain), tt));
      pass = (asking, (reply_pass rest (IsUtf8-plain rest plain), tt));
    }

    replies_passed : (line : List ℕ) → Lacks 10 line → Pass A (codes "> " ++ line) → (s : ℕ) (a : Action A) (text : List ℕ) → Replies es gs s a text → Passed A (asked line ++ answered text)
    replies_passed line lacks asking s a text h =
        passed_reply line lacks asking s h.0 text (fit s a h.0 h.1 (after_of false o es gs s a h.0 legal (λ k. absurd (true≢false (sym k))) h.2)) h.3

    command_passed : (line : List ℕ) → Lacks 10 line → Pass A (codes "> " ++ line) → (s : ℕ) (d : Command A) (text : List ℕ) → Answers o.catalog es gs s d text → Passed A (asked line ++ answered text)
    command_passed line lacks asking s (command.Ask q) text h = replies_passed line lacks asking s (action_of o.catalog q) text h
    command_passed line lacks asking s command.Wait text h = replies_passed line lacks asking s action.Poll text h
    command_passed line lacks asking s (command.Dump q) text h = dumped h.1
      where
        dumped : (text ≡ done_text s) ⊎ ((e : Refusal) × (text ≡ reply_text {A = A} s (reply.Refused e))) → Passed A (asked line ++ answered text)
        dumped (inl p) =
            passed_plain line lacks asking (decimal s ++ codes " DUMP") text (plain-append (decimal s) (codes " DUMP") (decimal_plain s) refl) (p ∙ sym (append_assoc (decimal s) (codes " DUMP") (codes "\n")))
        dumped (inr p) = passed_reply line lacks asking s (reply.Refused p.0) text ([], tt) p.1

    step_passed : (line : List ℕ) → Lacks 10 line → (t : Step A) (text : List ℕ) → SaysStep line t → IsDone o.catalog es gs t text → Passed A (asked line ++ answered text)
    step_passed line lacks (step.Session s d) text says h =
        let asks = step_asks o.catalog line s d says in
        command_passed line lacks (command_pass line asks.utf8 asks.digit) s d text h
    step_passed line lacks step.Checkpoint text says h = subst (λ l. Passed A (asked l ++ answered text)) (sym says) (checked h.1)
      where
        checked : (text ≡ codes "CHECKPOINT\n") ⊎ ((e : Refusal) × (text ≡ codes "ERROR " ++ sqlstate e.code ++ codes "\n")) → Passed A (asked (codes "CHECKPOINT;") ++ answered text)
        checked (inl p) = passed_plain (codes "CHECKPOINT;") refl checkpoint_pass (codes "CHECKPOINT") text refl p
        checked (inr p) = passed_plain (codes "CHECKPOINT;") refl checkpoint_pass (codes "ERROR " ++ sqlstate p.0.code) text (checkpoint_plain p.0.code) p.1

  -- ---- all lines

  joined_passed : (first second text : List ℕ) → text ≡ first ++ second → Passed A first → Passed A second → Passed A text
  joined_passed first second text is p q = record {
    parts = p.parts ++ q.parts;
    is = is ∙ ap (λ (x : List ℕ). x ++ second) p.is ∙ ap (λ (x : List ℕ). ended_lines p.parts ++ x) q.is ∙ sym (ended_append p.parts q.parts);
    lack = all_lack-append p.parts q.parts p.lack q.lack;
    pass = all_pass-append A p.parts q.parts p.pass q.pass;
  }

  all_passed : (o : Opening A) (ls : List (List ℕ)) → AllLack ls → (more : List (Line A)) (es fs : List (Record A)) (text : List ℕ) → AreDone o.catalog ls es more fs text → AllSay ls more → Legal o fs → Passed A text
  all_passed o ls all [] es fs text h says legal = record { parts = []; is = h.1; lack = tt; pass = tt }
  all_passed o ls all (l ∷ more) es fs text h says legal =
      let after = grows o.catalog ls h.0 fs more h.2 h.4 in
      let legal_then = begun_of o h.0 fs after.0 legal after.1 in
      let whole_growth = grows o.catalog ls es fs (l ∷ more) text h in
      let legal_now = begun_of o es fs whole_growth.0 legal whole_growth.1 in
      joined_passed (asked (line_at ls l.number) ++ answered h.1) h.2 text h.5
      (step_passed o es h.0 legal_then legal_now (line_at ls l.number) (line_lacks ls l.number all) l.step h.1 (says l (inl refl)) h.3)
      (all_passed o ls all more h.0 fs h.2 h.4 (λ k i. says k (inr i)) legal)

  -- the tables that a transcript begins with are those that its script sets
  pub begins_so : (script : List ℕ) (o : Opening A) (es : List (Record A)) (text : List ℕ) → Legal o es → (is : IsTranscript script o es text)
      → (began : Bool) × (opening text ≡ Ok (begun_with is.says.catalog is.says.opens began))
  begins_so script o es text legal is =
      let ls = lines script in
      let all_lack = lines_lack script in
      let tables = tables_begin nothing is.says 1 (slice_split (λ b. eqb b 10) script) 1 is.is_said in
      let rest = all_passed o ls all_lack is.done [] es is.rest is.are_done (λ l i. line_says script is.says is.is_said l (subst (In l) (sym is.are_lines) (In-left (λ (_ : Line A). (0, 0, 0)) l is.done is.left i))) legal in
      let end = passes rest.parts rest.pass is.says.catalog is.says.opens false tables.0 in
      let whole_text : text ≡ ended_lines (table_lines ls ++ rest.parts) =
      is.is_text ∙ ap (λ (t : List ℕ). t ++ is.rest) (tables_lined ls) ∙ ap (λ (t : List ℕ). ended_lines (table_lines ls) ++ t) rest.is ∙ sym (ended_append (table_lines ls) rest.parts) in (
        end.0,
        ap (λ t. without_end (read_text reads_on (start_there {A = A}) t)) whole_text
            ∙ ap without_end
            (text_read reads_on (start_there {A = A}) (table_lines ls ++ rest.parts) (all_lack-append (table_lines ls) rest.parts (tables_lack ls all_lack) rest.lack)
            ∙ read_on reads_on (table_lines ls) rest.parts (start_there {A = A}) (of_said is.says) 1 tables.0 tables.1
            ∙ end.2),
      )
