-- The transcript of a script's run is read as a recording of its history.
use Rattle.std.proofs.Common.{◌≡◌, ◌⊎◌, inl, inr, ℕ, zero, suc, ◌+◌, ◌-◌, ◌<◌, ◌≤◌, Bool, true, false, true≢false, cond, not, ◌||◌, List, [], ◌∷◌, ◌++◌, map, replicate, Option, Some, None, Result, Ok, Err, refl, sym, ap, subst, ◌∙◌, append_assoc, append-nil, arith}
use Rattle.std.specs.Prelude.{codes, slice_get, slice_index}
use Rattle.std.specs.Char.{is_ascii_digit}
use Rattle.std.specs.Fmt.{decimal}
use Rattle.std.specs.List.{cons_option, filter, filter_map, flat_map}
use Rattle.std.specs.List.Sorted.{IsPermutation}
use Rattle.std.specs.Option.{option_map_or}
use Rattle.std.specs.Str.{IsUtf8, bytes_eq}
use Rattle.std.proofs.lemmas.List.{length-replicate}
use Rattle.value.specs.Codes.{refusal_text, sqlstate}
use Rattle.value.specs.declared.refusal.Refusal.{Refusal}
use Rattle.value.proofs.IsolationLemmas.{In}
use Rattle.value.proofs.SerialLemmas.{In-left}
use Rattle.value.proofs.SortLemmas.{sorted-permutes}
use Rattle.schema.specs.Definition.{Catalog}
use Rattle.statement.specs.declared.reply.Reply.{Reply}
use Rattle.statement.specs.declared.reply.Reply.TheVariants as reply
use Rattle.history.specs.Answer.{Legal, is_refused}
use Rattle.history.specs.Events.{start as start_of, world_of}
use Rattle.history.specs.Opening.{Opening}
use Rattle.history.specs.Serial.{committed, in_commit_order}
use Rattle.history.specs.Transactions.{World}
use Rattle.history.specs.declared.event.Action.{Action}
use Rattle.history.specs.declared.event.Action.TheVariants as action
use Rattle.history.specs.declared.event.Record.{Record}
use Rattle.serial.proofs.legal.Histories.{run-catalog}
use Rattle.serial.proofs.legal.Later.{legal_begins}
use Rattle.orders.specs.Explains.{Trace, all_fit}
use Rattle.recording.specs.Traces.{IsRecording}
use Rattle.recording.proofs.ExplainsLemmas.{all_fitting}
use Rattle.recording.proofs.PlacesLemmas.{standing_all}
use Rattle.sqltext.specs.Parsed.{parsed}
use Rattle.statement.specs.declared.statement.Statement.{Statement}
use Rattle.request.specs.Requests.{asked as action_of, spoken}
use Rattle.request.specs.declared.request.Request.{Request}
use Rattle.request.specs.declared.request.Request.TheVariants as request
use Rattle.script.specs.Printing.{done_text, reply_text, tag}
use Rattle.script.specs.Scripts.{is_passed_over}
use Rattle.script.specs.Transcribing.{answered, asked, line_at, lines, sets_tables, table_asked}
use Rattle.script.specs.declared.command.Command.{Command}
use Rattle.script.specs.declared.command.Command.TheVariants as command
use Rattle.script.specs.declared.script.Line.{Line}
use Rattle.script.specs.declared.script.Step.{Step}
use Rattle.script.specs.declared.script.Step.TheVariants as step
use Rattle.transcript.specs.Asking.{asked_by}
use Rattle.transcript.specs.Lines.{read_text}
use Rattle.transcript.specs.Reading.{Named, Read, at_end, name_of, other_asked, replied as replied_alone, session_asks, start, trace_of, traces, traces_of, unanswered, with_kind, with_line}
use Rattle.transcript.specs.Recorded.{Recorded}
use Rattle.transcript.specs.Saying.{in_a_word, is_of_checkpoint, said as said_by}
use Rattle.transcript.specs.Sessions.{answer_to, idle, most_sessions, nothing}
use Rattle.recording.specs.Runs.{Answers, AreDone, AreHeard, Goes, Hears, IsDone, IsTranscript, Replies}
use Rattle.recording.proofs.Names.{Asked, Ended, Said as Said_now, Session, pick}
use Rattle.recording.proofs.AskingLemmas.{Asks, request_same, step_asks}
use Rattle.recording.proofs.CommitLemmas.{by_end}
use Rattle.recording.proofs.CourseLemmas.{Agree, AreToldBy, told_of}
use Rattle.recording.proofs.LinesLemmas.{AllLack, all_lack-append, ended_append, ended_lines, one_read, read_on, read_wrong, text_read}
use Rattle.recording.proofs.ReadingLemmas.{IsIdle, both, both_read, command_kind, comes, read_so, reads, reply_kind, set_same}
use Rattle.recording.proofs.RunLemmas.{Arrived, Done, Place, Stopped, Went, after_of, asked_first, idle_there, marked_lack, reply_done, reply_lack, session_there, told_lines}
use Rattle.recording.proofs.SayingLemmas.{checkpoint_plain, says_refused, error_says, reply_ended, reply_lines, tag_plain}
use Rattle.recording.proofs.ScriptLemmas.{AllUtf8, SaysStep, line_lacks, line_says, lines_lack, tables_utf8}
use Rattle.recording.proofs.SyncLemmas.{InStep}
use Rattle.recording.proofs.TextLemmas.{IsPlain, IsUtf8-plain, Lacks, decimal_plain, lacks-append, plain-append, plain_lacks}
use Rattle.recording.proofs.TurnLemmas.{asks_for, closes_by}

-- ---- the lines of a text, whatever is read of them

abbrev pub table_lines : List (List ℕ) → List (List ℕ)
table_lines ls = map (λ l. codes "> " ++ l) (filter sets_tables ls)

pub tables_lined : (ls : List (List ℕ)) → flat_map table_asked ls ≡ ended_lines (table_lines ls)
tables_lined [] = refl
tables_lined (l ∷ ls) = go (sets_tables l) (tables_lined ls)
  where
    go : (b : Bool) → flat_map table_asked ls ≡ ended_lines (table_lines ls)
        → cond b (asked l) [] ++ flat_map table_asked ls ≡ ended_lines (map (λ m. codes "> " ++ m) (cond b (l ∷ filter sets_tables ls) (filter sets_tables ls)))
    go true rest = ap (λ (t : List ℕ). asked l ++ t) rest ∙ asked_first l (table_lines ls)
    go false rest = rest

pub tables_lack : (ls : List (List ℕ)) → AllLack ls → AllLack (table_lines ls)
tables_lack [] h = tt
tables_lack (l ∷ ls) h = go (sets_tables l) (tables_lack ls h.1)
  where
    go : (b : Bool) → AllLack (table_lines ls) → AllLack (map (λ m. codes "> " ++ m) (cond b (l ∷ filter sets_tables ls) (filter sets_tables ls)))
    go true rest = (lacks-append 10 (codes "> ") l refl h.0, rest)
    go false rest = rest

pub record Lined (text : List ℕ) : Type 0 where
  pub parts : List (List ℕ)
  pub is : text ≡ ended_lines parts
  pub lack : AllLack parts

one_lined : (rest text : List ℕ) → text ≡ ended_lines (rest ∷ []) → IsPlain rest → Lined text
one_lined rest text e plain = record { parts = rest ∷ []; is = e; lack = (plain_lacks rest plain, tt) }

checkpoint_lined : (text : List ℕ) → (text ≡ codes "CHECKPOINT\n") ⊎ ((e : Refusal) × (text ≡ codes "ERROR " ++ sqlstate e.code ++ codes "\n")) → Lined text
checkpoint_lined text (inl p) = one_lined (codes "CHECKPOINT") text p refl
checkpoint_lined text (inr p) = one_lined (codes "ERROR " ++ sqlstate p.0.code) text p.1 (checkpoint_plain p.0.code)

both_lined : (line text : List ℕ) → Lacks 10 line → Lined text → Lined (asked line ++ answered text)
both_lined line text lacks h = record {
  parts = (codes "> " ++ line) ∷ map (λ l. codes "  " ++ l) h.parts;
  is = told_lines line text h.parts h.is h.lack;
  lack = (lacks-append 10 (codes "> ") line refl lacks, marked_lack h.parts h.lack);
}

joined_lined : (first second text : List ℕ) → text ≡ first ++ second → Lined first → Lined second → Lined text
joined_lined first second text is p q = record {
  parts = p.parts ++ q.parts;
  is = is ∙ ap (λ (x : List ℕ). x ++ second) p.is ∙ ap (λ (x : List ℕ). ended_lines p.parts ++ x) q.is ∙ sym (ended_append p.parts q.parts);
  lack = all_lack-append p.parts q.parts p.lack q.lack;
}

-- ---- lines that set tables

neither : (a b c : Bool) → not (a || (b || c)) ≡ true → (b ≡ false) × (c ≡ false)
neither true b c h = absurd (true≢false (sym h))
neither false true c h = absurd (true≢false (sym h))
neither false false true h = absurd (true≢false (sym h))
neither false false false h = (refl, refl)

get_replicate : {X : Type 0} (n i : ℕ) (a x : X) → slice_get (replicate n a) i ≡ Some x → x ≡ a
get_replicate zero i a x e = absurd cc
get_replicate (suc n) zero a x e = let same : a ≡ x = cc in sym same
get_replicate (suc n) (suc i) a x e = get_replicate n i a x e

module _ {A : Type 0} where
  -- ---- later lines

  agree_on : (w : World A) (ss : List (Session A)) (clock : ℕ → ℕ) (n m : ℕ) → n ≤ m → Agree w ss clock n → Agree w ss clock m
  agree_on w ss clock n m l agree = record { idle = agree.idle; drafted = agree.drafted; single = agree.single; steady = agree.steady; below = λ p. let k = agree.below p in omega (arith, k, l); many = agree.many }

  -- ---- a dump, which is no event

  module _ (c : Catalog) (has_time heard : Bool) (w : World A) (line : List ℕ) (s : ℕ) (a : Asked A) (ss : List (Session A)) (begins : List ℕ) (ended : List (Ended A)) (clock : ℕ → ℕ) (n : ℕ) (place : Place c has_time heard w line s a ss ended clock n) where
    -- a reply by which nothing comes to be known
    idle_done : (rest text : List ℕ) (says : Said_now) → text ≡ ended_lines ((decimal s ++ 32 ∷ rest) ∷ []) → IsPlain rest → said_by rest ≡ Some says
        → ((x : Session A) → answer_to s n x says a ≡ nothing x) → Done c has_time heard w (read_so ss begins ended) n (asked line ++ answered text)
    idle_done rest text says is plain e none =
        let x = session_there w s ss clock n place.session place.agree in
        let there : IsIdle c ss s (s - 1) x.0 = idle_there c w s ss clock n x.0 place.session place.agree x.1 in
        let one : Lacks 10 (decimal s ++ 32 ∷ rest) = plain_lacks (decimal s ++ 32 ∷ rest) (plain-append (decimal s) (32 ∷ rest) (decimal_plain s) plain) in
        record {
          parts = both s line rest [];
          is = told_lines line text ((decimal s ++ 32 ∷ rest) ∷ []) is (one, tt);
          lack = (lacks-append 10 (codes "> ") line refl place.lacks, marked_lack ((decimal s ++ 32 ∷ rest) ∷ []) (one, tt));
          went =
              subst (Went has_time heard w)
              (sym (both_read c ss begins ended n s (s - 1) line a x.0 place.asks there rest says [] (read_so ss begins ended) place.session (IsUtf8-plain rest plain) e
              (ap (comes c ss begins ended s (s - 1) (n + 1)) (none x.0) ∙ ap (λ ts. Some (read_so ts begins ended)) (set_same ss (s - 1) x.0 x.1))))
              (Arrived ss begins ended clock (n + 1 + 1) (agree_on w ss clock n (n + 1 + 1) (omega arith) place.agree) place.tells place.step);
        }

  -- ---- a checkpoint

  checkpoint_done : (c : Catalog) (has_time heard : Bool) (w : World A) (ss : List (Session A)) (begins : List ℕ) (ended : List (Ended A)) (clock : ℕ → ℕ) (n : ℕ) (rest text : List ℕ) → Agree w ss clock n → AreToldBy clock (in_commit_order w) (map (trace_of has_time) ended)
      → (heard ≡ true → InStep w ss) → text ≡ ended_lines (rest ∷ []) → IsPlain rest → is_of_checkpoint rest ≡ true → Done c has_time heard w (read_so ss begins ended) n (asked (codes "CHECKPOINT;") ++ answered text)
  checkpoint_done c has_time heard w ss begins ended clock n rest text agree tells in_step is plain of = record {
    parts = (codes "> CHECKPOINT;") ∷ (codes "  " ++ rest) ∷ [];
    is = told_lines (codes "CHECKPOINT;") text (rest ∷ []) is (plain_lacks rest plain, tt);
    lack = (refl, (lacks-append 10 (codes "  ") rest refl (plain_lacks rest plain), tt));
    went =
        subst (Went has_time heard w)
        (sym (one_read (with_line c) (read_so ss begins ended) waits n (codes "> CHECKPOINT;") ((codes "  " ++ rest) ∷ []) first
        ∙ one_read (with_line c) waits (read_so ss begins ended) (n + 1) (codes "  " ++ rest) [] second))
        (Arrived ss begins ended clock (n + 1 + 1) (agree_on w ss clock n (n + 1 + 1) (omega arith) agree) tells in_step);
  }
    where
      waits : Read A
      waits = record { sessions = ss; checkpoints = 1; due = None; begins = begins; ended = ended }

      first : with_line c (read_so ss begins ended) n (codes "> CHECKPOINT;") ≡ Some waits
      first = ap (with_kind c (read_so ss begins ended) n (codes "> CHECKPOINT;")) (command_kind (codes "CHECKPOINT;") (IsUtf8-plain (codes "CHECKPOINT;") refl))

      second : with_line c waits (n + 1) (codes "  " ++ rest) ≡ Some (read_so ss begins ended)
      second =
          ap (with_kind c waits (n + 1) (codes "  " ++ rest)) (reply_kind rest (IsUtf8-plain rest plain))
          ∙ ap (λ b. cond b (Some (read_so ss begins ended)) (replied_alone c waits (n + 1) rest)) of

  -- ---- one line

  module _ (o : Opening A) (has_time heard : Bool) (es gs : List (Record A)) (legal : Legal o gs) (begun : Legal o es) (line : List ℕ) (lacks : Lacks 10 line) (ss : List (Session A)) (begins : List ℕ) (ended : List (Ended A)) (clock : ℕ → ℕ) (n : ℕ)
      (agree : Agree (world_of o es) ss clock n) (tells : AreToldBy clock (in_commit_order (world_of o es)) (map (trace_of has_time) ended)) (in_step : heard ≡ true → InStep (world_of o es) ss) where
    abbrev DoneAs : List ℕ → Type 0
    DoneAs text = Done o.catalog has_time heard (world_of o gs) (read_so ss begins ended) n (asked line ++ answered text)

    placed : (s : ℕ) (d : Command A) (a : Asked A) → Asks o.catalog line s d → asked_by o.catalog d ≡ a → Place o.catalog has_time heard (world_of o es) line s a ss ended clock n
    placed s d a asks same = record {
      asks = record { utf8 = asks.utf8; digit = asks.digit; asks = asks.asks ∙ ap (λ b. Some (s, b)) same };
      session = asks.session;
      lacks = lacks;
      agree = agree;
      tells = tells;
      step = in_step;
    }

    -- where all are heard, no refusal without an event closes a transaction
    abbrev Hearing : Action A → Type 0
    Hearing a = (r : Reply A) → heard ≡ true → gs ≡ es → is_refused r ≡ true → closes_by a r ≡ false

    not_rolled_back : (r : Reply A) → is_refused r ≡ true → closes_by action.Rollback r ≡ false
    not_rolled_back (reply.Refused e) h = refl
    not_rolled_back _ h = absurd (true≢false (sym h))

    spoken_open : (p : Result (Statement A) Refusal) (r : Reply A) → closes_by (spoken p) r ≡ false
    spoken_open (Ok q) r = refl
    spoken_open (Err e) r = refl

    hearing : (s : ℕ) (q : Request A) → (heard ≡ true → Hears es gs (step.Session s (command.Ask q))) → Hearing (action_of o.catalog q)
    hearing s (request.Begin m) hears r k e h = refl
    hearing s (request.Sql text) hears r k e h = spoken_open (parsed o.catalog text) r
    hearing s request.Poll hears r k e h = refl
    hearing s request.Export hears r k e h = refl
    hearing s (request.Import j) hears r k e h = refl
    hearing s request.Commit hears r k e h = absurd (hears k e)
    hearing s request.Rollback hears r k e h = not_rolled_back r h
    hearing s request.Prune hears r k e h = refl

    replied : (s : ℕ) (d : Command A) (a : Action A) (text : List ℕ) → Hearing a → Asks o.catalog line s d → asked_by o.catalog d ≡ asks_for a → Replies es gs s a text → DoneAs text
    replied s d a text hears asks same h =
        subst DoneAs (sym h.3) (reply_done o has_time heard es gs legal begun line s ss begins ended clock n a h.0 (after_of heard o es gs s a h.0 legal (hears h.0) h.2) h.1 (placed s d (asks_for a) asks same))

    command_done : (s : ℕ) (d : Command A) (text : List ℕ) → (heard ≡ true → Hears es gs (step.Session s d)) → Asks o.catalog line s d → Answers o.catalog es gs s d text → DoneAs text
    command_done s (command.Ask q) text hears asks h = replied s (command.Ask q) (action_of o.catalog q) text (hearing s q hears) asks (request_same o.catalog q) h
    command_done s command.Wait text hears asks h = replied s command.Wait action.Poll text (λ r k e g. refl) asks refl h
    command_done s (command.Dump q) text hears asks h = subst (λ fs. Done o.catalog has_time heard (world_of o fs) (read_so ss begins ended) n (asked line ++ answered text)) (sym h.0) (dumped h.1)
      where
        place : Place o.catalog has_time heard (world_of o es) line s (asked_by o.catalog (command.Dump q)) ss ended clock n
        place = placed s (command.Dump q) (asked_by o.catalog (command.Dump q)) asks refl

        dumped : (text ≡ done_text s) ⊎ ((e : Refusal) × (text ≡ reply_text {A = A} s (reply.Refused e))) → Done o.catalog has_time heard (world_of o es) (read_so ss begins ended) n (asked line ++ answered text)
        dumped (inl p) =
            idle_done o.catalog has_time heard (world_of o es) line s (asked_by o.catalog (command.Dump q)) ss begins ended clock n place (codes "DUMP") text (pick (in_a_word (codes "DUMP")) refl)
            (p ∙ sym (append_assoc (decimal s) (codes " DUMP") (codes "\n"))) refl refl (λ x. refl)
        dumped (inr p) =
            idle_done o.catalog has_time heard (world_of o es) line s (asked_by o.catalog (command.Dump q)) ss begins ended clock n place (tag {A = A} (reply.Refused p.0)) text says_refused
            (p.1 ∙ reply_ended {A = A} s (reply.Refused p.0)) (tag_plain {A = A} (reply.Refused p.0)) (error_says (refusal_text p.0)) (λ x. refl)

    pub step_done : (t : Step A) (text : List ℕ) → (heard ≡ true → Hears es gs t) → SaysStep line t → IsDone o.catalog es gs t text → DoneAs text
    step_done (step.Session s d) text hears says h = command_done s d text hears (step_asks o.catalog line s d says) h
    step_done step.Checkpoint text hears says h =
        subst (λ fs. Done o.catalog has_time heard (world_of o fs) (read_so ss begins ended) n (asked line ++ answered text)) (sym h.0)
        (subst (λ l. Done o.catalog has_time heard (world_of o es) (read_so ss begins ended) n (asked l ++ answered text)) (sym says) (passed h.1))
      where
        passed : (text ≡ codes "CHECKPOINT\n") ⊎ ((e : Refusal) × (text ≡ codes "ERROR " ++ sqlstate e.code ++ codes "\n")) → Done o.catalog has_time heard (world_of o es) (read_so ss begins ended) n (asked (codes "CHECKPOINT;") ++ answered text)
        passed (inl p) = checkpoint_done o.catalog has_time heard (world_of o es) ss begins ended clock n (codes "CHECKPOINT") text agree tells in_step p refl refl
        passed (inr p) = checkpoint_done o.catalog has_time heard (world_of o es) ss begins ended clock n (codes "ERROR " ++ sqlstate p.0.code) text agree tells in_step p.1 (checkpoint_plain p.0.code) refl

  -- ---- all lines

  pub grows : (c : Catalog) (ls : List (List ℕ)) (es fs : List (Record A)) (more : List (Line A)) (text : List ℕ) → AreDone c ls es more fs text → (rest : List (Record A)) × (fs ≡ es ++ rest)
  grows c ls es fs [] text h = ([], h.0 ∙ sym (append-nil es))
  grows c ls es fs (l ∷ more) text h =
      let next = grows c ls h.0 fs more h.2 h.4 in
      let first = one c es h.0 l.step h.1 h.3 in
      (first.0 ++ next.0, next.1 ∙ ap (λ (x : List (Record A)). x ++ next.0) first.1 ∙ append_assoc es first.0 next.0)
    where
      same : (es gs : List (Record A)) → gs ≡ es → (rest : List (Record A)) × (gs ≡ es ++ rest)
      same es gs e = ([], e ∙ sym (append-nil es))

      goes : (es gs : List (Record A)) (s : ℕ) (a : Action A) (r : Reply A) → Goes es gs s a r → (rest : List (Record A)) × (gs ≡ es ++ rest)
      goes es gs s a r (inl e) = (record { session = s; action = a; reply = r } ∷ [], e)
      goes es gs s a r (inr e) = same es gs e.1

      one : (c : Catalog) (es gs : List (Record A)) (t : Step A) (reply : List ℕ) → IsDone c es gs t reply → (rest : List (Record A)) × (gs ≡ es ++ rest)
      one c es gs (step.Session s (command.Ask q)) reply d = goes es gs s (action_of c q) d.0 d.2
      one c es gs (step.Session s command.Wait) reply d = goes es gs s action.Poll d.0 d.2
      one c es gs (step.Session s (command.Dump q)) reply d = same es gs d.0
      one c es gs step.Checkpoint reply d = same es gs d.0

  abbrev pub AllSay : List (List ℕ) → List (Line A) → Type 0
  AllSay ls more = (l : Line A) → In l more → SaysStep (line_at ls l.number) l.step

  reply_lined : (s : ℕ) (r : Reply A) (text : List ℕ) → text ≡ reply_text s r → Lined text
  reply_lined s r text e = record { parts = reply_lines s r; is = e ∙ reply_ended s r; lack = reply_lack s r }

  dump_lined : (s : ℕ) (text : List ℕ) → (r : Reply A) → (text ≡ done_text s) ⊎ (text ≡ reply_text s r) → Lined text
  dump_lined s text r (inl p) =
      one_lined (decimal s ++ codes " DUMP") text (p ∙ sym (append_assoc (decimal s) (codes " DUMP") (codes "\n"))) (plain-append (decimal s) (codes " DUMP") (decimal_plain s) refl)
  dump_lined s text r (inr p) = reply_lined s r text p

  step_lined : (c : Catalog) (es gs : List (Record A)) (t : Step A) (text : List ℕ) → IsDone c es gs t text → Lined text
  step_lined c es gs (step.Session s (command.Ask q)) text d = reply_lined s d.0 text d.3
  step_lined c es gs (step.Session s command.Wait) text d = reply_lined s d.0 text d.3
  step_lined c es gs (step.Session s (command.Dump q)) text d = dumped d.1
    where
      dumped : (text ≡ done_text s) ⊎ ((e : Refusal) × (text ≡ reply_text {A = A} s (reply.Refused e))) → Lined text
      dumped (inl p) = dump_lined s text reply.Begun (inl p)
      dumped (inr p) = dump_lined s text (reply.Refused p.0) (inr p.1)
  step_lined c es gs step.Checkpoint text d = checkpoint_lined text d.1

  all_lined : (c : Catalog) (ls : List (List ℕ)) → AllLack ls → (es fs : List (Record A)) (more : List (Line A)) (text : List ℕ) → AreDone c ls es more fs text → Lined text
  all_lined c ls all es fs [] text h = record { parts = []; is = h.1; lack = tt }
  all_lined c ls all es fs (l ∷ more) text h =
      joined_lined (asked (line_at ls l.number) ++ answered h.1) h.2 text h.5
      (both_lined (line_at ls l.number) h.1 (line_lacks ls l.number all) (step_lined c es h.0 l.step h.1 h.3))
      (all_lined c ls all h.0 fs more h.2 h.4)

  -- ---- one text after another

  -- what is known of a text after which reading has come so far
  abbrev From : Catalog → Bool → Bool → World A → World A → List ℕ → Type 0
  From c has_time heard w v text = (ss : List (Session A)) (begins : List ℕ) (ended : List (Ended A)) (clock : ℕ → ℕ) (m : ℕ) → Agree w ss clock m → AreToldBy clock (in_commit_order w) (map (trace_of has_time) ended) → (heard ≡ true → InStep w ss)
      → Done c has_time heard v (read_so ss begins ended) m text

  joined : (c : Catalog) (has_time heard : Bool) (v : World A) (r : Read A) (n : ℕ) (first second text : List ℕ) → text ≡ first ++ second → (p : Lined first) (q : Lined second) → Went has_time heard v (reads c r n (p.parts ++ q.parts)) → Done c has_time heard v r n text
  unfolding joined_lined
  joined c has_time heard v r n first second text is p q went =
      let all = joined_lined first second text is p q in
      record { parts = p.parts ++ q.parts; is = all.is; lack = all.lack; went = went }

  joins : (c : Catalog) (has_time heard : Bool) (w v : World A) (r : Read A) (n : ℕ) (first second text : List ℕ) → text ≡ first ++ second → (p : Lined first) → Lined second → From c has_time heard w v second
      → (result : Result (Read A × ℕ) ℕ) → reads c r n p.parts ≡ result → Went has_time heard w result → Done c has_time heard v r n text
  joins c has_time heard w v r n first second text is p q from result e (Stopped unheard k) =
      joined c has_time heard v r n first second text is p q (subst (Went has_time heard v) (sym (read_wrong (with_line c) p.parts q.parts r n k e)) (Stopped unheard k))
  joins c has_time heard w v r n first second text is p q from result e (Arrived ss begins ended clock m agree tells in_step) =
      let next = from ss begins ended clock m agree tells in_step in
      joined c has_time heard v r n first second text is p (record { parts = next.parts; is = next.is; lack = next.lack })
      (subst (Went has_time heard v) (sym (read_on (with_line c) p.parts next.parts r (read_so ss begins ended) n m e)) next.went)

  -- ---- from where reading has come to, the rest of the lines

  pub begun_of : (o : Opening A) (es fs rest : List (Record A)) → Legal o fs → fs ≡ es ++ rest → Legal o es
  begun_of o es fs rest legal e = legal_begins o es rest (subst (Legal o) e legal)

  run_done : (o : Opening A) (has_time heard : Bool) (ls : List (List ℕ)) → AllLack ls → (more : List (Line A)) (es fs : List (Record A)) (text : List ℕ) (h : AreDone o.catalog ls es more fs text) → (heard ≡ true → AreHeard o.catalog ls es more fs text h) → AllSay ls more → Legal o fs
      → From o.catalog has_time heard (world_of o es) (world_of o fs) text
  run_done o has_time heard ls all [] es fs text h hears says legal ss begins ended clock n agree tells in_step = record {
    parts = [];
    is = h.1;
    lack = tt;
    went = subst (λ gs. Went has_time heard (world_of o gs) (Ok (read_so ss begins ended, n))) (sym h.0) (Arrived ss begins ended clock n agree tells in_step);
  }
  run_done o has_time heard ls all (l ∷ more) es fs text h hears says legal ss begins ended clock n agree tells in_step =
      let after = grows o.catalog ls h.0 fs more h.2 h.4 in
      let legal_then = begun_of o h.0 fs after.0 legal after.1 in
      let whole_growth = grows o.catalog ls es fs (l ∷ more) text h in
      let legal_now = begun_of o es fs whole_growth.0 legal whole_growth.1 in
      let one = step_done o has_time heard es h.0 legal_then legal_now (line_at ls l.number) (line_lacks ls l.number all) ss begins ended clock n agree tells in_step l.step h.1 (λ k. (hears k).0) (says l (inl refl)) h.3 in
      joins o.catalog has_time heard (world_of o h.0) (world_of o fs) (read_so ss begins ended) n (asked (line_at ls l.number) ++ answered h.1) h.2 text h.5
      (record { parts = one.parts; is = one.is; lack = one.lack }) (all_lined o.catalog ls all h.0 fs more h.2 h.4)
      (run_done o has_time heard ls all more h.0 fs h.2 h.4 (λ k. (hears k).1) (λ k i. says k (inr i)) legal)
      (reads o.catalog (read_so ss begins ended) n one.parts) refl one.went

  -- ---- lines that set tables

  table_read : (c : Catalog) (n : ℕ) (line : List ℕ) → sets_tables line ≡ true → IsUtf8 line → with_line c (start {A = A}) n (codes "> " ++ line) ≡ Some start
  table_read c n line h u =
      let p = neither (is_passed_over line) (is_ascii_digit (slice_index line 0)) (bytes_eq line (codes "CHECKPOINT;")) h in
      ap (with_kind c (start {A = A}) n (codes "> " ++ line)) (command_kind line u)
      ∙ ap (λ b. cond b (session_asks c (start {A = A}) n line) (Some (other_asked start line))) p.0
      ∙ ap (λ b. Some (cond b (record (start {A = A}) { checkpoints = (start {A = A}).checkpoints + 1 }) start)) p.1

  tables_read : (c : Catalog) (ls : List (List ℕ)) → AllUtf8 ls → (n : ℕ) → 0 < n → (m : ℕ) × (0 < m) × (reads c (start {A = A}) n (table_lines ls) ≡ Ok (start, m))
  tables_read c [] h n l = (n, l, refl)
  tables_read c (line ∷ ls) h n l = go (sets_tables line) refl (tables_read c ls h.1 n l) (tables_read c ls h.1 (n + 1) (omega (arith, l)))
    where
      go : (b : Bool) → sets_tables line ≡ b → (m : ℕ) × (0 < m) × (reads c (start {A = A}) n (table_lines ls) ≡ Ok (start, m)) → (m : ℕ) × (0 < m) × (reads c (start {A = A}) (n + 1) (table_lines ls) ≡ Ok (start, m))
          → (m : ℕ) × (0 < m) × (reads c (start {A = A}) n (map (λ k. codes "> " ++ k) (cond b (line ∷ filter sets_tables ls) (filter sets_tables ls))) ≡ Ok (start, m))
      go true e same next = (next.0, next.1, one_read (with_line c) (start {A = A}) start n (codes "> " ++ line) (table_lines ls) (table_read c n line e (h.0 e)) ∙ next.2)
      go false e same next = same

  -- ---- before all lines

  agree_first : (o : Opening A) (m : ℕ) → 0 < m → Agree (world_of o []) (replicate most_sessions idle) (λ p. 0) m
  agree_first o m l = record {
    idle = λ i x e. ap (λ (y : Session A). y.pending) (get_replicate most_sessions i idle x e);
    drafted = λ i x d t e f k. absurd k;
    single = λ t u i. absurd i;
    steady = λ p q k. omega arith;
    below = λ p. l;
    many = length-replicate most_sessions (idle {A = A});
  }

  in_step_first : (o : Opening A) → InStep (world_of o []) (replicate most_sessions idle)
  in_step_first o = record {
    none = λ i x t e f k. absurd k;
    some = λ i x d e f. absurd (never x d (get_replicate most_sessions i idle x e) f);
  }
    where
      never : (x : Session A) (d : Recorded A) → x ≡ idle → x.draft ≡ Some d → ⊥
      never x d p f = let none : None ≡ Some d = sym (ap (λ (y : Session A). y.draft) p) ∙ f in absurd cc

  -- ---- at the end

  none_unanswered : (ss : List (Session A)) → ((i : ℕ) (x : Session A) → slice_get ss i ≡ Some x → x.pending ≡ None) → filter_map unanswered ss ≡ []
  none_unanswered [] h = refl
  none_unanswered (x ∷ ss) h =
      ap (λ p. cons_option (unanswered (record x { pending = p })) (filter_map unanswered ss)) (h 0 x refl) ∙ none_unanswered ss (λ i y e. h (suc i) y e)

  module _ (o : Opening A) (es : List (Record A)) (has_time : Bool) (ss : List (Session A)) (begins : List ℕ) (ended : List (Ended A)) (clock : ℕ → ℕ) (m : ℕ) (agree : Agree (world_of o es) ss clock m)
      (tells : AreToldBy clock (in_commit_order (world_of o es)) (map (trace_of has_time) ended)) where
    -- the transactions, and their names
    abbrev all : List (Trace A)
    all = map (trace_of has_time) (ended ++ filter_map unanswered ss)

    abbrev all_names : List Named
    all_names = map (name_of begins) (ended ++ filter_map unanswered ss)

    only : all ≡ map (trace_of has_time) ended
    only = ap (λ us. map (trace_of has_time) (ended ++ us)) (none_unanswered ss agree.idle) ∙ ap (map (trace_of has_time)) (append-nil ended)

    recording_all : IsRecording (world_of o es) all
    recording_all = record {
      clock = clock;
      steady = agree.steady;
      told = map Some (in_commit_order (world_of o es));
      each_once = subst (IsPermutation (committed (world_of o es))) (sym (standing_all (in_commit_order (world_of o es)))) (sorted-permutes by_end (committed (world_of o es)));
      each = told_of (world_of o es).catalog clock (in_commit_order (world_of o es)) all (subst (AreToldBy clock (in_commit_order (world_of o es))) (sym only) tells);
    }

    recorded_so : (c : Catalog) (ts : List (Trace A)) (names : List Named) → traces_of c has_time (read_so ss begins ended) ≡ Some (ts, names) → IsRecording (world_of o es) ts
    unfolding traces_of
    recorded_so c ts names e = subst (IsRecording (world_of o es)) (go (all_fit c all) e) recording_all
      where
        go : (b : Bool) → cond {A = Option (List (Trace A) × List Named)} b (Some (all, all_names)) None ≡ Some (ts, names) → all ≡ ts
        go false f = absurd cc
        go true f =
            let given : List (Trace A) × List Named = (all, all_names) in
            let wanted : List (Trace A) × List Named = (ts, names) in
            let same : given ≡ wanted = cc in
            ap (λ (p : List (Trace A) × List Named). p.0) same

    -- all statements fit
    read_so_far : Legal o es → traces_of o.catalog has_time (read_so ss begins ended) ≡ Some (all, all_names)
    unfolding traces_of
    read_so_far legal =
        ap (λ b. cond {A = Option (List (Trace A) × List Named)} b (Some (all, all_names)) None)
        (subst (λ c. all_fit c all ≡ true) (run-catalog (start_of o) es) (all_fitting o es legal all recording_all))

  recorded : (o : Opening A) (es : List (Record A)) (has_time heard : Bool) (result : Result (Read A × ℕ) ℕ) → Went has_time heard (world_of o es) result → (ts : List (Trace A)) (names : List Named) → at_end o.catalog has_time result ≡ Ok (ts, names)
      → IsRecording (world_of o es) ts
  recorded o es has_time heard result (Stopped unheard k) ts names e = absurd cc
  recorded o es has_time heard result (Arrived ss begins ended clock m agree tells in_step) ts names e = go (traces_of o.catalog has_time (read_so ss begins ended)) refl e
    where
      go : (p : Option (List (Trace A) × List Named)) → traces_of o.catalog has_time (read_so ss begins ended) ≡ p → option_map_or Ok p (Err m) ≡ Ok (ts, names) → IsRecording (world_of o es) ts
      go None f g = absurd cc
      go (Some p) f g =
          let same : p ≡ (ts, names) = cc in
          recorded_so o es has_time ss begins ended clock m agree tells o.catalog ts names (f ∙ ap (λ (q : List (Trace A) × List Named). Some q) same)

  -- what reading gives
  abbrev Gives : Opening A → Bool → Result (Read A × ℕ) ℕ → Type 0
  Gives o has_time result = (ts : List (Trace A)) × (names : List Named) × (at_end o.catalog has_time result ≡ Ok (ts, names))

  given : (o : Opening A) (es : List (Record A)) (has_time : Bool) → Legal o es → (result : Result (Read A × ℕ) ℕ) → Went has_time true (world_of o es) result → Gives o has_time result
  given o es has_time legal result (Stopped unheard k) = absurd (true≢false unheard)
  given o es has_time legal result (Arrived ss begins ended clock m agree tells in_step) = (
    all o es has_time ss begins ended clock m agree tells,
    all_names o es has_time ss begins ended clock m agree tells,
    ap (λ p. option_map_or Ok p (Err m)) (read_so_far o es has_time ss begins ended clock m agree tells legal),
  )

  -- ---- the whole transcript

  -- What reading comes to.
  record Read_whole (o : Opening A) (es : List (Record A)) (text : List ℕ) (has_time heard : Bool) : Type 0 where
    result : Result (Read A × ℕ) ℕ
    is : read_text (with_line o.catalog) (start {A = A}) text ≡ result
    went : Went has_time heard (world_of o es) result

  read_whole : (script : List ℕ) (o : Opening A) (es : List (Record A)) (text : List ℕ) (has_time heard : Bool) → Legal o es → (is : IsTranscript script o es text)
      → (heard ≡ true → AreHeard o.catalog (lines script) [] is.done es is.rest is.are_done) → Read_whole o es text has_time heard
  read_whole script o es text has_time heard legal is hears =
      let ls = lines script in
      let all_lack = lines_lack script in
      let tables = tables_read o.catalog ls (tables_utf8 script is.says is.is_said) 1 (omega arith) in
      let rest = run_done o has_time heard ls all_lack is.done [] es is.rest is.are_done hears (λ l i. line_says script is.says is.is_said l (subst (In l) (sym is.are_lines) (In-left (λ (_ : Line A). (0, 0, 0)) l is.done is.left i))) legal (replicate most_sessions idle) [] [] (λ p. 0) tables.0 (agree_first o tables.0 tables.1) tt (λ k. in_step_first o) in
      let whole_text : text ≡ ended_lines (table_lines ls ++ rest.parts) =
      is.is_text ∙ ap (λ (t : List ℕ). t ++ is.rest) (tables_lined ls) ∙ ap (λ (t : List ℕ). ended_lines (table_lines ls) ++ t) rest.is ∙ sym (ended_append (table_lines ls) rest.parts) in
      record {
        result = reads o.catalog (start {A = A}) tables.0 rest.parts;
        is =
            ap (read_text (with_line o.catalog) (start {A = A})) whole_text
            ∙ text_read (with_line o.catalog) (start {A = A}) (table_lines ls ++ rest.parts) (all_lack-append (table_lines ls) rest.parts (tables_lack ls all_lack) rest.lack)
            ∙ read_on (with_line o.catalog) (table_lines ls) rest.parts (start {A = A}) start 1 tables.0 tables.2;
        went = rest.went;
      }

  -- what a transcript of a legal history is read as is a recording of it
  pub is_recording : (script : List ℕ) (o : Opening A) (es : List (Record A)) (text : List ℕ) (has_time : Bool) (ts : List (Trace A)) (names : List Named) → Legal o es → IsTranscript script o es text → traces o.catalog has_time text ≡ Ok (ts, names)
      → IsRecording (world_of o es) ts
  is_recording script o es text has_time ts names legal is e =
      let read = read_whole script o es text has_time false legal is (λ k. absurd (true≢false (sym k))) in
      recorded o es has_time false read.result read.went ts names (sym (ap (at_end o.catalog has_time) read.is) ∙ e)

  -- it is read, where each COMMIT was an event
  pub is_read : (script : List ℕ) (o : Opening A) (es : List (Record A)) (text : List ℕ) (has_time : Bool) → Legal o es → (is : IsTranscript script o es text)
      → AreHeard o.catalog (lines script) [] is.done es is.rest is.are_done → (ts : List (Trace A)) × (names : List Named) × (traces o.catalog has_time text ≡ Ok (ts, names))
  is_read script o es text has_time legal is hears =
      let read = read_whole script o es text has_time true legal is (λ k. hears) in
      let gives = given o es has_time legal read.result read.went in
      (gives.0, gives.1, ap (at_end o.catalog has_time) read.is ∙ gives.2)
