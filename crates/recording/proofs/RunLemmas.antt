-- A line that is done, and its reply: what is read of them agrees with the history.
use Rattle.std.proofs.Common.{◌≡◌, ◌⊎◌, inl, inr, ℕ, zero, suc, ◌+◌, ◌-◌, ◌<◌, ◌≤◌, Bool, true, false, true≢false, List, [], ◌∷◌, ◌++◌, length, map, set, Option, Some, None, is_some, Result, Ok, Err, refl, sym, ap, subst, ◌∙◌, append_assoc, arith}
use Rattle.std.specs.Prelude.{codes, slice_get}
use Rattle.std.specs.Fmt.{decimal}
use Rattle.std.specs.List.{flat_map, list_all}
use Rattle.value.specs.declared.value.Value.{Value}
use Rattle.schema.specs.Definition.{Catalog, columns_of}
use Rattle.schema.specs.Plain.{is_sound}
use Rattle.statement.specs.Conditions.{chosen}
use Rattle.statement.specs.Evaluation.{shown}
use Rattle.statement.specs.Fits.{Fits}
use Rattle.statement.specs.declared.reply.Reply.{Reply}
use Rattle.statement.specs.declared.reply.Reply.TheVariants as reply
use Rattle.statement.specs.declared.condition.Condition.{Condition}
use Rattle.statement.specs.declared.statement.Projection.{Projection}
use Rattle.statement.specs.declared.statement.Statement.{Statement}
use Rattle.statement.specs.declared.statement.Statement.TheVariants.{Select}
use Rattle.history.specs.Answer.{Legal, is_refused, reply_in}
use Rattle.history.specs.Events.{start, world_of}
use Rattle.history.specs.Opening.{Opening}
use Rattle.history.specs.Serial.{in_commit_order}
use Rattle.history.specs.Transactions.{Txn, World, current}
use Rattle.history.specs.declared.event.Action.{Action}
use Rattle.history.specs.declared.event.Action.TheVariants as action
use Rattle.history.specs.declared.event.Record.{Record}
use Rattle.serial.proofs.legal.AlwaysSound.{own_sound}
use Rattle.serial.proofs.legal.Histories.{run-catalog}
use Rattle.serial.proofs.legal.Legal.{current_in}
use Rattle.copytext.specs.Writing.{line_text}
use Rattle.script.specs.Printing.{reply_text, tag}
use Rattle.script.specs.Transcribing.{answered, asked, lines, marked}
use Rattle.transcript.specs.Reading.{Read, kinds_shown, trace_of}
use Rattle.transcript.specs.Sessions.{answer_to, most_sessions, recorded_of, with_draft, one_more}
use Rattle.transcript.specs.Recorded.{Recorded}
use Rattle.recording.specs.Runs.{Goes as GoesOn, IsSmall, is_small_row}
use Rattle.recording.proofs.Names.{Asked, Ended, Session}
use Rattle.recording.proofs.CourseLemmas.{Agree, AreToldBy, Next, agree_still, agree_then, later, next_of, told_more, told_then}
use Rattle.recording.proofs.LinesLemmas.{AllLack, ended_lines, lines_ended, marked_lines}
use Rattle.recording.proofs.ReadingLemmas.{AreShown, Come, IsAsked, IsIdle, both, both_read, both_wrong, comes, marked_rows, read_so, reads}
use Rattle.recording.proofs.RowLemmas.{row_lacks}
use Rattle.recording.proofs.SayingLemmas.{IsSession, reply_ended, reply_lines, rows_of, said_of, shown_line, tag_plain, tag_says}
use Rattle.recording.proofs.SelectLemmas.{select_read, told}
use Rattle.recording.proofs.ShownLemmas.{Selects, fits_shown, shown_by}
use Rattle.recording.proofs.SyncLemmas.{InStep, IsThere, Suits, in_step_still, in_step_then, present, suits}
use Rattle.recording.proofs.TextLemmas.{IsUtf8-plain, Lacks, decimal_plain, lacks-append, plain-append, plain_lacks}
use Rattle.recording.proofs.TurnLemmas.{Came, Ends, Goes, Lacks as Missing, Turn, are_rows, asks_for, closes_by, commits_by, statement_turn, turn}

-- what isn't so isn't heard
stops : (b : Bool) → (b ≡ true → false ≡ true) → b ≡ false
stops false f = refl
stops true f = absurd (true≢false (sym (f refl)))

-- ---- a command's line and the lines of its reply

answered_lines : (reply : List ℕ) (ls : List (List ℕ)) → reply ≡ ended_lines ls → AllLack ls → answered reply ≡ ended_lines (map (λ l. codes "  " ++ l) ls)
answered_lines reply ls is lack =
    ap (λ t. flat_map (marked (codes "  ")) (lines t)) is
    ∙ ap (flat_map (marked (codes "  "))) (lines_ended ls lack)
    ∙ marked_lines (codes "  ") ls

pub asked_first : (line : List ℕ) (ms : List (List ℕ)) → asked line ++ ended_lines ms ≡ ended_lines ((codes "> " ++ line) ∷ ms)
asked_first line ms =
    ap (λ (t : List ℕ). t ++ ended_lines ms) (sym (append_assoc (codes "> ") line (codes "\n")))
    ∙ append_assoc (codes "> " ++ line) (codes "\n") (ended_lines ms)

pub told_lines : (line reply : List ℕ) (ls : List (List ℕ)) → reply ≡ ended_lines ls → AllLack ls → asked line ++ answered reply ≡ ended_lines ((codes "> " ++ line) ∷ map (λ l. codes "  " ++ l) ls)
told_lines line reply ls is lack = ap (λ (t : List ℕ). asked line ++ t) (answered_lines reply ls is lack) ∙ asked_first line (map (λ l. codes "  " ++ l) ls)

pub marked_lack : (ls : List (List ℕ)) → AllLack ls → AllLack (map (λ l. codes "  " ++ l) ls)
marked_lack [] h = tt
marked_lack (l ∷ ls) h = (lacks-append 10 (codes "  ") l refl h.0, marked_lack ls h.1)

pub some_at : {X : Type 0} (xs : List X) (i : ℕ) → i < length xs → (x : X) × (slice_get xs i ≡ Some x)
some_at [] i l = absurd (omega (arith, l))
some_at (x ∷ xs) zero l = (x, refl)
some_at (x ∷ xs) (suc i) l = some_at xs i (omega (arith, l))

-- a transcript has more sessions than a script
more_than_scripts : 64 < most_sessions
unfolding most_sessions
more_than_scripts = omega arith

number_of : (s : ℕ) → IsSession s → s ≡ suc (s - 1)
number_of s h = let l : 0 < s = h.low in omega (arith, l)

module _ {A : Type 0} where
  first_lacks : (s : ℕ) (r : Reply A) → Lacks 10 (decimal s ++ 32 ∷ tag r)
  first_lacks s r = plain_lacks (decimal s ++ 32 ∷ tag r) (plain-append (decimal s) (32 ∷ tag r) (decimal_plain s) (tag_plain r))

  rows_lack : (s : ℕ) (rows : List (List (Value A))) → AllLack (map (shown_line s) rows)
  rows_lack s [] = tt
  rows_lack s (row ∷ rows) = (lacks-append 10 (decimal s) (32 ∷ 124 ∷ 32 ∷ line_text row) (plain_lacks (decimal s) (decimal_plain s)) (row_lacks row), rows_lack s rows)

  pub reply_lack : (s : ℕ) (r : Reply A) → AllLack (reply_lines s r)
  reply_lack s r = (first_lacks s r, rows_lack s (rows_of r))

  -- ---- where reading comes to

  -- Reading has come to sessions and transactions that agree with the world; or a line may not stand where it stands.
  pub data Went (has_time heard : Bool) (w : World A) : Result (Read A × ℕ) ℕ → Type 0 where
    Stopped : heard ≡ false → (k : ℕ) → Went has_time heard w (Err k)
    Arrived : (ss : List (Session A)) (begins : List ℕ) (ended : List (Ended A)) (clock : ℕ → ℕ) (m : ℕ) → Agree w ss clock m → AreToldBy clock (in_commit_order w) (map (trace_of has_time) ended)
        → (heard ≡ true → InStep w ss) → Went has_time heard w (Ok (read_so ss begins ended, m))

  -- The text has these lines, and reading them from r on has come to that.
  pub record Done (c : Catalog) (has_time heard : Bool) (w : World A) (r : Read A) (n : ℕ) (text : List ℕ) : Type 0 where
    pub parts : List (List ℕ)
    pub is : text ≡ ended_lines parts
    pub lack : AllLack parts
    pub went : Went has_time heard w (reads c r n parts)

  -- the world after what session s was answered; where all are heard, no refusal without an event closes a transaction
  pub data After (heard : Bool) (w v : World A) (s : ℕ) (a : Action A) (r : Reply A) : Type 0 where
    Event : Next w v (record { session = s; action = a; reply = r }) → After heard w v s a r
    Refusal_alone : is_refused r ≡ true → (heard ≡ true → closes_by a r ≡ false) → v ≡ w → After heard w v s a r

  pub after_of : (heard : Bool) (o : Opening A) (es gs : List (Record A)) (s : ℕ) (a : Action A) (r : Reply A) → Legal o gs → (heard ≡ true → gs ≡ es → is_refused r ≡ true → closes_by a r ≡ false) → GoesOn es gs s a r
      → After heard (world_of o es) (world_of o gs) s a r
  after_of heard o es gs s a r legal hears (inl p) =
      let e : Record A = record { session = s; action = a; reply = r } in
      subst (λ fs. After heard (world_of o es) (world_of o fs) s a r) (sym p) (Event (next_of o es e (subst (Legal o) p legal)))
  after_of heard o es gs s a r legal hears (inr p) = Refusal_alone p.0 (λ t. hears t p.1 p.0) (ap (world_of o) p.1)

  suits_refused : (a : Action A) (r : Reply A) (d : Option (Recorded A)) → is_refused r ≡ true → Suits a r d
  suits_refused a (reply.Refused e) d h = tt
  suits_refused a _ d h = absurd (true≢false (sym h))

  suits_after : (heard : Bool) (w v : World A) (s : ℕ) (a : Action A) (r : Reply A) → After heard w v s a r → (d : Option (Recorded A)) → Suits a (reply_in w s a) d → Suits a r d
  suits_after heard w v s a r (Event next) d h = subst (λ k. Suits a k d) (sym next.answered) h
  suits_after heard w v s a r (Refusal_alone h open_still p) d k = suits_refused a r d h

  refused_commit : (r : Reply A) → is_refused r ≡ true → r ≡ reply.Committed → ⊥
  refused_commit r h e = true≢false (sym h ∙ ap is_refused e)

  -- ---- from the answer to where reading comes to

  module _ (has_time heard : Bool) (w v : World A) (s i : ℕ) (a : Action A) (r : Reply A) (after : After heard w v s a r) (ss : List (Session A)) (begins : List ℕ) (ended : List (Ended A)) (clock : ℕ → ℕ) (n : ℕ) (x : Session A)
      (agree : Agree w ss clock n) (tells : AreToldBy clock (in_commit_order w) (map (trace_of has_time) ended)) (number : s ≡ suc i) (there : slice_get ss i ≡ Some x) (step : heard ≡ true → InStep w ss) where
    goes : (m : ℕ) → n + 1 < m → (y : Session A) (now : List ℕ) → Turn n s a r x y → commits_by a r ≡ false → After heard w v s a r → Went has_time heard v (Ok (read_so (set ss i y) now ended, m))
    goes m on y now turned none (Event next) =
        Arrived (set ss i y) now ended (later clock w.place (n + 1)) m
        (agree_then w v (record { session = s; action = a; reply = r }) next ss clock n m i x y agree number there turned on)
        (told_then w v (record { session = s; action = a; reply = r }) next ss clock n m i x y agree number there turned on has_time ended tells none)
        (λ k. in_step_then w v (record { session = s; action = a; reply = r }) next agree.single ss n i x y (step k) number there turned)
    goes m on y now turned none (Refusal_alone h open_still p) =
        subst (λ u. Went has_time heard u (Ok (read_so (set ss i y) now ended, m))) (sym p)
        (Arrived (set ss i y) now ended clock m (agree_still w ss clock n m i s x y a r agree there h turned (omega (arith, on))) tells (λ k. in_step_still w ss n s i x y a r (step k) there h (open_still k) turned))

    ends : (m : ℕ) → n + 1 < m → (y : Session A) (d : Recorded A) → Turn n s a r x y → x.draft ≡ Some d → a ≡ action.Commit → r ≡ reply.Committed → After heard w v s a r
        → Went has_time heard v (Ok (read_so (set ss i y) begins (ended ++ record { draft = d; end = Some (n + 1) } ∷ []), m))
    ends m on y d turned f p q (Event next) =
        Arrived (set ss i y) begins (ended ++ record { draft = d; end = Some (n + 1) } ∷ []) (later clock w.place (n + 1)) m
        (agree_then w v (record { session = s; action = a; reply = r }) next ss clock n m i x y agree number there turned on)
        (told_more w v (record { session = s; action = a; reply = r }) next ss clock n m i x y agree number there turned on has_time ended tells d f p q)
        (λ k. in_step_then w v (record { session = s; action = a; reply = r }) next agree.single ss n i x y (step k) number there turned)
    ends m on y d turned f p q (Refusal_alone h open_still e) = absurd (refused_commit r h q)

    pub arrive : (o : Option (Read A)) (result : Result (Read A × ℕ) ℕ) → (heard ≡ true → is_some o ≡ true) → Came ss begins ended n (n + 1) s i a r x o → Come (n + 1 + 1) o result → Went has_time heard v result
    arrive None result present Missing come = subst (Went has_time heard v) (sym come.1) (Stopped (stops heard (λ k. present k)) come.0)
    arrive (Some t) result present (Goes y now turned none) come =
        let l : n + 1 + 1 ≤ come.0 = come.1 in
        subst (Went has_time heard v) (sym come.2) (goes come.0 (omega (arith, l)) y now turned none after)
    arrive (Some t) result present (Ends y d turned f p q) come =
        let l : n + 1 + 1 ≤ come.0 = come.1 in
        subst (Went has_time heard v) (sym come.2) (ends come.0 (omega (arith, l)) y d turned f p q after)

  -- ---- a session's command

  -- Who asks, by which line, and where reading stands.
  pub record Place (c : Catalog) (has_time heard : Bool) (w : World A) (line : List ℕ) (s : ℕ) (a : Asked A) (ss : List (Session A)) (ended : List (Ended A)) (clock : ℕ → ℕ) (n : ℕ) : Type 0 where
    pub asks : IsAsked c line s a
    pub session : IsSession s
    pub lacks : Lacks 10 line
    pub agree : Agree w ss clock n
    pub tells : AreToldBy clock (in_commit_order w) (map (trace_of has_time) ended)
    pub step : heard ≡ true → InStep w ss

  pub session_there : (w : World A) (s : ℕ) (ss : List (Session A)) (clock : ℕ → ℕ) (n : ℕ) → IsSession s → Agree w ss clock n → (x : Session A) × (slice_get ss (s - 1) ≡ Some x)
  session_there w s ss clock n h agree =
      let low : 0 < s = h.low in
      let high : s ≤ 64 = h.high in
      let many : length ss ≡ most_sessions = agree.many in
      let enough = more_than_scripts in
      some_at ss (s - 1) (omega (arith, low, high, many, enough))

  pub idle_there : (c : Catalog) (w : World A) (s : ℕ) (ss : List (Session A)) (clock : ℕ → ℕ) (n : ℕ) (x : Session A) → IsSession s → Agree w ss clock n → slice_get ss (s - 1) ≡ Some x → IsIdle c ss s (s - 1) x
  idle_there c w s ss clock n x h agree there = record { number = number_of s h; is = there; idle = agree.idle (s - 1) x there }

  module _ (c : Catalog) (has_time heard : Bool) (w v : World A) (line : List ℕ) (s : ℕ) (a : Action A) (ss : List (Session A)) (begins : List ℕ) (ended : List (Ended A)) (clock : ℕ → ℕ) (n : ℕ) (place : Place c has_time heard w line s (asks_for a) ss ended clock n) where
    pub x_there : (x : Session A) × (slice_get ss (s - 1) ≡ Some x)
    x_there = session_there w s ss clock n place.session place.agree

    abbrev pub x : Session A
    x = x_there.0

    idle : IsIdle c ss s (s - 1) x
    idle = idle_there c w s ss clock n x place.session place.agree x_there.1

    abbrev pub out : Reply A → Option (Read A)
    out r = comes c ss begins ended s (s - 1) (n + 1) (answer_to s n x (said_of r) (asks_for a))

    -- where all are heard, it is a reply that can be read
    pub suited : (r : Reply A) → After heard w v s a r → heard ≡ true → Suits a r x.draft
    suited r after k = suits_after heard w v s a r after x.draft (suits w ss (place.step k) s (s - 1) a x (number_of s place.session) x_there.1)

    come_of : (r : Reply A) → IsSmall r → (o : Option (Read A)) → out r ≡ o → Come (n + 1 + 1) o (reads c (read_so ss begins ended) n (both s line (tag r) []))
    come_of r small None f = (n + 1, both_wrong c ss begins ended n s (s - 1) line (asks_for a) x place.asks idle (tag r) (said_of r) [] place.session (IsUtf8-plain (tag r) (tag_plain r)) (tag_says r small) f)
    come_of r small (Some t) f = (n + 1 + 1, omega arith, both_read c ss begins ended n s (s - 1) line (asks_for a) x place.asks idle (tag r) (said_of r) [] t place.session (IsUtf8-plain (tag r) (tag_plain r)) (tag_says r small) f)

    plain_went : (r : Reply A) → After heard w v s a r → are_rows r ≡ false → IsSmall r → Went has_time heard v (reads c (read_so ss begins ended) n (both s line (tag r) []))
    plain_went r after none small =
        arrive has_time heard w v s (s - 1) a r after ss begins ended clock n x place.agree place.tells (number_of s place.session) x_there.1 place.step (out r) (reads c (read_so ss begins ended) n (both s line (tag r) []))
        (λ k. present c ss begins ended n (n + 1) s (s - 1) x a r none (suited r after k))
        (turn c ss begins ended n (n + 1) s (s - 1) x idle.idle a r none) (come_of r small (out r) refl)

    no_rows_of : (r : Reply A) → are_rows r ≡ false → rows_of r ≡ []
    no_rows_of (reply.Rows rows) h = absurd (true≢false h)
    no_rows_of _ h = refl

    -- what its lines come to
    made : (r : Reply A) → Went has_time heard v (reads c (read_so ss begins ended) n (both s line (tag r) (marked_rows s (rows_of r)))) → Done c has_time heard v (read_so ss begins ended) n (asked line ++ answered (reply_text s r))
    made r went = record {
      parts = both s line (tag r) (marked_rows s (rows_of r));
      is = told_lines line (reply_text s r) (reply_lines s r) (reply_ended s r) (reply_lack s r);
      lack = (lacks-append 10 (codes "> ") line refl place.lacks, marked_lack (reply_lines s r) (reply_lack s r));
      went = went;
    }

    pub plain_done : (r : Reply A) → After heard w v s a r → are_rows r ≡ false → IsSmall r → Done c has_time heard v (read_so ss begins ended) n (asked line ++ answered (reply_text s r))
    plain_done r after none small =
        made r (subst (λ rows. Went has_time heard v (reads c (read_so ss begins ended) n (both s line (tag r) (marked_rows s rows)))) (sym (no_rows_of r none)) (plain_went r after none small))

    -- a reply that what was asked can't have
    pub wrong_done : (r : Reply A) → IsSmall r → out r ≡ None → heard ≡ false → Done c has_time heard v (read_so ss begins ended) n (asked line ++ answered (reply_text s r))
    wrong_done r small none unheard =
        made r (subst (Went has_time heard v) (sym (both_wrong c ss begins ended n s (s - 1) line (asks_for a) x place.asks idle (tag r) (said_of r) (marked_rows s (rows_of r)) place.session (IsUtf8-plain (tag r) (tag_plain r)) (tag_says r small) none)) (Stopped unheard (n + 1)))

  -- ---- a SELECT

  module _ (c : Catalog) (has_time heard : Bool) (w v : World A) (line : List ℕ) (s t : ℕ) (p : Projection A) (ws : List (Condition A)) (ss : List (Session A)) (begins : List ℕ) (ended : List (Ended A)) (clock : ℕ → ℕ) (n : ℕ)
      (place : Place c has_time heard w line s (asks_for (action.Run (Select t p ws))) ss ended clock n) (rows : List (List (Value A))) (after : After heard w v s (action.Run (Select t p ws)) (reply.Rows rows)) (small : IsSmall (reply.Rows rows)) (fits : (t < length c) × AreShown (kinds_shown (columns_of c t) p) rows) where
    y_there : (x : Session A) × (slice_get ss (s - 1) ≡ Some x)
    y_there = session_there w s ss clock n place.session place.agree

    abbrev y : Session A
    y = y_there.0

    y_idle : IsIdle c ss s (s - 1) y
    y_idle = idle_there c w s ss clock n y place.session place.agree y_there.1

    came : (o : Option (Recorded A)) → y.draft ≡ o → Came ss begins ended n (n + 1) s (s - 1) (action.Run (Select t p ws)) (reply.Rows rows) y (told c ss begins ended n s (s - 1) line t p ws y (recorded_of y o (Select t p ws) (reply.Rows rows) n))
    came None e = Missing
    came (Some d) e = Goes (with_draft y (one_more d (Select t p ws) (reply.Rows rows) n)) begins (statement_turn n s y y_idle.idle (Select t p ws) (reply.Rows rows) (λ qs. refl) d e) refl

    told_present : (o : Option (Recorded A)) → IsThere o → is_some (told c ss begins ended n s (s - 1) line t p ws y (recorded_of y o (Select t p ws) (reply.Rows rows) n)) ≡ true
    told_present None h = absurd h
    told_present (Some d) h = refl

    held : heard ≡ true → IsThere y.draft
    held k = (suits_after heard w v s (action.Run (Select t p ws)) (reply.Rows rows) after y.draft (suits w ss (place.step k) s (s - 1) (action.Run (Select t p ws)) y (number_of s place.session) y_there.1)).1

    pub select_done : Done c has_time heard v (read_so ss begins ended) n (asked line ++ answered (reply_text s (reply.Rows rows)))
    select_done = record {
      parts = both s line (tag {A = A} (reply.Rows rows)) (marked_rows s rows);
      is = told_lines line (reply_text s (reply.Rows rows)) (reply_lines s (reply.Rows rows)) (reply_ended s (reply.Rows rows)) (first_lacks s (reply.Rows rows), rows_lack s rows);
      lack = (lacks-append 10 (codes "> ") line refl place.lacks, marked_lack (reply_lines s (reply.Rows rows)) (first_lacks s (reply.Rows rows), rows_lack s rows));
      went =
          arrive has_time heard w v s (s - 1) (action.Run (Select t p ws)) (reply.Rows rows) after ss begins ended clock n y place.agree place.tells (number_of s place.session) y_there.1 place.step
          (told c ss begins ended n s (s - 1) line t p ws y (recorded_of y y.draft (Select t p ws) (reply.Rows rows) n))
          (reads c (read_so ss begins ended) n (both s line (tag {A = A} (reply.Rows rows)) (marked_rows s rows)))
          (λ k. told_present y.draft (held k))
          (came y.draft refl)
          (select_read c ss begins ended n s (s - 1) line t p ws y place.asks y_idle place.session fits.0 rows small fits.1);
    }

  -- ---- any command that is an event, or would be one

  abbrev runs : Action A → Bool
  runs (action.Run q) = true
  runs _ = false

  run_or_not : (a : Action A) → ((q : Statement A) × (a ≡ action.Run q)) ⊎ (runs a ≡ false)
  run_or_not (action.Run q) = inl (q, refl)
  run_or_not _ = inr refl

  rows_or_not : (r : Reply A) → ((rows : List (List (Value A))) × (r ≡ reply.Rows rows)) ⊎ (are_rows r ≡ false)
  rows_or_not (reply.Rows rows) = inl (rows, refl)
  rows_or_not _ = inr refl

  -- rows that nothing asks for
  rows_wrong : (c : Catalog) (has_time heard : Bool) (w v : World A) (line : List ℕ) (s : ℕ) (a : Action A) (ss : List (Session A)) (begins : List ℕ) (ended : List (Ended A)) (clock : ℕ → ℕ) (n : ℕ) (place : Place c has_time heard w line s (asks_for a) ss ended clock n) (rows : List (List (Value A)))
      → After heard w v s a (reply.Rows rows) → IsSmall (reply.Rows rows) → runs a ≡ false → Done c has_time heard v (read_so ss begins ended) n (asked line ++ answered (reply_text s (reply.Rows rows)))
  rows_wrong c has_time heard w v line s (action.Run q) ss begins ended clock n place rows after small h = absurd (true≢false h)
  rows_wrong c has_time heard w v line s (action.Begin m) ss begins ended clock n place rows after small h =
      wrong_done c has_time heard w v line s (action.Begin m) ss begins ended clock n place (reply.Rows rows) small refl (stops heard (λ k. absurd (suited c has_time heard w v line s (action.Begin m) ss begins ended clock n place (reply.Rows rows) after k)))
  rows_wrong c has_time heard w v line s (action.Broken e) ss begins ended clock n place rows after small h =
      wrong_done c has_time heard w v line s (action.Broken e) ss begins ended clock n place (reply.Rows rows) small refl (stops heard (λ k. absurd (suited c has_time heard w v line s (action.Broken e) ss begins ended clock n place (reply.Rows rows) after k)))
  rows_wrong c has_time heard w v line s action.Poll ss begins ended clock n place rows after small h =
      wrong_done c has_time heard w v line s action.Poll ss begins ended clock n place (reply.Rows rows) small refl (stops heard (λ k. absurd (suited c has_time heard w v line s action.Poll ss begins ended clock n place (reply.Rows rows) after k)))
  rows_wrong c has_time heard w v line s action.Export ss begins ended clock n place rows after small h =
      wrong_done c has_time heard w v line s action.Export ss begins ended clock n place (reply.Rows rows) small refl (stops heard (λ k. absurd (suited c has_time heard w v line s action.Export ss begins ended clock n place (reply.Rows rows) after k)))
  rows_wrong c has_time heard w v line s (action.Import i) ss begins ended clock n place rows after small h =
      wrong_done c has_time heard w v line s (action.Import i) ss begins ended clock n place (reply.Rows rows) small refl (stops heard (λ k. absurd (suited c has_time heard w v line s (action.Import i) ss begins ended clock n place (reply.Rows rows) after k)))
  rows_wrong c has_time heard w v line s action.Commit ss begins ended clock n place rows after small h =
      wrong_done c has_time heard w v line s action.Commit ss begins ended clock n place (reply.Rows rows) small refl (stops heard (λ k. absurd (suited c has_time heard w v line s action.Commit ss begins ended clock n place (reply.Rows rows) after k)))
  rows_wrong c has_time heard w v line s action.Rollback ss begins ended clock n place rows after small h =
      wrong_done c has_time heard w v line s action.Rollback ss begins ended clock n place (reply.Rows rows) small refl (stops heard (λ k. absurd (suited c has_time heard w v line s action.Rollback ss begins ended clock n place (reply.Rows rows) after k)))
  rows_wrong c has_time heard w v line s action.Prune ss begins ended clock n place rows after small h =
      wrong_done c has_time heard w v line s action.Prune ss begins ended clock n place (reply.Rows rows) small refl (stops heard (λ k. absurd (suited c has_time heard w v line s action.Prune ss begins ended clock n place (reply.Rows rows) after k)))

  module _ (o : Opening A) (has_time heard : Bool) (es gs : List (Record A)) (legal : Legal o gs) (begun : Legal o es) (line : List ℕ) (s : ℕ) (ss : List (Session A)) (begins : List ℕ) (ended : List (Ended A)) (clock : ℕ → ℕ) (n : ℕ) where
    -- rows of a statement
    rows_done : (q : Statement A) (rows : List (List (Value A))) → After heard (world_of o es) (world_of o gs) s (action.Run q) (reply.Rows rows) → IsSmall (reply.Rows rows) → Place o.catalog has_time heard (world_of o es) line s (asks_for (action.Run q)) ss ended clock n
        → Done o.catalog has_time heard (world_of o gs) (read_so ss begins ended) n (asked line ++ answered (reply_text s (reply.Rows rows)))
    rows_done q rows (Refusal_alone h open_still e) small place = absurd (true≢false (sym h))
    rows_done q rows (Event next) small place = shows (shown_by (world_of o es) s q rows (current (world_of o es) s) refl (sym next.answered))
      where
        catalog : (world_of o es).catalog ≡ o.catalog
        catalog = run-catalog (start o) es

        selected : (t : Txn A) (k : ℕ) (p : Projection A) (ws : List (Condition A)) → is_sound (world_of o es).catalog t.own ≡ true → q ≡ Select k p ws → rows ≡ shown p (chosen t.own k ws)
            → Done o.catalog has_time heard (world_of o gs) (read_so ss begins ended) n (asked line ++ answered (reply_text s (reply.Rows rows)))
        selected t k p ws sound is shows =
            let fit : Fits o.catalog (Select k p ws) = subst (λ z. Fits o.catalog z) is (subst (λ c. Fits c q) catalog next.allowed) in
            let same_rows = fits_shown o.catalog t.own k p ws (subst (λ c. is_sound c t.own ≡ true) catalog sound) fit (subst (λ z. list_all is_small_row z ≡ true) shows small.1) in
            let fits = subst (λ z. (k < length o.catalog) × AreShown (kinds_shown (columns_of o.catalog k) p) z) (sym shows) same_rows in
            select_done o.catalog has_time heard (world_of o es) (world_of o gs) line s k p ws ss begins ended clock n
            (subst (λ z. Place o.catalog has_time heard (world_of o es) line s (asks_for (action.Run z)) ss ended clock n) is place) rows
            (subst (λ z. After heard (world_of o es) (world_of o gs) s (action.Run z) (reply.Rows rows)) is (Event next)) small fits

        shows : (t : Txn A) × (current (world_of o es) s ≡ Some t) × Selects (world_of o es).catalog q t.own rows
            → Done o.catalog has_time heard (world_of o gs) (read_so ss begins ended) n (asked line ++ answered (reply_text s (reply.Rows rows)))
        shows h = selected h.0 h.2.table h.2.projection h.2.conditions (own_sound o es begun h.0 (current_in (world_of o es) s h.0 h.1).0) h.2.is h.2.shows

    abbrev pub DoneBy : Reply A → Type 0
    DoneBy r = Done o.catalog has_time heard (world_of o gs) (read_so ss begins ended) n (asked line ++ answered (reply_text s r))

    abbrev pub PlaceOf : Action A → Type 0
    PlaceOf a = Place o.catalog has_time heard (world_of o es) line s (asks_for a) ss ended clock n

    rows_any : (a : Action A) (rows : List (List (Value A))) → ((q : Statement A) × (a ≡ action.Run q)) ⊎ (runs a ≡ false) → After heard (world_of o es) (world_of o gs) s a (reply.Rows rows) → IsSmall (reply.Rows rows) → PlaceOf a → DoneBy (reply.Rows rows)
    rows_any a rows (inl q) after small place =
        rows_done q.0 rows (subst (λ b. After heard (world_of o es) (world_of o gs) s b (reply.Rows rows)) q.1 after) small (subst PlaceOf q.1 place)
    rows_any a rows (inr h) after small place = rows_wrong o.catalog has_time heard (world_of o es) (world_of o gs) line s a ss begins ended clock n place rows after small h

    any : (a : Action A) (r : Reply A) → ((rows : List (List (Value A))) × (r ≡ reply.Rows rows)) ⊎ (are_rows r ≡ false) → After heard (world_of o es) (world_of o gs) s a r → IsSmall r → PlaceOf a → DoneBy r
    any a r (inl h) after small place =
        subst DoneBy (sym h.1) (rows_any a h.0 (run_or_not a) (subst (After heard (world_of o es) (world_of o gs) s a) h.1 after) (subst IsSmall h.1 small) place)
    any a r (inr h) after small place = plain_done o.catalog has_time heard (world_of o es) (world_of o gs) line s a ss begins ended clock n place r after h small

    -- what comes of a reply to a command
    pub reply_done : (a : Action A) (r : Reply A) → After heard (world_of o es) (world_of o gs) s a r → IsSmall r → PlaceOf a → DoneBy r
    reply_done a r after small place = any a r (rows_or_not r) after small place
