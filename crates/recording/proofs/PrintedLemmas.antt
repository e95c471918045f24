-- The lines of a run that prints a transcript, as the lines of a history's transcript.
use Rattle.std.proofs.Common.{◌≡◌, ◌⊎◌, inl, inr, ℕ, true, List, [], ◌∷◌, ◌++◌, Option, Some, None, Result, Ok, Err, refl, sym, ap, subst, ◌∙◌, append_assoc, take-append-drop}
use Rattle.std.specs.Prelude.{codes, drop, take}
use Rattle.std.proofs.lemmas.List.{append-nil}
use Rattle.clap.specs.Walk.{reading_by}
use Rattle.clap.specs.Words.{Row, Text}
use Rattle.value.specs.Codes.{sqlstate}
use Rattle.value.specs.declared.refusal.Refusal.{Refusal}
use Rattle.value.specs.declared.refusal.Code.TheVariants.{ProgramLimitExceeded}
use Rattle.value.specs.Refusals.{of_code, out_of_memory}
use Rattle.schema.specs.Definition.{Catalog}
use Rattle.schema.specs.Plain.{is_sound}
use Rattle.schema.specs.declared.tables.Tables.{Tables}
use Rattle.statement.specs.declared.reply.Reply.{Reply}
use Rattle.statement.specs.declared.reply.Reply.TheVariants.{Refused}
use Rattle.history.specs.declared.event.Record.{Record}
use Rattle.history.specs.Answer.{Legal, answer}
use Rattle.history.specs.Opening.{Opening, Recorded, zero_base}
use Rattle.serial.proofs.legal.Histories.{Legal-start}
use Rattle.session.specs.Core.{recorded}
use Rattle.asking.specs.Asking.{Replies as HasReplied}
use Rattle.restore.proofs.faults.Whole.{dump_agrees}
use Rattle.restore.proofs.stepwise.Reading.{empty_is_sound}
use Rattle.restore.proofs.stepwise.Sound.{dump_good}
use Rattle.dumpworker.specs.declared.fault.DumpFault.TheVariants.{Device, Memory}
use Rattle.backup.specs.declared.fault.SafeDumpFault.{SafeDumpFault}
use Rattle.backup.specs.declared.fault.SafeDumpFault.TheVariants.{Dump, View}
use Rattle.request.specs.declared.request.Request.{Request}
use Rattle.request.specs.declared.request.Request.TheVariants.{Poll}
use Rattle.request.specs.Requests.{asked as action_of}
use Rattle.sqltext.specs.Laws.{RefusesTheFirstFault}
use Rattle.script.specs.Printing.{done_text, reply_text}
use Rattle.script.specs.Scripts.{Said, said}
use Rattle.script.specs.Transcribing.{answered, asked, line_at, lines as lines_of, tables_asked}
use Rattle.script.specs.declared.command.Command.TheVariants as command
use Rattle.script.specs.declared.schedule.Schedule.TheVariants.{InOrder}
use Rattle.script.specs.declared.script.Line.{Line}
use Rattle.script.specs.declared.script.Step.{Step}
use Rattle.script.specs.declared.script.Step.TheVariants.{Checkpoint, Session}
use Rattle.program.specs.Asked.{manner_of}
use Rattle.program.specs.Beginnings.{BeginsWith}
use Rattle.program.specs.CommandLine.{is_set, transcript}
use Rattle.program.specs.Dumps.{dump_text}
use Rattle.program.specs.Files.{IsAllOf, Writing, read_of}
use Rattle.program.specs.Printed.{Adds, Printed, Prints}
use Rattle.program.specs.Remarks.{Noted, unnoted}
use Rattle.asking.specs.Checkpoints.{Checkpoints, checkpoint_reply}
use Rattle.program.specs.Runs.{HasBrokenOff, IsStepDone, LinesAreDone, ScriptHasStopped, TellsRequest, begun, checkpoint_text, first_text, line_text, lines_printed, order_text}
use Rattle.program.proofs.PrintLemmas.{added_is_printed, adds_twice, prints_none, prints_twice}
use Rattle.recording.specs.Printed.{AreSmall, AsksForTranscript, OfTheDone, OfTheStopped, Transcribes, Way}
use Rattle.recording.specs.Runs.{AreDone, IsDone, IsTranscript, Replies}
use Rattle.recording.proofs.JoinedLemmas.{Joined, joined_first, joined_next, joined_passed, small_front, small_last}
use Rattle.recording.proofs.ParsedLemmas.{asked_allowed}
use Rattle.recording.proofs.RecordingLemmas.{is_recording}

-- ---- the manner of a transcript

-- the words of a transcript
abbrev transcript_rows : List Row
transcript_rows = record { id = codes "transcript"; values = codes "true" ∷ []; count = None; source = None; reading = reading_by transcript } ∷ []

same_manner : (rows : List Row) → is_set (codes "why") rows ≡ is_set (codes "why") transcript_rows → is_set (codes "transcript") rows ≡ is_set (codes "transcript") transcript_rows → manner_of rows ≡ manner_of transcript_rows
same_manner rows e f = cc

-- the manner of a transcript's words
manner_is : (rows : List Row) (path : Text) (way : Way) → AsksForTranscript rows path way → way.manner ≡ manner_of transcript_rows
manner_is rows path way asks = asks.0.1 ∙ same_manner rows asks.1 asks.2

-- ---- a dump

abbrev some_text : List ℕ → Option (List ℕ)
some_text t = Some t

texts_same : (s t : List ℕ) → some_text s ≡ some_text t → s ≡ t
texts_same s t e = cc

dumped : (A : Type 0) (s : ℕ) (text : List ℕ) (done : Result (Unit {0}) SafeDumpFault) → dump_text s done ≡ Some text → (text ≡ done_text s) ⊎ ((e : Refusal) × (text ≡ reply_text {A = A} s (Refused e)))
dumped A s text (Ok u) e = inl (sym (texts_same (done_text s) text e))
dumped A s text (Err (View x)) e = inr (x, sym (texts_same (reply_text {A = A} s (Refused x)) text e))
dumped A s text (Err (Dump Memory)) e = inr (out_of_memory, sym (texts_same (reply_text {A = A} s (Refused out_of_memory)) text e))
dumped A s text (Err (Dump Device)) e = absurd cc

module _ {A : Type 0} where
  -- What comes of a line, or of several: the history goes on, with events after those so far, and this holds of the events before and after where the replies are small.
  pub record Leads (o : Opening A) (before : List (Record A)) (h k : Recorded A) (Holds : List (Record A) → List (Record A) → Type 0) : Type 0 where
    pub after : List (Record A)
    pub joined : Joined o after k
    pub more : List (Record A)
    pub grows : after ++ k.records ≡ before ++ h.records ++ more
    pub holds : AreSmall (after ++ k.records) → Holds (before ++ h.records) (after ++ k.records)

  -- nothing has changed
  stays : (o : Opening A) (before : List (Record A)) (h k : Recorded A) (Holds : List (Record A) → List (Record A) → Type 0) → Joined o before h → k ≡ h → Holds (before ++ h.records) (before ++ h.records) → Leads o before h k Holds
  stays o before h k Holds j e holds =
      subst (λ (x : Recorded A). Leads o before h x Holds) (sym e)
      (record { after = before; joined = j; more = []; grows = sym (append-nil (before ++ h.records)); holds = λ small. holds })

  leads_as : (o : Opening A) (before : List (Record A)) (h k : Recorded A) (P Q : List (Record A) → List (Record A) → Type 0) → ((es fs : List (Record A)) → P es fs → Q es fs) → Leads o before h k P → Leads o before h k Q
  leads_as o before h k P Q f l =
      record { after = l.after; joined = l.joined; more = l.more; grows = l.grows; holds = λ small. f (before ++ h.records) (l.after ++ k.records) (l.holds small) }

  -- ---- a checkpoint

  abbrev Passes : Option Refusal → List (Record A) → List (Record A) → Type 0
  Passes refusal es fs = (fs ≡ es) × ((checkpoint_reply refusal ≡ codes "CHECKPOINT\n") ⊎ ((e : Refusal) × (checkpoint_reply refusal ≡ codes "ERROR " ++ sqlstate e.code ++ codes "\n")))

  passed_over : (o : Opening A) (before : List (Record A)) (h k : Recorded A) (most : ℕ) (refusal : Option Refusal) → Joined o before h → Checkpoints most h k refusal
      → Leads o before h k (Passes refusal)
  passed_over o before h k most None j c =
      let p = joined_passed o before h k most j c in
      let same : before ++ h.records ++ k.records ≡ before ++ h.records = ap (λ (xs : List (Record A)). before ++ h.records ++ xs) p.1 ∙ append-nil (before ++ h.records) in
      record { after = before ++ h.records; joined = p.0; more = k.records; grows = refl; holds = λ small. (same, inl refl) }
  passed_over o before h k most (Some e) j c = stays o before h k (Passes (Some e)) j c.0 (refl, inr (e, refl))

  -- ---- the tables

  begins_sound : (held : List ℕ → Option (List ℕ)) (opens : Option (List ℕ)) (created c : Catalog) (X : Tables A) → BeginsWith held opens created c X → is_sound c X ≡ true
  begins_sound held None created c X b = subst (λ (d : Catalog). is_sound d X ≡ true) (sym b.0) (subst (λ (Y : Tables A). is_sound created Y ≡ true) (sym b.1) (empty_is_sound A created))
  begins_sound held (Some path) created c X b = dump_good b.0 c X (dump_agrees b.0 ∙ b.2)

module _ {A : Type 0} (first_fault : RefusesTheFirstFault A) where
  -- ---- a request

  abbrev Answered : Opening A → ℕ → Request A → List ℕ → List (Record A) → List (Record A) → Type 0
  Answered o s x text es fs = Replies es fs s (action_of o.catalog x) text

  -- by an event
  by_event : (o : Opening A) (before : List (Record A)) (h : Recorded A) (s : ℕ) (x : Request A) (r : Reply A) (text : List ℕ) → Joined o before h → r ≡ answer h.opening h.records s (action_of h.opening.catalog x) → text ≡ reply_text s r
      → Leads o before h (recorded h s (action_of h.opening.catalog x) r) (Answered o s x text)
  by_event o before h s x r text j due is =
      let e : Record A = record { session = s; action = action_of h.opening.catalog x; reply = r } in
      let so = sym (append_assoc before h.records (e ∷ [])) in
      record {
        after = before;
        joined = joined_next o before h s (action_of h.opening.catalog x) r j (asked_allowed A first_fault h.opening.catalog x) due;
        more = e ∷ [];
        grows = so;
        holds = λ small. (
          r,
          small_last (before ++ h.records) e (subst AreSmall so small),
          inl (subst (λ (c : Catalog). before ++ (h.records ++ e ∷ []) ≡ before ++ h.records ++ record { session = s; action = action_of c x; reply = r } ∷ []) j.catalog so),
          is,
        );
      }

  -- without one
  without_event : (o : Opening A) (before : List (Record A)) (h k : Recorded A) (s : ℕ) (x : Request A) (r : Reply A) (e : Refusal) (text : List ℕ) → Joined o before h → k ≡ h → r ≡ Refused e → text ≡ reply_text s r
      → Leads o before h k (Answered o s x text)
  without_event o before h k s x r e text j same refused is =
      stays o before h k (Answered o s x text) j same (Refused e, tt, inr (refl, refl), is ∙ ap (reply_text s) refused)

  requested : (o : Opening A) (before : List (Record A)) (h k : Recorded A) (s : ℕ) (x : Request A) (r : Reply A) (text : List ℕ) → Joined o before h → HasReplied h k s x r → text ≡ reply_text s r → Leads o before h k (Answered o s x text)
  requested o before h k s x r text j (inl (inl p)) is = subst (λ (y : Recorded A). Leads o before h y (Answered o s x text)) (sym p.2) (by_event o before h s x r text j p.1 is)
  requested o before h k s x r text j (inl (inr (inl p))) is = without_event o before h k s x r (of_code ProgramLimitExceeded) text j p.2 p.1 is
  requested o before h k s x r text j (inl (inr (inr p))) is = without_event o before h k s x r out_of_memory text j p.3 p.2 is
  requested o before h k s x r text j (inr p) is = without_event o before h k s x r out_of_memory text j p.2 p.1 is

  -- ---- a line

  module _ (writes : Writing) (way : Way) (e : way.manner ≡ manner_of transcript_rows) (ls : List (List ℕ)) (o : Opening A) where
    -- what a line comes to
    abbrev LineHolds : ℕ → Step A → List ℕ → List (Record A) → List (Record A) → Type 0
    LineHolds n step text es fs = (reply : List ℕ) × IsDone o.catalog es fs step reply × (text ≡ asked (line_at ls n) ++ answered reply)

    line_is : (n : ℕ) (reply : List ℕ) → line_text way.manner ls n reply ≡ asked (line_at ls n) ++ answered reply
    line_is n reply = ap (λ m. line_text m ls n reply) e

    told : (n : ℕ) (h k : Noted A) (s : ℕ) (x : Request A) (text : List ℕ) → TellsRequest way.manner n h k s x text → (r : Reply A) × HasReplied h.history k.history s x r × (text ≡ reply_text s r)
    told n h k s x text t = let so : TellsRequest (manner_of transcript_rows) n h k s x text = subst (λ m. TellsRequest m n h k s x text) e t in so.0

    step_leads : (n : ℕ) (before : List (Record A)) (h k : Noted A) (step : Step A) (text : List ℕ) → Joined o before h.history → IsStepDone writes way ls n h step k text → Leads o before h.history k.history (LineHolds n step text)
    step_leads n before h k (Session s (command.Ask x)) text j d =
        let t = told n h k s x d.0 d.1 in
        leads_as o before h.history k.history (Answered o s x d.0) (LineHolds n (Session s (command.Ask x)) text) (λ es fs a. (d.0, a, d.2 ∙ line_is n d.0)) (requested o before h.history k.history s x t.0 d.0 j t.1 t.2)
    step_leads n before h k (Session s command.Wait) text j d =
        let t = told n h k s Poll d.0 d.1 in
        leads_as o before h.history k.history (Answered o s Poll d.0) (LineHolds n (Session s command.Wait) text) (λ es fs a. (d.0, a, d.2 ∙ line_is n d.0)) (requested o before h.history k.history s Poll t.0 d.0 j t.1 t.2)
    step_leads n before h k (Session s (command.Dump request)) text j d =
        stays o before h.history k.history (LineHolds n (Session s (command.Dump request)) text) j (ap (λ (x : Noted A). x.history) d.1.0)
        (d.0, (refl, dumped A s d.0 d.1.1.0 d.1.1.2), d.2 ∙ line_is n d.0)
    step_leads n before h k Checkpoint text j d =
        let is : text ≡ checkpoint_text (manner_of transcript_rows) ls n (order_text (manner_of transcript_rows) h.history) d.0 = subst (λ m. text ≡ checkpoint_text m ls n (order_text m h.history) d.0) e d.2 in
        leads_as o before h.history k.history (Passes d.0) (LineHolds n Checkpoint text) (λ es fs a. (checkpoint_reply d.0, a, is)) (passed_over o before h.history k.history way.most_events d.0 j d.1.0)

    -- ---- lines

    went : (lines : List (Line A)) (before : List (Record A)) (h k : Noted A) (text : List ℕ) → Joined o before h.history → LinesAreDone writes way ls h lines k text
        → Leads o before h.history k.history (λ es fs. AreDone o.catalog ls es lines fs text)
    went [] before h k text j d = stays o before h.history k.history (λ es fs. AreDone o.catalog ls es [] fs text) j (ap (λ (x : Noted A). x.history) d.0) (refl, d.1)
    went (line ∷ lines) before h k text j d =
        let a = step_leads line.number before h d.0 line.step d.1 j d.3 in
        let b = went lines a.after d.0 k d.2 a.joined d.4 in
        let so = before ++ h.history.records in
        record {
          after = b.after;
          joined = b.joined;
          more = a.more ++ b.more;
          grows = b.grows ∙ ap (λ (xs : List (Record A)). xs ++ b.more) a.grows ∙ append_assoc so a.more b.more;
          holds = λ small.
              let first = a.holds (small_front (a.after ++ d.0.history.records) b.more (subst AreSmall b.grows small)) in
              (a.after ++ d.0.history.records, first.0, d.2, first.1, b.holds small, d.5 ∙ ap (λ (t : List ℕ). t ++ d.2) first.2);
        }

  -- ---- the whole

  module _ (writes : Writing) (held : List ℕ → Option (List ℕ)) (known : Option (List ℕ)) (way : Way) (e : way.manner ≡ manner_of transcript_rows) (script : List ℕ) (says : Said A) (there : IsAllOf known script) (is_said : said InOrder script ≡ Ok says)
      (c : Catalog) (X : Tables A) (begins : BeginsWith held says.opens says.catalog c X) where
    transcribes : (lines left : List (Line A)) (k : Noted A) (rest : List ℕ) → says.lines ≡ lines ++ left → LinesAreDone writes way (lines_printed way.manner script) (unnoted (begun c X way.most_events)) lines k rest
        → (t : Transcribes A held known (tables_asked script ++ rest)) × (t.done ≡ lines)
    transcribes lines left k rest all d = (
      record {
        script = script;
        is_there = there;
        says = says;
        is_said = is_said;
        opening = o;
        begins = begins;
        from_zero = refl;
        events = events;
        legal = legal;
        done = lines;
        transcript = transcript_of;
        recording = λ small has_time rs names read. is_recording script o events (tables_asked script ++ rest) has_time rs names legal (transcript_of small).0 read;
      },
      refl,
    )
      where
        o : Opening A
        o = record { catalog = c; tables = X; base = zero_base }

        l : Leads o [] (begun c X way.most_events) k.history (λ es fs. AreDone o.catalog (lines_of script) es lines fs rest)
        l = went writes way e (lines_of script) o lines [] (unnoted (begun c X way.most_events)) k rest (joined_first (begun c X way.most_events) (Legal-start o (begins_sound held says.opens says.catalog c X begins)))
            (subst (λ m. LinesAreDone writes way (lines_printed m script) (unnoted (begun c X way.most_events)) lines k rest) e d)

        events : List (Record A)
        events = l.after ++ k.history.records

        legal : Legal o events
        legal = l.joined.joins k.history.records l.joined.legal

        transcript_of : AreSmall events → (t : IsTranscript script o events (tables_asked script ++ rest)) × (t.done ≡ lines)
        transcript_of small = (record { says = says; is_said = is_said; done = lines; left = left; are_lines = all; rest = rest; are_done = l.holds small; is_text = refl }, refl)

  -- ---- runs

  pub the_done : (writes : Writing) → OfTheDone A writes
  unfolding transcribes
  the_done writes held input rows path way p q asks run =
      let e = manner_is rows path way asks in
      let script = run.0 in
      let printed = run.4.3 in
      let ran = printed.2 in
      let t = transcribes writes held (read_of held input path) way e script run.1 run.2 run.3 run.4.0 run.4.1 run.4.2 run.1.lines [] ran.0 ran.1 (sym (append-nil run.1.lines)) ran.2 in
      let begins : first_text way.manner script ≡ tables_asked script = ap (λ m. first_text m script) e in
      let ends : ran.1 ++ order_text way.manner ran.0.history ≡ ran.1 = ap (λ m. ran.1 ++ order_text m ran.0.history) e ∙ append-nil ran.1 in (
        tables_asked script ++ ran.1,
        adds_twice p printed.0 q (tables_asked script) ran.1 (subst (Adds p printed.0) begins printed.1) (subst (Adds printed.0 q) ends ran.3),
        t.0,
        t.1,
      )

  abbrev Told : (List ℕ → Option (List ℕ)) → Option (List ℕ) → Printed → Printed → Type 0
  Told held known p q = Prints p q [] ⊎ ((text : List ℕ) × Prints p q text × Transcribes A held known text)

  pub the_stopped : (writes : Writing) → OfTheStopped A writes
  the_stopped writes held input rows path way f p q asks (inl none) = inl (subst (λ (x : Printed). Prints p x []) (sym none.1) (prints_none p))
  the_stopped writes held input rows path way f p q asks (inr run) = begun_or run.4
    where
      e : way.manner ≡ manner_of transcript_rows
      e = manner_is rows path way asks

      script : List ℕ
      script = run.0

      begins : first_text way.manner script ≡ tables_asked script
      begins = ap (λ m. first_text m script) e

      broken : (c : Catalog) (X : Tables A) → BeginsWith held run.1.opens run.1.catalog c X → HasBrokenOff writes way script (unnoted (begun c X way.most_events)) run.1.lines f p q → Told held (read_of held input path) p q
      broken c X b (inl unprinted) = inl unprinted.0
      broken c X b (inr stopped) =
          let m = stopped.0 in
          let ran = stopped.2 in
          let n = ran.0 in
          let t = transcribes writes held (read_of held input path) way e script run.1 run.2 run.3 c X b (take n run.1.lines) (drop n run.1.lines) ran.1 ran.2 (sym (take-append-drop n run.1.lines)) ran.3 in
          inr (tables_asked script ++ ran.2, prints_twice p m q (tables_asked script) ran.2 (added_is_printed p m (tables_asked script) (subst (Adds p m) begins stopped.1)) ran.4, t.0)

      begun_or : ScriptHasStopped writes held way script run.1 f p q → Told held (read_of held input path) p q
      begun_or (inl unbegun) = inl (subst (λ (x : Printed). Prints p x []) (sym unbegun.1) (prints_none p))
      begun_or (inr b) = broken b.0 b.1 b.2 b.3
