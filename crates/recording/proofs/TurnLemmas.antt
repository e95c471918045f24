-- What comes of a reply in a session: what is recorded from then on.
use Rattle.std.proofs.Common.{◌≡◌, ◌⊎◌, inl, inr, ℕ, Bool, true, false, true≢false, ◌||◌, List, [], ◌∷◌, ◌++◌, set, Option, Some, None, Ok, Err, refl, sym, subst, ◌∙◌}
use Rattle.value.specs.declared.refusal.Mode.{Mode}
use Rattle.schema.specs.Definition.{Catalog}
use Rattle.statement.specs.declared.reply.Reply.{Reply}
use Rattle.statement.specs.declared.reply.Reply.TheVariants as reply
use Rattle.statement.specs.declared.statement.Statement.{Statement}
use Rattle.statement.specs.declared.statement.Statement.TheVariants.{Select, Insert, Update, Delete}
use Rattle.history.specs.declared.event.Action.{Action}
use Rattle.history.specs.declared.event.Action.TheVariants as action
use Rattle.request.specs.declared.request.Request.TheVariants as request
use Rattle.script.specs.Commands.{◌>>=◌}
use Rattle.script.specs.declared.command.Command.TheVariants as command
use Rattle.transcript.specs.Asking.{asked_by, spoken}
use Rattle.transcript.specs.Reading.{Read}
use Rattle.transcript.specs.Recorded.{Recorded}
use Rattle.transcript.specs.Sessions.{answer_to, changed, closed, nothing, nothing_but, one_more, recorded_of, to_change, with_draft, with_import}
use Rattle.recording.proofs.Names.{Asked, Ended, Outcome, Said, Session}
use Rattle.recording.proofs.ReadingLemmas.{comes, read_so}
use Rattle.recording.proofs.SayingLemmas.{said_of}

pub or_left : (b c : Bool) → c ≡ false → (b || c) ≡ true → b ≡ true
or_left true c f h = refl
or_left false c f h = absurd (true≢false (sym h ∙ f))

module _ {A : Type 0} where
  -- what asks for an action
  abbrev pub asks_for : Action A → Asked A
  asks_for (action.Begin m) = asked_by [] (command.Ask (request.Begin m))
  asks_for (action.Run q) = spoken (Ok q)
  asks_for (action.Broken r) = spoken (Err r)
  asks_for action.Poll = asked_by [] (command.Ask request.Poll)
  asks_for action.Export = asked_by [] (command.Ask request.Export)
  asks_for (action.Import i) = asked_by [] (command.Ask (request.Import i))
  asks_for action.Commit = asked_by [] (command.Ask request.Commit)
  asks_for action.Rollback = asked_by [] (command.Ask request.Rollback)
  asks_for action.Prune = asked_by [] (command.Ask request.Prune)

  -- a transaction's statements after an answer
  abbrev pub grown : Action A → Reply A → List (Statement A × Reply A) → List (Statement A × Reply A)
  grown (action.Run q) (reply.Refused e) qs = qs
  grown (action.Run q) r qs = qs ++ (q, r) ∷ []
  grown _ _ qs = qs

  abbrev pub imports : Action A → Reply A → Bool
  imports (action.Import i) reply.Imported = true
  imports _ _ = false

  abbrev pub commits_by : Action A → Reply A → Bool
  commits_by action.Commit reply.Committed = true
  commits_by _ _ = false

  abbrev pub begins_by : Action A → Reply A → Bool
  begins_by (action.Begin m) reply.Begun = true
  begins_by _ _ = false

  -- an answer after which no transaction is open
  abbrev pub closes_by : Action A → Reply A → Bool
  closes_by action.Commit r = true
  closes_by action.Rollback reply.RolledBack = true
  closes_by _ _ = false

  abbrev pub are_rows : Reply A → Bool
  are_rows (reply.Rows rows) = true
  are_rows _ = false

  -- What is recorded after an answer to session s: a transaction that began by the BEGIN in line n; or what was recorded before, with what the answer adds.
  pub data Kept (n s : ℕ) (a : Action A) (r : Reply A) (before : Option (Recorded A)) (d : Recorded A) : Type 0 where
    Fresh : (m : Mode) → a ≡ action.Begin m → r ≡ reply.Begun → d ≡ nothing_but s n → Kept n s a r before d
    Older : (p : Recorded A) → before ≡ Some p → begins_by a r ≡ false → closes_by a r ≡ false → d.begin ≡ p.begin → d.statements ≡ grown a r p.statements → ((p.imported || imports a r) ≡ true → d.imported ≡ true) → Kept n s a r before d

  -- A session x has become y by an answer.
  pub record Turn (n s : ℕ) (a : Action A) (r : Reply A) (x y : Session A) : Type 0 where
    pub idle : y.pending ≡ None
    pub drafts : (d : Recorded A) → y.draft ≡ Some d → Kept n s a r x.draft d
    pub lost : y.draft ≡ None → ((x.draft ≡ None) × (begins_by a r ≡ false)) ⊎ (closes_by a r ≡ true)

  -- What is read after an answer in line m: nothing, where it can't be one; or the session has become another, and has committed only by a COMMIT.
  pub data Came (ss : List (Session A)) (begins : List ℕ) (ended : List (Ended A)) (n m s i : ℕ) (a : Action A) (r : Reply A) (x : Session A) : Option (Read A) → Type 0 where
    Lacks : Came ss begins ended n m s i a r x None
    Goes : (y : Session A) (now : List ℕ) → Turn n s a r x y → commits_by a r ≡ false → Came ss begins ended n m s i a r x (Some (read_so (set ss i y) now ended))
    Ends : (y : Session A) (d : Recorded A) → Turn n s a r x y → x.draft ≡ Some d → a ≡ action.Commit → r ≡ reply.Committed
        → Came ss begins ended n m s i a r x (Some (read_so (set ss i y) begins (ended ++ record { draft = d; end = Some m } ∷ [])))

  pub statement_turn : (n s : ℕ) (x : Session A) → x.pending ≡ None → (q : Statement A) (r : Reply A) → ((qs : List (Statement A × Reply A)) → grown (action.Run q) r qs ≡ qs ++ (q, r) ∷ []) → (p : Recorded A) → x.draft ≡ Some p
      → Turn n s (action.Run q) r x (with_draft x (one_more p q r n))
  statement_turn n s x idle q r more p e =
      record { idle = idle; drafts = λ d f. let same : one_more p q r n ≡ d = cc in subst (Kept n s (action.Run q) r x.draft) same (Older p e refl refl refl (sym (more p.statements)) (λ h. or_left p.imported false refl h)); lost = λ d. absurd cc }

  module _ (c : Catalog) (ss : List (Session A)) (begins : List ℕ) (ended : List (Ended A)) (n m s i : ℕ) (x : Session A) (idle : x.pending ≡ None) where
    -- the session with this transaction, or with none
    abbrev so : Option (Recorded A) → Session A
    so o = record x { draft = o }

    abbrev Comes : Action A → Reply A → Option (Recorded A) → Option (Outcome A × Session A) → Type 0
    Comes a r o out = Came ss begins ended n m s i a r (so o) (comes c ss begins ended s i m out)

    stays_so : (a : Action A) (r : Reply A) (o : Option (Recorded A)) → ((qs : List (Statement A × Reply A)) → grown a r qs ≡ qs) → imports a r ≡ false → begins_by a r ≡ false → closes_by a r ≡ false → commits_by a r ≡ false
        → Comes a r o (nothing (so o))
    stays_so a r o same none other close commit =
        Goes (so o) begins (record { idle = idle; drafts = λ d e. Older d e other close refl (sym (same d.statements)) (λ h. or_left d.imported (imports a r) none h); lost = λ e. inl (e, other) }) commit

    closed_so : (a : Action A) (r : Reply A) (o : Option (Recorded A)) → closes_by a r ≡ true → commits_by a r ≡ false → Comes a r o (nothing (closed (so o)))
    closed_so a r o close commit = Goes (closed (so o)) begins (record { idle = idle; drafts = λ d e. absurd cc; lost = λ e. inr close }) commit

    begin_turn : (k : Mode) (o : Option (Recorded A)) → Comes (action.Begin k) reply.Begun o (answer_to s n (so o) (said_of {A = A} reply.Begun) (asks_for (action.Begin k)))
    begin_turn k (Some d) = Lacks
    begin_turn k None =
        Goes (with_draft (so None) (nothing_but s n)) (begins ++ n ∷ [])
        (record { idle = idle; drafts = λ d e. Fresh k refl refl (let same : nothing_but s n ≡ d = cc in sym same); lost = λ e. absurd cc }) refl

    import_turn : (j : ℕ) (o : Option (Recorded A)) → Comes (action.Import j) reply.Imported o (answer_to s n (so o) (said_of {A = A} reply.Imported) (asks_for (action.Import j)))
    import_turn j None = Lacks
    import_turn j (Some p) =
        Goes (with_draft (so (Some p)) (with_import p)) begins
        (record { idle = idle; drafts = λ d f. let same : with_import p ≡ d = cc in subst (Kept n s (action.Import j) reply.Imported (Some p)) same (Older p refl refl refl refl refl (λ h. refl)); lost = λ e. absurd cc }) refl

    commit_turn : (o : Option (Recorded A)) → Comes action.Commit reply.Committed o (answer_to s n (so o) (said_of {A = A} reply.Committed) (asks_for action.Commit))
    commit_turn None = Lacks
    commit_turn (Some p) = Ends (closed (so (Some p))) p (record { idle = idle; drafts = λ d e. absurd cc; lost = λ e. inr refl }) refl refl refl

    recorded_turn : (q : Statement A) (r : Reply A) → ((qs : List (Statement A × Reply A)) → grown (action.Run q) r qs ≡ qs ++ (q, r) ∷ []) → (o : Option (Recorded A))
        → Comes (action.Run q) r o (recorded_of (so o) o q r n >>= λ t. nothing t)
    recorded_turn q r more None = Lacks
    recorded_turn q r more (Some p) = Goes (with_draft (so (Some p)) (one_more p q r n)) begins (statement_turn n s (so (Some p)) idle q r more p refl) refl

    change_turn : (q : Statement A) (r : Reply A) (y : Said) (o : Option (Recorded A)) → ((qs : List (Statement A × Reply A)) → grown (action.Run q) r qs ≡ qs ++ (q, r) ∷ []) → changed y q ≡ Some r
        → Comes (action.Run q) r o (to_change (so o) n q y)
    unfolding to_change
    change_turn q r y o more e =
        subst (λ (z : Option (Reply A)). Comes (action.Run q) r o (z >>= λ k. recorded_of (so o) o q k n >>= λ t. nothing t)) (sym e) (recorded_turn q r more o)

    other_turn : (q : Statement A) (r : Reply A) (y : Said) (o : Option (Recorded A)) → changed {A = A} y q ≡ None → Comes (action.Run q) r o (to_change (so o) n q y)
    unfolding to_change
    other_turn q r y o e = subst (λ (z : Option (Reply A)). Comes (action.Run q) r o (z >>= λ k. recorded_of (so o) o q k n >>= λ t. nothing t)) (sym e) Lacks

    inserted_turn : (q : Statement A) (o : Option (Recorded A)) → Comes (action.Run q) reply.Inserted o (to_change (so o) n q (said_of {A = A} reply.Inserted))
    inserted_turn (Insert t vs) o = change_turn (Insert t vs) reply.Inserted (said_of {A = A} reply.Inserted) o (λ qs. refl) refl
    inserted_turn (Select t p ws) o = other_turn (Select t p ws) reply.Inserted (said_of {A = A} reply.Inserted) o refl
    inserted_turn (Update t us ws) o = other_turn (Update t us ws) reply.Inserted (said_of {A = A} reply.Inserted) o refl
    inserted_turn (Delete t ws) o = other_turn (Delete t ws) reply.Inserted (said_of {A = A} reply.Inserted) o refl

    updated_turn : (k : ℕ) (q : Statement A) (o : Option (Recorded A)) → Comes (action.Run q) (reply.Updated k) o (to_change (so o) n q (said_of {A = A} (reply.Updated k)))
    updated_turn k (Insert t vs) o = other_turn (Insert t vs) (reply.Updated k) (said_of {A = A} (reply.Updated k)) o refl
    updated_turn k (Select t p ws) o = other_turn (Select t p ws) (reply.Updated k) (said_of {A = A} (reply.Updated k)) o refl
    updated_turn k (Update t us ws) o = change_turn (Update t us ws) (reply.Updated k) (said_of {A = A} (reply.Updated k)) o (λ qs. refl) refl
    updated_turn k (Delete t ws) o = other_turn (Delete t ws) (reply.Updated k) (said_of {A = A} (reply.Updated k)) o refl

    deleted_turn : (k : ℕ) (q : Statement A) (o : Option (Recorded A)) → Comes (action.Run q) (reply.Deleted k) o (to_change (so o) n q (said_of {A = A} (reply.Deleted k)))
    deleted_turn k (Insert t vs) o = other_turn (Insert t vs) (reply.Deleted k) (said_of {A = A} (reply.Deleted k)) o refl
    deleted_turn k (Select t p ws) o = other_turn (Select t p ws) (reply.Deleted k) (said_of {A = A} (reply.Deleted k)) o refl
    deleted_turn k (Update t us ws) o = other_turn (Update t us ws) (reply.Deleted k) (said_of {A = A} (reply.Deleted k)) o refl
    deleted_turn k (Delete t ws) o = change_turn (Delete t ws) (reply.Deleted k) (said_of {A = A} (reply.Deleted k)) o (λ qs. refl) refl

    run_turn : (q : Statement A) (r : Reply A) (o : Option (Recorded A)) → are_rows r ≡ false → Comes (action.Run q) r o (answer_to s n (so o) (said_of r) (asks_for (action.Run q)))
    run_turn q (reply.Refused e) o h = stays_so (action.Run q) (reply.Refused e) o (λ qs. refl) refl refl refl refl
    run_turn q reply.Inserted o h = inserted_turn q o
    run_turn q (reply.Updated k) o h = updated_turn k q o
    run_turn q (reply.Deleted k) o h = deleted_turn k q o
    run_turn q (reply.Rows rows) o h = absurd (true≢false h)
    run_turn q reply.Begun o h = other_turn q reply.Begun (said_of {A = A} reply.Begun) o refl
    run_turn q reply.Committed o h = other_turn q reply.Committed (said_of {A = A} reply.Committed) o refl
    run_turn q reply.RolledBack o h = other_turn q reply.RolledBack (said_of {A = A} reply.RolledBack) o refl
    run_turn q reply.Pruned o h = other_turn q reply.Pruned (said_of {A = A} reply.Pruned) o refl
    run_turn q reply.Imported o h = other_turn q reply.Imported (said_of {A = A} reply.Imported) o refl
    run_turn q (reply.Safe k) o h = other_turn q (reply.Safe k) (said_of {A = A} (reply.Safe k)) o refl
    run_turn q reply.Wait o h = other_turn q reply.Wait (said_of {A = A} reply.Wait) o refl
    run_turn q (reply.Exported k) o h = other_turn q (reply.Exported k) (said_of {A = A} (reply.Exported k)) o refl

    turn_so : (a : Action A) (r : Reply A) (o : Option (Recorded A)) → are_rows r ≡ false → Comes a r o (answer_to s n (so o) (said_of r) (asks_for a))
    turn_so (action.Run q) r o h = run_turn q r o h
    turn_so (action.Begin k) reply.Begun o h = begin_turn k o
    turn_so (action.Begin k) (reply.Refused e) o h = stays_so (action.Begin k) (reply.Refused e) o (λ qs. refl) refl refl refl refl
    turn_so (action.Begin k) _ o h = Lacks
    turn_so action.Commit reply.Committed o h = commit_turn o
    turn_so action.Commit reply.RolledBack o h = closed_so action.Commit reply.RolledBack o refl refl
    turn_so action.Commit (reply.Refused e) o h = closed_so action.Commit (reply.Refused e) o refl refl
    turn_so action.Commit _ o h = Lacks
    turn_so action.Rollback reply.RolledBack o h = closed_so action.Rollback reply.RolledBack o refl refl
    turn_so action.Rollback (reply.Refused e) o h = stays_so action.Rollback (reply.Refused e) o (λ qs. refl) refl refl refl refl
    turn_so action.Rollback _ o h = Lacks
    turn_so (action.Import j) reply.Imported o h = import_turn j o
    turn_so (action.Import j) (reply.Refused e) o h = stays_so (action.Import j) (reply.Refused e) o (λ qs. refl) refl refl refl refl
    turn_so (action.Import j) _ o h = Lacks
    turn_so action.Export (reply.Exported j) o h = stays_so action.Export (reply.Exported j) o (λ qs. refl) refl refl refl refl
    turn_so action.Export (reply.Refused e) o h = stays_so action.Export (reply.Refused e) o (λ qs. refl) refl refl refl refl
    turn_so action.Export _ o h = Lacks
    turn_so action.Poll (reply.Safe k) o h = stays_so action.Poll (reply.Safe k) o (λ qs. refl) refl refl refl refl
    turn_so action.Poll reply.Wait o h = stays_so action.Poll reply.Wait o (λ qs. refl) refl refl refl refl
    turn_so action.Poll (reply.Refused e) o h = stays_so action.Poll (reply.Refused e) o (λ qs. refl) refl refl refl refl
    turn_so action.Poll _ o h = Lacks
    turn_so action.Prune reply.Pruned o h = stays_so action.Prune reply.Pruned o (λ qs. refl) refl refl refl refl
    turn_so action.Prune (reply.Refused e) o h = stays_so action.Prune (reply.Refused e) o (λ qs. refl) refl refl refl refl
    turn_so action.Prune _ o h = Lacks
    turn_so (action.Broken f) (reply.Refused e) o h = stays_so (action.Broken f) (reply.Refused e) o (λ qs. refl) refl refl refl refl
    turn_so (action.Broken f) _ o h = Lacks

    -- what comes of a reply that has no rows
    pub turn : (a : Action A) (r : Reply A) → are_rows r ≡ false → Came ss begins ended n m s i a r x (comes c ss begins ended s i m (answer_to s n x (said_of r) (asks_for a)))
    turn a r h = turn_so a r x.draft h
