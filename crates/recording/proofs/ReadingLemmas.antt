-- What is read of a command and the lines of its reply, which follow it.
use Rattle.std.proofs.Common.{◌≡◌, ℕ, zero, suc, ◌+◌, ◌-◌, ◌<◌, ◌≤◌, true, false, cond, eqb, ltb, ◌&&◌, ◌||◌, List, [], ◌∷◌, ◌++◌, length, set, map, Option, Some, None, Result, Ok, Err, refl, sym, ap, subst, ◌∙◌, append_assoc, arith}
use Rattle.std.specs.Prelude.{codes, drop, is_some, slice_get, slice_index, take}
use Rattle.std.specs.Char.{is_ascii_digit}
use Rattle.std.specs.Fmt.{decimal}
use Rattle.std.specs.Str.{IsUtf8, bytes_eq}
use Rattle.std.proofs.lemmas.Bool.{eq-eqb, lt-ltb}
use Rattle.std.proofs.lemmas.Option.{slice_get_within}
use Rattle.std.proofs.lemmas.Str.{IsUtf8-append, is_utf8-from_IsUtf8}
use Rattle.value.specs.declared.kind.Kind.{Kind}
use Rattle.value.specs.declared.value.Value.{Value}
use Rattle.value.proofs.Basics.{eqb_comm, lt-eqb}
use Rattle.schema.specs.Definition.{Catalog}
use Rattle.copytext.specs.RoundTrip.{fit_kinds}
use Rattle.copytext.specs.Writing.{line_text}
use Rattle.script.specs.Commands.{◌>>=◌}
use Rattle.transcript.specs.Asking.{asked}
use Rattle.transcript.specs.Lines.{kind_of, kind_of_text}
use Rattle.transcript.specs.Reading.{Awaited, Read, checkpoint_replied, followed, one_more, other_asked, replied, row_shown, session_asks, settled, shown, values_of, with_kind, with_line, with_sessions}
use Rattle.transcript.specs.Saying.{row_text, said, session_and_text}
use Rattle.transcript.specs.Sessions.{answer_to, answered, answered_of, asked_of, asks}
use Rattle.transcript.specs.declared.lines.LineKind.TheVariants.{Command, Reply as ReplyLine, Skipped}
use Rattle.recording.proofs.Names.{Asked, Ended, Outcome, Said, Session}
use Rattle.recording.proofs.TextLemmas.{IsUtf8-plain, decimal_plain}
use Rattle.recording.proofs.LinesLemmas.{none_read, one_read, whole}
use Rattle.recording.proofs.RowLemmas.{row_again, row_utf8}
use Rattle.recording.proofs.SayingLemmas.{IsSession, not_of_checkpoint, session_text, shown_line}

-- ---- kinds of lines

not_empty : (n : ℕ) → eqb (suc n) 0 ≡ false
not_empty n = eqb_comm (suc n) 0 ∙ lt-eqb 0 (suc n) (omega arith)

pub command_kind : (line : List ℕ) → IsUtf8 line → kind_of (codes "> " ++ line) ≡ Some Command
command_kind line u =
    ap (λ b. cond b (kind_of_text (codes "> " ++ line)) None) (is_utf8-from_IsUtf8 (codes "> " ++ line) (IsUtf8-append (codes "> ") line (IsUtf8-plain (codes "> ") refl) u))
    ∙ ap (λ b. cond (b || false || false) (Some Skipped) (Some Command)) (not_empty (suc (length line)))

pub reply_kind : (line : List ℕ) → IsUtf8 line → kind_of (codes "  " ++ line) ≡ Some ReplyLine
reply_kind line u =
    ap (λ b. cond b (kind_of_text (codes "  " ++ line)) None) (is_utf8-from_IsUtf8 (codes "  " ++ line) (IsUtf8-append (codes "  ") line (IsUtf8-plain (codes "  ") refl) u))
    ∙ ap (λ b. cond (b || false || false) (Some Skipped) (Some ReplyLine)) (not_empty (suc (length line)))

-- ---- a list in which one place is set twice

set_twice : {X : Type 0} (xs : List X) (i : ℕ) (x y : X) → set (set xs i x) i y ≡ set xs i y
set_twice [] i x y = refl
set_twice (z ∷ xs) zero x y = refl
set_twice (z ∷ xs) (suc i) x y = ap (λ l. z ∷ l) (set_twice xs i x y)

pub set_same : {X : Type 0} (xs : List X) (i : ℕ) (x : X) → slice_get xs i ≡ Some x → set xs i x ≡ xs
set_same [] i x e = refl
set_same (z ∷ xs) zero x e = let p : z ≡ x = cc in ap (λ y. y ∷ xs) (sym p)
set_same (z ∷ xs) (suc i) x e = ap (λ l. z ∷ l) (set_same xs i x e)

pub get_set : {X : Type 0} (xs : List X) (i : ℕ) (x : X) → i < length xs → slice_get (set xs i x) i ≡ Some x
get_set [] i x l = absurd (omega (arith, l))
get_set (z ∷ xs) zero x l = refl
get_set (z ∷ xs) (suc i) x l = get_set xs i x (omega (arith, l))

pub length_set : {X : Type 0} (xs : List X) (i : ℕ) (x : X) → length (set xs i x) ≡ length xs
length_set [] i x = refl
length_set (z ∷ xs) zero x = refl
length_set (z ∷ xs) (suc i) x = ap suc (length_set xs i x)

-- a command, and the first line of its reply to session s, and lines after them
abbrev pub both : ℕ → List ℕ → List ℕ → List (List ℕ) → List (List ℕ)
both s line rest more = (codes "> " ++ line) ∷ (codes "  " ++ (decimal s ++ 32 ∷ rest)) ∷ more

module _ {A : Type 0} where
  -- what is read so far, where no reply is missing
  abbrev pub read_so : List (Session A) → List ℕ → List (Ended A) → Read A
  read_so ss begins ended = record { sessions = ss; checkpoints = 0; due = None; begins = begins; ended = ended }

  -- the session awaits a reply
  abbrev pub waiting : Session A → Asked A → ℕ → Session A
  waiting x a n = record x { pending = Some (record { asked = a; line = n }) }

  -- what is read so far, where rows are awaited
  abbrev pub due_so : List (Session A) → List ℕ → List (Ended A) → Awaited A → Read A
  due_so ss begins ended d = record { sessions = ss; checkpoints = 0; due = Some d; begins = begins; ended = ended }

  abbrev pub with_row : Awaited A → List (Value A) → Awaited A
  with_row d row = record d { rows = d.rows ++ row ∷ []; left = d.left - 1 }

  -- once all rows have come
  abbrev pub complete : Awaited A → List (List (Value A)) → Awaited A
  complete d rows = record d { rows = d.rows ++ rows; left = 0 }

  -- the lines of rows
  abbrev pub marked_rows : ℕ → List (List (Value A)) → List (List ℕ)
  marked_rows s rows = map (λ l. codes "  " ++ l) (map (shown_line s) rows)

  -- rows with fields of these kinds
  abbrev pub AreShown : List Kind → List (List (Value A)) → Type 0
  AreShown kinds [] = Unit {0}
  AreShown kinds (row ∷ rows) = (fit_kinds kinds row ≡ true) × (0 < length row) × AreShown kinds rows

  -- What lines come to, of which the next is the n-th at least: this is read, or one of them may not stand where it stands.
  abbrev pub Come : ℕ → Option (Read A) → Result (Read A × ℕ) ℕ → Type 0
  Come n None w = (k : ℕ) × (w ≡ Err k)
  Come n (Some r) w = (m : ℕ) × (n ≤ m) × (w ≡ Ok (r, m))

  idle_again : (x : Session A) → x.pending ≡ None → record x { pending = None } ≡ x
  idle_again x e = ap (λ p. record x { pending = p }) (sym e)

module _ {A : Type 0} (c : Catalog) where
  abbrev pub reads : Read A → ℕ → List (List ℕ) → Result (Read A × ℕ) ℕ
  reads = whole (with_line c)

  -- what comes of the answer to session s in line m
  abbrev pub comes : List (Session A) → List ℕ → List (Ended A) → ℕ → ℕ → ℕ → Option (Outcome A × Session A) → Option (Read A)
  comes ss begins ended s i m None = None
  comes ss begins ended s i m (Some o) = followed c (read_so (set ss i o.1) begins ended) s m o.0

  -- A line asks this of its session.
  pub record IsAsked (line : List ℕ) (s : ℕ) (a : Asked A) : Type 0 where
    pub utf8 : IsUtf8 line
    pub digit : is_ascii_digit (slice_index line 0) ≡ true
    pub asks : asked c line ≡ Some (s, a)

  -- A session that awaits nothing.
  pub record IsIdle (ss : List (Session A)) (s i : ℕ) (x : Session A) : Type 0 where
    pub number : s ≡ suc i
    pub is : slice_get ss i ≡ Some x
    pub idle : x.pending ≡ None

  -- ---- a command

  asked_by : (r : Read A) (n : ℕ) (line : List ℕ) (s : ℕ) (a : Asked A) → asked c line ≡ Some (s, a) → session_asks c r n line ≡ (asked_of r.sessions s n a >>= λ ss. Some (with_sessions r ss))
  unfolding session_asks
  asked_by r n line s a e = ap (λ (o : Option (ℕ × Asked A)). o >>= λ p. asked_of r.sessions p.0 n p.1 >>= λ ss. Some (with_sessions r ss)) e

  module _ (ss : List (Session A)) (begins : List ℕ) (ended : List (Ended A)) (n s i : ℕ) (line : List ℕ) (a : Asked A) (x : Session A) (asking : IsAsked line s a) (idle : IsIdle ss s i x) where
    pub within : i < length ss
    within = slice_get_within ss i x idle.is

    pub place : i ≡ s - 1
    place = let e : s ≡ suc i = idle.number in omega (arith, e)

    asks_now : asks x a n ≡ Some (waiting x a n)
    asks_now = ap (λ o. cond (is_some o) None (Some (waiting x a n))) idle.idle

    abbrev now : List (Session A)
    now = set ss i (waiting x a n)

    asked_now : asked_of ss s n a ≡ Some now
    unfolding asked_of
    asked_now =
        ap (λ (k : ℕ). slice_get ss k >>= λ z. asks z a n >>= λ t. Some (set ss k t)) (sym place)
        ∙ ap (λ (o : Option (Session A)). o >>= λ z. asks z a n >>= λ t. Some (set ss i t)) idle.is
        ∙ ap (λ (o : Option (Session A)). o >>= λ t. Some (set ss i t)) asks_now

    command_read : with_line c (read_so ss begins ended) n (codes "> " ++ line) ≡ Some (read_so now begins ended)
    command_read =
        ap (with_kind c (read_so ss begins ended) n (codes "> " ++ line)) (command_kind line asking.utf8)
        ∙ ap (λ b. cond b (session_asks c (read_so ss begins ended) n line) (Some (other_asked (read_so ss begins ended) line))) asking.digit
        ∙ asked_by (read_so ss begins ended) n line s a asking.asks
        ∙ ap (λ (o : Option (List (Session A))). o >>= λ ts. Some (with_sessions (read_so ss begins ended) ts)) asked_now

    -- ---- its reply

    waits : slice_get now i ≡ Some (waiting x a n)
    waits = get_set ss i (waiting x a n) within

    abbrev with_answer : Outcome A × Session A → Option (Outcome A × List (Session A))
    with_answer o = Some (o.0, set now i o.1)

    answered_now : (says : Said) → answered_of now s says ≡ (answered s (waiting x a n) says >>= with_answer)
    unfolding answered_of
    answered_now says =
        ap (λ (k : ℕ). slice_get now k >>= λ z. answered s z says >>= λ o. Some (o.0, set now k o.1)) (sym place)
        ∙ ap (λ (o : Option (Session A)). o >>= λ z. answered s z says >>= with_answer) waits

    answers_now : (says : Said) → answered s (waiting x a n) says ≡ answer_to s n x says a
    answers_now says = ap (λ (y : Session A). answer_to s n y says a) (idle_again x idle.idle)

    came : (m : ℕ) (says : Said) (o : Option (Outcome A × Session A)) → answered s (waiting x a n) says ≡ o
        → (answered_of now s says >>= λ p. followed c (with_sessions (read_so now begins ended) p.1) s m p.0) ≡ comes ss begins ended s i m o
    came m says o e =
        ap (λ (q : Option (Outcome A × List (Session A))). q >>= λ p. followed c (with_sessions (read_so now begins ended) p.1) s m p.0)
        (answered_now says ∙ ap (λ (q : Option (Outcome A × Session A)). q >>= with_answer) e)
        ∙ last o
      where
        last : (p : Option (Outcome A × Session A)) → ((p >>= with_answer) >>= λ z. followed c (with_sessions (read_so now begins ended) z.1) s m z.0) ≡ comes ss begins ended s i m p
        last None = refl
        last (Some z) = ap (λ (ts : List (Session A)). followed c (read_so ts begins ended) s m z.0) (set_twice ss i (waiting x a n) z.1)

    replied_by_text : (r : Read A) (m : ℕ) (text rest : List ℕ) (says : Said) → session_and_text text ≡ Some (s, rest) → said rest ≡ Some says
        → replied c r m text ≡ (answered_of r.sessions s says >>= λ p. followed c (with_sessions r p.1) s m p.0)
    unfolding replied
    replied_by_text r m text rest says e f =
        ap (λ (o : Option (ℕ × List ℕ)). o >>= λ p. said p.1 >>= λ y. answered_of r.sessions p.0 y >>= λ q. followed c (with_sessions r q.1) p.0 m q.0) e
        ∙ ap (λ (o : Option Said). o >>= λ y. answered_of r.sessions s y >>= λ q. followed c (with_sessions r q.1) s m q.0) f

    reply_read : (m : ℕ) (rest : List ℕ) (says : Said) → IsSession s → IsUtf8 rest → said rest ≡ Some says
        → with_line c (read_so now begins ended) m (codes "  " ++ (decimal s ++ 32 ∷ rest)) ≡ comes ss begins ended s i m (answer_to s n x says a)
    reply_read m rest says h u e =
        ap (with_kind c (read_so now begins ended) m (codes "  " ++ (decimal s ++ 32 ∷ rest)))
        (reply_kind (decimal s ++ 32 ∷ rest) (IsUtf8-append (decimal s) (32 ∷ rest) (IsUtf8-plain (decimal s) (decimal_plain s)) (IsUtf8-append (32 ∷ []) rest (IsUtf8-plain (32 ∷ []) refl) u)))
        ∙ ap (λ b. cond b (checkpoint_replied (read_so now begins ended)) (replied c (read_so now begins ended) m (decimal s ++ 32 ∷ rest))) (not_of_checkpoint s (32 ∷ rest) h)
        ∙ replied_by_text (read_so now begins ended) m (decimal s ++ 32 ∷ rest) rest says (session_text s rest h) e
        ∙ came m says (answered s (waiting x a n) says) refl
        ∙ ap (comes ss begins ended s i m) (answers_now says)

    -- ---- both, and lines after them

    -- the reply can't be one to this
    pub both_wrong : (rest : List ℕ) (says : Said) (more : List (List ℕ)) → IsSession s → IsUtf8 rest → said rest ≡ Some says → comes ss begins ended s i (n + 1) (answer_to s n x says a) ≡ None
        → reads (read_so ss begins ended) n (both s line rest more) ≡ Err (n + 1)
    both_wrong rest says more h u e f =
        one_read (with_line c) (read_so ss begins ended) (read_so now begins ended) n (codes "> " ++ line) ((codes "  " ++ (decimal s ++ 32 ∷ rest)) ∷ more) command_read
        ∙ none_read (with_line c) (read_so now begins ended) (n + 1) (codes "  " ++ (decimal s ++ 32 ∷ rest)) more (reply_read (n + 1) rest says h u e ∙ f)

    pub both_read : (rest : List ℕ) (says : Said) (more : List (List ℕ)) (r : Read A) → IsSession s → IsUtf8 rest → said rest ≡ Some says → comes ss begins ended s i (n + 1) (answer_to s n x says a) ≡ Some r
        → reads (read_so ss begins ended) n (both s line rest more) ≡ reads r (n + 1 + 1) more
    both_read rest says more r h u e f =
        one_read (with_line c) (read_so ss begins ended) (read_so now begins ended) n (codes "> " ++ line) ((codes "  " ++ (decimal s ++ 32 ∷ rest)) ∷ more) command_read
        ∙ one_read (with_line c) (read_so now begins ended) r (n + 1) (codes "  " ++ (decimal s ++ 32 ∷ rest)) more (reply_read (n + 1) rest says h u e ∙ f)

  -- ---- the rows of a SELECT

  module _ (ss : List (Session A)) (begins : List ℕ) (ended : List (Ended A)) (s : ℕ) (session : IsSession s) (kinds : List Kind) where
    row_text_again : (row : List (Value A)) → row_text s (shown_line s row) ≡ Some (line_text row)
    unfolding row_text
    row_text_again row =
        ap (λ (o : Option (ℕ × List ℕ)). o >>= λ p. cond (eqb p.0 s && bytes_eq (take 2 p.1) (codes "| ")) (Some (drop 2 p.1)) None) (session_text s (124 ∷ 32 ∷ line_text row) session)
        ∙ ap (λ b. cond (b && true) (Some (line_text row)) None) (eq-eqb s s refl)

    one_row : (d : Awaited A) (row : List (Value A)) → d.session ≡ s → d.kinds ≡ kinds → fit_kinds kinds row ≡ true → 0 < length row → one_more d (shown_line s row) ≡ Some (with_row d row)
    unfolding one_more
    one_row d row e f fits some =
        ap (λ k. row_text k (shown_line s row) >>= λ text. values_of d.kinds text >>= λ vs. Some (with_row d vs)) e
        ∙ ap (λ (o : Option (List ℕ)). o >>= λ text. values_of d.kinds text >>= λ vs. Some (with_row d vs)) (row_text_again row)
        ∙ ap (λ ks. values_of ks (line_text row) >>= λ vs. Some (with_row d vs)) f
        ∙ ap (λ (o : Option (List (Value A))). o >>= λ vs. Some (with_row d vs)) (row_again kinds row fits some)

    shows_row : (d : Awaited A) (row : List (Value A)) → d.session ≡ s → d.kinds ≡ kinds → fit_kinds kinds row ≡ true → 0 < length row → row_shown (read_so ss begins ended) d (shown_line s row) ≡ settled (read_so ss begins ended) (with_row d row)
    unfolding row_shown
    shows_row d row e f fits some = ap (λ (o : Option (Awaited A)). o >>= λ w. settled (read_so ss begins ended) w) (one_row d row e f fits some)

    row_read : (d : Awaited A) (n : ℕ) (row : List (Value A)) → d.session ≡ s → d.kinds ≡ kinds → fit_kinds kinds row ≡ true → 0 < length row
        → with_line c (due_so ss begins ended d) n (codes "  " ++ shown_line s row) ≡ settled (read_so ss begins ended) (with_row d row)
    row_read d n row e f fits some =
        ap (with_kind c (due_so ss begins ended d) n (codes "  " ++ shown_line s row))
        (reply_kind (shown_line s row) (IsUtf8-append (decimal s) (32 ∷ 124 ∷ 32 ∷ line_text row) (IsUtf8-plain (decimal s) (decimal_plain s)) (IsUtf8-append (32 ∷ 124 ∷ 32 ∷ []) (line_text row) (IsUtf8-plain (32 ∷ 124 ∷ 32 ∷ []) refl) (row_utf8 kinds row fits))))
        ∙ shows_row d row e f fits some

    pub rows_read : (rows : List (List (Value A))) (d : Awaited A) (n : ℕ) → d.session ≡ s → d.kinds ≡ kinds → AreShown kinds rows → d.left ≡ length rows → 0 < length rows
        → Come n (shown (read_so ss begins ended) (complete d rows)) (reads (due_so ss begins ended d) n (marked_rows s rows))
    rows_read [] d n e f fits left some = absurd (omega (arith, some))
    rows_read (row ∷ []) d n e f fits left some =
        go (shown (read_so ss begins ended) (complete d (row ∷ []))) refl
      where
        none : (with_row d row).left ≡ 0
        none = omega (arith, left)

        last : settled (read_so ss begins ended) (with_row d row) ≡ shown (read_so ss begins ended) (complete d (row ∷ []))
        last = ap (λ k. settled (read_so ss begins ended) (record d { rows = d.rows ++ row ∷ []; left = k })) none

        go : (o : Option (Read A)) → shown (read_so ss begins ended) (complete d (row ∷ [])) ≡ o → Come n o (reads (due_so ss begins ended d) n (marked_rows s (row ∷ [])))
        go None g = (n, none_read (with_line c) (due_so ss begins ended d) n (codes "  " ++ shown_line s row) [] (row_read d n row e f fits.0 fits.1 ∙ last ∙ g))
        go (Some r) g = (n + 1, omega arith, one_read (with_line c) (due_so ss begins ended d) r n (codes "  " ++ shown_line s row) [] (row_read d n row e f fits.0 fits.1 ∙ last ∙ g))
    rows_read (row ∷ next ∷ rows) d n e f fits left some =
        subst (λ w. Come n (shown (read_so ss begins ended) w) (reads (due_so ss begins ended d) n (marked_rows s (row ∷ next ∷ rows)))) same
        (go (shown (read_so ss begins ended) (complete (with_row d row) (next ∷ rows))) (rows_read (next ∷ rows) (with_row d row) (n + 1) e f fits.2 (omega (arith, left)) (omega arith)))
      where
        more : ltb 0 (with_row d row).left ≡ true
        more = let l : 0 < (with_row d row).left = omega (arith, left) in lt-ltb 0 (with_row d row).left l

        first : reads (due_so ss begins ended d) n (marked_rows s (row ∷ next ∷ rows)) ≡ reads (due_so ss begins ended (with_row d row)) (n + 1) (marked_rows s (next ∷ rows))
        first =
            one_read (with_line c) (due_so ss begins ended d) (due_so ss begins ended (with_row d row)) n (codes "  " ++ shown_line s row) (marked_rows s (next ∷ rows))
            (row_read d n row e f fits.0 fits.1 ∙ ap (λ b. cond b (Some (due_so ss begins ended (with_row d row))) (shown (read_so ss begins ended) (with_row d row))) more)

        same : complete (with_row d row) (next ∷ rows) ≡ complete d (row ∷ next ∷ rows)
        same = ap (λ rs. record d { rows = rs; left = 0 }) (append_assoc d.rows (row ∷ []) (next ∷ rows))

        go : (o : Option (Read A)) → Come (n + 1) o (reads (due_so ss begins ended (with_row d row)) (n + 1) (marked_rows s (next ∷ rows))) → Come n o (reads (due_so ss begins ended d) n (marked_rows s (row ∷ next ∷ rows)))
        go None w = (w.0, first ∙ w.1)
        go (Some r) w = let l : n + 1 ≤ w.0 = w.1 in (w.0, omega (arith, l), first ∙ w.2)
