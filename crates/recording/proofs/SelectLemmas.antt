-- What is read of a SELECT with its rows.
use Rattle.std.proofs.Common.{◌≡◌, ℕ, ◌+◌, ◌<◌, true, cond, ltb, List, [], ◌∷◌, length, set, Option, Some, None, Ok, refl, sym, ap, subst, ◌∙◌, arith}
use Rattle.std.specs.Prelude.{slice_get}
use Rattle.std.proofs.lemmas.Bool.{lt-ltb}
use Rattle.value.specs.declared.kind.Kind.{Kind}
use Rattle.value.specs.declared.value.Value.{Value}
use Rattle.schema.specs.Definition.{Catalog, columns_of}
use Rattle.statement.specs.declared.condition.Condition.{Condition}
use Rattle.statement.specs.declared.reply.Reply.TheVariants as reply
use Rattle.statement.specs.declared.statement.Projection.{Projection}
use Rattle.statement.specs.declared.statement.Statement.{Statement}
use Rattle.statement.specs.declared.statement.Statement.TheVariants.{Select}
use Rattle.script.specs.Commands.{◌>>=◌}
use Rattle.script.specs.Printing.{tag}
use Rattle.transcript.specs.Asking.{spoken}
use Rattle.transcript.specs.Reading.{Awaited, Read, awaited, kinds_shown, rows_follow, settled, shown, with_sessions}
use Rattle.transcript.specs.Sessions.{answer_to, recorded, recorded_in}
use Rattle.recording.specs.Runs.{IsSmall}
use Rattle.recording.proofs.Names.{Ended, Session}
use Rattle.recording.proofs.TextLemmas.{IsUtf8-plain}
use Rattle.recording.proofs.ReadingLemmas.{AreShown, IsAsked, IsIdle, Come, both, both_read, both_wrong, comes, due_so, marked_rows, read_so, reads, rows_read, place, set_same}
use Rattle.recording.proofs.SayingLemmas.{IsSession, said_of, tag_plain, tag_says}

module _ {A : Type 0} (c : Catalog) (ss : List (Session A)) (begins : List ℕ) (ended : List (Ended A)) (n s i : ℕ) (line : List ℕ) (t : ℕ) (p : Projection A) (ws : List (Condition A)) (x : Session A) where
  abbrev q : Statement A
  q = Select t p ws

  abbrev kinds : List Kind
  kinds = kinds_shown (columns_of c t) p

  -- the SELECT is recorded of a transaction, or there is none
  abbrev pub told : Option (Session A) → Option (Read A)
  told None = None
  told (Some y) = Some (read_so (set ss i y) begins ended)

  module _ (asking : IsAsked c line s (spoken (Ok (Select t p ws)))) (idle : IsIdle c ss s i x) (session : IsSession s) (there_is : t < length c) (rows : List (List (Value A))) (small : IsSmall (reply.Rows rows)) (fits : AreShown (kinds_shown (columns_of c t) p) rows) where
    abbrev text : List ℕ
    text = tag {A = A} (reply.Rows rows)

    abbrev first : ℕ → Awaited A
    first left = record { session = s; statement = q; line = n; kinds = kinds; rows = []; left = left }

    awaits : (left : ℕ) → awaited c s q left n ≡ Some (first left)
    unfolding awaited
    awaits left = ap (λ b. cond b (Some kinds) None >>= λ ks. Some (record { session = s; statement = q; line = n; kinds = ks; rows = []; left = left })) (lt-ltb t (length c) there_is)

    follows : (r : Read A) (left : ℕ) → rows_follow c r s q left n ≡ settled r (first left)
    unfolding rows_follow
    follows r left = ap (λ (o : Option (Awaited A)). o >>= λ d. settled r d) (awaits left)

    sessions : set ss i x ≡ ss
    sessions = set_same ss i x idle.is

    comes_to : comes c ss begins ended s i (n + 1) (answer_to s n x (said_of (reply.Rows rows)) (spoken (Ok q))) ≡ settled (read_so ss begins ended) (first (length rows))
    comes_to = ap (λ ts. rows_follow c (read_so ts begins ended) s q (length rows) n) sessions ∙ follows (read_so ss begins ended) (length rows)

    recorded_now : (rs : List (List (Value A))) → recorded_in ss s q (reply.Rows rs) n ≡ (recorded x q (reply.Rows rs) n >>= λ y. Some (set ss i y))
    unfolding recorded_in
    recorded_now rs =
        ap (λ (k : ℕ). slice_get ss k >>= λ z. recorded z q (reply.Rows rs) n >>= λ y. Some (set ss k y)) (sym (place c ss begins ended n s i line (spoken (Ok q)) x asking idle))
        ∙ ap (λ (o : Option (Session A)). o >>= λ z. recorded z q (reply.Rows rs) n >>= λ y. Some (set ss i y)) idle.is

    shown_is : (rs : List (List (Value A))) (o : Option (Session A)) → recorded x q (reply.Rows rs) n ≡ o → shown (read_so ss begins ended) (record (first 0) { rows = rs }) ≡ told o
    unfolding shown
    shown_is rs o e =
        ap (λ (r : Option (List (Session A))). r >>= λ ts. Some (with_sessions (read_so ss begins ended) ts)) (recorded_now rs ∙ ap (λ (p : Option (Session A)). p >>= λ y. Some (set ss i y)) e)
        ∙ last o
      where
        last : (p : Option (Session A)) → ((p >>= λ y. Some (set ss i y)) >>= λ ts. Some (with_sessions (read_so ss begins ended) ts)) ≡ told p
        last None = refl
        last (Some y) = refl

    -- without rows
    none_read : (rs : List (List (Value A))) → rs ≡ [] → (o : Option (Read A)) → settled (read_so ss begins ended) (first (length rows)) ≡ o
        → Come (n + 1 + 1) o (reads c (read_so ss begins ended) n (both s line text []))
    none_read rs e None f = (n + 1, both_wrong c ss begins ended n s i line (spoken (Ok q)) x asking idle text (said_of (reply.Rows rows)) [] session (IsUtf8-plain text (tag_plain (reply.Rows rows))) (tag_says (reply.Rows rows) small) (comes_to ∙ f))
    none_read rs e (Some r) f = (n + 1 + 1, omega arith, both_read c ss begins ended n s i line (spoken (Ok q)) x asking idle text (said_of (reply.Rows rows)) [] r session (IsUtf8-plain text (tag_plain (reply.Rows rows))) (tag_says (reply.Rows rows) small) (comes_to ∙ f))

  pub select_read : (asking : IsAsked c line s (spoken (Ok (Select t p ws)))) (idle : IsIdle c ss s i x) (session : IsSession s) → t < length c → (rows : List (List (Value A))) → IsSmall (reply.Rows rows)
      → AreShown (kinds_shown (columns_of c t) p) rows
      → Come (n + 1 + 1) (told (recorded x (Select t p ws) (reply.Rows rows) n))
      (reads c (read_so ss begins ended) n (both s line (tag {A = A} (reply.Rows rows)) (marked_rows s rows)))
  select_read asking idle session there_is [] small fits =
      subst (λ o. Come (n + 1 + 1) o (reads c (read_so ss begins ended) n (both s line (tag {A = A} (reply.Rows [])) [])))
      (shown_is asking idle session there_is [] small fits [] (recorded x q (reply.Rows []) n) refl)
      (none_read asking idle session there_is [] small fits [] refl (settled (read_so ss begins ended) (first asking idle session there_is [] small fits 0)) refl)
  select_read asking idle session there_is (row ∷ rows) small fits =
      let d = first asking idle session there_is (row ∷ rows) small fits (length (row ∷ rows)) in
      let come = comes_to asking idle session there_is (row ∷ rows) small fits in
      let some : ltb 0 (length (row ∷ rows)) ≡ true = lt-ltb 0 (length (row ∷ rows)) (omega arith) in
      let begun = both_read c ss begins ended n s i line (spoken (Ok q)) x asking idle (tag {A = A} (reply.Rows (row ∷ rows))) (said_of (reply.Rows (row ∷ rows))) (marked_rows s (row ∷ rows)) (due_so ss begins ended d) session
      (IsUtf8-plain (tag {A = A} (reply.Rows (row ∷ rows))) (tag_plain (reply.Rows (row ∷ rows)))) (tag_says (reply.Rows (row ∷ rows)) small)
      (come ∙ ap (λ b. cond b (Some (due_so ss begins ended d)) (shown (read_so ss begins ended) d)) some) in
      subst (λ w. Come (n + 1 + 1) (told (recorded x q (reply.Rows (row ∷ rows)) n)) w) (sym begun)
      (subst (λ o. Come (n + 1 + 1) o (reads c (due_so ss begins ended d) (n + 1 + 1) (marked_rows s (row ∷ rows))))
      (shown_is asking idle session there_is (row ∷ rows) small fits (row ∷ rows) (recorded x q (reply.Rows (row ∷ rows)) n) refl)
      (rows_read c ss begins ended s session kinds (row ∷ rows) d (n + 1 + 1) refl refl fits refl (omega arith)))
