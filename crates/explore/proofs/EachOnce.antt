-- A schedule does each line of each session once: a turn does the session's next line, and an interleaving has as many turns of a session as that has lines.
use Rattle.std.proofs.Common.{◌≡◌, ◌==◌, refl, sym, ap, ◌∙◌, subst, ℕ, zero, suc, ◌+◌, ◌-◌, ◌≤◌, ◌<◌, ◌⊎◌, inl, inr, Bool, true, false, cond, get_or, take, List, [], ◌∷◌, ◌++◌, map, length, Option, Some, None, Result, Ok, Err, arith}
use Rattle.std.specs.Prelude.{◌^◌, ◌||◌, nat_le, not, slice_get, slice_index}
use Rattle.std.specs.List.{All}
use Rattle.std.proofs.lemmas.Bool.{cases_eq, cases_lt, eq-eqb, ne_eqb}
use Rattle.std.proofs.lemmas.List.{append-nil, get_or-append_right, get_or_append_left, get_or_past, length_push, map_push, take_all, take_more}
use Rattle.std.proofs.lemmas.List.Elements.{All-from_get_or, filter-append}
use Rattle.std.proofs.lemmas.Option.{slice_get_cases}
use Rattle.value.specs.declared.refusal.Code.TheVariants.{ObjectNotInPrerequisiteState, ProgramLimitExceeded}
use Rattle.value.specs.declared.refusal.Refusal.{Refusal}
use Rattle.value.specs.Refusals.{of_code}
use Rattle.schema.specs.Definition.{Catalog}
use Rattle.history.specs.Opening.{Opening, Recorded}
use Rattle.history.specs.Answer.{checkpoint_from}
use Rattle.history.specs.Checkpoint.{opening_after}
use Rattle.history.specs.Events.{start, world_of}
use Rattle.history.specs.Transactions.{World, is_quiet}
use Rattle.history.specs.declared.event.Record.{Record}
use Rattle.serial.proofs.legal.Histories.{run-catalog}
use Rattle.session.specs.Core.{from_opening}
use Rattle.explore.specs.Interleavings.{IsInterleaving, interleavings, occurrences, same_order, turns}
use Rattle.explore.specs.declared.plan.Line.{Line}
use Rattle.explore.specs.Explored.{DoesEachOnce, Explored, RunsTo, after_turn, after_turns, beginning, done, events_of, line_action, line_counts, lines_of, own_events, own_line, own_lines, place_of, schedules, session_action, sessions, this_or_later, turns_of}
use Rattle.explore.proofs.Beginnings.{is_unbegun}
use Rattle.explore.proofs.CursorLemmas.{differs, event, is_own}

-- ---- orders among others

same : (order : List ℕ) → same_order order order ≡ 1
same [] = refl
same (x ∷ order) = ap (λ b. cond b (same_order order order) 0) (eq-eqb x x refl) ∙ same order

among : (orders : List (List ℕ)) (i : ℕ) → i < length orders → 0 < occurrences (get_or orders i []) orders
among [] i lt = absurd (omega (arith, lt))
among (order ∷ orders) zero lt = omega (arith, same order)
among (order ∷ orders) (suc i) lt = omega (arith, among orders i (omega (arith, lt)))

turns-same : (p q : ℕ) (order : List ℕ) → q ≡ p → turns p (q ∷ order) ≡ 1 + turns p order
turns-same p q order e = ap (λ b. cond b 1 0 + turns p order) (eq-eqb q p e)

turns-other : (p q : ℕ) (order : List ℕ) → (q ≡ p → ⊥) → turns p (q ∷ order) ≡ turns p order
turns-other p q order never = ap (λ b. cond b 1 0 + turns p order) (ne_eqb q p never) ∙ omega arith

module _ {A : Type 0} where
  -- ---- the lines of a session

  -- after k others of its own comes the k-th of its own
  own_line_is : (p k : ℕ) (ls : List (Line A)) → own_line p k ls ≡ slice_get (own_lines p ls) k
  own_line_is p k [] = refl
  own_line_is p k (l ∷ ls) = go (place_of l.session == p) k (λ n. own_line_is p n ls)
    where
      first : (k : ℕ) → ((n : ℕ) → own_line p n ls ≡ slice_get (own_lines p ls) n) → this_or_later k l (own_line p (k - 1) ls) ≡ slice_get (l ∷ own_lines p ls) k
      first zero later = refl
      first (suc n) later = let less : suc n - 1 ≡ n = omega arith in ap (λ m. own_line p m ls) less ∙ later n

      go : (b : Bool) (k : ℕ) → ((n : ℕ) → own_line p n ls ≡ slice_get (own_lines p ls) n) →
          cond b (this_or_later k l (own_line p (k - 1) ls)) (own_line p k ls) ≡ slice_get (cond b (l ∷ own_lines p ls) (own_lines p ls)) k
      go true k later = first k later
      go false k later = later k

  length-line_counts : (lines : List (Line A)) (n : ℕ) → length (line_counts lines n) ≡ n
  unfolding line_counts
  length-line_counts lines zero = refl
  length-line_counts lines (suc n) = length_push (line_counts lines n) (lines_of n lines) ∙ omega (arith, length-line_counts lines n)

  line_counts_at : (lines : List (Line A)) (n p : ℕ) → p < n → slice_index (line_counts lines n) p ≡ lines_of p lines
  unfolding line_counts
  line_counts_at lines zero p lt = absurd (omega (arith, lt))
  line_counts_at lines (suc n) p lt = go (cases_lt p n) (line_counts_at lines n p)
    where
      long : length (line_counts lines n) ≡ n
      long = length-line_counts lines n

      go : (p < n) ⊎ (n ≤ p) → (p < n → slice_index (line_counts lines n) p ≡ lines_of p lines) → get_or (line_counts lines n ++ lines_of n lines ∷ []) p 0 ≡ lines_of p lines
      go (inl less) before = get_or_append_left (line_counts lines n) (lines_of n lines ∷ []) 0 p (omega (arith, less, long)) ∙ before less
      go (inr past) before =
          let here : n ≡ p = omega (arith, lt, past) in
          let none : p - n ≡ 0 = omega (arith, here) in
          get_or-append_right (line_counts lines n) (lines_of n lines ∷ []) n p 0 long past ∙ ap (λ j. get_or (lines_of n lines ∷ []) j 0) none ∙ ap (λ q. lines_of q lines) here

  -- ---- a turn

  own_events_push : (p : ℕ) (es : List (Record A)) (e : Record A) → own_events p (es ++ e ∷ []) ≡ own_events p es ++ cond (place_of e.session == p) (e ∷ []) []
  own_events_push p es e = filter-append (λ x. place_of x.session == p) es (e ∷ [])

  pub catalog_kept : (c : Catalog) (lines : List (Line A)) (h : Recorded A) (q : ℕ) → h.opening.catalog ≡ c → (after_turn lines h q).opening.catalog ≡ c
  catalog_kept c lines h q is = go (own_line q (events_of q h.records) lines)
    where
      go : (o : Option (Line A)) → (done h o).opening.catalog ≡ c
      go None = is
      go (Some l) = is

  -- one of another session adds no event of this one
  other_turn : (lines : List (Line A)) (h : Recorded A) (p q : ℕ) → (q ≡ p → ⊥) → own_events p (after_turn lines h q).records ≡ own_events p h.records
  other_turn lines h p q never = go (own_line q (events_of q h.records) lines) refl
    where
      go : (o : Option (Line A)) → own_line q (events_of q h.records) lines ≡ o → own_events p (done h o).records ≡ own_events p h.records
      go None found = refl
      go (Some l) found =
          let own : place_of l.session ≡ q = is_own q (events_of q h.records) lines l found in
          let other : (place_of l.session == p) ≡ false = differs (place_of l.session) p (λ e. never (sym own ∙ e)) in
          own_events_push p h.records (event h l) ∙ ap (λ b. own_events p h.records ++ cond b (event h l ∷ []) []) other ∙ append-nil (own_events p h.records)

  -- the session's events did its first lines, as many as there are events
  abbrev DidFirst : Catalog → List (Line A) → ℕ → List (Record A) → Type 0
  DidFirst c lines p es = map session_action (own_events p es) ≡ map (line_action c) (take (events_of p es) (own_lines p lines))

  -- a turn of the session itself does one line more
  own_turn : (c : Catalog) (lines : List (Line A)) (h : Recorded A) (p q : ℕ) → h.opening.catalog ≡ c → q ≡ p → events_of p h.records < lines_of p lines → DidFirst c lines p h.records
      → DidFirst c lines p (after_turn lines h q).records × (events_of p (after_turn lines h q).records ≡ events_of p h.records + 1)
  own_turn c lines h p q cat e lt did = go (slice_get_cases (own_lines p lines) (events_of p h.records)).1
    where
      n : ℕ
      n = events_of p h.records

      own : List (Line A)
      own = own_lines p lines

      with_line : (l : Line A) → slice_get own n ≡ Some l → get_or own n l ≡ l → DidFirst c lines p (after_turn lines h q).records × (events_of p (after_turn lines h q).records ≡ n + 1)
      with_line l is at = (does, count)
        where
          found : own_line q (events_of q h.records) lines ≡ Some l
          found = ap (λ x. own_line x (events_of x h.records) lines) e ∙ own_line_is p n lines ∙ is

          here : (place_of l.session == p) ≡ true
          here = eq-eqb (place_of l.session) p (is_own q (events_of q h.records) lines l found ∙ e)

          more : own_events p (after_turn lines h q).records ≡ own_events p h.records ++ event h l ∷ []
          more =
              ap (λ o. own_events p (done h o).records) found
              ∙ own_events_push p h.records (event h l)
              ∙ ap (λ b. own_events p h.records ++ cond b (event h l ∷ []) []) here

          count : events_of p (after_turn lines h q).records ≡ n + 1
          count = ap length more ∙ length_push (own_events p h.records) (event h l)

          does : DidFirst c lines p (after_turn lines h q).records
          does =
              ap (map session_action) more
              ∙ map_push session_action (own_events p h.records) (event h l)
              ∙ ap (λ ds. ds ++ session_action (event h l) ∷ []) did
              ∙ ap (λ x. map (line_action c) (take n own) ++ line_action x l ∷ []) cat
              ∙ ap (λ x. map (line_action c) (take n own) ++ line_action c x ∷ []) (sym at)
              ∙ sym (map_push (line_action c) (take n own) (get_or own n l))
              ∙ ap (map (line_action c)) (sym (take_more own n l lt))
              ∙ ap (λ m. map (line_action c) (take m own)) (sym count)

      go : ((l : Line A) × (n < length own) × (slice_get own n ≡ Some l) × (get_or own n l ≡ l)) ⊎ ((length own ≤ n) × (slice_get own n ≡ None)) →
          DidFirst c lines p (after_turn lines h q).records × (events_of p (after_turn lines h q).records ≡ n + 1)
      go (inl w) = with_line w.0 w.2 w.3
      go (inr w) = absurd (omega (arith, lt, w.0))

  -- ---- all turns

  -- an order without turns of a session adds no event of it
  idle : (lines : List (Line A)) (p : ℕ) (h : Recorded A) (order : List ℕ) → turns p order ≡ 0 → own_events p (after_turns lines h order).records ≡ own_events p h.records
  idle lines p h [] none = refl
  idle lines p h (q ∷ order) none = go (cases_eq q p) (idle lines p (after_turn lines h q) order)
    where
      go : (q ≡ p) ⊎ (q ≡ p → ⊥) → (turns p order ≡ 0 → own_events p (after_turns lines (after_turn lines h q) order).records ≡ own_events p (after_turn lines h q).records) →
          own_events p (after_turns lines (after_turn lines h q) order).records ≡ own_events p h.records
      go (inl e) rest = absurd (omega (arith, none, turns-same p q order e))
      go (inr never) rest = rest (omega (arith, none, turns-other p q order never)) ∙ other_turn lines h p q never

  -- one with as many as there are lines left does all lines
  all_done : (c : Catalog) (lines : List (Line A)) (p : ℕ) (h : Recorded A) (order : List ℕ) → h.opening.catalog ≡ c → events_of p h.records + turns p order ≡ lines_of p lines → DidFirst c lines p h.records →
      map session_action (own_events p (after_turns lines h order).records) ≡ map (line_action c) (own_lines p lines)
  all_done c lines p h [] cat count did = did ∙ ap (map (line_action c)) (take_all (events_of p h.records) (own_lines p lines) (omega (arith, count)))
  all_done c lines p h (q ∷ order) cat count did = go (cases_eq q p) (all_done c lines p (after_turn lines h q) order (catalog_kept c lines h q cat))
    where
      next : List (Record A)
      next = (after_turn lines h q).records

      Goal : Type 0
      Goal = map session_action (own_events p (after_turns lines (after_turn lines h q) order).records) ≡ map (line_action c) (own_lines p lines)

      go : (q ≡ p) ⊎ (q ≡ p → ⊥) → (events_of p next + turns p order ≡ lines_of p lines → DidFirst c lines p next → Goal) → Goal
      go (inl e) rest =
          let t : turns p (q ∷ order) ≡ 1 + turns p order = turns-same p q order e in
          let one : DidFirst c lines p next × (events_of p next ≡ events_of p h.records + 1) = own_turn c lines h p q cat e (omega (arith, count, t)) did in
          rest (omega (arith, count, t, one.1)) one.0
      go (inr never) rest =
          let stays : own_events p next ≡ own_events p h.records = other_turn lines h p q never in
          let as_many : events_of p next ≡ events_of p h.records = ap length stays in
          rest (omega (arith, count, turns-other p q order never, as_many)) (subst (λ es. map session_action es ≡ map (line_action c) (take (length es) (own_lines p lines))) (sym stays) did)

  -- ---- a run

  opened_from : (n : ℕ) (r : Result (Opening A) Refusal) (c : Catalog) (h : Recorded A) → ((o : Opening A) → r ≡ Ok o → o.catalog ≡ c) → from_opening n r ≡ Ok h → h.opening.catalog ≡ c
  opened_from n (Ok o) c h is e =
      let made : Recorded A = record { opening = o; records = []; most = n } in
      let i : made ≡ h = cc in
      ap (λ (x : Recorded A). x.opening.catalog) (sym i) ∙ is o refl
  opened_from n (Err x) c h is e = cc

  checkpointed : (a b : Bool) (x y : Refusal) (o p : Opening A) → cond a (Err x) (cond b (Err y) (Ok o)) ≡ Ok p → p.catalog ≡ o.catalog
  checkpointed true b x y o p e = cc
  checkpointed false true x y o p e = cc
  checkpointed false false x y o p e = let i : o ≡ p = cc in ap (λ (z : Opening A). z.catalog) (sym i)

  from_checkpoint : (w : World A) (n : ℕ) (o : Opening A) → checkpoint_from w n ≡ Ok o → o.catalog ≡ w.catalog
  from_checkpoint w n o e =
      checkpointed (not (is_quiet w)) (n == 0 || nat_le (2 ^ 64) (w.place + n)) (of_code ObjectNotInPrerequisiteState) (of_code ProgramLimitExceeded) (opening_after w) o e

  pub same_catalog : (e : Explored A) (h : Recorded A) → beginning e ≡ Ok h → h.opening.catalog ≡ e.setup.opening.catalog
  same_catalog e h b =
      let w : World A = world_of e.setup.opening e.setup.records in
      let n : ℕ = turns_of e in
      opened_from n (checkpoint_from w n) e.setup.opening.catalog h (λ o made. from_checkpoint w n o made ∙ run-catalog (start e.setup.opening) e.setup.records) b

  pub each_once : (e : Explored A) (order : List ℕ) (k : Recorded A) → IsInterleaving (line_counts e.lines sessions) order → RunsTo e order k → DoesEachOnce e k
  each_once e order k i r = record { each = each; only = only }
    where
      h : Recorded A
      h = r.0

      none : h.records ≡ []
      none = is_unbegun e h r.1

      c : Catalog
      c = e.setup.opening.catalog

      none_done : (p : ℕ) → DidFirst c e.lines p h.records
      none_done p = subst (DidFirst c e.lines p) (sym none) refl

      each : (p : ℕ) → p < sessions → map session_action (own_events p k.records) ≡ map (line_action c) (own_lines p e.lines)
      each p lt =
          let no_event : events_of p h.records ≡ 0 = ap (events_of p) none in
          let count : events_of p h.records + turns p order ≡ lines_of p e.lines = omega (arith, no_event, i p, line_counts_at e.lines sessions p lt) in
          ap (λ (x : Recorded A). map session_action (own_events p x.records)) r.2 ∙ all_done c e.lines p h order (same_catalog e h r.1) count (none_done p)

      only : (p : ℕ) → sessions ≤ p → own_events p k.records ≡ []
      only p past =
          let beyond : slice_index (line_counts e.lines sessions) p ≡ 0 = get_or_past (line_counts e.lines sessions) p 0 (omega (arith, past, length-line_counts e.lines sessions)) in
          ap (λ (x : Recorded A). own_events p x.records) r.2 ∙ idle e.lines p h order (i p ∙ beyond) ∙ ap (own_events p) none

  -- so each schedule does
  pub each_schedule : ((lines order : List ℕ) → 0 < occurrences order (interleavings lines) → IsInterleaving lines order) → (e : Explored A) → All (λ order. (k : Recorded A) → RunsTo e order k → DoesEachOnce e k) (schedules e)
  each_schedule only e =
      All-from_get_or (λ order. (k : Recorded A) → RunsTo e order k → DoesEachOnce e k) (schedules e) []
      (λ i lt k r. each_once e (get_or (schedules e) i []) k (only (line_counts e.lines sessions) (get_or (schedules e) i []) (among (schedules e) i lt)) r)
