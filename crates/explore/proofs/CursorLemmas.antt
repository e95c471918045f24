-- Where the next line of each session stands, as its lines are done.
use Rattle.std.proofs.Common.{◌≡◌, ◌==◌, refl, sym, ap, ◌∙◌, subst, ℕ, zero, suc, ◌+◌, ◌-◌, ◌≤◌, ◌<◌, Bool, true, false, cond, drop, get_or, replicate, set, List, [], ◌∷◌, ◌++◌, length, Option, Some, None, arith}
use Rattle.std.specs.List.{filter}
use Rattle.std.proofs.lemmas.Bool.{eqb-false, eqb-true}
use Rattle.std.proofs.lemmas.List.{drop_more, get_or-replicate, get_or_default, get_or-set_other, get_or-set_same, length-append, length-replicate, length-set}
use Rattle.std.proofs.lemmas.List.Elements.{filter-append}
use Rattle.history.specs.Answer.{answer}
use Rattle.history.specs.Opening.{Recorded}
use Rattle.history.specs.declared.event.Record.{Record}
use Rattle.request.specs.Requests.{asked}
use Rattle.explore.specs.declared.plan.Line.{Line}
use Rattle.explore.specs.Cursors.{AreCursors, IsCursor}
use Rattle.explore.specs.Explored.{after_turn, done, events_of, own_line, place_of, this_or_later}

pub differs : (a b : ℕ) → (a ≡ b → ⊥) → (a == b) ≡ false
differs a b never = go (a == b) refl
  where
    go : (c : Bool) → (a == b) ≡ c → (a == b) ≡ false
    go true e = absurd (never (eqb-true a b e))
    go false e = e

module _ {A : Type 0} where
  -- ---- the lines of a session

  -- one of the session is the next
  is_next : (p : ℕ) (l : Line A) (ls : List (Line A)) → (place_of l.session == p) ≡ true → own_line p 0 (l ∷ ls) ≡ Some l
  is_next p l ls own = ap (λ b. cond b (Some l) (own_line p 0 ls)) own

  -- where a line of the session comes first, the one after k + 1 lines of its own is the one after k of its own in the rest
  behind : (p k : ℕ) (l : Line A) (ls : List (Line A)) → (place_of l.session == p) ≡ true → own_line p (suc k) (l ∷ ls) ≡ own_line p k ls
  behind p k l ls own =
      let less : suc k - 1 ≡ k = omega arith in
      ap (λ b. cond b (own_line p (suc k - 1) ls) (own_line p (suc k) ls)) own ∙ ap (λ n. own_line p n ls) less

  -- what is found is a line of the session
  pub is_own : (p k : ℕ) (ls : List (Line A)) (l : Line A) → own_line p k ls ≡ Some l → place_of l.session ≡ p
  is_own p k [] l e = cc
  is_own p k (x ∷ ls) l e = go (place_of x.session == p) refl k (λ n. is_own p n ls l) e
    where
      first : (k : ℕ) → (place_of x.session == p) ≡ true → ((n : ℕ) → own_line p n ls ≡ Some l → place_of l.session ≡ p) → this_or_later k x (own_line p (k - 1) ls) ≡ Some l → place_of l.session ≡ p
      first zero own later found = let same : x ≡ l = cc in subst (λ y. place_of y.session ≡ p) same (eqb-true (place_of x.session) p own)
      first (suc n) own later found = later (suc n - 1) found

      go : (b : Bool) → (place_of x.session == p) ≡ b → (k : ℕ) → ((n : ℕ) → own_line p n ls ≡ Some l → place_of l.session ≡ p) → cond b (this_or_later k x (own_line p (k - 1) ls)) (own_line p k ls) ≡ Some l → place_of l.session ≡ p
      go true own k later found = first k own later found
      go false other k later found = later k found

  -- ---- the events of a session

  one_more : (es : List (Record A)) (e : Record A) (p : ℕ) → events_of p (es ++ e ∷ []) ≡ events_of p es + cond (place_of e.session == p) 1 0
  one_more es e p =
      ap length (filter-append (λ x. place_of x.session == p) es (e ∷ []))
      ∙ length-append (filter (λ x. place_of x.session == p) es) (filter (λ x. place_of x.session == p) (e ∷ []))
      ∙ ap (λ n. events_of p es + n) (one (place_of e.session == p))
    where
      one : (b : Bool) → length (cond b (e ∷ []) []) ≡ cond b 1 0
      one true = refl
      one false = refl

  -- the event of a line that is done
  abbrev pub event : Recorded A → Line A → Record A
  event h l = record { session = l.session; action = asked h.opening.catalog l.request; reply = answer h.opening h.records l.session (asked h.opening.catalog l.request) }

  -- a turn of one session adds no event of another
  others : (lines : List (Line A)) (h k : Recorded A) (p q : ℕ) → k ≡ after_turn lines h p → (q ≡ p → ⊥) → events_of q k.records ≡ events_of q h.records
  others lines h k p q e never = ap (λ (x : Recorded A). events_of q x.records) e ∙ go (own_line p (events_of p h.records) lines) refl
    where
      go : (o : Option (Line A)) → own_line p (events_of p h.records) lines ≡ o → events_of q (done h o).records ≡ events_of q h.records
      go None f = refl
      go (Some l) f =
          let own : place_of l.session ≡ p = is_own p (events_of p h.records) lines l f in
          let other : (place_of l.session == q) ≡ false = differs (place_of l.session) q (λ same. never (sym same ∙ own)) in
          let no : events_of q h.records + 0 ≡ events_of q h.records = omega arith in
          one_more h.records (event h l) q ∙ ap (λ b. events_of q h.records + cond b 1 0) other ∙ no

  -- ---- a session's next line

  -- it stands at its cursor
  at_cursor : (lines : List (Line A)) (p n c : ℕ) → IsCursor lines p n c → own_line p n lines ≡ own_line p 0 (drop c lines)
  at_cursor lines p n c is = let same : n ≡ n + 0 = omega arith in ap (λ m. own_line p m lines) same ∙ sym (is.1 0)

  -- there is none
  pub done_none : (lines : List (Line A)) (h : Recorded A) (p c : ℕ) → IsCursor lines p (events_of p h.records) c → ((k : ℕ) → own_line p k (drop c lines) ≡ None) → h ≡ after_turn lines h p
  done_none lines h p c is none = sym (ap (done h) (at_cursor lines p (events_of p h.records) c is ∙ none 0))

  -- there is this one
  pub done_one : (lines : List (Line A)) (h : Recorded A) (p c at : ℕ) (d : Line A) → IsCursor lines p (events_of p h.records) c → at < length lines → (place_of (get_or lines at d).session == p) ≡ true
      → ((k : ℕ) → own_line p k (drop at lines) ≡ own_line p k (drop c lines)) → done h (Some (get_or lines at d)) ≡ after_turn lines h p
  done_one lines h p c at d is lt own same =
      let l = get_or lines at d in
      let found : own_line p (events_of p h.records) lines ≡ Some l =
      at_cursor lines p (events_of p h.records) c is ∙ sym (same 0) ∙ ap (own_line p 0) (drop_more lines at d lt) ∙ is_next p l (drop (at + 1) lines) own in
      sym (ap (done h) found)

  -- and those after it
  pub next_cursor : (lines : List (Line A)) (h k : Recorded A) (p c at : ℕ) (d : Line A) → IsCursor lines p (events_of p h.records) c → at < length lines → (place_of (get_or lines at d).session == p) ≡ true
      → ((j : ℕ) → own_line p j (drop at lines) ≡ own_line p j (drop c lines)) → k ≡ done h (Some (get_or lines at d)) → IsCursor lines p (events_of p k.records) (at + 1)
  next_cursor lines h k p c at d is lt own same e = (omega (arith, lt), rest)
    where
      l : Line A
      l = get_or lines at d

      count : events_of p k.records ≡ events_of p h.records + 1
      count = ap (λ (x : Recorded A). events_of p x.records) e ∙ one_more h.records (event h l) p ∙ ap (λ b. events_of p h.records + cond b 1 0) own

      rest : (j : ℕ) → own_line p j (drop (at + 1) lines) ≡ own_line p (events_of p k.records + j) lines
      rest j =
          let more : events_of p h.records + suc j ≡ events_of p k.records + j = omega (arith, count) in
          sym (behind p j l (drop (at + 1) lines) own) ∙ sym (ap (own_line p (suc j)) (drop_more lines at d lt)) ∙ same (suc j) ∙ is.1 (suc j) ∙ ap (λ m. own_line p m lines) more

  -- ---- all cursors

  -- the one at this place
  pub cursor_at : (lines : List (Line A)) (es : List (Record A)) (cs : List ℕ) (p c : ℕ) → AreCursors lines es cs → p < length cs → c ≡ get_or cs p c → IsCursor lines p (events_of p es) c
  cursor_at lines es cs p c are lt at = subst (IsCursor lines p (events_of p es)) (get_or_default cs p 0 c lt ∙ sym at) (are p lt)

  -- one of them moves on by a turn of its session
  pub moved : (lines : List (Line A)) (h k : Recorded A) (cs : List ℕ) (p c : ℕ) → p < length cs → AreCursors lines h.records cs → k ≡ after_turn lines h p → IsCursor lines p (events_of p k.records) c
      → AreCursors lines k.records (set cs p c)
  moved lines h k cs p c within are e is q lt = go (q == p) refl
    where
      go : (b : Bool) → (q == p) ≡ b → IsCursor lines q (events_of q k.records) (get_or (set cs p c) q 0)
      go true same =
          let here : q ≡ p = eqb-true q p same in
          subst (λ r. IsCursor lines r (events_of r k.records) (get_or (set cs p c) r 0)) (sym here) (subst (IsCursor lines p (events_of p k.records)) (sym (get_or-set_same cs p c 0 within)) is)
      go false other =
          let never : q ≡ p → ⊥ = eqb-false q p other in
          let in_range : q < length cs = omega (arith, lt, length-set cs p c) in
          let as_before : events_of q k.records ≡ events_of q h.records = others lines h k p q e never in
          let kept : get_or (set cs p c) q 0 ≡ get_or cs q 0 = get_or-set_other cs p q c 0 never in
          subst (λ n. IsCursor lines q n (get_or (set cs p c) q 0)) (sym as_before) (subst (IsCursor lines q (events_of q h.records)) (sym kept) (are q in_range))

  -- a turn of a session that has none of them
  pub stay : (lines : List (Line A)) (h k : Recorded A) (cs : List ℕ) (p : ℕ) → length cs ≤ p → AreCursors lines h.records cs → k ≡ after_turn lines h p → AreCursors lines k.records cs
  stay lines h k cs p beyond are e q lt =
      let never : q ≡ p → ⊥ = λ same. omega (arith, lt, beyond, same) in
      subst (λ n. IsCursor lines q n (get_or cs q 0)) (sym (others lines h k p q e never)) (are q lt)

  -- before any event they stand at the beginning
  pub begin : (lines : List (Line A)) (n : ℕ) → AreCursors lines [] (replicate n 0)
  begin lines n p lt =
      let within : p < n = omega (arith, lt, length-replicate {A = ℕ} n 0) in
      subst (IsCursor lines p 0) (sym (get_or-replicate {A = ℕ} n p 0 0 within)) (omega arith, λ j. let same : j ≡ 0 + j = omega arith in ap (λ n. own_line p n lines) same)
