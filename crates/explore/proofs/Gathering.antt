-- The replies to each session, an event at a time; and the events that lines ask for.
use Rattle.std.proofs.Common.{◌≡◌, refl, sym, ap, subst, ◌∙◌, ◌⊎◌, inl, inr, ℕ, zero, suc, ◌+◌, ◌-◌, ◌<◌, ◌≤◌, cond, get_or, set, List, [], ◌∷◌, ◌++◌, length, map, take, append_assoc, Result, Ok, Err, OnOk, arith}
use Rattle.std.specs.List.{All}
use Rattle.std.proofs.lemmas.Bool.{cases_eq, cases_lt, eq-eqb, ne_eqb}
use Rattle.std.proofs.lemmas.Grind.{flat_map-append}
use Rattle.std.proofs.lemmas.List.Elements.{All-push}
use Rattle.std.proofs.lemmas.List.{append-nil, get_or-append_right, get_or-map, get_or-set_other, get_or-set_same, get_or_append_left, get_or_default, get_or_past, length-set, map_more, take_all, take_more}
use Rattle.schema.specs.Definition.{Catalog}
use Rattle.history.specs.declared.event.Event.{Event}
use Rattle.history.specs.declared.event.Record.{Record}
use Rattle.history.specs.Answer.{Allowed}
use Rattle.history.specs.Opening.{Recorded}
use Rattle.explore.specs.declared.plan.Line.{Line}
use Rattle.explore.specs.Explored.{after_turn, place_of, sessions}
use Rattle.explore.specs.Prepared.{ArePrepared, event_of}
use Rattle.explore.specs.Replies.{AreReplies}
use Rattle.explore.specs.Texts.{replies_at, replies_of, told, told_at}
use Rattle.explore.proofs.Counting.{one_more_told}
use Rattle.explore.proofs.EachOnce.{catalog_kept}

-- one more text, with nothing yet
pub one_empty : (ts us : List (List ℕ)) (p : ℕ) → us ≡ ts ++ [] ∷ [] → get_or us p [] ≡ get_or ts p []
one_empty ts us p more = ap (λ (x : List (List ℕ)). get_or x p []) more ∙ go (cases_lt p (length ts))
  where
    last : (k : ℕ) → get_or {A = List ℕ} ([] ∷ []) k [] ≡ []
    last zero = refl
    last (suc k) = refl

    go : (p < length ts) ⊎ (length ts ≤ p) → get_or (ts ++ [] ∷ []) p [] ≡ get_or ts p []
    go (inl within) = get_or_append_left ts ([] ∷ []) [] p within
    go (inr past) = get_or-append_right ts ([] ∷ []) (length ts) p [] refl past ∙ last (p - length ts) ∙ sym (get_or_past ts p [] past)

module _ {A : Type 0} where
  replies_push : (p : ℕ) (es : List (Record A)) (e : Record A) → replies_at p (es ++ e ∷ []) ≡ replies_at p es ++ told_at p e
  replies_push p es e = flat_map-append (told_at p) es (e ∷ []) ∙ ap (λ t. replies_at p es ++ t) (append-nil (told_at p e))

  -- with the reply to one more event
  pub one_more_reply : (es : List (Record A)) (e : Record A) (ts us : List (List ℕ)) (q : ℕ) → q ≡ place_of e.session → q < length ts → us ≡ set ts q (get_or ts q [] ++ told e.session e.reply)
      → AreReplies es ts → AreReplies (es ++ e ∷ []) us
  one_more_reply es e ts us q here within made are = (omega (arith, ap length made ∙ length-set ts q (get_or ts q [] ++ told e.session e.reply), are.0), at)
    where
      new : List ℕ
      new = get_or ts q [] ++ told e.session e.reply

      at : (p : ℕ) → get_or us p [] ≡ replies_at p (es ++ e ∷ [])
      at p = ap (λ (x : List (List ℕ)). get_or x p []) made ∙ go (cases_eq p q) ∙ sym (replies_push p es e)
        where
          go : (p ≡ q) ⊎ (p ≡ q → ⊥) → get_or (set ts q new) p [] ≡ replies_at p es ++ told_at p e
          go (inl same) =
              ap (λ (x : ℕ). get_or (set ts q new) x []) same
              ∙ get_or-set_same ts q new [] within
              ∙ ap (λ (x : ℕ). get_or ts x [] ++ told e.session e.reply) (sym same)
              ∙ ap (λ (t : List ℕ). t ++ told e.session e.reply) (are.1 p)
              ∙ ap (λ b. replies_at p es ++ cond b (told e.session e.reply) []) (sym (eq-eqb (place_of e.session) p (sym here ∙ sym same)))
          go (inr never) =
              get_or-set_other ts q p new [] never
              ∙ are.1 p
              ∙ sym (append-nil (replies_at p es))
              ∙ ap (λ b. replies_at p es ++ cond b (told e.session e.reply) []) (sym (ne_eqb (place_of e.session) p (λ i. never (sym i ∙ sym here))))

  -- the same replies, with a place for more sessions
  pub reached : (es : List (Record A)) (ts us : List (List ℕ)) → length us ≤ sessions → ((p : ℕ) → get_or us p [] ≡ get_or ts p []) → AreReplies es ts → AreReplies es us
  reached es ts us few same are = (few, λ p. same p ∙ are.1 p)

  -- us are the texts ts with the reply to one more event
  abbrev pub Adds : Record A → List (List ℕ) → List (List ℕ) → Type 0
  Adds e ts us = (es : List (Record A)) → AreReplies es ts → AreReplies (es ++ e ∷ []) us

  pub adds_reached : {X E : Type 0} (r : Result X E) (e : Record A) (ts us vs : List (List ℕ)) → length us ≤ sessions → ((p : ℕ) → get_or us p [] ≡ get_or ts p []) → OnOk r (Adds e us vs) → OnOk r (Adds e ts vs)
  adds_reached (Ok x) e ts us vs few same more = λ es are. more es (reached es ts us few same are)
  adds_reached (Err x) e ts us vs few same more = more

  pub next_replies : (es : List (Record A)) (i : ℕ) (e : Record A) (ts us : List (List ℕ)) → i < length es → e ≡ get_or es i e → ((xs : List (Record A)) → AreReplies xs ts → AreReplies (xs ++ e ∷ []) us)
      → AreReplies (take i es) ts → AreReplies (take (i + 1) es) us
  next_replies es i e ts us lt at more are =
      subst (λ (xs : List (Record A)). AreReplies xs us) (sym (take_more es i e lt ∙ ap (λ (x : Record A). take i es ++ x ∷ []) (sym at))) (more (take i es) are)

  pub all_replies : (es : List (Record A)) (i : ℕ) (ts : List (List ℕ)) → length es ≤ i → AreReplies (take i es) ts → AreReplies es ts
  all_replies es i ts le are = subst (λ (xs : List (Record A)). AreReplies xs ts) (take_all i es le) are

  -- the event at a line's place is the one that the line asks for
  pub prepared_at : (c : Catalog) (ls : List (Line A)) (es : List (Event A)) (i : ℕ) (l : Line A) (e : Event A) → ArePrepared c ls es → i < length ls → get_or ls i l ≡ l → get_or es i e ≡ e → e ≡ event_of c l
  prepared_at c ls es i l e are lt line event =
      sym event ∙ ap (λ (x : List (Event A)). get_or x i e) are.0 ∙ get_or-map (event_of c) ls i l e lt ∙ ap (event_of c) line

  -- a turn keeps the catalog, of whose tables they are
  pub still_prepared : (ls : List (Line A)) (es : List (Event A)) (h k : Recorded A) (p : ℕ) → k ≡ after_turn ls h p → ArePrepared h.opening.catalog ls es → ArePrepared k.opening.catalog ls es
  still_prepared ls es h k p e are =
      subst (λ (c : Catalog). ArePrepared c ls es) (sym (ap (λ (x : Recorded A). x.opening.catalog) e ∙ catalog_kept h.opening.catalog ls h p refl)) are

  -- what one more line asks for
  pub one_prepared : (c : Catalog) (ls : List (Line A)) (i : ℕ) (l : Line A) (es us : List (Event A)) (e : Event A) → i < length ls → l ≡ get_or ls i l → us ≡ es ++ e ∷ [] → e ≡ event_of c l → Allowed c e.action → ArePrepared c (take i ls) es → ArePrepared c (take (i + 1) ls) us
  one_prepared c ls i l es us e lt at more is allowed are = (
    more ∙ ap (λ (xs : List (Event A)). xs ++ e ∷ []) are.0 ∙ ap (λ (x : Event A). map (event_of c) (take i ls) ++ x ∷ []) (is ∙ ap (event_of c) at) ∙ sym (map_more (event_of c) ls i l lt),
    subst (All (λ (x : Event A). Allowed c x.action)) (sym more) (All-push (λ (x : Event A). Allowed c x.action) es e are.1 allowed),
  )

  pub moved_prepared : (c d : Catalog) (ls ms : List (Line A)) (es : List (Event A)) → c ≡ d → ls ≡ ms → ArePrepared c ls es → ArePrepared d ms es
  moved_prepared c d ls ms es catalog lines are = subst (λ (x : Catalog). ArePrepared x ms es) catalog (subst (λ (x : List (Line A)). ArePrepared c x es) lines are)

  -- the replies to one more session
  pub told_next : (es : List (Record A)) (ts xs : List (List ℕ)) (p : ℕ) (r old t u : List ℕ) → AreReplies es ts → xs ≡ ts → p < length xs → r ≡ get_or xs p r → t ≡ old ++ replies_of p es → u ≡ t ++ r → u ≡ old ++ replies_of (p + 1) es
  told_next es ts xs p r old t u are same lt at so_far more =
      let own : r ≡ replies_at p es = at ∙ get_or_default xs p r [] lt ∙ ap (λ (x : List (List ℕ)). get_or x p []) same ∙ are.1 p in
      more
      ∙ ap (λ (x : List ℕ). t ++ x) own
      ∙ ap (λ (x : List ℕ). x ++ replies_at p es) so_far
      ∙ append_assoc old (replies_of p es) (replies_at p es)
      ∙ ap (λ (x : List ℕ). old ++ x) (sym (one_more_told es p))

  -- the sessions behind the last of the texts have none
  none_behind : (es : List (Record A)) (ts : List (List ℕ)) (k : ℕ) → AreReplies es ts → replies_of (length ts + k) es ≡ replies_of (length ts) es
  none_behind es ts zero are = let same : length ts + zero ≡ length ts = omega arith in ap (λ (n : ℕ). replies_of n es) same
  none_behind es ts (suc k) are =
      let next : length ts + suc k ≡ length ts + k + 1 = omega arith in
      let past : length ts ≤ length ts + k = omega arith in
      let none : replies_at (length ts + k) es ≡ [] = sym (are.1 (length ts + k)) ∙ get_or_past ts (length ts + k) [] past in
      ap (λ (n : ℕ). replies_of n es) next
      ∙ one_more_told es (length ts + k)
      ∙ ap (λ (x : List ℕ). replies_of (length ts + k) es ++ x) none
      ∙ append-nil (replies_of (length ts + k) es)
      ∙ none_behind es ts k are

  pub told_all : (es : List (Record A)) (ts xs : List (List ℕ)) (p : ℕ) (old t : List ℕ) → AreReplies es ts → xs ≡ ts → length xs ≤ p → p ≤ length xs → t ≡ old ++ replies_of p es → t ≡ old ++ replies_of 64 es
  told_all es ts xs p old t are same past end so_far =
      let all : p ≡ length ts = omega (arith, past, end, ap length same) in
      let more : length ts + (64 - length ts) ≡ 64 = omega (arith, are.0) in
      so_far
      ∙ ap (λ (n : ℕ). old ++ replies_of n es) all
      ∙ ap (λ (x : List ℕ). old ++ x) (sym (none_behind es ts (64 - length ts) are) ∙ ap (λ (n : ℕ). replies_of n es) more)
