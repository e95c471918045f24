-- Worlds of which what matters is alike answer alike, and what matters of those that follow is alike.
use Rattle.std.proofs.Common.{◌≡◌, refl, sym, ap, subst, ◌∙◌, ℕ, ◌+◌, ◌≤◌, Bool, true, false, cond, ◌||◌, List, [], ◌∷◌, ◌++◌, length, Option, Some, None, eqb, arith}
use Rattle.std.proofs.lemmas.Bool.{eqb-true, eq-eqb, or_left, or_right}
use Rattle.std.specs.List.{AllByRecursion}
use Rattle.value.proofs.IsolationLemmas.{In}
use Rattle.value.proofs.Lists.{In-filter, filter_alike}
use Rattle.history.specs.declared.event.Action.{Action}
use Rattle.history.specs.declared.event.Action.TheVariants.{Begin}
use Rattle.history.specs.declared.event.Event.{Event}
use Rattle.history.specs.declared.event.Record.{Record}
use Rattle.history.specs.Opening.{Opening}
use Rattle.history.specs.Transactions.{Txn, World, commits, current}
use Rattle.history.specs.Events.{followed, follows, start, world_of}
use Rattle.history.specs.Needed.{Keeps, is_needed, kept_of, thin}
use Rattle.history.specs.Answer.{Allowed, Legal, answer, reply_in, reply_of}
use Rattle.serial.proofs.needed.Events.{follows_kept}
use Rattle.serial.proofs.needed.From.{exporting, oldest_later}
use Rattle.serial.proofs.needed.Later.{needed_later}
use Rattle.serial.proofs.needed.Lowest.{commits_later}
use Rattle.serial.proofs.needed.Replies.{current_of_kept}
use Rattle.serial.proofs.needed.World.{replies_kept}
use Rattle.serial.proofs.order.SerialTheorem.{good_world}
use Rattle.serial.proofs.safe.Prefix.{all_by, by_all}
use Rattle.alike.specs.Told.{answered_in, as_told, told_after, world_after}
use Rattle.alike.specs.Worlds.{Alike, MatterAlike}
use Rattle.alike.proofs.Sides.{none_passes, some_none}
use Rattle.alike.proofs.Orderly.{IsOrderly}
use Rattle.alike.proofs.Replies.{current_moves, reply_alike}
use Rattle.alike.proofs.Begun.{IsFree, alike_begun, alike_later, beginning}
use Rattle.alike.proofs.Steps.{IsKept, alike_some, orderly_world, tell_kept}

module _ {A : Type 0} where
  -- the number of the transaction that begins next
  abbrev next : World A → ℕ
  next w = w.base.transactions + length w.txns + 1

  abbrev with_next : World A → (ℕ → Bool) → ℕ → Bool
  with_next w keep i = keep i || eqb i (next w)

  thin_orderly : (w : World A) (keep : ℕ → Bool) → IsOrderly w → IsOrderly (thin keep w)
  thin_orderly w keep g = record {
    unique = λ t u i j e. g.unique t u (was t i) (was u j) e;
    one = λ t u i j o q e. g.one t u (was t i) (was u j) o q e;
    apart = λ t u i j c d e m. g.apart t u (was t i) (was u j) c d e m;
    uncommitted = λ t i c. g.uncommitted t (was t i) c;
    committed = λ t i. g.committed t (was t i);
    shown = λ t i. g.shown t (was t i);
    begun = λ t i. g.begun t (was t i);
    ended = λ t i. g.ended t (was t i);
    taken = λ t i. g.taken t (was t i);
    owns = λ t i. g.owns t (was t i);
    exports = g.exports;
    identified = g.identified;
  }
    where
      was : (t : Txn A) → In t (kept_of keep w.txns) → In t w.txns
      was t i = (In-filter (λ u. keep u.number) t w.txns i).0

  -- ---- one side

  -- What is kept of a legal history's world, the next number with it.
  pub record IsSide (o : Opening A) (es : List (Record A)) (oldest : ℕ) (keep : ℕ → Bool) : Type 0 where
    pub legal : Legal o es
    pub keeps : Keeps (world_of o es) oldest keep
    pub seen : oldest ≤ commits (world_of o es)
    pub new : keep (next (world_of o es)) ≡ true

  module _ (o : Opening A) (es : List (Record A)) (n : ℕ) (keep : ℕ → Bool) where
    side : Legal o es → Keeps (world_of o es) n keep → n ≤ commits (world_of o es) → IsSide o es n (with_next (world_of o es) keep)
    side l k m = record {
      legal = l;
      keeps = record { oldest = k.oldest; needed = all_by _ (world_of o es).txns (λ u i e. or_left (keep u.number) (eqb u.number (next (world_of o es))) (by_all (λ u. is_needed n (world_of o es).txns u ≡ true → keep u.number ≡ true) (world_of o es).txns u k.needed i e)) };
      seen = m;
      new = or_right (keep (next (world_of o es))) (eqb (next (world_of o es)) (next (world_of o es))) (eq-eqb (next (world_of o es)) (next (world_of o es)) refl);
    }

    -- no transaction has the next number yet
    same_thin : Legal o es → thin keep (world_of o es) ≡ thin (with_next (world_of o es) keep) (world_of o es)
    same_thin l = ap (λ ts. record (world_of o es) { txns = ts }) (filter_alike (λ u. keep u.number) (λ u. with_next (world_of o es) keep u.number) (world_of o es).txns (λ u i. alone (keep u.number) (eqb u.number (next (world_of o es))) (none_passes (eqb u.number (next (world_of o es))) (old u i))))
      where
        alone : (a b : Bool) → b ≡ false → a ≡ (a || b)
        alone true b e = refl
        alone false b e = sym e

        old : (u : Txn A) → In u (world_of o es).txns → eqb u.number (next (world_of o es)) ≡ true → ⊥
        old u i e = let m : u.number ≤ (world_of o es).base.transactions + length (world_of o es).txns = (good_world o es l).numbered.bounded u i in let q : u.number ≡ next (world_of o es) = eqb-true u.number (next (world_of o es)) e in omega arith

    module _ (h : IsSide o es n keep) (s : ℕ) (a : Action A) where
      abbrev w : World A
      w = world_of o es

      abbrev e : Record A
      e = record { session = s; action = a; reply = reply_in w s a }

      thin_reply : reply_in (thin keep w) s a ≡ reply_in w s a
      thin_reply = replies_kept o es h.legal n keep h.keeps s a

      thin_current : current (thin keep w) s ≡ current w s
      thin_current = current_of_kept w n keep h.keeps s

      later_keeps : Allowed w.catalog a → Keeps (follows w e) n keep
      later_keeps f = record { oldest = oldest_later o es h.legal s a n f h.keeps.oldest h.seen; needed = needed_later o es h.legal s a n keep f h.keeps h.new }

      later_seen : Allowed w.catalog a → n ≤ commits (follows w e)
      later_seen f = let m : commits w ≤ commits (follows w e) = commits_later o es h.legal s a f in let k : n ≤ commits w = h.seen in omega arith

      -- where the session has a transaction
      thin_follows : (t : Txn A) → current w s ≡ Some t → follows (thin keep w) (record { session = s; action = a; reply = reply_in (thin keep w) s a }) ≡ thin keep (follows w e)
      thin_follows t c = ap (λ r. follows (thin keep w) (record { session = s; action = a; reply = r })) thin_reply ∙ follows_kept o es h.legal n keep h.keeps s t c a (reply_in w s a)

      thin_free : current w s ≡ None → IsFree (thin keep w) s (next w)
      thin_free c = record { none = thin_current ∙ c; fresh = λ x i q. let m : x.exporter ≤ w.base.transactions + length w.txns = (exporting o es h.legal).begun_before x i in omega (arith, q) }

  kept_push : (keep : ℕ → Bool) (ts : List (Txn A)) (x : Txn A) → keep x.number ≡ true → kept_of keep (ts ++ x ∷ []) ≡ kept_of keep ts ++ x ∷ []
  kept_push keep [] x e = ap (λ b. cond b (x ∷ []) []) e
  kept_push keep (t ∷ ts) x e = go (keep t.number) (kept_push keep ts x e)
    where
      go : (b : Bool) → kept_of keep (ts ++ x ∷ []) ≡ kept_of keep ts ++ x ∷ [] → cond b (t ∷ kept_of keep (ts ++ x ∷ [])) (kept_of keep (ts ++ x ∷ [])) ≡ cond b (t ∷ kept_of keep ts) (kept_of keep ts) ++ x ∷ []
      go true q = ap (λ us. t ∷ us) q
      go false q = q

  -- ---- both sides

  module _ (o p : Opening A) (es fs : List (Record A)) (n m : ℕ) (keep hold : ℕ → Bool) (l : IsSide o es n keep) (r : IsSide p fs m hold) (h : Alike (thin keep (world_of o es)) (thin hold (world_of p fs))) (s : ℕ) where
    abbrev w' : World A
    w' = world_of o es

    abbrev v' : World A
    v' = world_of p fs

    left : IsOrderly (thin keep w')
    left = thin_orderly w' keep (orderly_world o es l.legal)

    right : IsOrderly (thin hold v')
    right = thin_orderly v' hold (orderly_world p fs r.legal)

    side_replies : (a : Action A) → as_told (reply_in w' s a) ≡ as_told (reply_in v' s a)
    side_replies a = ap as_told (sym (thin_reply o es n keep l s a)) ∙ reply_alike (thin keep w') (thin hold v') left right h s a ∙ ap as_told (thin_reply p fs m hold r s a)

    idle : (a : Action A) → current w' s ≡ None → current v' s ≡ None → Alike (thin keep (followed w' (record { session = s; action = a; reply = reply_of w' None a }) None)) (thin hold (followed v' (record { session = s; action = a; reply = reply_of v' None a }) None))
    idle (Begin k) c d = subst (λ ts. Alike (record w' { txns = ts; place = w'.place + 1 }) (thin hold (followed v' (record { session = s; action = Begin k; reply = reply_of v' None (Begin k) }) None))) (sym (kept_push keep w'.txns (Rattle.history.specs.Events.begun w' s k) l.new))
        (subst (λ ts. Alike (beginning (thin keep w') s k (next w')) (record v' { txns = ts; place = v'.place + 1 })) (sym (kept_push hold v'.txns (Rattle.history.specs.Events.begun v' s k) r.new))
        (alike_begun (thin keep w') (thin hold v') left right h s k (next w') (next v') (thin_free o es n keep l s (Begin k) c) (thin_free p fs m hold r s (Begin k) d)))
    idle _ c d = alike_later (thin keep w') (thin hold v') h

    sides_follow : (a : Action A) → Alike (thin keep (follows w' (record { session = s; action = a; reply = reply_in w' s a }))) (thin hold (follows v' (record { session = s; action = a; reply = reply_in v' s a })))
    sides_follow a = go (current w' s) (current v' s) refl refl
      where
        none_here : (u : Txn A) → current w' s ≡ None → current v' s ≡ Some u → ⊥
        none_here u c d = let q = current_moves (thin hold v') (thin keep w') right left h.back s u (thin_current p fs m hold r s a ∙ d) in some_none q.0 (sym q.1 ∙ thin_current o es n keep l s a ∙ c)

        none_there : (t : Txn A) → current w' s ≡ Some t → current v' s ≡ None → ⊥
        none_there t c d = let q = current_moves (thin keep w') (thin hold v') left right h.there s t (thin_current o es n keep l s a ∙ c) in some_none q.0 (sym q.1 ∙ thin_current p fs m hold r s a ∙ d)

        go : (b d : Option (Txn A)) → current w' s ≡ b → current v' s ≡ d → Alike (thin keep (follows w' (record { session = s; action = a; reply = reply_in w' s a }))) (thin hold (follows v' (record { session = s; action = a; reply = reply_in v' s a })))
        go None None c d = subst (λ b. Alike (thin keep (followed w' (record { session = s; action = a; reply = reply_of w' b a }) b)) (thin hold (follows v' (record { session = s; action = a; reply = reply_in v' s a })))) (sym c)
            (subst (λ b. Alike (thin keep (followed w' (record { session = s; action = a; reply = reply_of w' None a }) None)) (thin hold (followed v' (record { session = s; action = a; reply = reply_of v' b a }) b))) (sym d) (idle a c d))
        go None (Some u) c d = absurd (none_here u c d)
        go (Some t) None c d = absurd (none_there t c d)
        go (Some t) (Some u) c d = subst (λ x. Alike x (thin hold (follows v' (record { session = s; action = a; reply = reply_in v' s a })))) (thin_follows o es n keep l s a t c)
            (subst (Alike (follows (thin keep w') (record { session = s; action = a; reply = reply_in (thin keep w') s a }))) (thin_follows p fs m hold r s a u d)
            (alike_some (thin keep w') (thin hold v') left right h s a t (thin_current o es n keep l s a ∙ c)))

  -- ---- legal histories

  module _ (o p : Opening A) (es fs : List (Record A)) (l : Legal o es) (r : Legal p fs) (h : MatterAlike (world_of o es) (world_of p fs)) where
    one_side : IsSide o es h.oldest (with_next (world_of o es) h.keep)
    one_side = side o es h.oldest h.keep l h.keeps h.seen

    other_side : IsSide p fs h.other_oldest (with_next (world_of p fs) h.other_keep)
    other_side = side p fs h.other_oldest h.other_keep r h.other_keeps h.other_seen

    thinned : Alike (thin (with_next (world_of o es) h.keep) (world_of o es)) (thin (with_next (world_of p fs) h.other_keep) (world_of p fs))
    thinned = subst (λ x. Alike x (thin (with_next (world_of p fs) h.other_keep) (world_of p fs))) (same_thin o es h.oldest h.keep l) (subst (Alike (thin h.keep (world_of o es))) (same_thin p fs h.other_oldest h.other_keep r) h.alike)

    matter_replies : (s : ℕ) (a : Action A) → as_told (reply_in (world_of o es) s a) ≡ as_told (reply_in (world_of p fs) s a)
    matter_replies s a = side_replies o p es fs h.oldest h.other_oldest (with_next (world_of o es) h.keep) (with_next (world_of p fs) h.other_keep) one_side other_side thinned s a

    matter_catalog : (world_of o es).catalog ≡ (world_of p fs).catalog
    matter_catalog = h.alike.catalog

    matter_follows : (e : Event A) → Allowed (world_of o es).catalog e.action → MatterAlike (follows (world_of o es) (answered_in (world_of o es) e)) (follows (world_of p fs) (answered_in (world_of p fs) e))
    matter_follows e f = record {
      oldest = h.oldest;
      keep = with_next (world_of o es) h.keep;
      keeps = later_keeps o es h.oldest (with_next (world_of o es) h.keep) one_side e.session e.action f;
      seen = later_seen o es h.oldest (with_next (world_of o es) h.keep) one_side e.session e.action f;
      other_oldest = h.other_oldest;
      other_keep = with_next (world_of p fs) h.other_keep;
      other_keeps = later_keeps p fs h.other_oldest (with_next (world_of p fs) h.other_keep) other_side e.session e.action (subst (λ c. Allowed c e.action) matter_catalog f);
      other_seen = later_seen p fs h.other_oldest (with_next (world_of p fs) h.other_keep) other_side e.session e.action (subst (λ c. Allowed c e.action) matter_catalog f);
      alike = sides_follow o p es fs h.oldest h.other_oldest (with_next (world_of o es) h.keep) (with_next (world_of p fs) h.other_keep) one_side other_side thinned e.session e.action;
    }

  pub matter_answers : (o p : Opening A) (es fs : List (Record A)) → Legal o es → Legal p fs → MatterAlike (world_of o es) (world_of p fs) → (s : ℕ) (a : Action A) → as_told (answer o es s a) ≡ as_told (answer p fs s a)
  unfolding answer
  matter_answers o p es fs l r h s a = matter_replies o p es fs l r h s a

  pub matter_stays : (o p : Opening A) (es fs : List (Record A)) → Legal o es → Legal p fs → MatterAlike (world_of o es) (world_of p fs) → (e : Event A) → Allowed (world_of o es).catalog e.action
      → MatterAlike (follows (world_of o es) (answered_in (world_of o es) e)) (follows (world_of p fs) (answered_in (world_of p fs) e))
  matter_stays o p es fs l r h e f = matter_follows o p es fs l r h e f

  matter_kept : IsKept {A = A} MatterAlike
  matter_kept = record { catalog = λ w v h. h.alike.catalog; replies = matter_replies; stays = matter_stays }

  pub matter_tells : (events : List (Event A)) (o p : Opening A) (es fs : List (Record A)) → Legal o es → Legal p fs → MatterAlike (world_of o es) (world_of p fs) → AllByRecursion (λ e. Allowed (world_of o es).catalog e.action) events
      → (told_after (world_of o es) events ≡ told_after (world_of p fs) events) × MatterAlike (world_after (world_of o es) events) (world_after (world_of p fs) events)
  matter_tells events o p es fs l m h all = tell_kept MatterAlike matter_kept events o p es fs l m h all
