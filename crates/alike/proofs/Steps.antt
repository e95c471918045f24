-- Alike worlds after legal histories answer alike, and stay alike, whatever is asked of them.
use Rattle.std.proofs.Common.{◌≡◌, refl, sym, ap, subst, ◌∙◌, ℕ, ◌+◌, ◌≤◌, List, [], ◌∷◌, ◌++◌, length, Option, Some, None, arith}
use Rattle.std.specs.List.{AllByRecursion}
use Rattle.value.proofs.IsolationLemmas.{In}
use Rattle.history.specs.declared.event.Action.{Action}
use Rattle.history.specs.declared.event.Action.TheVariants.{Begin}
use Rattle.history.specs.declared.event.Event.{Event}
use Rattle.history.specs.declared.event.Record.{Record}
use Rattle.history.specs.Opening.{Opening}
use Rattle.history.specs.Transactions.{Txn, World, Exported_snapshot, current}
use Rattle.history.specs.Events.{followed, follows, start, world_of}
use Rattle.history.specs.Answer.{Allowed, Legal, answer, reply_in, reply_of}
use Rattle.serial.proofs.legal.Histories.{Legal-push, run-catalog}
use Rattle.serial.proofs.legal.Later.{run-append}
use Rattle.serial.proofs.needed.From.{exporting}
use Rattle.serial.proofs.order.SerialTheorem.{good_world}
use Rattle.alike.specs.Told.{answered_in, as_told, told_after, world_after}
use Rattle.alike.specs.Worlds.{Alike, AreTwins}
use Rattle.alike.proofs.Sides.{some_none}
use Rattle.alike.proofs.Orderly.{IsOrderly, current_has}
use Rattle.alike.proofs.Replies.{current_moves, reply_alike}
use Rattle.alike.proofs.Follows.{twin_happened}
use Rattle.alike.proofs.Begun.{IsFree, alike_begun, alike_later}
use Rattle.alike.proofs.Histories.{named_world, orderly}

module _ {A : Type 0} where
  -- ---- one event

  abbrev pub HasBegun : World A → Type 0
  HasBegun w = (x : Exported_snapshot) → In x w.exports → x.exporter ≤ w.base.transactions + length w.txns

  -- where the session has a transaction
  pub alike_some : (w v : World A) → IsOrderly w → IsOrderly v → Alike w v → (s : ℕ) (a : Action A) (t : Txn A) → current w s ≡ Some t
      → Alike (follows w (record { session = s; action = a; reply = reply_in w s a })) (follows v (record { session = s; action = a; reply = reply_in v s a }))
  alike_some w v g f h s a t e =
      subst (λ o. Alike (followed w (record { session = s; action = a; reply = reply_of w o a }) o) (followed v (record { session = s; action = a; reply = reply_in v s a }) (current v s))) (sym e)
      (subst (λ o. Alike (followed w (record { session = s; action = a; reply = reply_of w (Some t) a }) (Some t)) (followed v (record { session = s; action = a; reply = reply_of v o a }) o)) (sym r.1)
      (twin_happened w v g f h t r.0 r.2 r.3 r.4.0 (current_has w g s t e).2 (current_has v f s r.0 r.1).2 a t.standing r.0.standing refl refl r.4.1))
    where
      r : (u : Txn A) × (current v s ≡ Some u) × In t w.txns × In u v.txns × AreTwins w v t u
      r = current_moves w v g f h.there s t e

  pub alike_follows : (w v : World A) → IsOrderly w → IsOrderly v → HasBegun w → HasBegun v → Alike w v → (s : ℕ) (a : Action A)
      → Alike (follows w (record { session = s; action = a; reply = reply_in w s a })) (follows v (record { session = s; action = a; reply = reply_in v s a }))
  alike_follows w v g f b d h s a = go (current w s) (current v s) refl refl
    where
      free : (w : World A) → HasBegun w → current w s ≡ None → IsFree w s (w.base.transactions + length w.txns + 1)
      free w b e = record { none = e; fresh = λ x i n. let m : x.exporter ≤ w.base.transactions + length w.txns = b x i in omega (arith, n) }

      idle : (a : Action A) → current w s ≡ None → current v s ≡ None → Alike (followed w (record { session = s; action = a; reply = reply_of w None a }) None) (followed v (record { session = s; action = a; reply = reply_of v None a }) None)
      idle (Begin m) e e' = alike_begun w v g f h s m (w.base.transactions + length w.txns + 1) (v.base.transactions + length v.txns + 1) (free w b e) (free v d e')
      idle _ e e' = alike_later w v h

      go : (o o' : Option (Txn A)) → current w s ≡ o → current v s ≡ o' → Alike (follows w (record { session = s; action = a; reply = reply_in w s a })) (follows v (record { session = s; action = a; reply = reply_in v s a }))
      go None None e e' = subst (λ o. Alike (followed w (record { session = s; action = a; reply = reply_of w o a }) o) (followed v (record { session = s; action = a; reply = reply_in v s a }) (current v s))) (sym e)
          (subst (λ o. Alike (followed w (record { session = s; action = a; reply = reply_of w None a }) None) (followed v (record { session = s; action = a; reply = reply_of v o a }) o)) (sym e') (idle a e e'))
      go None (Some u) e e' = let r = current_moves v w f g h.back s u e' in absurd (some_none r.0 (sym r.1 ∙ e))
      go (Some t) o' e e' = alike_some w v g f h s a t e

  -- ---- legal histories

  pub orderly_world : (o : Opening A) (es : List (Record A)) → Legal o es → IsOrderly (world_of o es)
  orderly_world o es l = orderly (world_of o es) (good_world o es l) (named_world o es l)

  pub replies_alike : (o p : Opening A) (es fs : List (Record A)) → Legal o es → Legal p fs → Alike (world_of o es) (world_of p fs) → (s : ℕ) (a : Action A) → as_told (reply_in (world_of o es) s a) ≡ as_told (reply_in (world_of p fs) s a)
  replies_alike o p es fs l m h s a = reply_alike (world_of o es) (world_of p fs) (orderly_world o es l) (orderly_world p fs m) h s a

  pub answers_alike : (o p : Opening A) (es fs : List (Record A)) → Legal o es → Legal p fs → Alike (world_of o es) (world_of p fs) → (s : ℕ) (a : Action A) → as_told (answer o es s a) ≡ as_told (answer p fs s a)
  unfolding answer
  answers_alike o p es fs l m h s a = replies_alike o p es fs l m h s a

  pub stay_alike : (o p : Opening A) (es fs : List (Record A)) → Legal o es → Legal p fs → Alike (world_of o es) (world_of p fs) → (e : Event A)
      → Alike (follows (world_of o es) (answered_in (world_of o es) e)) (follows (world_of p fs) (answered_in (world_of p fs) e))
  stay_alike o p es fs l m h e = alike_follows (world_of o es) (world_of p fs) (orderly_world o es l) (orderly_world p fs m) (exporting o es l).begun_before (exporting p fs m).begun_before h e.session e.action

  pub one_more : (o : Opening A) (es : List (Record A)) (e : Event A) → follows (world_of o es) (answered_in (world_of o es) e) ≡ world_of o (es ++ answered_in (world_of o es) e ∷ [])
  one_more o es e = sym (run-append (start o) es (answered_in (world_of o es) e ∷ []))

  pub legal_more : (o : Opening A) (es : List (Record A)) (e : Event A) → Legal o es → Allowed (world_of o es).catalog e.action → Legal o (es ++ answered_in (world_of o es) e ∷ [])
  unfolding answer
  legal_more o es e l f = Legal-push o es e.session e.action (reply_in (world_of o es) e.session e.action) l (subst (λ c. Allowed c e.action) (run-catalog (start o) es) f) refl

  -- A relation of worlds whose replies are the same, but for numbers, and which each allowed action keeps.
  pub record IsKept (R : World A → World A → Type 0) : Type 0 where
    pub catalog : (w v : World A) → R w v → w.catalog ≡ v.catalog
    pub replies : (o p : Opening A) (es fs : List (Record A)) → Legal o es → Legal p fs → R (world_of o es) (world_of p fs) → (s : ℕ) (a : Action A) → as_told (reply_in (world_of o es) s a) ≡ as_told (reply_in (world_of p fs) s a)
    pub stays : (o p : Opening A) (es fs : List (Record A)) → Legal o es → Legal p fs → R (world_of o es) (world_of p fs) → (e : Event A) → Allowed (world_of o es).catalog e.action
        → R (follows (world_of o es) (answered_in (world_of o es) e)) (follows (world_of p fs) (answered_in (world_of p fs) e))

  module _ (R : World A → World A → Type 0) (k : IsKept R) where
    next_kept : (o p : Opening A) (es fs : List (Record A)) → Legal o es → Legal p fs → R (world_of o es) (world_of p fs) → (e : Event A) → Allowed (world_of o es).catalog e.action
        → R (world_of o (es ++ answered_in (world_of o es) e ∷ [])) (world_of p (fs ++ answered_in (world_of p fs) e ∷ []))
    next_kept o p es fs l m h e f = subst (λ r. R r (world_of p (fs ++ answered_in (world_of p fs) e ∷ []))) (one_more o es e)
        (subst (R (follows (world_of o es) (answered_in (world_of o es) e))) (one_more p fs e) (k.stays o p es fs l m h e f))

    abbrev Both : World A → World A → List (Event A) → Type 0
    Both w v events = (told_after w events ≡ told_after v events) × R (world_after w events) (world_after v events)

    pub tell_kept : (events : List (Event A)) (o p : Opening A) (es fs : List (Record A)) → Legal o es → Legal p fs → R (world_of o es) (world_of p fs) → AllByRecursion (λ e. Allowed (world_of o es).catalog e.action) events
        → Both (world_of o es) (world_of p fs) events
    tell_kept [] o p es fs l m h all = (refl, h)
    tell_kept (e ∷ events) o p es fs l m h all = joined (tell_kept events o p (es ++ answered_in (world_of o es) e ∷ []) (fs ++ answered_in (world_of p fs) e ∷ [])
        (legal_more o es e l all.0) (legal_more p fs e m (subst (λ c. Allowed c e.action) (k.catalog (world_of o es) (world_of p fs) h) all.0)) (next_kept o p es fs l m h e all.0)
        (subst (λ c. AllByRecursion (λ e. Allowed c e.action) events) (run-catalog (start o) es ∙ sym (run-catalog (start o) (es ++ answered_in (world_of o es) e ∷ []))) all.1))
      where
        w : World A
        w = world_of o es

        v : World A
        v = world_of p fs

        ew : Record A
        ew = answered_in w e

        ev : Record A
        ev = answered_in v e

        joined : Both (world_of o (es ++ ew ∷ [])) (world_of p (fs ++ ev ∷ [])) events → Both w v (e ∷ events)
        joined b = (ap (λ r. r ∷ told_after (follows w ew) events) (k.replies o p es fs l m h e.session e.action) ∙ ap (λ rs. as_told (reply_in v e.session e.action) ∷ rs) rest.0, rest.1)
          where
            rest : Both (follows w ew) (follows v ev) events
            rest = subst (λ r. Both r (follows v ev) events) (sym (one_more o es e)) (subst (λ r. Both (world_of o (es ++ ew ∷ [])) r events) (sym (one_more p fs e)) b)

  pub alike_kept : IsKept Alike
  alike_kept = record { catalog = λ w v h. h.catalog; replies = replies_alike; stays = λ o p es fs l m h e f. stay_alike o p es fs l m h e }

  pub tell_alike : (events : List (Event A)) (o p : Opening A) (es fs : List (Record A)) → Legal o es → Legal p fs → Alike (world_of o es) (world_of p fs) → AllByRecursion (λ e. Allowed (world_of o es).catalog e.action) events
      → (told_after (world_of o es) events ≡ told_after (world_of p fs) events) × Alike (world_after (world_of o es) events) (world_after (world_of p fs) events)
  tell_alike events o p es fs l m h all = tell_kept Alike alike_kept events o p es fs l m h all
