-- What is told of a legal history is what the history has.
use Rattle.std.proofs.Common.{◌≡◌, refl, sym, subst, ◌∙◌, ℕ, true, false, true≢false, ◌⊎◌, inl, inr, List, [], ◌∷◌, ◌++◌, Option, Some, None, append_assoc, arith}
use Rattle.value.proofs.IsolationLemmas.{In}
use Rattle.statement.specs.declared.reply.Reply.{Reply}
use Rattle.statement.specs.declared.reply.Reply.TheVariants.{Begun}
use Rattle.history.specs.declared.base.Base.{Base}
use Rattle.history.specs.declared.event.Action.{Action}
use Rattle.history.specs.declared.event.Action.TheVariants.{Begin}
use Rattle.history.specs.declared.event.Record.{Record}
use Rattle.history.specs.Opening.{Opening}
use Rattle.history.specs.Transactions.{Txn, World, current, is_done, is_read_write}
use Rattle.history.specs.Events.{followed, follows, run, start, without_transaction, world_of}
use Rattle.history.specs.Answer.{IsAnswered, Legal}
use Rattle.serial.proofs.legal.AlwaysSound.{own_sound}
use Rattle.serial.proofs.legal.Histories.{run-catalog}
use Rattle.serial.proofs.legal.Later.{legal_begins, legal_rest, run-append}
use Rattle.serial.proofs.order.SerialTheorem.{IsGood, good_world}
use Rattle.retrace.specs.Past as tale
use Rattle.retrace.specs.Past.{Bygone, after_all, retraced, unbegun}
use Rattle.retrace.specs.Told.{TellAll}
use Rattle.retrace.proofs.told.Events.{Follows, Legally, follows_told}

module _ {A : Type 0} where
  -- ---- the base stays

  without_based : (w : World A) (s : ℕ) (a : Action A) (r : Reply A) → (without_transaction w s a r).base ≡ w.base
  without_based w s (Begin m) Begun = refl
  without_based w s _ _ = refl

  follows-base : (w : World A) (e : Record A) → (follows w e).base ≡ w.base
  follows-base w e = go (current w e.session)
    where
      go : (o : Option (Txn A)) → (followed w e o).base ≡ w.base
      go None = without_based w e.session e.action e.reply
      go (Some t) = refl

  pub run-base : (w : World A) (es : List (Record A)) → (run w es).base ≡ w.base
  run-base w [] = refl
  run-base w (e ∷ es) = run-base (follows w e) es ∙ follows-base w e

  -- ---- what is known of the world after a legal history

  pub legally : (o : Opening A) (es : List (Record A)) → Legal o es → Legally (world_of o es)
  legally o es l = record { none = λ t i d. no_number t d (g.numbered.kind t i); shown = λ t i. (g.numbered.shown t i).0; sound = λ t i. own_sound o es l t i }
    where
      g : IsGood (world_of o es)
      g = good_world o es l

      no_number : (t : Txn A) → is_done t.standing ≡ false → In t (world_of o es).log ⊎ (t.commit ≡ 0) × (is_done t.standing ≡ true → is_read_write t.mode ≡ false) → t.commit ≡ 0
      no_number t d (inl j) = absurd (true≢false (sym (g.numbered.logged t j).1 ∙ d))
      no_number t d (inr k) = k.0

  -- ---- all events

  one_more : (o : Opening A) (w : World A) (e : Record A) (p : Bygone A) → w.catalog ≡ o.catalog → w.base ≡ o.base → Legally w → Follows w p → IsAnswered w (e ∷ []) → Follows (follows w e) (tale.followed o.catalog o.base.commits e p)
  one_more o w e p c b l f a =
      subst (λ d. Follows (follows w e) (tale.followed d o.base.commits e p)) c
      (subst (λ (d : Base). Follows (follows w e) (tale.followed w.catalog d.commits e p)) b
      (subst (λ r. Follows (follows w (record { session = e.session; action = e.action; reply = r })) (tale.followed w.catalog w.base.commits (record { session = e.session; action = e.action; reply = r }) p)) (sym a.1)
      (follows_told w p f l e.session e.action a.0)))

  pub all_told : (o : Opening A) (done more : List (Record A)) (p : Bygone A) → Legal o (done ++ more) → Follows (world_of o done) p → Follows (run (world_of o done) more) (after_all o.catalog o.base.commits more p)
  all_told o done [] p l f = f
  all_told o done (e ∷ es) p l f = subst (λ v. Follows (run v es) (after_all o.catalog o.base.commits es (tale.followed o.catalog o.base.commits e p))) (run-append (start o) done (e ∷ []))
      (all_told o (done ++ e ∷ []) es (tale.followed o.catalog o.base.commits e p) (subst (Legal o) (sym (append_assoc done (e ∷ []) es)) l)
      (subst (λ v. Follows v (tale.followed o.catalog o.base.commits e p)) (sym (run-append (start o) done (e ∷ [])))
      (one_more o (world_of o done) e p (run-catalog (start o) done) (run-base (start o) done) (legally o done (legal_begins o done (e ∷ es) l)) f (a.0, a.1, tt))))
    where
      a : IsAnswered (world_of o done) (e ∷ es)
      a = legal_rest o done (e ∷ es) l

  pub at_start : (o : Opening A) → Follows (start o) (unbegun o)
  at_start o = record { place = omega arith; tables = refl; commits = refl; lent = tt; identifiers = tt; numbers = tt; runs = tt }

  pub told_here : (o : Opening A) (es : List (Record A)) → Legal o es → TellAll (world_of o es).base (retraced o es) (world_of o es).txns
  told_here o es l = (all_told o [] es (unbegun o) l (at_start o)).runs

  pub told : (o : Opening A) (es : List (Record A)) → Legal o es → TellAll o.base (retraced o es) (world_of o es).txns
  told o es l = subst (λ b. TellAll b (retraced o es) (world_of o es).txns) (run-base (start o) es) (told_here o es l)
