-- An event makes of what is kept what is kept of what it makes of all.
use Rattle.std.proofs.Common.{◌≡◌, refl, sym, ap, ◌∙◌, ℕ, ◌+◌, Bool, true, false, cond, not, ◌&&◌, List, [], Option, Some, None}
use Rattle.std.proofs.lemmas.Bool.{and_parts}
use Rattle.value.proofs.IsolationLemmas.{In}
use Rattle.statement.specs.declared.reply.Reply.{Reply}
use Rattle.statement.specs.declared.reply.Reply.TheVariants.{Imported, Safe, Wait, Exported, Refused, Committed}
use Rattle.history.specs.declared.event.Action.{Action}
use Rattle.history.specs.declared.event.Action.TheVariants.{Run, Poll, Export, Import, Commit}
use Rattle.history.specs.declared.event.Record.{Record}
use Rattle.history.specs.Opening.{Opening}
use Rattle.history.specs.Transactions.{Standing, Open, Doomed, Failed, Aborted, Done, Exported_snapshot, Txn, World, commits, current, exported, is_open, is_read_write, is_spoilt}
use Rattle.history.specs.Events.{causes, doomed_by, exports_after, followed, follows, import, log_after, moved, polled, replaced, turned, turned_from, txns_after, with_snapshot, world_of}
use Rattle.history.specs.Answer.{Legal}
use Rattle.history.specs.Needed.{Keeps, kept_of, thin}
use Rattle.serial.proofs.legal.Legal.{current_in}
use Rattle.serial.proofs.legal.EndsSeen.{EndsSeen, ends_seen}
use Rattle.serial.proofs.order.SerialTheorem.{IsGood, good_world}
use Rattle.serial.proofs.needed.Cause.{kept_replaced}
use Rattle.serial.proofs.needed.Replies.{current_of_kept, dooms_of_kept, owed_stays}
use Rattle.serial.proofs.needed.World.{exported_alike, kept_doomed, polled_alike}

module _ {A : Type 0} where
  import_same : (keep : ℕ → Bool) (w : World A) (t : Txn A) (x : Option Exported_snapshot) → import x (thin keep w) t ≡ import x w t
  import_same keep w t None = refl
  import_same keep w t (Some x) = refl

  pub log_alike : (keep : ℕ → Bool) (w : World A) (t : Txn A) (a : Action A) (r : Reply A) → log_after (thin keep w) a r t ≡ log_after w a r t
  log_alike keep w t Commit Committed = refl
  log_alike keep w t _ _ = refl

  pub exports_alike : (keep : ℕ → Bool) (w : World A) (t : Txn A) (a : Action A) (r : Reply A) → exports_after (thin keep w) a r t ≡ exports_after w a r t
  exports_alike keep w t Export (Exported i) = refl
  exports_alike keep w t _ _ = refl

  module _ (w : World A) (g : IsGood w) (ends : EndsSeen w) (n : ℕ) (keep : ℕ → Bool) (h : Keeps w n keep) (s : ℕ) (t : Txn A) (e : current w s ≡ Some t) where
    i : In t w.txns
    i = (current_in w s t e).0

    self : keep t.number ≡ true
    self = owed_stays w n keep h t i (and_parts _ _ (current_in w s t e).1).1

    polled_same : is_open t.standing ≡ true → polled (thin keep w) t ≡ polled w t
    polled_same o = go t.known refl
      where
        go : (k : Bool) → t.known ≡ k → polled (thin keep w) t ≡ polled w t
        go true k = ap (λ b. cond (not b && is_spoilt (kept_of keep w.txns) t) (with_snapshot w (commits w) (w.place + 1) t) t) k
            ∙ sym (ap (λ b. cond (not b && is_spoilt w.txns t) (with_snapshot w (commits w) (w.place + 1) t) t) k)
        go false k = polled_alike w g ends n keep h t i o k

    moved_alike : is_open t.standing ≡ true → (a : Action A) (r : Reply A) → moved (thin keep w) a r t ≡ moved w a r t
    moved_alike o (Run q) (Refused x) = refl
    moved_alike o Poll (Safe x) = ap (λ (y : Txn A). record y { known = true }) (polled_same o)
    moved_alike o Poll Wait = polled_same o
    moved_alike o (Import j) Imported = ap (λ x. import x (thin keep w) t) (exported_alike w g ends n keep h j) ∙ import_same keep w t (exported w j)
    moved_alike o _ _ = refl

    turned_alike : (st : Standing) → t.standing ≡ st → (a : Action A) (r : Reply A) → turned_from st (thin keep w) a r t ≡ turned_from st w a r t
    turned_alike Open p a r = moved_alike (ap is_open p) a r
    turned_alike (Doomed c) p a r = refl
    turned_alike Failed p a r = refl
    turned_alike Aborted p a r = refl
    turned_alike Done p a r = refl

    causes_alike : (a : Action A) (r : Reply A) → causes (thin keep w) a r t ≡ causes w a r t
    causes_alike Commit Committed = ap (λ cs. cond (is_read_write t.mode) cs []) (dooms_of_kept w n keep h t self)
    causes_alike _ _ = refl

    pub txns_alike : (a : Action A) (r : Reply A) → txns_after (thin keep w) a r t ≡ kept_of keep (txns_after w a r t)
    txns_alike a r =
        ap (λ cs. Rattle.std.proofs.Common.map (doomed_by (w.place + 1) cs) (replaced (turned_from t.standing (thin keep w) a r t) (kept_of keep w.txns))) (causes_alike a r)
        ∙ ap (λ (x : Txn A). Rattle.std.proofs.Common.map (doomed_by (w.place + 1) (causes w a r t)) (replaced x (kept_of keep w.txns))) (turned_alike t.standing refl a r)
        ∙ ap (Rattle.std.proofs.Common.map (doomed_by (w.place + 1) (causes w a r t))) (sym (kept_replaced keep (turned w a r t) w.txns))
        ∙ sym (kept_doomed keep (w.place + 1) (causes w a r t) (replaced (turned w a r t) w.txns))

    followed_alike : (a : Action A) (r : Reply A) → follows (thin keep w) (record { session = s; action = a; reply = r }) ≡ thin keep (follows w (record { session = s; action = a; reply = r }))
    followed_alike a r =
        ap (followed (thin keep w) x) (current_of_kept w n keep h s ∙ e)
        ∙ ap (λ l. record w { log = l; txns = txns_after (thin keep w) a r t; exports = exports_after (thin keep w) a r t; place = w.place + 1 }) (log_alike keep w t a r)
        ∙ ap (λ ts. record w { log = log_after w a r t; txns = ts; exports = exports_after (thin keep w) a r t; place = w.place + 1 }) (txns_alike a r)
        ∙ ap (λ ys. record w { log = log_after w a r t; txns = kept_of keep (txns_after w a r t); exports = ys; place = w.place + 1 }) (exports_alike keep w t a r)
        ∙ sym (ap (λ o. thin keep (followed w x o)) e)
      where
        x : Record A
        x = record { session = s; action = a; reply = r }

  pub follows_kept : (o : Opening A) (es : List (Record A)) → Legal o es → (n : ℕ) (keep : ℕ → Bool) → Keeps (world_of o es) n keep → (s : ℕ) (t : Txn A) → current (world_of o es) s ≡ Some t → (a : Action A) (r : Reply A)
      → follows (thin keep (world_of o es)) (record { session = s; action = a; reply = r }) ≡ thin keep (follows (world_of o es) (record { session = s; action = a; reply = r }))
  follows_kept o es l n keep h s t e a r = followed_alike (world_of o es) (good_world o es l) (ends_seen o es l) n keep h s t e a r
