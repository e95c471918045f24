-- No event commits a transaction, except its session's COMMIT.
use Rattle.std.proofs.Common.{◌≡◌, ◌==◌, refl, sym, ap, ◌∙◌, ℕ, ◌+◌, Bool, true, false, true≢false, cond, not, ◌&&◌, ◌⊎◌, inl, inr, List, [], ◌∷◌, ◌++◌, Option, Some, None, arith}
use Rattle.std.specs.List.{find}
use Rattle.std.specs.Option.{option_map}
use Rattle.std.proofs.lemmas.Bool.{eqb-true, and_parts, false_from_ne_true}
use Rattle.value.proofs.IsolationLemmas.{In}
use Rattle.value.proofs.SerialLemmas.{In-append}
use Rattle.statement.specs.declared.reply.Reply.{Reply}
use Rattle.statement.specs.declared.reply.Reply.TheVariants.{Begun, Imported, Safe, Wait, Exported, Refused}
use Rattle.history.specs.declared.event.Action.{Action}
use Rattle.history.specs.declared.event.Action.TheVariants.{Begin, Run, Broken, Poll, Export, Import, Commit, Rollback, Prune}
use Rattle.history.specs.declared.event.Record.{Record}
use Rattle.history.specs.Transactions.{Standing, Open, Doomed, Failed, Aborted, Done, Txn, World, Exported_snapshot, commits, current, exported, is_done, is_owed, is_spoilt}
use Rattle.history.specs.Events.{begun, causes, ended, followed, follows, goes_on, import, moved, replaced, settled, told, turned, turned_from, txns_after, with_snapshot, without_transaction}
use Rattle.transactions.specs.Keys.{committed_at}
use Rattle.session.specs.Core.{is_commit}
use Rattle.serial.proofs.legal.Legal.{current_in}
use Rattle.serial.proofs.structures.Dooms.{Fate, Spared, Over, In-doomed}
use Rattle.serial.proofs.legal.Numbers.{In-replaced}
use Rattle.serial.proofs.order.SerialTheorem.{IsGood}

none_by : {T : Type 0} (p : T → Bool) (xs : List T) → ((x : T) → In x xs → p x ≡ true → ⊥) → find p xs ≡ None
none_by p [] f = refl
none_by p (x ∷ xs) f = ap (λ b. cond b (Some x) (find p xs)) (false_from_ne_true (p x) (f x (inl refl))) ∙ none_by p xs (λ y i. f y (inr i))

module _ {A : Type 0} where
  moved_not : (w : World A) (a : Action A) (r : Reply A) (t : Txn A) → is_commit a ≡ false → is_done t.standing ≡ false → is_done (moved w a r t).standing ≡ false
  moved_not w (Begin m) r t e d = d
  moved_not w (Run q) (Refused r) t e d = go (goes_on r.code)
    where
      go : (b : Bool) → is_done (cond b t (ended w Failed t)).standing ≡ false
      go true = d
      go false = refl
  moved_not w (Run q) _ t e d = d
  moved_not w (Broken r) _ t e d = refl
  moved_not w Poll (Safe s) t e d = go (not t.known && is_spoilt w.txns t)
    where
      go : (b : Bool) → is_done (cond b (with_snapshot w (commits w) (w.place + 1) t) t).standing ≡ false
      go true = d
      go false = d
  moved_not w Poll Wait t e d = go (not t.known && is_spoilt w.txns t)
    where
      go : (b : Bool) → is_done (cond b (with_snapshot w (commits w) (w.place + 1) t) t).standing ≡ false
      go true = d
      go false = d
  moved_not w Poll _ t e d = d
  moved_not w Export (Exported i) t e d = d
  moved_not w Export _ t e d = d
  moved_not w (Import i) Imported t e d = go (exported w i)
    where
      go : (o : Option Exported_snapshot) → is_done (import o w t).standing ≡ false
      go None = d
      go (Some x) = d
  moved_not w (Import i) _ t e d = d
  moved_not w Commit r t e d = absurd (true≢false e)
  moved_not w Rollback _ t e d = refl
  moved_not w Prune _ t e d = d

  told_not : (a : Action A) (st : Standing) → is_done st ≡ false → is_done (told a st) ≡ false
  told_not (Begin m) st d = d
  told_not Prune st d = d
  told_not _ st d = refl

  settled_not : (a : Action A) (st : Standing) → is_done st ≡ false → is_done (settled a st) ≡ false
  settled_not Commit st d = refl
  settled_not Rollback st d = refl
  settled_not _ st d = d

  turned_not : (w : World A) (a : Action A) (r : Reply A) (t : Txn A) (st : Standing) → t.standing ≡ st → is_owed st ≡ true → is_commit a ≡ false → is_done (turned_from st w a r t).standing ≡ false
  turned_not w a r t Open p o e = moved_not w a r t e (ap is_done p)
  turned_not w a r t (Doomed c) p o e = told_not a t.standing (ap is_done p)
  turned_not w a r t Failed p o e = settled_not a t.standing (ap is_done p)
  turned_not w a r t Aborted p o e = absurd (true≢false (sym o))
  turned_not w a r t Done p o e = absurd (true≢false (sym o))

  module _ (w : World A) (good : IsGood w) where
    -- it committed as the next event
    abbrev is_next : Txn A → Bool
    is_next t = is_done t.standing && t.end == w.place + 1

    undone : (x : Txn A) → is_done x.standing ≡ false → is_next x ≡ true → ⊥
    undone x d q = true≢false (sym (and_parts (is_done x.standing) (x.end == w.place + 1) q).0 ∙ d)

    old : (x : Txn A) → In x w.txns → is_next x ≡ true → ⊥
    old x i q = let e : x.end ≡ w.place + 1 = eqb-true x.end (w.place + 1) (and_parts (is_done x.standing) (x.end == w.place + 1) q).1 in let h = good.time.ended_by x i in omega arith

    without : (s : ℕ) (a : Action A) (r : Reply A) → find is_next (without_transaction w s a r).txns ≡ None
    without s (Begin m) Begun = none_by is_next (w.txns ++ begun w s m ∷ []) (λ x i q. side x (In-append (λ (_ : Txn A). (0, 0, 0)) x w.txns (begun w s m ∷ []) i) q)
      where
        side : (x : Txn A) → In x w.txns ⊎ ((x ≡ begun w s m) ⊎ ⊥) → is_next x ≡ true → ⊥
        side x (inl i) q = old x i q
        side x (inr (inl p)) q = undone x (ap (λ (y : Txn A). is_done y.standing) p) q
        side x (inr (inr z)) q = absurd z
    without s _ _ = none_by is_next w.txns old

    with_own : (s : ℕ) (t : Txn A) → current w s ≡ Some t → (a : Action A) (r : Reply A) → is_commit a ≡ false → find is_next (txns_after w a r t) ≡ None
    with_own s t c a r e = none_by is_next (txns_after w a r t) (λ x i q. let y = In-doomed (w.place + 1) (causes w a r t) x (replaced (turned w a r t) w.txns) i in side y.0 x (In-replaced y.0 (turned w a r t) w.txns y.1) y.2 q)
      where
        owed : is_owed t.standing ≡ true
        owed = (and_parts (t.session == s) (is_owed t.standing) (current_in w s t c).1).1

        side : (y x : Txn A) → (y ≡ turned w a r t) ⊎ In y w.txns × ((y.number == (turned w a r t).number) ≡ false) → Fate (w.place + 1) y x → is_next x ≡ true → ⊥
        side y x (inl p) Spared q = undone y (ap (λ (z : Txn A). is_done z.standing) p ∙ turned_not w a r t t.standing refl owed e) q
        side y x (inr i) Spared q = old y i.0 q
        side y x j (Over d o) q = true≢false (sym q)

    from_own : (e : Record A) → is_commit e.action ≡ false → (o : Option (Txn A)) → current w e.session ≡ o → find is_next (followed w e o).txns ≡ None
    from_own e n None c = without e.session e.action e.reply
    from_own e n (Some t) c = with_own e.session t c e.action e.reply n

    pub none_committed : (e : Record A) → is_commit e.action ≡ false → committed_at (w.place + 1) (follows w e).txns ≡ None
    none_committed e n = ap (option_map _) (from_own e n (current w e.session) refl)
